use Rattle.std.proofs.Common.{take}
use Rattle.ht_text.specs.Fronts.{IsWordText}
use Rattle.ht_text.specs.Places.{CompletesWord}
use Rattle.ht_text.proofs.FrontLaws.{Continues}
use Rattle.ht_text.proofs.front.is_word.Given as goal

abbrev pub invariant-loop-b : goal.invariant-loop-b
invariant-loop-b l = Continues IsWordText (CompletesWord l.place) (take l.b-index l.bytes)
