use Rattle.std.proofs.Common.{take}
use Rattle.ht_text.specs.Fronts.{IsWordText}
use Rattle.ht_text.specs.Places.{CompletesWord}
use Rattle.ht_text.proofs.FrontLaws.{Continues}
use Rattle.ht_text.proofs.front.word_front.Given as goal

abbrev pub invariant-loop-i : goal.invariant-loop-i
invariant-loop-i l = Continues IsWordText (CompletesWord l.place) (take l.i l.bytes)
