use Rattle.std.proofs.Common.{◌<◌, List, length, sym, subst}
use Rattle.std.proofs.lemmas.Option.{slice_get_within}
use Rattle.ht_word.specs.declared.word.Word.{Word}
use Rattle.ht_types.proofs.walk.placed.Goals as goal

pub at-requires : goal.at-requires
at-requires c =
    let here = c.in-Some.ensures in
    subst (λ (X : List Word). c.in-Some.to < length X) (sym c.words.ensures.words) (slice_get_within c.quasi.result.now.basis.words c.in-Some.to here.word here.here)
