use Rattle.ht_types.proofs.TurnLaws.{HasSemiNormal}
use Rattle.ht_pair.proofs.ConjugacyLaws.{conjugate_sym}
use Rattle.ht_counterparts.proofs.ConjugateElements.{no_infinite_across}
use Rattle.ht_counterparts.proofs.laws.conjugate_elements_have_infinite_parts_alike.Goals as goal

pub returns : goal.returns
returns c = λ shape f g X Y pair_f pair_g semi_X semi_Y a.
    let first : HasSemiNormal shape f X = record { pair = pair_f; semi = semi_X } in
    let second : HasSemiNormal shape g Y = record { pair = pair_g; semi = semi_Y } in
    (no_infinite_across first second a.conjugates, no_infinite_across second first (conjugate_sym shape f g pair_f pair_g a).conjugates)
