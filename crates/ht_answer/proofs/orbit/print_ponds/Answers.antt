use Rattle.std.proofs.Common.{[], ◌∷◌, subst}
use Rattle.ht_text.specs.Writes.{AddsFront}
use Rattle.ht_text.proofs.Writing.{adds_within, at_refusal}
use Rattle.ht_answer.specs.OrbitTexts.{ponds_text}
use Rattle.ht_answer.proofs.orbit.print_ponds.Goals as goal

pub returns-in_err-write_ponds-clause-err : goal.returns-in_err-write_ponds-clause-err
returns-in_err-write_ponds-clause-err c =
    at_refusal c.from_residual.result
    (adds_within c.args.out.now.items c.write_ponds.new.out.items (ponds_text c.args.ponds.now) (10 ∷ [])
    (subst (λ p. AddsFront c.args.out.now.items c.write_ponds.new.out.items (ponds_text p)) c.as_slice.ensures c.in_err-write_ponds.ensures.err))
