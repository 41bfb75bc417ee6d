use Rattle.std.proofs.Common.{[], ◌∷◌, subst}
use Rattle.ht_text.specs.Writes.{AddsFront}
use Rattle.ht_text.proofs.Writing.{adds_within, at_refusal}
use Rattle.ht_answer.specs.KindTexts.{types_text}
use Rattle.ht_answer.proofs.types.print_types.Goals as goal

pub returns-in_err-write_types-clause-err : goal.returns-in_err-write_types-clause-err
returns-in_err-write_types-clause-err c =
    at_refusal c.from_residual.result
    (adds_within c.args.out.now.items c.write_types.new.out.items (types_text c.args.words.now c.args.kinds.now) (10 ∷ [])
    (subst (λ k. AddsFront c.args.out.now.items c.write_types.new.out.items (types_text c.args.words.now k)) c.as_slice-2.ensures
    (subst (λ w. AddsFront c.args.out.now.items c.write_types.new.out.items (types_text w c.as_slice-2.result.now)) c.as_slice.ensures c.in_err-write_types.ensures.err)))
