use Rattle.std.proofs.Common.{[], ◌∷◌, subst}
use Rattle.ht_text.specs.Writes.{AddsFront}
use Rattle.ht_text.proofs.Writing.{adds_within, at_refusal}
use Rattle.ht_answer.specs.OrderTexts.{profile_text}
use Rattle.ht_answer.proofs.profile.print_profile.Goals as goal

pub returns-in_err-write_profile-clause-err : goal.returns-in_err-write_profile-clause-err
returns-in_err-write_profile-clause-err c =
    at_refusal c.from_residual.result
    (adds_within c.args.out.now.items c.write_profile.new.out.items (profile_text c.args.profile.now) (10 ∷ [])
    (subst (λ p. AddsFront c.args.out.now.items c.write_profile.new.out.items (profile_text p)) c.as_slice.ensures c.in_err-write_profile.ensures.err))
