use Rattle.std.proofs.Common.{sym, ap, subst}
use Rattle.std.specs.List.{flat_map}
use Rattle.std.proofs.lemmas.Result.{on_err_weaker}
use Rattle.ht_text.specs.Writes.{AddsFront}
use Rattle.ht_text.proofs.Writing.{adds_within, adds_behind, at_refusal}
use Rattle.ht_answer.specs.OrderTexts.{cycles_text, spaced_cycles_text, profile_text}
use Rattle.ht_answer.proofs.profile.write_profile.Goals as goal

pub returns-in_err-write_cycles-clause-err : goal.returns-in_err-write_cycles-clause-err
returns-in_err-write_cycles-clause-err c =
    at_refusal c.from_residual-in_err-write_cycles.result
    (subst (λ t. AddsFront c.args.out.now.items c.write_cycles.new.out.items t) (ap profile_text (sym c.in-Some.ensures.cases.0))
    (adds_within c.args.out.now.items c.write_cycles.new.out.items (cycles_text c.in-Some.first.now) (flat_map spaced_cycles_text c.in-Some.others.now) c.in_err-write_cycles.ensures.err))

pub returns-clause-err : goal.returns-clause-err
returns-clause-err c =
    on_err_weaker c.write_others.result
    (λ h. subst (λ t. AddsFront c.args.out.now.items c.write_others.new.out.items t) (ap profile_text (sym c.in-Some.ensures.cases.0))
    (adds_behind c.args.out.now.items c.write_cycles.new.out.items c.write_others.new.out.items (cycles_text c.in-Some.first.now) (flat_map spaced_cycles_text c.in-Some.others.now) c.in_ok-write_cycles.ensures.ok h))
    c.write_others.ensures.err
