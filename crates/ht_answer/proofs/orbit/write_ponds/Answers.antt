use Rattle.std.proofs.Common.{sym, ap, subst}
use Rattle.std.specs.List.{flat_map}
use Rattle.std.proofs.lemmas.List.Elements.{All-rest}
use Rattle.std.proofs.lemmas.Result.{on_err_weaker}
use Rattle.ht_text.specs.Writes.{AddsFront}
use Rattle.ht_text.proofs.Writing.{adds_within, adds_behind, at_refusal}
use Rattle.ht_answer.specs.OrbitTexts.{HasPondText, pond_text, later_pond_text, ponds_text}
use Rattle.ht_answer.proofs.orbit.write_ponds.Goals as goal

pub returns-in_err-write_pond-clause-err : goal.returns-in_err-write_pond-clause-err
returns-in_err-write_pond-clause-err c =
    at_refusal c.from_residual-in_err-write_pond.result
    (subst (λ t. AddsFront c.args.out.now.items c.write_pond.new.out.items t) (ap ponds_text (sym c.in-Some.ensures.cases.0))
    (adds_within c.args.out.now.items c.write_pond.new.out.items (pond_text c.in-Some.first.now) (flat_map later_pond_text c.in-Some.others.now) c.in_err-write_pond.ensures.err))

pub write_others-requires : goal.write_others-requires
write_others-requires c = All-rest HasPondText c.in-Some.first.now c.in-Some.others.now c.args.ponds.now c.in-Some.ensures.cases.0 c.requires

pub returns-clause-err : goal.returns-clause-err
returns-clause-err c =
    on_err_weaker c.write_others.result
    (λ h. subst (λ t. AddsFront c.args.out.now.items c.write_others.new.out.items t) (ap ponds_text (sym c.in-Some.ensures.cases.0))
    (adds_behind c.args.out.now.items c.write_pond.new.out.items c.write_others.new.out.items (pond_text c.in-Some.first.now) (flat_map later_pond_text c.in-Some.others.now) c.in_ok-write_pond.ensures.ok h))
    c.write_others.ensures.err
