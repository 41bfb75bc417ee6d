use Rattle.std.proofs.Common.{subst}
use Rattle.ht_types.specs.declared.sharing.Pond.{Pond}
use Rattle.ht_text.specs.Writes.{AddsFront}
use Rattle.ht_text.proofs.Writing.{at_refusal}
use Rattle.ht_answer.specs.OrbitTexts.{later_pond_text}
use Rattle.ht_answer.proofs.Pieces.{adds_piece}
use Rattle.ht_answer.proofs.orbit.write_others.Goals as goal

pub returns-in_err-write_later-clause-err : goal.returns-in_err-write_later-clause-err
returns-in_err-write_later-clause-err c =
    at_refusal c.from_residual.result
    (adds_piece later_pond_text c.args.out.now.items c.loop-pond.out.items c.write_later.new.out.items c.args.ponds.now c.pond-item.result c.loop-pond.pond-index c.loop-pond-test.true c.loop-pond.invariant
    (subst (λ (t : Pond). AddsFront c.loop-pond.out.items c.write_later.new.out.items (later_pond_text t)) c.pond-item.is c.in_err-write_later.ensures.err))
