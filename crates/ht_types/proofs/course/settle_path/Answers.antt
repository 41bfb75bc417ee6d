use Rattle.std.proofs.Common.{◌≡◌, ◌<◌, ℕ, List, length, get_or, take, refl, sym, ap, ◌∙◌, subst, arith}
use Rattle.ht_types.specs.CourseStates.{IsRoundPath, IsPathSettled}
use Rattle.ht_types.proofs.RoundLaws.{walked_round}
use Rattle.ht_types.proofs.course.settle_path.Goals as goal

pub unwind-requires : goal.unwind-requires
unwind-requires c = record { known = c.requires.known; ends = c.requires.out (omega arith); told = λ x h. h }

pub settle_round-requires-clause-round : goal.settle_round-requires-clause-round
settle_round-requires-clause-round c =
    let path = c.args.path.now.items in
    let within = c.requires.within in
    let l : c.args.first < length path = grind (arith, c.if-first-len.false, within) in
    subst (λ (p : List ℕ). IsRoundPath c.args.steps.now p c.args.first (get_or p c.args.first 0)) (sym c.deref.ensures.value)
    (walked_round c.args.steps.now path c.args.first (get_or path c.args.first 0) c.args.states.now c.requires l refl)

pub unwind-requires-2 : goal.unwind-requires-2
unwind-requires-2 c =
    let round = c.in_ok-settle_round.ensures in
    let is : take c.args.first c.deref.result.now ≡ c.truncate.new.self.items = ap (λ (p : List ℕ). take c.args.first p) c.deref.ensures.value ∙ sym c.truncate.ensures.items in
    let s : IsPathSettled c.args.steps.now c.truncate.new.self.items c.args.states.now c.settle_round.new.states = subst (λ (p : List ℕ). IsPathSettled c.args.steps.now p c.args.states.now c.settle_round.new.states) is round in
    record { known = s.known; ends = s.ends; told = λ x h. h }
