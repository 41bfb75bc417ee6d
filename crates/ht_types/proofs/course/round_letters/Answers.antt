use Rattle.std.proofs.Common.{◌≡◌, ◌+◌, ◌-◌, ◌<◌, ◌++◌, ℕ, List, length, get_or, Some, slice_get, sym, ap, ◌∙◌, subst, arith}
use Rattle.std.proofs.lemmas.List.{get_or_default}
use Rattle.ht_types.specs.declared.step.Step.TheVariants.{Leads}
use Rattle.ht_types.proofs.EntryLaws.{entry_read, read_is}
use Rattle.ht_types.proofs.RoundLaws.{AreBehind, step_on, inside_on, none_behind, one_more_behind, all_behind}
use Rattle.ht_types.proofs.course.round_letters.Goals as goal
use Rattle.ht_types.proofs.course.round_letters.Goals.{In-loop-i}

inside : (c : In-loop-i) → get_or c.args.path.now (c.loop-i.i - 1) 0 < length c.args.steps.now
inside c =
    let low = c.loop-i.invariant.low in
    inside_on c.args.steps.now c.args.path.now c.args.first (get_or c.args.path.now c.args.first 0) (c.loop-i.i - 1) 0 c.requires (omega arith) (omega arith)

pub loop-i-init : goal.loop-i-init
loop-i-init c =
    let path = c.args.path.now in
    record {
      low = omega arith;
      behind = subst (λ (z : List ℕ). AreBehind c.args.steps.now path (get_or path c.args.first 0) (length path) z) (sym c.new-by.ensures) (none_behind c.args.steps.now path (get_or path c.args.first 0));
    }

pub offset_bounds-steps-path : goal.offset_bounds-steps-path
offset_bounds-steps-path c = let l : get_or c.args.path.now (c.loop-i.i - 1) 0 < length c.args.steps.now = inside (goal.at.offset_bounds-steps-path c).In-loop-i in omega arith

pub bounds-steps-path : goal.bounds-steps-path
bounds-steps-path c = inside (goal.at.bounds-steps-path c).In-loop-i

pub unreachable-requires : goal.unreachable-requires
unreachable-requires c =
    let steps = c.args.steps.now in
    let path = c.args.path.now in
    let x = get_or path c.args.first 0 in
    let s = step_on steps path c.args.first x (c.loop-i.i - 1) 0 c.requires (omega arith) (omega arith) in
    let next = get_or path (c.loop-i.i - 1 + 1) x in
    c.in_default.not-Leads next s.0 (read_is steps (get_or path (c.loop-i.i - 1) 0) c.index-steps-path.result (Leads next s.0) c.index-steps-path.is s.1)

pub loop-i-preserved : goal.loop-i-preserved
loop-i-preserved c =
    let steps = c.args.steps.now in
    let path = c.args.path.now in
    let x = get_or path c.args.first 0 in
    let i = c.loop-i.i - 1 in
    let high : i < length path = omega arith in
    let here = entry_read steps (get_or path i 0) c.index-steps-path.result (Leads c.in-Leads.to c.in-Leads.rest) (inside (goal.at.loop-i-preserved c).In-loop-i) c.index-steps-path.is c.in-Leads.is in
    let at : slice_get steps (get_or path i x) ≡ Some (Leads c.in-Leads.to c.in-Leads.rest) = ap (λ (k : ℕ). slice_get steps k) (get_or_default path i x 0 high) ∙ here in
    let behind : AreBehind steps path x (i + 1) c.loop-i.by = subst (λ (k : ℕ). AreBehind steps path x k c.loop-i.by) (omega arith) c.loop-i.invariant.behind in
    let is : c.extend.new.self ≡ c.loop-i.by ++ c.in-Leads.rest = c.in_ok-extend.ensures.ok ∙ ap (λ (z : List ℕ). c.loop-i.by ++ z) c.as_slice.ensures in
    record {
      low = omega arith;
      behind = subst (λ (z : List ℕ). AreBehind steps path x i z) (sym is) (one_more_behind steps path c.args.first x i c.in-Leads.to c.in-Leads.rest c.loop-i.by c.requires (omega arith) high at behind);
    }

pub returns : goal.returns
returns c =
    let path = c.args.path.now in
    let x = get_or path c.args.first 0 in
    let low = c.loop-i.invariant.low in
    let e : c.loop-i.i ≡ c.args.first = omega arith in
    all_behind c.args.steps.now path c.args.first x c.loop-i.by c.requires (subst (λ (i : ℕ). AreBehind c.args.steps.now path x i c.loop-i.by) e c.loop-i.invariant.behind)
