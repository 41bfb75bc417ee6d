use Rattle.std.proofs.Common.{◌+◌, ◌++◌, ◌∷◌, [], List, refl, sym, ap, ◌∙◌, subst, arith, append-nil, pos}
use Rattle.std.proofs.lemmas.Int.{ints}
use Rattle.std.proofs.lemmas.List.{append_assoc}
use Rattle.ht_word.specs.declared.shape.Shape.{Shape}
use Rattle.ht_word.specs.declared.word.Word.{Word}
use Rattle.ht_pair.specs.Pairs.{IsPair}
use Rattle.ht_pair.specs.Steps.{Carries}
use Rattle.ht_pair.specs.declared.row.Row.{Row}
use Rattle.ht_pair.proofs.CarriesLaws.{carries_itself, carries_sum}
use Rattle.ht_cycles.proofs.CycleRowLaws.{next_of_round, round_more}
use Rattle.ht_cycles.proofs.matches.add_round.Goals as goal

pub loop-init : goal.loop-init
loop-init c =
    let shape = c.args.f.now.shape in
    record {
      first = subst (Carries shape c.args.f.now.rows (pos 0) c.args.from.now) (sym c.in_ok-u.ensures) (carries_itself shape c.args.f.now.rows c.args.from.now (c.requires.from 0).1.word);
      second = subst (Carries shape c.args.g.now.rows (pos 0) c.args.to.now) (sym c.in_ok-v.ensures) (carries_itself shape c.args.g.now.rows c.args.to.now (c.requires.to 0).1.word);
      added = [];
      is = sym (append-nil c.args.rows.now);
      round = refl;
    }

pub carried-requires : goal.carried-requires
carried-requires c = next_of_round c.args.f.now.shape c.args.f.now.rows c.keeps_limits.ensures.canonical.pair c.loop.counter c.args.from.now c.loop.u c.requires.from c.loop.invariant.first

pub carried-requires-in-loop : goal.carried-requires-in-loop
carried-requires-in-loop c =
    let pair = subst (λ (s : Shape). IsPair s c.args.g.now.rows) c.requires.shape c.keeps_limits-2.ensures.canonical.pair in
    subst (λ (s : Shape). (v : Word) × Carries s c.args.g.now.rows (pos 1) c.loop.v v) (sym c.requires.shape) (next_of_round c.args.f.now.shape c.args.g.now.rows pair c.loop.counter c.args.to.now c.loop.v c.requires.to c.loop.invariant.second)

pub loop-preserved : goal.loop-preserved
loop-preserved c =
    let shape = c.args.f.now.shape in
    let f = c.args.f.now.rows in
    let g = c.args.g.now.rows in
    let k = c.loop.counter in
    let so_far = c.loop.invariant in
    let row : Row = record { from = c.loop.u; to = c.loop.v } in
    let pair = subst (λ (s : Shape). IsPair s g) c.requires.shape c.keeps_limits-2.ensures.canonical.pair in
    let over = subst (λ (s : Shape). Carries s g (pos 1) c.loop.v c.in_ok-next_v.next_v) c.requires.shape c.in_ok-next_v.ensures in
    record {
      first = carries_sum shape f c.keeps_limits.ensures.canonical.pair (pos k) (pos 1) (pos (k + 1)) (omega (arith, ints)) c.args.from.now c.loop.u c.in_ok-next_u.next_u so_far.first c.in_ok-next_u.ensures;
      second = carries_sum shape g pair (pos k) (pos 1) (pos (k + 1)) (omega (arith, ints)) c.args.to.now c.loop.v c.in_ok-next_v.next_v so_far.second over;
      added = so_far.added ++ row ∷ [];
      is = c.in_ok-push.ensures.ok ∙ ap (λ (t : List Row). t ++ row ∷ []) so_far.is ∙ append_assoc c.args.rows.now so_far.added (row ∷ []);
      round = round_more shape f g k c.args.from.now c.args.to.now so_far.added row so_far.round (record { from = so_far.first; to = so_far.second });
    }
