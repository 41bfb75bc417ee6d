use Rattle.std.proofs.Common.{◌≡◌, ◌≤◌, ◌∙◌, ℕ, pos, List, length, All, sym, ap, subst, refl, to_z}
use Rattle.std.specs.Int.{w128}
use Rattle.std.proofs.lemmas.Int.{to_z_pos}
use Rattle.std.proofs.lemmas.Result.{IfOk-weaker, on_ok_weaker}
use Rattle.ht_num.specs.Chains.{chain}
use Rattle.ht_word.specs.declared.shape.Shape.{Shape}
use Rattle.ht_word.specs.declared.word.Word.{Word}
use Rattle.ht_word.specs.Words.{IsAscending}
use Rattle.ht_pair.specs.Actions.{IsCanonicalFor}
use Rattle.ht_pair.specs.Elements.{ElementValue}
use Rattle.ht_pair.specs.Pairs.{IsPair, from_words}
use Rattle.ht_pair.specs.PowerSizes.{Plus, IsLargePower, NoneLarge}
use Rattle.ht_pair.specs.Products.{IsPower}
use Rattle.ht_pair.specs.Sizes.{IsLarge}
use Rattle.ht_quasi.specs.declared.quasi.Quasi.{Quasi}
use Rattle.ht_power.proofs.CyclePowers.{led_inside, led_read, rows_made, element_made, never_large, none_large}
use Rattle.ht_power.proofs.TrialLaws.{first_is_large, none_is_large}
use Rattle.ht_power.proofs.cycles.cycle_power.Goals as goal
use Rattle.ht_power.proofs.cycles.cycle_power.Goals.{After-shape}

pub returns-then-not-is_small-clause-kept : goal.returns-then-not-is_small-clause-kept
returns-then-not-is_small-clause-kept c =
    let own = c.element.result.now in
    let f = c.args.t.now.element in
    let k = c.args.k in
    let exponent = to_z_pos w128 k c.requires.exponent.1 in
    on_ok_weaker c.power.result
    (λ (none : (rows letters : ℕ) → ¬ IsLargePower own.shape own.rows (to_z w128 k) rows letters).
    none_is_large f.rows Plus k refl c.requires.exponent.0 exponent (subst (λ (e : ElementValue). (rows letters : ℕ) → ¬ IsLargePower e.shape e.rows (to_z w128 k) rows letters) c.element.ensures.element none)) c.power.ensures.kept

pub returns-then-not-is_small-clause-large : goal.returns-then-not-is_small-clause-large
returns-then-not-is_small-clause-large c rows letters fault =
    let k = c.args.k in
    first_is_large c.args.t.now.element.rows Plus k rows letters refl c.requires.exponent.0 (to_z_pos w128 k c.requires.exponent.1) (subst (λ (e : ElementValue). IsLargePower e.shape e.rows (to_z w128 k) rows letters) c.element.ensures.element (c.power.ensures.large rows letters fault))

pub placed_rows-requires-clause-inside : goal.placed_rows-requires-clause-inside
placed_rows-requires-clause-inside c =
    let words = c.as_slice-2.ensures ∙ c.words-2.ensures.words ∙ ap (λ (q : Quasi). q.basis.words) c.quasi-2.ensures.quasi in
    led_inside c.args.t.now c.keeps_kinds.ensures c.requires.finite (length c.as_slice-2.result.now) (ap (λ (W : List Word). length W) words) (led_read c.args.t.now c.keeps_kinds.ensures c.requires.finite c.as_slice-3.ensures.value c.in_ok-places.ensures)

-- the rows are the power, and in order
made : (c : After-shape) → IsPower c.args.t.now.element.shape c.args.t.now.element.rows (pos c.args.k) c.in_ok-rows.rows × IsAscending (from_words c.in_ok-rows.rows)
made c = rows_made c.args.t.now c.keeps_kinds.ensures c.requires.finite (c.as_slice-2.ensures ∙ c.words-2.ensures.words ∙ ap (λ (q : Quasi). q.basis.words) c.quasi-2.ensures.quasi) c.as_slice-3.ensures.value c.in_ok-places.ensures c.in_ok-rows.ensures

-- of the element's shape
shape_is : (c : After-shape) → c.shape.result ≡ c.args.t.now.element.shape
shape_is c = c.shape.ensures ∙ ap (λ (e : ElementValue). e.shape) c.element-2.ensures.element

-- over a small basis
small : (c : After-shape) → (length c.args.t.now.quasi.basis.words ≤ 8192) × All (λ (w : Word). length w.letters ≤ 1024) c.args.t.now.quasi.basis.words
small c = subst (λ (W : List Word). (length W ≤ 8192) × All (λ (w : Word). length w.letters ≤ 1024) W) (c.as_slice.ensures ∙ c.words.ensures.words ∙ ap (λ (q : Quasi). q.basis.words) c.quasi.ensures.quasi) (c.is_small.ensures c.if-not-is_small.false)

pub of_pair-requires-clause-pair : goal.of_pair-requires-clause-pair
of_pair-requires-clause-pair c = subst (λ (s : Shape). IsPair s c.in_ok-rows.rows) (sym (shape_is c)) (made c).0.pair

pub of_pair-requires-clause-order : goal.of_pair-requires-clause-order
of_pair-requires-clause-order c = (made c).1

pub returns-clause-power : goal.returns-clause-power
returns-clause-power c =
    let f = c.args.t.now.element in
    let at = (goal.at.returns-clause-power c).After-shape in
    IfOk-weaker c.of_pair.result (λ (s : ElementValue). (s.shape ≡ c.shape.result) × IsCanonicalFor c.shape.result s.rows c.in_ok-rows.rows) (λ (s : ElementValue). (s.shape ≡ f.shape) × IsPower f.shape f.rows (pos c.args.k) s.rows)
    (λ s canonical. element_made c.args.t.now c.keeps_kinds.ensures c.requires.finite s (shape_is at) (made at).0 canonical) c.of_pair.ensures.canonical

pub returns-clause-kept : goal.returns-clause-kept
returns-clause-kept c =
    let f = c.args.t.now.element in
    let few = small (goal.at.returns-clause-kept c).After-shape in
    IfOk-weaker c.of_pair.result (λ (s : ElementValue). length s.rows ≤ length c.in_ok-rows.rows) (λ (s : ElementValue). NoneLarge f.shape f.rows Plus c.args.k)
    (λ s fewer. none_large c.args.t.now c.keeps_kinds.ensures c.requires.finite few.0 few.1 (chain c.args.k)) c.of_pair.ensures.fewer

pub returns-clause-large : goal.returns-clause-large
returns-clause-large c rows letters fault =
    let at = (goal.at.returns-clause-large c).After-shape in
    let few = small at in
    absurd (never_large c.args.t.now c.keeps_kinds.ensures c.requires.finite few.0 few.1 c.args.k c.in_ok-rows.rows (made at).0 rows letters (subst (λ (s : Shape). IsLarge s c.in_ok-rows.rows rows letters) (shape_is at) (c.of_pair.ensures.large rows letters fault)))
