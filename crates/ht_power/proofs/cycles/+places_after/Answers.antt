use Rattle.std.proofs.Common.{◌≡◌, ◌+◌, ◌/◌, ℕ, length, map, slice_index, Vec, Global, refl, subst, arith}
use Rattle.std.proofs.lemmas.Result.{IfOk-weaker}
use Rattle.ht_power.specs.CyclePowers.{AreLed}
use Rattle.ht_power.proofs.CyclePowers.{led_inside, led_on, led_read}
use Rattle.ht_power.proofs.cycles.+places_after.Goals as goal
use Rattle.ht_power.proofs.cycles.+places_after.Goals.{In_ok-twice}

-- twice half as many steps, rounded down
twice : (t : ℕ) (c : In_ok-twice t) → AreLed c.args.t.now.element.shape c.args.t.now.element.rows c.args.t.now.quasi.basis.words (c.args.k / 2 + c.args.k / 2) (length c.args.t.now.quasi.basis.words) c.in_ok-twice.twice.items
twice t c =
    let f = c.args.t.now in
    let typed = c.keeps_kinds.ensures in
    let finite = c.requires.finite in
    led_on f typed finite (c.args.k / 2 + c.args.k / 2) c.as_slice.result.now c.as_slice-2.result.now c.in_ok-twice.twice.items (led_read f typed finite c.as_slice.ensures.value c.in_ok-half.ensures) (led_read f typed finite c.as_slice-2.ensures.value c.in_ok-half.ensures) refl c.in_ok-twice.ensures

pub followed-requires : goal.followed-requires
followed-requires t c =
    let f = c.args.t.now in
    let typed = c.keeps_kinds.ensures in
    let finite = c.requires.finite in
    led_inside f typed finite (length c.as_slice-2.result.now) (led_read f typed finite c.as_slice-2.ensures.value c.in_ok-half.ensures).many (led_read f typed finite c.as_slice.ensures.value c.in_ok-half.ensures)

pub returns-then-k-eq0 : goal.returns-then-k-eq0
returns-then-k-eq0 t c =
    let f = c.args.t.now in
    let sum : c.args.k / 2 + c.args.k / 2 ≡ c.args.k = omega (arith, c.if-k-eq0.true) in
    subst (λ (n : ℕ). AreLed f.element.shape f.element.rows f.quasi.basis.words n (length f.quasi.basis.words) c.in_ok-twice.twice.items) sum (twice t (goal.at.returns-then-k-eq0 t c).In_ok-twice)

pub followed-requires-2 : goal.followed-requires-2
followed-requires-2 t c =
    let f = c.args.t.now in
    let typed = c.keeps_kinds.ensures in
    let finite = c.requires.finite in
    led_inside f typed finite (length c.as_slice-4.result.now) (led_read f typed finite c.as_slice-4.ensures.value c.in_ok-next.ensures).many (led_read f typed finite c.as_slice-3.ensures.value (twice t (goal.at.followed-requires-2 t c).In_ok-twice))

pub returns : goal.returns
returns t c =
    let f = c.args.t.now in
    let typed = c.keeps_kinds.ensures in
    let finite = c.requires.finite in
    let first = led_read f typed finite c.as_slice-3.ensures.value (twice t (goal.at.returns t c).In_ok-twice) in
    let next = led_read f typed finite c.as_slice-4.ensures.value c.in_ok-next.ensures in
    let sum : c.args.k / 2 + c.args.k / 2 + 1 ≡ c.args.k = omega (arith, c.if-k-eq0.false) in
    IfOk-weaker c.followed-2.result (λ (places : Vec ℕ Global). places.items ≡ map (λ place. slice_index c.as_slice-4.result.now place) c.as_slice-3.result.now) (λ (places : Vec ℕ Global). AreLed f.element.shape f.element.rows f.quasi.basis.words c.args.k (length f.quasi.basis.words) places.items)
    (λ places is. led_on f typed finite c.args.k c.as_slice-3.result.now c.as_slice-4.result.now places.items first next sum is) c.followed-2.ensures
