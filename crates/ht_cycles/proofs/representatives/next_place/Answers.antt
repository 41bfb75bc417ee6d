use Rattle.std.proofs.Common.{sym, ap, subst, pos}
use Rattle.ht_word.specs.Words.{IsUnderSome}
use Rattle.ht_word.proofs.WordLaws.{under_refl}
use Rattle.ht_pair.specs.Elements.{ElementValue}
use Rattle.ht_pair.specs.Steps.{Carries}
use Rattle.ht_pair.proofs.BasisLaws.{some_at}
use Rattle.ht_quasi.specs.declared.quasi.Quasi.{Quasi}
use Rattle.ht_cycles.proofs.PickedLaws.{has_next_word, next_is, next_found}
use Rattle.ht_cycles.proofs.representatives.next_place.Goals as goal

pub carried-requires : goal.carried-requires
carried-requires c =
    let t = c.args.t.now in
    let x = c.at.result.now in
    let next = has_next_word t.element c.quasi.result.now t.quasi t.kinds c.words.result.now c.args.place c.requires.0 x c.keeps_kinds.ensures c.quasi.ensures.quasi c.words.ensures.words c.requires.1 c.at.ensures in
    (next.to, subst (λ (e : ElementValue). Carries e.shape e.rows (pos 1) x next.to) (sym c.element.ensures.element) next.carries)

pub unreachable-requires : goal.unreachable-requires
unreachable-requires c =
    let t = c.args.t.now in
    let x = c.at.result.now in
    let moved = c.in_ok-moved.moved in
    let typed = c.keeps_kinds.ensures in
    let next = has_next_word t.element c.quasi.result.now t.quasi t.kinds c.words.result.now c.args.place c.requires.0 x typed c.quasi.ensures.quasi c.words.ensures.words c.requires.1 c.at.ensures in
    let carries = subst (λ (e : ElementValue). Carries e.shape e.rows (pos 1) x moved) c.element.ensures.element c.in_ok-moved.ensures in
    let listed = next_is t.element.shape t.element.rows typed.canonical.canonical.pair t.quasi.basis.words c.args.place x moved next carries in
    c.in_default.ensures (subst (λ (q : Quasi). IsUnderSome moved q.basis.words) (sym c.quasi.ensures.quasi) (some_at t.quasi.basis.words moved moved listed (under_refl moved)))

pub returns : goal.returns
returns c =
    let t = c.args.t.now in
    let x = c.at.result.now in
    let moved = c.in_ok-moved.moved in
    let typed = c.keeps_kinds.ensures in
    let next = has_next_word t.element c.quasi.result.now t.quasi t.kinds c.words.result.now c.args.place c.requires.0 x typed c.quasi.ensures.quasi c.words.ensures.words c.requires.1 c.at.ensures in
    let carries = subst (λ (e : ElementValue). Carries e.shape e.rows (pos 1) x moved) c.element.ensures.element c.in_ok-moved.ensures in
    next_found t.element.shape t.element.rows typed.canonical.canonical.pair t.quasi.basis.words c.quasi.result.now.basis.words typed.quasinormal.least.semi_normal.basis.prefix_free (ap (λ (q : Quasi). q.basis.words) c.quasi.ensures.quasi) c.args.place c.in-Some.next x moved next carries c.in-Some.ensures
