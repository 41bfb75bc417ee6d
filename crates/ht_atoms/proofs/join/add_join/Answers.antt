use Rattle.std.proofs.Common.{◌∙◌, inl, inr, sym, refl, subst, true≢false}
use Rattle.std.proofs.lemmas.Option.{slice_get_within}
use Rattle.ht_word.specs.Words.{IsUnderSome}
use Rattle.ht_pair.specs.HeldBases.{IsPlaceAbove}
use Rattle.ht_quasi.specs.declared.quasi.Quasi.{Quasi}
use Rattle.ht_atoms.proofs.JoinLaws.{none_added, no_word_above, other_cycle, one_added}
use Rattle.ht_atoms.proofs.join.add_join.Goals as goal
use Rattle.ht_atoms.proofs.join.add_join.Goals.{else-is_infinite-via-then-is_infinite+else-is_infinite-2, else-is_infinite-via-else-is_infinite}

pub is_infinite-requires : goal.is_infinite-requires
is_infinite-requires c =
    let X = c.args.t.now.quasi.basis.words in
    let from = subst (λ (q : Quasi). IsPlaceAbove q.basis.words c.args.row.now.from c.in-Some.first) c.quasi.ensures.quasi c.in-Some.ensures in
    slice_get_within X c.in-Some.first from.word from.here

pub is_infinite-requires-then-is_infinite : goal.is_infinite-requires-then-is_infinite
is_infinite-requires-then-is_infinite c =
    let X = c.args.t.now.quasi.basis.words in
    let to = subst (λ (q : Quasi). IsPlaceAbove q.basis.words c.args.row.now.to c.in-Some-find.second) c.quasi.ensures.quasi c.in-Some-find.ensures in
    slice_get_within X c.in-Some-find.second to.word to.here

pub returns-in_default : goal.returns-in_default
returns-in_default c =
    let t = c.args.t.now in
    let row = c.args.row.now in
    none_added t.element.shape t.element.rows t.quasi.basis.words row c.args.joins.now c.args.joins.now refl
    (no_word_above t.element.shape t.element.rows t.quasi.basis.words row c.args.joins.now c.args.joins.now (inl (subst (λ (q : Quasi). ¬ IsUnderSome row.from q.basis.words) c.quasi.ensures.quasi c.in_default.ensures)))

pub returns-in_default-find : goal.returns-in_default-find
returns-in_default-find c =
    let t = c.args.t.now in
    let row = c.args.row.now in
    none_added t.element.shape t.element.rows t.quasi.basis.words row c.args.joins.now c.args.joins.now refl
    (no_word_above t.element.shape t.element.rows t.quasi.basis.words row c.args.joins.now c.args.joins.now (inr (subst (λ (q : Quasi). ¬ IsUnderSome row.to q.basis.words) c.quasi.ensures.quasi c.in_default-find.ensures)))

pub returns-in_ok-push : goal.returns-in_ok-push
returns-in_ok-push c =
    let t = c.args.t.now in
    let row = c.args.row.now in
    let from = subst (λ (q : Quasi). IsPlaceAbove q.basis.words row.from c.in-Some.first) c.quasi.ensures.quasi c.in-Some.ensures in
    let to = subst (λ (q : Quasi). IsPlaceAbove q.basis.words row.to c.in-Some-find.second) c.quasi.ensures.quasi c.in-Some-find.ensures in
    one_added t.element.shape t.element.rows t.quasi.basis.words row c.args.joins.now c.push.new.self c.quasi.ensures.typed.quasinormal.least.semi_normal.basis.prefix_free c.in-Some.first c.in-Some-find.second from to
    ((c.is_infinite.ensures from.word from.here).0 c.if-is_infinite.true) ((c.is_infinite-then-is_infinite.ensures to.word to.here).0 c.if-is_infinite-2.true) c.in_ok-push.ensures.ok

pub returns-else-is_infinite : goal.returns-else-is_infinite
returns-else-is_infinite c =
    let t = c.args.t.now in
    let row = c.args.row.now in
    let from = subst (λ (q : Quasi). IsPlaceAbove q.basis.words row.from c.in-Some.first) c.quasi.ensures.quasi c.in-Some.ensures in
    let to = subst (λ (q : Quasi). IsPlaceAbove q.basis.words row.to c.in-Some-find.second) c.quasi.ensures.quasi c.in-Some-find.ensures in
    none_added t.element.shape t.element.rows t.quasi.basis.words row c.args.joins.now c.args.joins.now refl
    (other_cycle t.element.shape t.element.rows t.quasi.basis.words row c.args.joins.now c.args.joins.now c.quasi.ensures.typed.quasinormal.least.semi_normal.basis.prefix_free c.in-Some.first c.in-Some-find.second from to
    (λ one other. elim c.else-is_infinite.branch [
      | else-is_infinite-via-then-is_infinite+else-is_infinite-2 w ↦ true≢false (sym ((w.is_infinite-then-is_infinite.ensures to.word to.here).1 other) ∙ w.if-is_infinite-2.false)
      | else-is_infinite-via-else-is_infinite w ↦ true≢false (sym ((c.is_infinite.ensures from.word from.here).1 one) ∙ w.if-is_infinite.false)
    ]))
