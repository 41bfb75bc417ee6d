use Rattle.std.proofs.Common.{◌<◌, ◌-◌, ◌^◌, pos, sym, subst, subst₂, arith, true≢false, ◌↔◌, Bool, IsTrue, rules}
use Rattle.std.specs.Int.{w128}
use Rattle.std.proofs.lemmas.Fn.{always_returns_same}
use Rattle.std.proofs.lemmas.Int.{to_z_pos}
use Rattle.std.proofs.lemmas.Result.{IfOk-weaker}
use Rattle.ht_word.specs.Words.{word_cmp, IsWordOf}
use Rattle.ht_word.specs.declared.word.Word.{Word}
use Rattle.ht_pair.specs.Elements.{ElementValue}
use Rattle.ht_pair.specs.Steps.{Carries}
use Rattle.ht_pair.proofs.CarriesLaws.{carries_word}
use Rattle.ht_share.specs.InnerWords.{IsInner}
use Rattle.ht_share.specs.PondLists.{HasPond}
use Rattle.ht_share.proofs.FoundLaws.{known, not_known, not_yet, on_from_end}
use Rattle.ht_share.proofs.found.is_child_carried.Goals as goal
use Rattle.ht_share.proofs.found.is_child_carried.Goals.{After-index-found-words}
use Rattle.ht_types.proofs.TypedLaws.{typed_base}

-- what is known of the word that the search has found
told : (c : After-index-found-words) → IsInner c.args.t.now.element.shape c.args.t.now.element.rows c.args.t.now.quasi.basis.words c.args.word.now × HasPond c.args.t.now.element.shape c.args.t.now.element.rows c.args.t.now.quasi.basis.words c.args.word.now c.index-found-words.result
told c =
    let t = c.args.t.now in
    known t.element.shape t.element.rows t.quasi.basis.words c.args.words.now c.args.found.now c.requires.found c.args.word.now c.in-Ok.place c.index-found-words.result c.in-Ok.ensures.bound
    (c.in-Ok.ensures.position (λ (w : Word). word_cmp w c.args.word.now) (always_returns_same _ _ _ (λ a r q k. search rules))) c.index-found-words.is

pub returns-in_default-found : goal.returns-in_default-found
returns-in_default-found c =
    let t = c.args.t.now in
    let k = told (goal.at.returns-in_default-found c).After-index-found-words in (
      (λ no. absurd (true≢false (sym no))),
      (λ carries. absurd (not_known t.element.shape t.element.rows t.quasi.basis.words c.args.word.now c.args.to.now c.args.steps k.0 (subst (HasPond t.element.shape t.element.rows t.quasi.basis.words c.args.word.now) c.in_default-found.is k.1) c.requires.steps.0 c.requires.under carries)),
    )

pub returns-then-pond-steps : goal.returns-then-pond-steps
returns-then-pond-steps c =
    let t = c.args.t.now in
    let k = told (goal.at.returns-then-pond-steps c).After-index-found-words in (
      (λ no. absurd (true≢false (sym no))),
      (λ carries.
          absurd
          (not_yet t.element.shape t.element.rows t.quasi.basis.words c.args.word.now c.args.to.now c.args.steps c.in-Some.pond (subst (HasPond t.element.shape t.element.rows t.quasi.basis.words c.args.word.now) c.in-Some.is k.1) c.requires.steps.0 c.if-pond-steps.true c.requires.under carries)),
    )

pub carries-requires-2 : goal.carries-requires-2
carries-requires-2 c =
    let t = c.args.t.now in
    let k = told (goal.at.carries-requires-2 c).After-index-found-words in
    let has = subst (HasPond t.element.shape t.element.rows t.quasi.basis.words c.args.word.now) c.in-Some.is k.1 in
    subst (λ (e : ElementValue). IsWordOf e.shape c.in-Some.pond.to) (sym c.element-2.ensures.element) (carries_word t.element.shape t.element.rows (typed_base t c.keeps_kinds.ensures).pair (pos c.in-Some.pond.steps) c.args.word.now c.in-Some.pond.to has.1.carries)

pub returns : goal.returns
returns c =
    let t = c.args.t.now in
    let pond = c.in-Some.pond in
    let k = told (goal.at.returns c).After-index-found-words in
    let has = subst (HasPond t.element.shape t.element.rows t.quasi.basis.words c.args.word.now) c.in-Some.is k.1 in
    let on = on_from_end t.element.shape t.element.rows (typed_base t c.keeps_kinds.ensures).pair t.quasi.basis.words c.args.word.now c.args.to.now c.args.steps pond has c.if-pond-steps.false in
    let left = c.args.steps - pond.steps in
    let few : left < 2 ^ 127 = (let small = c.requires.steps.1 in omega arith) in
    IfOk-weaker c.carries-2.result _ _
    (λ (yes : Bool) told.
    let there = subst₂ (λ (e : ElementValue) i. IsTrue yes ↔ Carries e.shape e.rows i pond.to c.args.to.now) c.element-2.ensures.element (to_z_pos w128 left few) told in ((λ y. on.1 (there.0 y)), (λ carries. there.1 (on.0 carries))))
    c.carries-2.ensures
