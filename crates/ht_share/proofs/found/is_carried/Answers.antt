use Rattle.std.proofs.Common.{◌≡◌, ◌+◌, ◌≤◌, ◌<◌, ℕ, [], ◌∷◌, inl, inr, pos, refl, sym, ap, ◌∙◌, subst, subst₂, arith, true≢false}
use Rattle.std.proofs.lemmas.Bool.{cases_lt}
use Rattle.ht_word.specs.Words.{child, IsLetter, IsWordOf}
use Rattle.ht_word.specs.declared.shape.Shape.{Shape}
use Rattle.ht_word.proofs.WordLaws.{word_after}
use Rattle.ht_pair.specs.Elements.{ElementValue}
use Rattle.ht_pair.specs.Steps.{Carries}
use Rattle.ht_pair.proofs.CarriesLaws.{carries_children, carries_extends}
use Rattle.ht_types.proofs.ExitLaws.{one_letter}
use Rattle.ht_types.proofs.TypedLaws.{typed_base}
use Rattle.ht_share.proofs.found.is_carried.Goals as goal
use Rattle.ht_share.proofs.found.is_carried.Goals.{In_ok-below}

letter_here : (c : In_ok-below) → IsLetter c.args.t.now.element.shape c.loop-letter.letter
letter_here c = (
  omega (arith, c.loop-letter.auto.letter),
  omega (arith, c.loop-letter.auto.letter-end, c.loop-letter-test.true, ap (λ (s : Shape). s.n) (c.shape.ensures ∙ ap (λ (e : ElementValue). e.shape) c.element.ensures.element)),
)

pub is_child_carried-requires-clause-word : goal.is_child_carried-requires-clause-word
is_child_carried-requires-clause-word c =
    let shape = c.args.t.now.element.shape in
    let a = c.loop-letter.letter in
    subst (IsWordOf shape) (sym c.in_ok-child.ensures) (word_after shape c.args.word.now (a ∷ []) c.requires.word (one_letter shape a (letter_here (goal.at.is_child_carried-requires-clause-word c).In_ok-below)))

pub returns-then-not-branch : goal.returns-then-not-branch
returns-then-not-branch c = (
  (λ no. absurd (true≢false (sym no))),
  (λ carries.
      let t = c.args.t.now in
      let a = c.loop-letter.letter in
      let letters = one_letter t.element.shape a (letter_here (goal.at.returns-then-not-branch c).In_ok-below) in
      let one = subst₂ (Carries t.element.shape t.element.rows (pos c.args.steps)) (sym c.in_ok-child.ensures) (sym c.in_ok-below.ensures) (carries_extends t.element.shape t.element.rows (pos c.args.steps) c.args.word.now c.args.to.now (a ∷ []) letters carries) in
      absurd (true≢false (sym (c.in_ok-is_child_carried.ensures.1 one) ∙ c.if-not-branch.true))),
)

pub loop-letter-preserved : goal.loop-letter-preserved
loop-letter-preserved c = λ a low high. elim (cases_lt a c.loop-letter.letter) [
  | inl less ↦ c.loop-letter.invariant a low less
  | inr last ↦
      let t = c.args.t.now in
      let one = subst₂ (Carries t.element.shape t.element.rows (pos c.args.steps)) c.in_ok-child.ensures c.in_ok-below.ensures (c.in_ok-is_child_carried.ensures.0 c.if-not-branch.false) in
      subst (λ (b : ℕ). Carries t.element.shape t.element.rows (pos c.args.steps) (child c.args.word.now b) (child c.args.to.now b)) (same a c.loop-letter.letter last high) one
]
  where
    same : (a b : ℕ) → b ≤ a → a < b + 1 → b ≡ a
    same a b l m = omega arith

pub returns : goal.returns
returns c = (
  (λ yes.
      let t = c.args.t.now in
      carries_children t.element.shape t.element.rows (typed_base t c.keeps_kinds.ensures).pair (pos c.args.steps) c.args.word.now c.args.to.now c.requires.word
      (λ a letter. c.loop-letter.invariant a letter.0 (omega (arith, letter.1, c.loop-letter.auto.letter-end, c.loop-letter-test.false, ap (λ (s : Shape). s.n) (c.shape.ensures ∙ ap (λ (e : ElementValue). e.shape) c.element.ensures.element))))),
  (λ carries. refl),
)
