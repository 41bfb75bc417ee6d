use Rattle.std.proofs.Common.{◌≡◌, ℕ, ◌-◌, Option, Some, None, MatchOption, List, [], ◌∷◌, ◌++◌, length, take, refl, sym, ap, ◌∙◌, subst, subst₂, append-nil, arith}
use Rattle.std.proofs.lemmas.List.{length-append}
use Rattle.std.proofs.Math.Seq.{take-append_seam}
use Rattle.ht_word.specs.declared.word.Word.{Word}
use Rattle.ht_word.specs.declared.shape.Shape.{Shape}
use Rattle.ht_word.proofs.WordLaws.{word_eq}
use Rattle.ht_pair.specs.declared.row.Row.{Row}
use Rattle.ht_pair.specs.Actions.{child_row}
use Rattle.ht_pair.specs.Merges.{child_rows, ClosesCaret, MergesDown}
use Rattle.ht_pair.specs.Merges.Merges.{unmerged}
use Rattle.ht_pair.proofs.Sequences.{length-each, equal_parts}
use Rattle.ht_pair.proofs.Carets.{long_enough, caret_merged}
use Rattle.ht_pair.proofs.reduce.add_row.Goals as goal

-- what `pop` leaves
popped : (s t y : List ℕ) (a : ℕ) (r : Option ℕ) → MatchOption r ((s ≡ []) × (t ≡ [])) (λ letter. s ≡ t ++ letter ∷ []) → s ≡ y ++ a ∷ [] → t ≡ y
popped s t y a None h e = absurd (omega (arith, ap (λ (x : List ℕ). length x) (sym h.0 ∙ e), length-append y (a ∷ [])))
popped s t y a (Some b) h e = (equal_parts t y (b ∷ []) (a ∷ []) (sym h ∙ e) refl).0

caret_taken : (shape : Shape) (front : List Row) (last : Row) (h : ClosesCaret shape front last) → take (length front - (shape.n - 1)) front ≡ h.before
caret_taken shape front last h =
    let K = child_rows h.from h.to (shape.n - 1) in
    let place : length front - (shape.n - 1) ≡ length h.before = omega (arith, shape.letters_low, ap (λ (t : List Row). length t) h.rows_are, length-append h.before K, length-each (child_row h.from h.to) (shape.n - 1)) in
    ap (λ j. take j front) place ∙ ap (λ t. take (length h.before) t) h.rows_are ∙ take-append_seam h.before K

pub loop-shape-init : goal.loop-shape-init
loop-shape-init c = record { merges = unmerged; taken = []; rows_are = sym (append-nil c.args.merged.now.items) }

pub overflow_sub-len : goal.overflow_sub-len
overflow_sub-len c =
    let h = c.loop-shape-test.ensures.0 refl in
    omega (arith, long_enough c.args.shape c.as_slice.result.now c.loop-shape.row h)

pub loop-shape-smaller : goal.loop-shape-smaller
loop-shape-smaller c =
    let h = c.loop-shape-test.ensures.0 refl in
    omega (arith, long_enough c.args.shape c.as_slice.result.now c.loop-shape.row h)

pub loop-shape-preserved : goal.loop-shape-preserved
loop-shape-preserved c =
    let shape : Shape = c.args.shape in
    let front : List Row = c.loop-shape.merged.items in
    let last : Row = c.loop-shape.row in
    let h : ClosesCaret shape front last = subst (λ (t : List Row). ClosesCaret shape t last) c.as_slice.ensures.value (c.loop-shape-test.ensures.0 refl) in
    let place : c.len.result - (c.from.result - 1) ≡ length front - (shape.n - 1) = omega arith in
    let from : Word = record { root = last.from.root; letters = c.pop.new.self } in
    let to : Word = record { root = last.to.root; letters = c.pop-in-loop-shape.new.self } in
    let from_is : from ≡ h.from = word_eq (ap (λ (r : Row). r.from.root) h.last_is) (popped last.from.letters c.pop.new.self h.from.letters shape.n c.pop.result c.pop.ensures (ap (λ (r : Row). r.from.letters) h.last_is)) in
    let to_is : to ≡ h.to = word_eq (ap (λ (r : Row). r.to.root) h.last_is) (popped last.to.letters c.pop-in-loop-shape.new.self h.to.letters shape.n c.pop-in-loop-shape.result c.pop-in-loop-shape.ensures (ap (λ (r : Row). r.to.letters) h.last_is)) in
    let row_is : ◌≡◌ {A = Row} (record { from = from; to = to }) (record { from = h.from; to = h.to }) = λ i. record { from = from_is i; to = to_is i } in
    subst₂ (MergesDown shape c.args.merged.now.items c.args.row)
    (sym (c.truncate.ensures.items ∙ ap (λ j. take j front) place ∙ caret_taken shape front last h))
    (sym row_is)
    (caret_merged shape c.args.merged.now.items front c.args.row last c.loop-shape.invariant h)
