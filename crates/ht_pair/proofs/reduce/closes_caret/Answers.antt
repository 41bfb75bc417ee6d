use Rattle.std.proofs.Common.{◌≡◌, ◌↔◌, ℕ, ◌-◌, Bool, IsTrue, true≢false, List, [], ◌∷◌, ◌++◌, length, take, drop, sym, ap, ◌∙◌, subst, arith, take-append-drop}
use Rattle.std.proofs.lemmas.List.{length-take, length-drop}
use Rattle.std.proofs.Math.Seq.{take-length}
use Rattle.ht_word.specs.declared.word.Word.{Word}
use Rattle.ht_word.specs.declared.shape.Shape.{Shape}
use Rattle.ht_word.specs.Words.{◌·◌, child, root_word}
use Rattle.ht_word.proofs.WordLaws.{after_cancel_right}
use Rattle.ht_pair.specs.declared.row.Row.{Row}
use Rattle.ht_pair.specs.Actions.{child_row}
use Rattle.ht_pair.specs.Merges.{child_rows, ClosesCaret}
use Rattle.ht_pair.proofs.Sequences.{length-each, equal_parts}
use Rattle.ht_pair.proofs.Carets.{long_enough}
use Rattle.ht_pair.proofs.reduce.closes_caret.Goals as goal

-- where both words of the last row end with n, the n - 1 rows before it decide
caret_test : (shape : Shape) (before siblings : List Row) (last : Row) (u v : Word) (b : Bool) → length siblings ≡ shape.n - 1 → last.from ≡ child u shape.n → last.to ≡ child v shape.n → IsTrue b ↔ (siblings ≡ child_rows u v (length siblings)) → IsTrue b ↔ ClosesCaret shape (before ++ siblings) last
caret_test shape before siblings last u v b count from_is to_is test = (
  λ t. record { from = u; to = v; before = before; rows_are = ap (λ s. before ++ s) (test.0 t ∙ ap (child_rows u v) count); last_is = λ i. record { from = from_is i; to = to_is i } },
  λ h.
      let u_is : h.from ≡ u = after_cancel_right h.from u (shape.n ∷ []) (sym (ap (λ (r : Row). r.from) h.last_is) ∙ from_is) in
      let v_is : h.to ≡ v = after_cancel_right h.to v (shape.n ∷ []) (sym (ap (λ (r : Row). r.to) h.last_is) ∙ to_is) in
      let backs : siblings ≡ child_rows h.from h.to (shape.n - 1) = (equal_parts before h.before siblings (child_rows h.from h.to (shape.n - 1)) h.rows_are (count ∙ sym (length-each (child_row h.from h.to) (shape.n - 1)))).1 in
      test.1 (backs ∙ (λ i. child_rows (u_is i) (v_is i) (sym count i))),
)

-- the rows from a place on
rows_from : (rows : List Row) (place : ℕ) → take place rows ++ take (length rows - place) (drop place rows) ≡ rows
rows_from rows place = ap (λ t. take place rows ++ t) (ap (λ j. take j (drop place rows)) (sym (length-drop place rows)) ∙ take-length (drop place rows)) ∙ take-append-drop place rows

pub returns-then-merged-siblings : goal.returns-then-merged-siblings
returns-then-merged-siblings c = ((λ t. absurd (true≢false (sym t))), λ h. absurd (omega (arith, long_enough c.args.shape c.args.merged.now c.args.row.now h)))

pub returns : goal.returns
returns c =
    let rows : List Row = c.args.merged.now in
    let place : ℕ = length rows - (c.from-siblings.result - 1) in
    let count : length (take (length rows - place) (drop place rows)) ≡ c.args.shape.n - 1 = omega (arith, length-take (length rows - place) (drop place rows), length-drop place rows) in
    subst (λ (t : List Row). IsTrue c.are_children.result ↔ ClosesCaret c.args.shape t c.args.row.now) (rows_from rows place)
    (caret_test c.args.shape (take place rows) (take (length rows - place) (drop place rows)) c.args.row.now
    (root_word c.args.row.now.from.root · c.in-Some.from.now) (root_word c.args.row.now.to.root · c.in-Some-letters_before.to.now)
    c.are_children.result count c.in-Some.ensures c.in-Some-letters_before.ensures c.are_children.ensures)
