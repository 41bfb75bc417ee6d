-- What std's tests on slices say of words.
use Rattle.std.proofs.Common.{◌≡◌, ℕ, Bool, true, false, eqb, IsTrue, true≢false, Option, Some, None, MatchOption, List, ◌++◌, ◌+◌, length, take, drop, sym, ap, ◌∙◌, take-append-drop, Bor}
use Rattle.std.specs.Cmp.Lexicographic.{pointwise, bytes_decides}
use Rattle.ht_word.specs.declared.word.Word.{Word}
use Rattle.ht_word.specs.Words.{◌·◌, IsUnder}
use Rattle.ht_word.proofs.WordLaws.{word_eq, under_from_take, take_from_under}

pub prefix_test : (u v : Word) (b : Bool) → u.root ≡ v.root → b ≡ pointwise eqb v.letters (take (length v.letters) u.letters) → (IsTrue b → IsUnder u v) × (IsUnder u v → IsTrue b)
prefix_test u v b roots is =
    let d = bytes_decides v.letters (take (length v.letters) u.letters) in (
      (λ t. under_from_take u v roots (sym (d.0 (sym is ∙ t)))),
      (λ h. is ∙ d.1 (sym (take_from_under u v h))),
    )

pub rest_test : (u v : Word) (r : Option (Bor (List ℕ))) → u.root ≡ v.root
    → MatchOption r (pointwise eqb (take (length v.letters) u.letters) v.letters ≡ false) (λ x. (pointwise eqb (take (length v.letters) u.letters) v.letters ≡ true) × (x.now ≡ drop (length v.letters) u.letters) × (length x.now + length v.letters ≡ length u.letters))
    → MatchOption r (¬ IsUnder u v) (λ rest. u ≡ v · rest.now)
rest_test u v None roots h =
    let d = bytes_decides (take (length v.letters) u.letters) v.letters in
    λ under. true≢false (sym (d.1 (take_from_under u v under)) ∙ h)
rest_test u v (Some x) roots h =
    let d = bytes_decides (take (length v.letters) u.letters) v.letters in
    word_eq roots (sym (take-append-drop (length v.letters) u.letters) ∙ ap (λ t. t ++ drop (length v.letters) u.letters) (d.0 h.0) ∙ ap (λ t. v.letters ++ t) (sym h.1))
