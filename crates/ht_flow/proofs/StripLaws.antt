-- Letters that begin with others some times.
use Rattle.std.proofs.Common.{◌≡◌, ◌≢◌, ℕ, zero, suc, ◌+◌, ◌*◌, ◌<◌, eqb, true, false, true≢false, List, [], ◌∷◌, ◌++◌, length, take, drop, refl, sym, ap, ◌∙◌, subst, arith, take-append-drop, ℤ, pos, neg_ℤ}
use Rattle.std.specs.Prelude.{◌-ℤ◌}
use Rattle.std.specs.Cmp.Lexicographic.{pointwise, bytes_decides}
use Rattle.std.proofs.lemmas.Int.{ints}
use Rattle.std.proofs.lemmas.List.{length-append}
use Rattle.ht_word.specs.Words.{◌·◌}
use Rattle.ht_word.specs.declared.shape.Shape.{Shape}
use Rattle.ht_word.specs.declared.word.Word.{Word}
use Rattle.ht_word.proofs.WordLaws.{after-append, letters_back, take_from_under, word_rest}
use Rattle.ht_pair.specs.Pairs.{IsPair}
use Rattle.ht_pair.specs.Steps.{Carries}
use Rattle.ht_pair.specs.declared.row.Row.{Row}
use Rattle.ht_pair.proofs.CarriesLaws.{carries_word, carries_extends, carries_back, carries_sum}
use Rattle.ht_flow.specs.Rounds.{BeginsTimes}

-- what std's test says where it finds the front
pub front_stripped : (left by more : List ℕ) → pointwise eqb (take (length by) left) by ≡ true → more ≡ drop (length by) left → left ≡ by ++ more
front_stripped left by more test is = sym (take-append-drop (length by) left) ∙ ap (λ t. t ++ drop (length by) left) ((bytes_decides (take (length by) left) by).0 test) ∙ ap (λ t. by ++ t) (sym is)

-- and where it doesn't
pub front_absent : (left by rest : List ℕ) → pointwise eqb (take (length by) left) by ≡ false → left ≢ by ++ rest
front_absent left by rest test e =
    let root : List ℕ → Word = λ z. record { root = 1; letters = z } in
    true≢false (sym ((bytes_decides (take (length by) left) by).1 (take_from_under (root left) (root by) (record { rest = rest; is = ap root e }))) ∙ test)

-- once more
pub begins_more : (k : ℕ) (by z left more : List ℕ) → BeginsTimes k by z left → left ≡ by ++ more → BeginsTimes (k + 1) by z more
begins_more k by z left more b e = subst (λ n. BeginsTimes n by z more) (let s : suc k ≡ k + 1 = omega arith in s) (subst (BeginsTimes k by z) e b)

pub some_shorter : (by left more : List ℕ) → by ≢ [] → left ≡ by ++ more → length more < length left
some_shorter [] left more some e = absurd (some refl)
some_shorter (a ∷ by) left more some e = omega (arith, length-append (a ∷ by) more, ap (λ (z : List ℕ). length z) e)

-- what is carried under x, whose letters are put behind it by m steps, is carried so many rounds before it without them
pub stripped_carries : (shape : Shape) (p : List Row) → IsPair shape p → (m : ℕ) (u x : Word) (by : List ℕ) → Carries shape p (pos m) x (x · by) → (k : ℕ) (i : ℤ) (z rest : List ℕ) → BeginsTimes k by z rest → Carries shape p i u (x · z) → Carries shape p (i -ℤ pos (k * m)) u (x · rest)
stripped_carries shape p pair m u x by grows zero i z rest b c = subst (λ j. Carries shape p j u (x · rest)) (let e : i ≡ i -ℤ pos (0 * m) = omega (arith, ints) in e) (subst (λ t. Carries shape p i u (x · t)) b c)
stripped_carries shape p pair m u x by grows (suc k) i z rest b c =
    let before = stripped_carries shape p pair m u x by grows k i z (by ++ rest) b c in
    let hr = letters_back shape by rest (word_rest shape x (by ++ rest) (carries_word shape p pair (i -ℤ pos (k * m)) u (x · (by ++ rest)) before)) in
    let back : Carries shape p (neg_ℤ (pos m)) (x · (by ++ rest)) (x · rest) = carries_back shape p pair (pos m) (x · rest) (x · (by ++ rest)) (subst (Carries shape p (pos m) (x · rest)) (after-append x by rest) (carries_extends shape p (pos m) x (x · by) rest hr grows)) in
    carries_sum shape p pair (i -ℤ pos (k * m)) (neg_ℤ (pos m)) (i -ℤ pos (suc k * m)) (omega (arith, ints)) u (x · (by ++ rest)) (x · rest) before back
