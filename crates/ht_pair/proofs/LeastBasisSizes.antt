-- How many words the least semi-normal basis of a reduced pair may have.
use Rattle.std.proofs.Common.{◌≡◌, ℕ, zero, suc, ◌≤◌, ◌<◌, ◌+◌, ◌*◌, ◌^◌, List, [], ◌∷◌, length, refl, sym, ap, ◌∙◌, arith, Contains, pos}
use Rattle.std.specs.Prelude.{◌-◌}
use Rattle.std.proofs.Math.Nat.{pow-zero, pow-suc, le_of_mul-le-mul_left}
use Rattle.std.proofs.lemmas.List.{length-append, length-map}
use Rattle.ht_word.specs.Words.{◌·◌, IsWordOf, IsUnderSome}
use Rattle.ht_word.specs.declared.shape.Shape.{Shape}
use Rattle.ht_word.specs.declared.word.Word.{Word}
use Rattle.ht_word.proofs.ListLaws.{contained_in_map}
use Rattle.ht_word.proofs.WordLaws.{All-from_contains}
use Rattle.ht_pair.specs.Actions.{Moves, IsReduced}
use Rattle.ht_pair.specs.Bases.{longest, roots, IsBasis}
use Rattle.ht_pair.specs.Pairs.{from_words, IsPair}
use Rattle.ht_pair.specs.SemiNormal.{IsQuasinormal}
use Rattle.ht_pair.specs.Steps.{Carries}
use Rattle.ht_pair.specs.declared.row.Row.{Row}
use Rattle.ht_pair.proofs.BasisLaws.{longest-roots, under_roots, basis_holds, basis_word, roots_basis, children_to, expand_all, words_of, words_of_basis, words_of_length}
use Rattle.ht_pair.proofs.BasisSizes.{length-roots}
use Rattle.ht_pair.proofs.CarriesLaws.{carries_word, carries_from_steps}
use Rattle.ht_pair.proofs.CountLaws.{no_fewer_below}
use Rattle.ht_pair.proofs.InnerNodeLaws.{inner_nodes}
use Rattle.ht_pair.proofs.LeastBasisLaws.{HasSplitWords, rounds}
use Rattle.ht_pair.proofs.Sequences.{length-each}

-- a word that is carried to no word has no row above it
inner_at_roots : (shape : Shape) (p : List Row) → IsPair shape p → (N : List Word) → ((w : Word) → IsWordOf shape w → ¬ IsUnderSome w (from_words p) → Contains N w) → HasSplitWords shape p (roots shape) N
unfolding HasSplitWords
inner_at_roots shape p pair N holds = λ u h s out. holds u h (λ above.
    let g = contained_in_map (λ (t : Row). t.from) p above.above above.listed in
    let v = g.0.to · above.under.rest in
    let m : Moves p u v = record { row = g.0; rest = above.under.rest; listed = g.1; from = above.under.is ∙ ap (λ (t : Word). t · above.under.rest) (sym g.2); to = refl } in
    let c : Carries shape p (pos 1) u v = carries_from_steps shape p pair (pos 1) u v h (u, refl, m) in
    out (record { to = v; carries = c; under = under_roots shape v (carries_word shape p pair (pos 1) u v c) }))

-- each word of a list by its children makes n times as many
length-expand_all : (shape : Shape) (X : List Word) → length (expand_all shape X) ≡ length X * shape.n
length-expand_all shape [] = omega arith
length-expand_all shape (x ∷ X) = omega (arith, length-append (children_to x shape.n) (expand_all shape X), length-expand_all shape X, length-each (λ a. x · (a ∷ [])) shape.n)

-- there are r · n^k words of k letters
length-words_of : (shape : Shape) (k : ℕ) → length (words_of shape k) ≡ shape.r * shape.n ^ k
length-words_of shape zero = omega (arith, length-roots shape.r, ap (λ j. shape.r * j) (pow-zero shape.n))
length-words_of shape (suc k) = length-expand_all shape (words_of shape k) ∙ ap (λ j. j * shape.n) (length-words_of shape k) ∙ omega (arith, ap (λ j. shape.r * j) (pow-suc shape.n k))

-- a basis with no word of more than k letters has at most so many words
short_basis : (shape : Shape) (V : List Word) (k : ℕ) → IsBasis shape V → longest V ≤ k → length V ≤ shape.r * shape.n ^ k
short_basis shape V k basis l =
    omega (
      arith,
      length-words_of shape k,
      no_fewer_below shape V (words_of shape k) basis (words_of_basis shape k) (All-from_contains (λ w. IsUnderSome w V) (words_of shape k) (λ w c.
          basis_holds shape V basis w (basis_word shape (words_of shape k) (words_of_basis shape k) w c) (omega (arith, words_of_length shape k w c)))),
    )

-- with d expansions of the roots to the `from` words, the least semi-normal basis has at most r · n^d words
pub quasinormal_size : (shape : Shape) (p : List Row) → IsPair shape p → IsReduced shape p → (X : List Word) → IsQuasinormal shape p X → (d : ℕ) → length p ≡ shape.r + d * (shape.n - 1) → length X ≤ shape.r * shape.n ^ d
quasinormal_size shape p pair reduced X q d e =
    let N = inner_nodes shape (from_words p) pair.from in
    let few : length N.0 ≤ d = fewer (length N.0) d (shape.n - 1) (length (from_words p)) shape.r N.2 (length-map p (λ (t : Row). t.from) ∙ e) (omega (arith, shape.letters_low)) in
    let V = rounds shape p pair reduced d (roots shape) N.0 (roots_basis shape) few (inner_at_roots shape p pair N.0 N.1)
    (λ W semi. All-from_contains (λ w. IsUnderSome w (roots shape)) W (λ w c. under_roots shape w (basis_word shape W semi.basis w c))) in
    let lower = no_fewer_below shape X V.0 q.semi_normal.basis V.1.semi_normal.basis (q.least V.0 V.1.semi_normal) in
    omega (arith, lower, short_basis shape V.0 d V.1.semi_normal.basis (omega (arith, V.2, longest-roots shape.r)))
  where
    fewer : (inner d each words r : ℕ) → r + inner * each ≤ words → words ≡ r + d * each → 0 < each → inner ≤ d
    fewer inner d each words r h e some = le_of_mul-le-mul_left {m = inner} {n = d} {k = each} (omega arith) some
