-- Properties of words that powers carry along, and that rise from any word to the long words above it: they rise to the infinite words of a
-- semi-normal basis, and go along its atoms.
use Rattle.std.proofs.Common.{◌≡◌, ℕ, zero, suc, ◌≤◌, List, ◌++◌, length, sym, ap, ◌∙◌, subst, arith, Contains, ℤ, pos, neg_ℤ, ◌+ℤ◌, refl}
use Rattle.ht_word.specs.Words.{◌·◌, IsLetters, IsUnder, IsWordOf}
use Rattle.ht_word.specs.declared.shape.Shape.{Shape}
use Rattle.ht_word.specs.declared.word.Word.{Word}
use Rattle.ht_word.proofs.WordLaws.{after-append, after-nil, length-after, length-ones, ones, ones_letters, word_rest}
use Rattle.ht_pair.specs.Atoms.{IsAtom, IsInfiniteWord, words_at}
use Rattle.ht_pair.specs.Kinds.{Lengthens}
use Rattle.ht_pair.specs.Pairs.{IsPair}
use Rattle.ht_pair.specs.Repeats.{repeated}
use Rattle.ht_pair.specs.Steps.{Carries}
use Rattle.ht_pair.specs.declared.row.Row.{Row}
use Rattle.ht_pair.proofs.CarriesLaws.{carries_back, carries_extends, carries_itself, carries_sum, carries_word}
use Rattle.ht_pair.proofs.KindLaws.{length-repeated}
use Rattle.ht_types.proofs.AttractorLaws.{repeated_next, repeated_none}
use Rattle.ht_types.proofs.TurnLaws.{HasSemiNormal}
use Rattle.ht_pieces.specs.Pieces.{IsInside}
use Rattle.ht_pieces.proofs.Anchors.{anchored}
use Rattle.ht_pieces.proofs.KeptAtoms.{atom_words}
use Rattle.ht_pieces.proofs.LinkedWords.{GoesAlong, along_atom}

-- P goes along with powers and to the words under a word, and rises to the words above that are long enough
pub record Rises (shape : Shape) (p : List Row) (P : Word → Type 0) : Type 0 where
  pub word : (u : Word) → P u → IsWordOf shape u
  pub extends : (u : Word) (z : List ℕ) → P u → IsLetters shape z → P (u · z)
  pub carried : (i : ℤ) (u v : Word) → P u → Carries shape p i u v → P v
  pub bound : ℕ
  pub above : (u : Word) (z : List ℕ) → P (u · z) → bound ≤ length u.letters → P u

-- a word that some power lengthens, lengthened again and again
record IsLengthened (shape : Shape) (p : List Row) (x : Word) (G : List ℕ) (s : ℕ) : Type 0 where
  power : ℤ
  carries : Carries shape p power x (x · repeated s G)

lengthened_often : {shape : Shape} {p : List Row} → IsPair shape p → (i : ℤ) (x : Word) (G : List ℕ) → Carries shape p i x (x · G)
    → (s : ℕ) → IsLengthened shape p x G s
lengthened_often {shape} {p} pair i x G c zero =
    let none : x ≡ x · repeated 0 G = sym (after-nil x) ∙ ap (λ t. x · t) (sym (repeated_none G)) in
    record { power = pos 0; carries = subst (Carries shape p (pos 0) x) none (carries_itself shape p x c.word) }
lengthened_often {shape} {p} pair i x G c (suc s) =
    let r = lengthened_often pair i x G c s in
    let y = repeated s G in
    let hG = word_rest shape x G (carries_word shape p pair i x (x · G) c) in
    let there : (x · y) · G ≡ x · repeated (suc s) G = after-append x y G ∙ ap (λ t. x · t) (sym (repeated_next s G)) in
    let on = subst (Carries shape p r.power (x · G)) there (carries_extends shape p r.power x (x · y) G hG r.carries) in
    record { power = i +ℤ r.power; carries = carries_sum shape p pair i r.power (i +ℤ r.power) refl x (x · G) (x · repeated (suc s) G) c on }

module _ {shape : Shape} {p : List Row} {X : List Word} {P : Word → Type 0} (h : HasSemiNormal shape p X) (r : Rises shape p P) where
  -- it rises to a word that some power lengthens: the power carries it under the word lengthened often, it rises there, and comes back
  at_end : (i : ℤ) (x : Word) (G z : List ℕ) → Lengthens shape p i x G → P (x · z) → P x
  at_end i x G z grows a =
      let l = lengthened_often h.pair i x G grows.1 r.bound in
      let y = repeated r.bound G in
      let hz = word_rest shape x z (r.word (x · z) a) in
      let far : P ((x · y) · z) = r.carried l.power (x · z) ((x · y) · z) a (carries_extends shape p l.power x (x · y) z hz l.carries) in
      let near : P (x · y) = r.above (x · y) z far (omega (arith, length-after x y, length-repeated r.bound G grows.0)) in
      r.carried (neg_ℤ l.power) (x · y) x near (carries_back shape p h.pair l.power x (x · y) l.carries)

  -- to each infinite word: by way of the end that some power carries it under
  pub rises_to : (u x : Word) → IsInfiniteWord shape p X x → IsUnder u x → P u → P x
  rises_to u x infinite under a =
      let w = anchored h x infinite in
      let y = w.end · w.letters in
      let z = under.rest in
      let below : P (x · z) = subst P under.is a in
      let hz = word_rest shape x z (r.word (x · z) below) in
      let hy = word_rest shape w.end w.letters (carries_word shape p h.pair w.steps x y w.carries) in
      let far : P (y · z) = r.carried w.steps (x · z) (y · z) below (carries_extends shape p w.steps x y z hz w.carries) in
      let end = at_end w.round w.end w.by (w.letters ++ z) w.lengthens (subst P (after-append w.end w.letters z) far) in
      r.carried (neg_ℤ w.steps) y x (r.extends w.end w.letters end hy) (carries_back shape p h.pair w.steps x y w.carries)

  -- where a power leads from under a word to under an infinite word
  over : (i : ℤ) (t y u v : Word) → P t → IsInfiniteWord shape p X y → IsUnder u t → Carries shape p i u v → IsUnder v y → P y
  over i t y u v a infinite under carries above =
      let hz = word_rest shape t under.rest (subst (IsWordOf shape) under.is carries.word) in
      rises_to v y infinite above (r.carried i u v (subst P (sym under.is) (r.extends t under.rest a hz)) carries)

  rises_goes : GoesAlong shape p X P
  rises_goes = record {
    ahead = λ t y a infinite link. over (pos 1) t y link.from link.to a infinite link.under_first link.carries link.under_second;
    behind = λ t y a infinite link.
        let back = carries_back shape p h.pair (pos 1) link.from link.to link.carries in
        over (neg_ℤ (pos 1)) t y link.to link.from a infinite link.under_second back link.under_first;
  }

  -- and from any word inside an atom to each word of the atom
  pub rises_in_atom : {places : List ℕ} → IsAtom shape p X places → (u x : Word) → IsInside shape (words_at X places) u → P u
      → Contains (words_at X places) x → P x
  rises_in_atom atom u x d a c =
      let y = ones d.letters in
      let hy = ones_letters shape d.letters in
      let s = d.under y hy (omega (arith, length-ones d.letters)) in
      along_atom rises_goes atom s.above x s.listed c (rises_to (u · y) s.above (atom_words atom s.above s.listed) s.under (r.extends u y a hy))
