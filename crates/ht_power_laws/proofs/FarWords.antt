-- Words under the infinite part, X being a semi-normal basis of p: where steps lead from them, once they are long enough; and what is carried
-- whatever letters are behind it.
use Rattle.std.proofs.Common.{◌≡◌, ℕ, ◌+◌, ◌≤◌, ℤ, List, [], ◌++◌, length, sym, ◌∙◌, subst, subst₂, arith}
use Rattle.std.proofs.lemmas.List.{length-append}
use Rattle.std.proofs.lemmas.List.Elements.{All-nil}
use Rattle.ht_word.specs.Words.{◌·◌, IsLetter, IsLetters, IsUnderSome, IsWordOf}
use Rattle.ht_word.specs.declared.shape.Shape.{Shape}
use Rattle.ht_word.specs.declared.word.Word.{Word}
use Rattle.ht_word.proofs.WordLaws.{after-append, after-nil, after_cancel_right, length-ones, letters_append, ones, ones_letters, under_after, under_trans}
use Rattle.ht_pair.specs.Bases.{longest}
use Rattle.ht_pair.specs.Pairs.{IsPair, turned}
use Rattle.ht_pair.specs.Steps.{Carries, Steps}
use Rattle.ht_pair.specs.declared.row.Row.{Row}
use Rattle.ht_pair.proofs.BasisLaws.{basis_holds}
use Rattle.ht_pair.proofs.CarriesLaws.{carries_from_steps}
use Rattle.ht_pair.proofs.PrefixMapLaws.{length-carried}
use Rattle.ht_pair.proofs.StepsLaws.{steps_map}
use Rattle.ht_quasi.proofs.MirrorLaws.{mirrors_back}
use Rattle.ht_types.specs.Flows.{IsUnderInfinite}
use Rattle.ht_types.proofs.FlowLaws.{mirrored_infinite, turned_base}
use Rattle.ht_types.proofs.MirrorLaws.{turned_mirrors}
use Rattle.ht_types.proofs.TurnLaws.{HasSemiNormal, infinite_kept}

-- letters behind a word keep it there
pub longer_infinite : {shape : Shape} {p : List Row} {X : List Word} {u : Word} → IsUnderInfinite shape p X u → (z : List ℕ) → IsUnderInfinite shape p X (u · z)
longer_infinite {u = u} under z =
    record { above = under.above; infinite = under.infinite; under = under_trans (under_after u z) under.under }

-- what steps lead to from there is there, where it is under X
pub moved_infinite : {shape : Shape} {p : List Row} {X : List Word} → HasSemiNormal shape p X → (k : ℤ) (u v : Word)
    → IsUnderInfinite shape p X u → IsUnderSome v X → Carries shape p k u v → IsUnderInfinite shape p X v
moved_infinite {shape} {p} h k u v from to carries = record {
  above = to.above;
  infinite = infinite_kept h k from.above to.above from.under.rest to.under.rest from.infinite to.listed
      (subst₂ (Carries shape p k) from.under.is to.under.is carries);
  under = to.under;
}

-- the turned rows have the same infinite part
pub turned_infinite : {shape : Shape} {p : List Row} {X : List Word} {u : Word} → HasSemiNormal shape p X → IsUnderInfinite shape p X u
    → IsUnderInfinite shape (turned p) X u
turned_infinite {shape} {p} h under = record {
  above = under.above;
  infinite = mirrored_infinite h (turned_mirrors shape p h.pair) under.above under.infinite;
  under = under.under;
}

pub infinite_of_turned : {shape : Shape} {p : List Row} {X : List Word} {u : Word} → HasSemiNormal shape p X → IsUnderInfinite shape (turned p) X u
    → IsUnderInfinite shape p X u
infinite_of_turned {shape} {p} h under = record {
  above = under.above;
  infinite = mirrored_infinite (turned_base h) (mirrors_back (turned_mirrors shape p h.pair)) under.above under.infinite;
  under = under.under;
}

-- k steps lead from u to a word there with so many letters
pub record LeadsFar (shape : Shape) (p : List Row) (X : List Word) (k : ℤ) (u : Word) (size : ℕ) : Type 0 where
  pub to : Word
  pub word : IsWordOf shape to
  pub carries : Carries shape p k u to
  pub long : size ≤ length to.letters
  pub infinite : IsUnderInfinite shape p X to

-- so they do from each word there with as many letters as this
abbrev pub far_bound : {shape : Shape} {p : List Row} {X : List Word} → HasSemiNormal shape p X → ℤ → ℕ → ℕ
far_bound {shape} {p} {X} h k size = (steps_map shape p h.pair k).ahead.bound + (size + longest X)

pub leads_far : {shape : Shape} {p : List Row} {X : List Word} (h : HasSemiNormal shape p X) (k : ℤ) (size : ℕ) (u : Word) → IsWordOf shape u
    → far_bound h k size ≤ length u.letters → IsUnderInfinite shape p X u → LeadsFar shape p X k u size
leads_far {shape} {p} {X} h k size u word long under =
    let m = (steps_map shape p h.pair k).ahead in
    let w = m.total u word (omega arith) in
    let far : size + longest X ≤ length w.0.letters = length-carried shape (Steps p k) m u w.0 (size + longest X) word long w.1 in
    let hw = m.word u w.0 word w.1 in
    let carries = carries_from_steps shape p h.pair k u w.0 word w.1 in
    record {
      to = w.0;
      word = hw;
      carries = carries;
      long = omega arith;
      infinite = moved_infinite h k u w.0 under (basis_holds shape X h.semi.basis w.0 hw (omega arith)) carries;
    }

-- a word is carried to another where it is so with all letters behind both, if these are many enough
pub carries_behind : (shape : Shape) (p : List Row) → IsPair shape p → (k : ℤ) (u v : Word) → IsWordOf shape u → (size : ℕ)
    → ((z : List ℕ) → IsLetters shape z → size ≤ length z → Carries shape p k (u · z) (v · z)) → Carries shape p k u v
carries_behind shape p pair k u v word size each = record {
  word = word;
  carried = λ z w hz s.
      let y = ones size in
      let zy = z ++ y in
      let there : Steps p k ((u · z) · y) (w · y) = (steps_map shape p pair k).ahead.extends (u · z) w y s in
      let long : Steps p k ((u · zy) · []) (w · y) = subst (λ t. Steps p k t (w · y)) (after-append u z y ∙ sym (after-nil (u · zy))) there in
      let c = each zy (letters_append shape z y hz (ones_letters shape size)) (omega (arith, length-append z y, length-ones size)) in
      let same : w · y ≡ (v · zy) · [] = c.carried [] (w · y) (All-nil (IsLetter shape)) long in
      after_cancel_right w (v · z) y (same ∙ after-nil (v · zy) ∙ sym (after-append v z y));
}
