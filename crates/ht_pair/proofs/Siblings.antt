-- Child rows of one row among rows in order: no cone lies between two neighbours, so they stand next to each other.
use Rattle.std.proofs.Common.{◌≡◌, ℕ, zero, suc, ◌≤◌, inl, inr, List, [], ◌∷◌, ◌++◌, sym, ap, ◌∙◌, subst, append_assoc, append-nil, arith, All, AllPairs, Contains}
use Rattle.std.proofs.lemmas.List.Elements.{Contains-append_left, Contains-append_right}
use Rattle.ht_word.specs.declared.word.Word.{Word}
use Rattle.ht_word.specs.declared.shape.Shape.{Shape}
use Rattle.ht_word.specs.Words.{child, IsWordOf}
use Rattle.ht_word.proofs.WordLaws.{after_cancel, All-from_contains}
use Rattle.ht_word.proofs.ListLaws.{Contains-here, contained_in_map, AllPairs-left, AllPairs-across}
use Rattle.ht_pair.specs.declared.row.Row.{Row}
use Rattle.ht_pair.specs.Pairs.{from_words}
use Rattle.ht_pair.specs.Actions.{child_row}
use Rattle.ht_pair.specs.Merges.{child_rows}
use Rattle.ht_pair.proofs.ConeOrder.{IsBefore, none_between, child_follows}
use Rattle.ht_pair.proofs.Sequences.{has_last, in_front_or}

-- rows of the shape, each `from` cone before those of the later rows
pub record AreOrdered (shape : Shape) (p : List Row) : Type 0 where
  pub words : (row : Row) → Contains p row → IsWordOf shape row.from
  pub before : AllPairs (λ (x : Row) (y : Row). IsBefore x.from y.from) p

-- their `from` words as a list
pub ordered_words : (shape : Shape) (p : List Row) → AreOrdered shape p → All (IsWordOf shape) (from_words p)
ordered_words shape p h = All-from_contains (IsWordOf shape) (from_words p) (λ w c. let g = contained_in_map (λ (t : Row). t.from) p w c in subst (IsWordOf shape) g.2 (h.words g.0 g.1))

pub ordered_front : (shape : Shape) (p q : List Row) → AreOrdered shape (p ++ q) → AreOrdered shape p
ordered_front shape p q h = record {
  words = λ row c. h.words row (Contains-append_left p q row c);
  before = AllPairs-left (λ (x : Row) (y : Row). IsBefore x.from y.from) p q h.before;
}

-- all rows are before the last one
pub before_last : (shape : Shape) (p : List Row) (last : Row) → AreOrdered shape (p ++ last ∷ []) → (row : Row) → Contains p row → IsBefore row.from last.from
before_last shape p last h row c = AllPairs-across (λ (x : Row) (y : Row). IsBefore x.from y.from) p (last ∷ []) h.before row last c (Contains-here last [])

-- the last rows of p are q
pub record EndsWith (p q : List Row) : Type 0 where
  pub before : List Row
  pub is : p ≡ before ++ q

-- child rows of one row are told apart by their letters
pub same_letter : (u v : Word) (a b : ℕ) → child_row u v a ≡ child_row u v b → a ≡ b
same_letter u v a b e = let letters : a ∷ [] ≡ b ∷ [] = after_cancel u (a ∷ []) (b ∷ []) (ap (λ (row : Row). row.from) e) in cc

-- no cone lies between those of the children by suc k and by suc (suc k)
last_sibling : (shape : Shape) (u v : Word) (k : ℕ) (p : List Row) (last : Row) → AreOrdered shape (p ++ last ∷ []) → Contains (p ++ last ∷ []) (child_row u v (suc k)) → IsBefore last.from (child u (suc (suc k))) → last ≡ child_row u v (suc k)
last_sibling shape u v k p last ordered listed below = elim (in_front_or p last (child_row u v (suc k)) listed) [
  | inr e ↦ e
  | inl c ↦ (let word = ordered.words last (Contains-append_right p (last ∷ []) last (Contains-here last [])) in
      absurd (none_between shape (child u (suc k)) (child u (suc (suc k))) last.from word (child_follows shape u (suc k)) (before_last shape p last ordered (child_row u v (suc k)) c) below))
]

-- the child rows by 1 to k among rows whose cones are all before the child by k + 1 are the last rows
pub siblings_last : (shape : Shape) (u v : Word) (k : ℕ) (p : List Row) → AreOrdered shape p → ((c : ℕ) → 1 ≤ c → c ≤ k → Contains p (child_row u v c)) → ((row : Row) → Contains p row → IsBefore row.from (child u (suc k))) → EndsWith p (child_rows u v k)
siblings_last shape u v zero p ordered listed below = record { before = p; is = sym (append-nil p) }
siblings_last shape u v (suc k) p ordered listed below =
    let own = child_row u v (suc k) in
    let own_listed = listed (suc k) (omega arith) (omega arith) in
    let h = has_last p own own_listed in
    let last_listed = subst (λ t. Contains t h.last) (sym h.is) (Contains-append_right h.front (h.last ∷ []) h.last (Contains-here h.last [])) in
    let last_is = last_sibling shape u v k h.front h.last (subst (AreOrdered shape) h.is ordered) (subst (λ t. Contains t own) h.is own_listed) (below h.last last_listed) in
    let is : p ≡ h.front ++ own ∷ [] = h.is ∙ ap (λ t. h.front ++ t ∷ []) last_is in
    let ordered_so = subst (AreOrdered shape) is ordered in
    let rest = siblings_last shape u v k h.front (ordered_front shape h.front (own ∷ []) ordered_so)
    (λ c low high. elim (in_front_or h.front own (child_row u v c) (subst (λ t. Contains t (child_row u v c)) is (listed c low (omega arith)))) [
      | inl s ↦ s
      | inr e ↦ absurd (omega (arith, same_letter u v (suc k) c e))
    ])
    (before_last shape h.front own ordered_so) in
    record { before = rest.before; is = is ∙ ap (λ t. t ++ own ∷ []) rest.is ∙ append_assoc rest.before (child_rows u v k) (own ∷ []) }
