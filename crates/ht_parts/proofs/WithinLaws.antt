-- A pair that moves the words under some words of a basis among themselves moves them so on its own: with the other words kept it is a bijection of the
-- long enough words, so its rows are a pair.
use Rattle.std.proofs.Common.{◌≡◌, ℕ, ◌+◌, ◌≤◌, ◌⊎◌, inl, inr, List, length, refl, sym, ap, ◌∙◌, subst, arith, Contains, pos, negsuc, le_refl}
use Rattle.std.proofs.lemmas.List.Elements.{All-contains}
use Rattle.ht_word.specs.Words.{IsWordOf, ◌·◌, IsUnder, IsUnderSome}
use Rattle.ht_word.specs.declared.shape.Shape.{Shape}
use Rattle.ht_word.specs.declared.word.Word.{Word}
use Rattle.ht_word.proofs.WordLaws.{under_after, under_trans}
use Rattle.ht_pair.specs.Actions.{Moves}
use Rattle.ht_pair.specs.Bases.{longest, IsBasis}
use Rattle.ht_pair.specs.Pairs.{IsPair}
use Rattle.ht_pair.specs.Parts.{IsSelected, MovesOnly}
use Rattle.ht_pair.specs.SemiNormal.{IsSemiNormal}
use Rattle.ht_pair.specs.Kinds.{IsCycleWord}
use Rattle.ht_pair.specs.declared.row.Row.{Row}
use Rattle.ht_pair.proofs.BasisLaws.{some_at, basis_holds, basis_single}
use Rattle.ht_pair.proofs.CarriesLaws.{carries_from_steps, carries_back}
use Rattle.ht_pair.proofs.MovesLaws.{moves_extends, moves_map}
use Rattle.ht_pair.proofs.PrefixMapLaws.{back, IsPrefixMap, RowsOf, length-carried, rows_move, rows_basis}
use Rattle.ht_types.proofs.PeriodicLaws.{cycle_kept}
use Rattle.ht_parts.specs.PartRows.{IsOther, IsUnderSuch, MovesWithin, ArePartRows}

-- each word of X has P or Q, and words under those with P are moved to words under those with P alone, and from them alone
pub record IsSplit (shape : Shape) (p : List Row) (X : List Word) (P Q : Word → Type 0) : Type 0 where
  pub basis : IsBasis shape X
  pub either : (x : Word) → Contains X x → P x ⊎ Q x
  pub never : (x : Word) → P x → Q x → ⊥
  pub ahead : (u v : Word) → IsWordOf shape u → Moves p u v → IsUnderSuch P X u → IsUnderSome v X → IsUnderSuch P X v
  pub behind : (u v : Word) → IsWordOf shape u → Moves p u v → IsUnderSuch P X v → IsUnderSome u X → IsUnderSuch P X u

-- ---- words under such words

such_at : (P : Word → Type 0) (X : List Word) (s : Word) (u : Word) → Contains X s → P s → IsUnder u s → IsUnderSuch P X u
such_at P X s u c h under = record { above = s; listed = c; such = h; under = under }

such_extends : (P : Word → Type 0) (X : List Word) (u : Word) (z : List ℕ) → IsUnderSuch P X u → IsUnderSuch P X (u · z)
such_extends P X u z s = record { above = s.above; listed = s.listed; such = s.such; under = under_trans (under_after u z) s.under }

such_some : (P : Word → Type 0) (X : List Word) (u : Word) → IsUnderSuch P X u → IsUnderSome u X
such_some P X u s = some_at X s.above u s.listed s.under

-- no word is under a word with P and under one with Q
such_once : (shape : Shape) (p : List Row) (X : List Word) (P Q : Word → Type 0) → IsSplit shape p X P Q → (u : Word) → IsUnderSuch P X u → IsUnderSuch Q X u → ⊥
such_once shape p X P Q split u s t = split.never s.above s.such (subst Q (basis_single shape X split.basis u t.above s.above t.listed s.listed t.under s.under) t.such)

-- a word under X is under one of either
such_either : (shape : Shape) (p : List Row) (X : List Word) (P Q : Word → Type 0) → IsSplit shape p X P Q → (u : Word) → IsUnderSome u X → IsUnderSuch P X u ⊎ IsUnderSuch Q X u
such_either shape p X P Q split u s = elim (split.either s.above s.listed) [
  | inl h ↦ inl (such_at P X s.above u s.listed h s.under)
  | inr h ↦ inr (such_at Q X s.above u s.listed h s.under)
]

-- P and Q exchanged
pub split_turned : (shape : Shape) (p : List Row) (X : List Word) (P Q : Word → Type 0) → IsSplit shape p X P Q → IsSplit shape p X Q P
split_turned shape p X P Q split = record {
  basis = split.basis;
  either = λ x c. elim (split.either x c) [ inl h ↦ inr h | inr h ↦ inl h ];
  never = λ x h g. split.never x g h;
  ahead = λ u v h m s some. elim (such_either shape p X P Q split v some) [
    | inl t ↦ absurd (such_once shape p X P Q split u (split.behind u v h m t (such_some Q X u s)) s)
    | inr t ↦ t
  ];
  behind = λ u v h m s some. elim (such_either shape p X P Q split u some) [
    | inl t ↦ absurd (such_once shape p X P Q split v (split.ahead u v h m t (such_some Q X v s)) s)
    | inr t ↦ t
  ];
}

-- the cycle words of a semi-normal basis and the others
pub cycle_split : (shape : Shape) (p : List Row) → IsPair shape p → (X : List Word) → IsSemiNormal shape p X → ((x : Word) → Contains X x → IsCycleWord shape p x ⊎ ¬ IsCycleWord shape p x) → IsSplit shape p X (IsCycleWord shape p) (IsOther shape p)
cycle_split shape p pair X semi told = record {
  basis = semi.basis;
  either = told;
  never = λ x h other. other h;
  ahead = λ u v h m s some. such_at (IsCycleWord shape p) X some.above v some.listed
      (cycle_kept shape p pair X semi (pos 1) u v s.above some.above s.listed some.listed s.under some.under (carries_from_steps shape p pair (pos 1) u v h (u, refl, m)) s.such) some.under;
  behind = λ u v h m s some. such_at (IsCycleWord shape p) X some.above u some.listed
      (cycle_kept shape p pair X semi (negsuc 0) v u s.above some.above s.listed some.listed s.under some.under (carries_back shape p pair (pos 1) u v (carries_from_steps shape p pair (pos 1) u v h (u, refl, m))) s.such) some.under;
}

-- ---- the moves of a part

within_extends : (p : List Row) (X : List Word) (P Q : Word → Type 0) (u v : Word) (z : List ℕ) → MovesWithin p X P Q u v → MovesWithin p X P Q (u · z) (v · z)
within_extends p X P Q u v z f = elim f [
  | inl h ↦ inl (such_extends P X u z h.0, moves_extends p u v z h.1)
  | inr h ↦ inr (such_extends Q X u z h.0, ap (λ t. t · z) h.1)
]

within_word : (shape : Shape) (p : List Row) → IsPair shape p → (X : List Word) (P Q : Word → Type 0) (u v : Word) → IsWordOf shape u → MovesWithin p X P Q u v → IsWordOf shape v
within_word shape p pair X P Q u v h f = elim f [
  | inl m ↦ (moves_map shape p pair).ahead.word u v h m.1
  | inr k ↦ subst (IsWordOf shape) k.1 h
]

within_single : (shape : Shape) (p : List Row) → IsPair shape p → (X : List Word) (P Q : Word → Type 0) → IsSplit shape p X P Q → (u v v' : Word) → IsWordOf shape u → MovesWithin p X P Q u v → MovesWithin p X P Q u v' → v ≡ v'
within_single shape p pair X P Q split u v v' h f g = elim f [
  | inl m ↦ elim g [
    | inl n ↦ (moves_map shape p pair).ahead.single u v v' h m.1 n.1
    | inr k ↦ absurd (such_once shape p X P Q split u m.0 k.0)
  ]
  | inr k ↦ elim g [
    | inl m ↦ absurd (such_once shape p X P Q split u m.0 k.0)
    | inr l ↦ sym k.1 ∙ l.1
  ]
]

within_total : (shape : Shape) (p : List Row) → (pair : IsPair shape p) → (X : List Word) (P Q : Word → Type 0) → IsSplit shape p X P Q → (u : Word) → IsWordOf shape u → (moves_map shape p pair).ahead.bound + longest X ≤ length u.letters → (v : Word) × MovesWithin p X P Q u v
within_total shape p pair X P Q split u h long = elim (such_either shape p X P Q split u (basis_holds shape X split.basis u h (omega arith))) [
  | inl s ↦ (let m = (moves_map shape p pair).ahead.total u h (omega arith) in (m.0, inl (s, m.1)))
  | inr s ↦ (u, inr (s, refl))
]

-- backwards: the word is of the shape
back_word : (shape : Shape) (p : List Row) → IsPair shape p → (X : List Word) (P Q : Word → Type 0) (v u : Word) → IsWordOf shape v → MovesWithin p X P Q u v → IsWordOf shape u
back_word shape p pair X P Q v u h f = elim f [
  | inl m ↦ (moves_map shape p pair).behind.word v u h m.1
  | inr k ↦ subst (IsWordOf shape) (sym k.1) h
]

-- no word under a word with P is moved to one that is kept
never_meet : (shape : Shape) (p : List Row) → IsPair shape p → (X : List Word) (P Q : Word → Type 0) → IsSplit shape p X P Q → (u v : Word) → IsWordOf shape v → IsUnderSuch P X u → Moves p u v → IsUnderSuch Q X v → ⊥
never_meet shape p pair X P Q split u v h s m t = such_once shape p X P Q split v (split.ahead u v ((moves_map shape p pair).behind.word v u h m) m s (such_some Q X v t)) t

back_single : (shape : Shape) (p : List Row) → IsPair shape p → (X : List Word) (P Q : Word → Type 0) → IsSplit shape p X P Q → (v u u' : Word) → IsWordOf shape v → MovesWithin p X P Q u v → MovesWithin p X P Q u' v → u ≡ u'
back_single shape p pair X P Q split v u u' h f g = elim f [
  | inl m ↦ elim g [
    | inl n ↦ (moves_map shape p pair).behind.single v u u' h m.1 n.1
    | inr k ↦ absurd (never_meet shape p pair X P Q split u v h m.0 m.1 (subst (IsUnderSuch Q X) k.1 k.0))
  ]
  | inr k ↦ elim g [
    | inl m ↦ absurd (never_meet shape p pair X P Q split u' v h m.0 m.1 (subst (IsUnderSuch Q X) k.1 k.0))
    | inr l ↦ k.1 ∙ sym l.1
  ]
]

back_total : (shape : Shape) (p : List Row) → (pair : IsPair shape p) → (X : List Word) (P Q : Word → Type 0) → IsSplit shape p X P Q → (v : Word) → IsWordOf shape v → (moves_map shape p pair).behind.bound + longest X ≤ length v.letters → (u : Word) × MovesWithin p X P Q u v
back_total shape p pair X P Q split v h long =
    let behind = (moves_map shape p pair).behind in
    elim (such_either shape p X P Q split v (basis_holds shape X split.basis v h (omega arith))) [
      | inr s ↦ (v, inr (s, refl))
      | inl s ↦
          let m = behind.total v h (omega arith) in
          let hu = behind.word v m.0 h m.1 in
          let some = basis_holds shape X split.basis m.0 hu (length-carried shape (back (Moves p)) behind v m.0 (longest X) h long m.1) in
          (m.0, inl (split.behind m.0 v hu m.1 s some, m.1))
    ]

-- the moves of a part are a bijection of the long enough words
pub within_map : (shape : Shape) (p : List Row) → IsPair shape p → (X : List Word) (P Q : Word → Type 0) → IsSplit shape p X P Q → IsPrefixMap shape (MovesWithin p X P Q)
within_map shape p pair X P Q split = record {
  ahead = record {
    extends = within_extends p X P Q;
    word = within_word shape p pair X P Q;
    single = within_single shape p pair X P Q split;
    bound = (moves_map shape p pair).ahead.bound + longest X;
    total = within_total shape p pair X P Q split;
  };
  behind = record {
    extends = λ v u z f. within_extends p X P Q u v z f;
    word = back_word shape p pair X P Q;
    single = back_single shape p pair X P Q split;
    bound = (moves_map shape p pair).behind.bound + longest X;
    total = back_total shape p pair X P Q split;
  };
}

-- ---- the rows of a part

-- rows of the relation
abbrev rows_within : (p : List Row) (X : List Word) (P Q : Word → Type 0) (U : List Word) (rows : List Row) → ArePartRows p X P Q U rows → RowsOf (MovesWithin p X P Q) U
rows_within p X P Q U rows are = record { rows = rows; from_is = are.from; by = λ row c. All-contains (λ (t : Row). MovesWithin p X P Q t.from t.to) rows row are.moved c }

-- from the words of a basis they are a pair
pub part_pair : (shape : Shape) (p : List Row) → IsPair shape p → (X : List Word) (P Q : Word → Type 0) → IsSplit shape p X P Q → (U : List Word) (rows : List Row) → IsBasis shape U → ArePartRows p X P Q U rows → IsPair shape rows
part_pair shape p pair X P Q split U rows basis are = record {
  from = subst (IsBasis shape) (sym are.from) basis;
  to = rows_basis shape (MovesWithin p X P Q) (within_map shape p pair X P Q split) (longest U) U basis (le_refl (longest U)) (rows_within p X P Q U rows are);
}

-- a word under a list of the words with a property is under a word with it
selected_such : (P : Word → Type 0) (X V : List Word) (u : Word) → IsSelected P X V → IsUnderSome u V → IsUnderSuch P X u
selected_such P X V u selected s = let here = (selected.same s.above).0 s.listed in such_at P X s.above u here.0 here.1 s.under

-- it moves words under those with P as the pair does, and no others
pub part_moves : (shape : Shape) (p : List Row) → IsPair shape p → (X : List Word) (P Q : Word → Type 0) → IsSplit shape p X P Q → (U : List Word) (rows : List Row) → IsBasis shape U → ArePartRows p X P Q U rows
    → (V W : List Word) → IsSelected P X V → IsSelected Q X W → MovesOnly shape p V W rows
part_moves shape p pair X P Q split U rows basis are V W selected others = record {
  pair = part_pair shape p pair X P Q split U rows basis are;
  on = λ u v v' h s m n. within_single shape p pair X P Q split u v v' h (inl (selected_such P X V u selected s, m)) (moved u v' n);
  off = λ u v h s n. within_single shape p pair X P Q split u u v h (inr (selected_such Q X W u others s, refl)) (moved u v n);
}
  where
    moved : (u v : Word) → Moves rows u v → MovesWithin p X P Q u v
    moved = rows_move shape (MovesWithin p X P Q) (within_map shape p pair X P Q split).ahead U (rows_within p X P Q U rows are)
