-- Each basis has an ascending list of the same words.
use Rattle.std.proofs.Common.{◌≡◌, ◌⊎◌, inl, inr, List, [], ◌∷◌, subst, Contains, All, AllPairs}
use Rattle.std.proofs.lemmas.List.Elements.{All-contains, All-nil}
use Rattle.std.specs.declared.cmp.Ordering.TheVariants.{Less}
use Rattle.ht_word.specs.Words.{IsWordOf, IsUnderSome, word_cmp, IsAscending}
use Rattle.ht_word.specs.declared.shape.Shape.{Shape}
use Rattle.ht_word.specs.declared.word.Word.{Word}
use Rattle.ht_word.proofs.ListLaws.{Contains-nil, Contains-here, Contains-there, Contains-cons_cases, AllPairs-head, AllPairs-tail, AllPairs-cons, AllPairs-nil, AllPairs-weaker}
use Rattle.ht_word.proofs.WordLaws.{All-from_contains}
use Rattle.ht_pair.specs.Bases.{AreApart, IsPrefixFree, longest, IsBasis}
use Rattle.ht_pair.proofs.BasisLaws.{basis_holds, basis_word, basis_from}
use Rattle.ht_pair.proofs.ConeOrder.{IsBefore, before_trans, before_less, before_apart, apart_before}

-- V has x and the words of W, each before the later ones
record IsInserted (x : Word) (W V : List Word) : Type 0 where
  order : AllPairs IsBefore V
  here : Contains V x
  kept : (y : Word) → Contains W y → Contains V y
  from : (y : Word) → Contains V y → (x ≡ y) ⊎ Contains W y

-- a word that is apart from words in order has its place among them
inserted : (x : Word) (W : List Word) → AllPairs IsBefore W → All (AreApart x) W → (V : List Word) × IsInserted x W V
inserted x [] order apart = (
  x ∷ [],
  record {
    order = AllPairs-cons IsBefore x [] (All-nil (IsBefore x)) (AllPairs-nil IsBefore);
    here = Contains-here x [];
    kept = λ y c. absurd (Contains-nil y c);
    from = λ y c. Contains-cons_cases x [] y c;
  },
)
inserted x (w ∷ W) order apart =
    let behind = AllPairs-head IsBefore w W order in
    elim (apart_before x w (All-contains (AreApart x) (w ∷ W) w apart (Contains-here w W))) [
      | inl before ↦ (
        x ∷ w ∷ W,
        record {
          order = AllPairs-cons IsBefore x (w ∷ W) (All-from_contains (IsBefore x) (w ∷ W) (λ y c. elim (Contains-cons_cases w W y c) [ inl e ↦ subst (IsBefore x) e before | inr k ↦ before_trans x w y before (All-contains (IsBefore w) W y behind k) ])) order;
          here = Contains-here x (w ∷ W);
          kept = λ y c. Contains-there x (w ∷ W) y c;
          from = λ y c. Contains-cons_cases x (w ∷ W) y c;
        },
      )
      | inr after ↦ (
          let V = inserted x W (AllPairs-tail IsBefore w W order) (All-from_contains (AreApart x) W (λ y c. All-contains (AreApart x) (w ∷ W) y apart (Contains-there w W y c))) in (
            w ∷ V.0,
            record {
              order = AllPairs-cons IsBefore w V.0 (All-from_contains (IsBefore w) V.0 (λ y c. elim (V.1.from y c) [ inl e ↦ subst (IsBefore w) e after | inr k ↦ All-contains (IsBefore w) W y behind k ])) V.1.order;
              here = Contains-there w V.0 x V.1.here;
              kept = λ y c. elim (Contains-cons_cases w W y c) [ inl e ↦ subst (Contains (w ∷ V.0)) e (Contains-here w V.0) | inr k ↦ Contains-there w V.0 y (V.1.kept y k) ];
              from = λ y c. elim (Contains-cons_cases w V.0 y c) [ inl e ↦ inr (subst (Contains (w ∷ W)) e (Contains-here w W)) | inr k ↦ elim (V.1.from y k) [ inl e ↦ inl e | inr m ↦ inr (Contains-there w W y m) ] ];
            },
          ))
    ]

-- V has the words of W, each before the later ones
pub record IsOrdered (W V : List Word) : Type 0 where
  pub order : AllPairs IsBefore V
  pub kept : (y : Word) → Contains W y → Contains V y
  pub from : (y : Word) → Contains V y → Contains W y

-- words of which none is a prefix of another can be put in order
pub ordered : (W : List Word) → IsPrefixFree W → (V : List Word) × IsOrdered W V
ordered [] free = ([], record { order = AllPairs-nil IsBefore; kept = λ y c. c; from = λ y c. c })
ordered (w ∷ W) free =
    let rest = ordered W (AllPairs-tail AreApart w W free) in
    let apart = AllPairs-head AreApart w W free in
    let V = inserted w rest.0 rest.1.order (All-from_contains (AreApart w) rest.0 (λ y c. All-contains (AreApart w) W y apart (rest.1.from y c))) in (
      V.0,
      record {
        order = V.1.order;
        kept = λ y c. elim (Contains-cons_cases w W y c) [ inl e ↦ subst (Contains V.0) e V.1.here | inr k ↦ V.1.kept y (rest.1.kept y k) ];
        from = λ y c. elim (V.1.from y c) [ inl e ↦ subst (Contains (w ∷ W)) e (Contains-here w W) | inr k ↦ Contains-there w W y (rest.1.from y k) ];
      },
    )

-- what is under the words is under them in order
pub under_ordered : (W V : List Word) → IsOrdered W V → (u : Word) → IsUnderSome u W → IsUnderSome u V
under_ordered W V o u s = record { above = s.above; listed = o.kept s.above s.listed; under = s.under }

-- they are in ascending order
pub ordered_ascending : (W V : List Word) → IsOrdered W V → IsAscending V
ordered_ascending W V o = AllPairs-weaker IsBefore (λ u v. word_cmp u v ≡ Less) V o.order (λ x y c e before. before_less x y before)

-- a basis in order is a basis
pub ordered_basis : (shape : Shape) (W V : List Word) → IsOrdered W V → IsBasis shape W → IsBasis shape V
ordered_basis shape W V o basis = basis_from shape V
    (All-from_contains (IsWordOf shape) V (λ w c. basis_word shape W basis w (o.from w c)))
    (AllPairs-weaker IsBefore AreApart V o.order (λ x y c e before. before_apart x y before))
    (longest W)
    (λ u h l. under_ordered W V o u (basis_holds shape W basis u h l))
