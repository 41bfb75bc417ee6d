-- What an element carries stays under its quasinormal basis.
use Rattle.std.proofs.Common.{◌≡◌, ◌⊎◌, inl, inr, ℕ, zero, suc, List, ◌∷◌, sym, subst, arith, Contains, ℤ, pos, negsuc, neg_ℤ}
use Rattle.std.proofs.lemmas.Int.{ints}
use Rattle.std.proofs.lemmas.List.Elements.{All-contains}
use Rattle.ht_word.specs.Words.{IsWordOf, IsLetters, ◌·◌, IsUnder, IsUnderSome}
use Rattle.ht_word.specs.declared.shape.Shape.{Shape}
use Rattle.ht_word.specs.declared.word.Word.{Word}
use Rattle.ht_word.proofs.Deciding.{under_or_not, under_some_or_not}
use Rattle.ht_word.proofs.ListLaws.{Contains-here, Contains-there, Contains-cons_cases, AllPairs-cons}
use Rattle.ht_word.proofs.WordLaws.{under_refl, under_after, under_trans, word_rest, All-from_contains}
use Rattle.ht_pair.specs.Bases.{AreApart, longest, IsBasis}
use Rattle.ht_pair.specs.Pairs.{IsPair, turned}
use Rattle.ht_pair.specs.SemiNormal.{CarriesUnder, StaysAhead, StaysBehind, IsQuasinormal}
use Rattle.ht_pair.specs.Steps.{Carries}
use Rattle.ht_pair.specs.declared.row.Row.{Row}
use Rattle.ht_pair.proofs.BasisLaws.{some_at, some_trans, basis_holds, basis_word, basis_from}
use Rattle.ht_pair.proofs.CarriesLaws.{carries_single, carries_word, carries_extends, carries_back, carries_sum, carries_itself}
use Rattle.ht_pair.proofs.MeetLaws.{chosen}
use Rattle.ht_pair.proofs.MovesLaws.{turned_pair}
use Rattle.ht_pair.proofs.SemiNormalLaws.{stays_wider}
use Rattle.ht_pair.proofs.TurnedLaws.{carries_to_turned}
use Rattle.ht_quasi.proofs.MirrorLaws.{quasinormal_turned}

-- ---- a word in place of those under it

-- the basis W has the word v, and otherwise words of X alone
record IsPut (shape : Shape) (X : List Word) (v : Word) (W : List Word) : Type 0 where
  basis : IsBasis shape W
  here : Contains W v
  from : (w : Word) → Contains W w → (v ≡ w) ⊎ Contains X w
  wider : (u : Word) → IsUnderSome u X → IsUnderSome u W

-- a word that is not under a basis can be put in place of the words under it
put : (shape : Shape) (X : List Word) (v : Word) → IsBasis shape X → IsWordOf shape v → ¬ IsUnderSome v X → (W : List Word) × IsPut shape X v W
put shape X v basis h out =
    let rest = chosen (λ x. ¬ IsUnder x v) not_or X in
    let W : List Word = v ∷ rest.words in
    let wider : (u : Word) → IsUnderSome u X → IsUnderSome u W = λ u s. elim (under_or_not s.above v) [
      | inl k ↦ some_at W v u (Contains-here v rest.words) (under_trans s.under k)
      | inr n ↦ some_at W s.above u (Contains-there v rest.words s.above (rest.all s.above s.listed n)) s.under
    ] in
    let from : (w : Word) → Contains W w → (v ≡ w) ⊎ Contains X w = λ w c. elim (Contains-cons_cases v rest.words w c) [ inl e ↦ inl e | inr k ↦ inr (rest.in_list w k) ] in (
      W,
      record {
        basis = basis_from shape W
            (All-from_contains (IsWordOf shape) W (λ w c. elim (from w c) [ inl e ↦ subst (IsWordOf shape) e h | inr k ↦ basis_word shape X basis w k ]))
            (AllPairs-cons AreApart v rest.words (All-from_contains (AreApart v) rest.words (λ w c. (λ k. out (some_at X w v (rest.in_list w c) k), rest.holds w c))) (rest.free basis.prefix_free))
            (longest X)
            (λ u hu l. wider u (basis_holds shape X basis u hu l));
        here = Contains-here v rest.words;
        from = from;
        wider = wider;
      },
    )
  where
    not_or : (x : Word) → ¬ IsUnder x v ⊎ ¬ ¬ IsUnder x v
    not_or x = elim (under_or_not x v) [ inl s ↦ inr (λ n. n s) | inr n ↦ inl n ]

-- ---- what is carried

-- with letters behind it a word is carried under X where it is without them
carries_below : (shape : Shape) (p : List Row) (X : List Word) (x : Word) (z : List ℕ) (k : ℤ) → IsLetters shape z → CarriesUnder shape p k x X → CarriesUnder shape p k (x · z) X
carries_below shape p X x z k hz c = record { to = c.to · z; carries = carries_extends shape p k x c.to z hz c.carries; under = some_trans (under_after c.to z) c.under }

-- a word that p carries from a word that stays behind under X stays behind under the basis that has it
put_stays : (shape : Shape) (p : List Row) → IsPair shape p → (X W : List Word) (u v : Word) → IsPut shape X v W → Carries shape p (pos 1) u v → StaysBehind shape p X u → StaysBehind shape p W v
put_stays shape p pair X W u v h c behind zero = record { to = v; carries = carries_itself shape p v (carries_word shape p pair (pos 1) u v c); under = some_at W v v h.here (under_refl v) }
put_stays shape p pair X W u v h c behind (suc k) =
    let b = behind k in
    record { to = b.to; carries = carries_sum shape p pair (negsuc 0) (neg_ℤ (pos k)) (neg_ℤ (pos (suc k))) (omega (arith, ints)) v u b.to (carries_back shape p pair (pos 1) u v c) b.carries; under = h.wider b.to b.under }

-- what is carried from a word that stays behind stays under the quasinormal basis: else it could be put in place of the words under it
behind_under : (shape : Shape) (p : List Row) → IsPair shape p → (X : List Word) → IsQuasinormal shape p X → (u v : Word) → StaysBehind shape p X u → Carries shape p (pos 1) u v → IsUnderSome v X
behind_under shape p pair X least u v behind c = elim (under_some_or_not v X) [
  | inl k ↦ k
  | inr out ↦ (
      let w = put shape X v least.semi_normal.basis (carries_word shape p pair (pos 1) u v c) out in
      let stays : Word → Type 0 = λ x. StaysAhead shape p w.0 x ⊎ StaysBehind shape p w.0 x in
      All-contains (λ x. IsUnderSome x X) w.0 v
      (least.least w.0 (record {
        basis = w.1.basis;
        stays = All-from_contains stays w.0 (λ x d. elim (w.1.from x d) [
          | inl e ↦ subst stays e (inr (put_stays shape p pair X w.0 u v w.1 c behind))
          | inr k ↦ stays_wider shape p x X w.0 w.1.wider (All-contains (λ x. StaysAhead shape p X x ⊎ StaysBehind shape p X x) X x least.semi_normal.stays k)
        ]);
      }))
      w.1.here)
]

-- what an element carries from a word under its quasinormal basis is under the basis
pub carried_under : (shape : Shape) (p : List Row) (X : List Word) (u v : Word) → IsPair shape p → IsQuasinormal shape p X → IsUnderSome u X → Carries shape p (pos 1) u v → IsUnderSome v X
carried_under shape p X u v pair least s c =
    let x = s.above in
    let z = s.under.rest in
    let hz = word_rest shape x z (subst (IsWordOf shape) s.under.is c.word) in
    elim (All-contains (λ x. StaysAhead shape p X x ⊎ StaysBehind shape p X x) X x least.semi_normal.stays s.listed) [
      | inl ahead ↦ (
          let a = carries_below shape p X x z (pos 1) hz (ahead 1) in
          subst (λ t. IsUnderSome t X) (carries_single shape p pair (pos 1) u a.to v (subst (λ t. Carries shape p (pos 1) t a.to) (sym s.under.is) a.carries) c) a.under)
      | inr behind ↦ behind_under shape p pair X least u v (λ k. subst (λ t. CarriesUnder shape p (neg_ℤ (pos k)) t X) (sym s.under.is) (carries_below shape p X x z (neg_ℤ (pos k)) hz (behind k))) c
    ]

-- so is what the inverse carries from there
pub carried_back_under : (shape : Shape) (p : List Row) (X : List Word) (u v : Word) → IsPair shape p → IsQuasinormal shape p X → IsUnderSome u X → Carries shape p (negsuc 0) u v → IsUnderSome v X
carried_back_under shape p X u v pair least s c =
    carried_under shape (turned p) X u v (turned_pair shape p pair) ((quasinormal_turned shape p X pair).0 least) s (carries_to_turned shape p (pos 1) u v c)
