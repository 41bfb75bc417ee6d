-- How long a chain of words to one that splits may be: it has no word twice.
use Rattle.std.proofs.Common.{◌≡◌, ℕ, zero, suc, ◌<◌, ◌≤◌, List, [], ◌∷◌, length, inl, inr, refl, sym, ap, subst, arith, Contains, pos}
use Rattle.std.proofs.lemmas.List.Elements.{All-nil}
use Rattle.ht_word.specs.declared.shape.Shape.{Shape}
use Rattle.ht_word.specs.declared.word.Word.{Word}
use Rattle.ht_word.specs.Words.{IsUnder}
use Rattle.ht_word.proofs.ListLaws.{Contains-nil, Contains-cons_cases, AllPairs-cons, AllPairs-nil}
use Rattle.ht_word.proofs.WordLaws.{under_refl, All-from_contains}
use Rattle.ht_pair.specs.BadChains.{Splits, LeadsToSplit}
use Rattle.ht_pair.specs.Bases.{AreApart, IsPrefixFree}
use Rattle.ht_pair.specs.Pairs.{IsPair}
use Rattle.ht_pair.specs.declared.row.Row.{Row}
use Rattle.ht_pair.proofs.BasisLaws.{prefix_free_same, some_at}
use Rattle.ht_pair.proofs.CarriesLaws.{carries_single}
use Rattle.ht_pair.proofs.CountLaws.{no_more}

-- a word leads to a split in one number of steps
leads_once : (shape : Shape) (p : List Row) → IsPair shape p → (X : List Word) (j k : ℕ) (x : Word) → LeadsToSplit shape p X j x → LeadsToSplit shape p X k x → j ≡ k
unfolding LeadsToSplit Splits
leads_once shape p pair X zero zero x h g = refl
leads_once shape p pair X zero (suc k) x h g = absurd (h (record { to = g.0; carries = g.2; under = some_at X g.0 g.0 g.1 (under_refl g.0) }))
leads_once shape p pair X (suc j) zero x h g = absurd (g (record { to = h.0; carries = h.2; under = some_at X h.0 h.0 h.1 (under_refl h.0) }))
leads_once shape p pair X (suc j) (suc k) x h g =
    ap suc (leads_once shape p pair X j k g.0 (subst (LeadsToSplit shape p X j) (carries_single shape p pair (pos 1) x h.0 g.0 h.2 g.2) h.3) g.3)

-- the words on the way to a split
record OnTheWay (shape : Shape) (p : List Row) (X : List Word) (k : ℕ) : Type 0 where
  words : List Word
  many : length words ≡ suc k
  free : IsPrefixFree words
  in_X : (w : Word) → Contains words w → Contains X w
  leads : (w : Word) → Contains words w → (j : ℕ) × (j ≤ k) × LeadsToSplit shape p X j w

on_the_way : (shape : Shape) (p : List Row) → IsPair shape p → (X : List Word) → IsPrefixFree X → (k : ℕ) (x : Word) → Contains X x → LeadsToSplit shape p X k x → OnTheWay shape p X k
on_the_way shape p pair X free zero x c h = record {
  words = x ∷ [];
  many = omega arith;
  free = AllPairs-cons AreApart x [] (All-nil (AreApart x)) (AllPairs-nil AreApart);
  in_X = λ w d. subst (Contains X) (only w d) c;
  leads = λ w d. (0, omega arith, subst (LeadsToSplit shape p X 0) (only w d) h);
}
  where
    only : (w : Word) → Contains (x ∷ []) w → x ≡ w
    only w d = elim (Contains-cons_cases x [] w d) [ inl e ↦ e | inr n ↦ absurd (Contains-nil w n) ]
on_the_way shape p pair X free (suc k) x c h =
    let next = next_word shape p X k x h in
    let t = on_the_way shape p pair X free k next.0 next.1 next.2 in
    let other : (w : Word) → Contains t.words w → IsUnder x w → ⊥ = λ w d u. earlier t w d (prefix_free_same X free x w c (t.in_X w d) u) in
    let another : (w : Word) → Contains t.words w → IsUnder w x → ⊥ = λ w d u. earlier t w d (sym (prefix_free_same X free w x (t.in_X w d) c u)) in
    record {
      words = x ∷ t.words;
      many = omega (arith, t.many);
      free = AllPairs-cons AreApart x t.words (All-from_contains (AreApart x) t.words (λ w d. (other w d, another w d))) t.free;
      in_X = λ w d. elim (Contains-cons_cases x t.words w d) [ inl e ↦ subst (Contains X) e c | inr m ↦ t.in_X w m ];
      leads = λ w d. elim (Contains-cons_cases x t.words w d) [
        | inl e ↦ (suc k, omega arith, subst (LeadsToSplit shape p X (suc k)) e h)
        | inr m ↦ (let g = t.leads w m in (g.0, omega (arith, g.1), g.2))
      ];
    }
  where
    next_word : (shape : Shape) (p : List Row) (X : List Word) (k : ℕ) (x : Word) → LeadsToSplit shape p X (suc k) x → (y : Word) × Contains X y × LeadsToSplit shape p X k y
    next_word shape p X k x h = unfold LeadsToSplit in (h.0, h.1, h.3)

    -- the word itself leads in one step more
    earlier : (t : OnTheWay shape p X k) (w : Word) → Contains t.words w → x ≡ w → ⊥
    earlier t w d e =
        let g = t.leads w d in
        absurd (omega (arith, g.1, leads_once shape p pair X (suc k) g.0 w (subst (LeadsToSplit shape p X (suc k)) e h) g.2))

-- fewer steps than words lead to a split
pub leads_within : (shape : Shape) (p : List Row) → IsPair shape p → (X : List Word) → IsPrefixFree X → (k : ℕ) (x : Word) → Contains X x → LeadsToSplit shape p X k x → k < length X
leads_within shape p pair X free k x c h =
    let t = on_the_way shape p pair X free k x c h in
    omega (arith, t.many, no_more t.words X t.free t.in_X)
