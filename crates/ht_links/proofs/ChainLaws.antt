-- Chains of links whose cones are under words at some places. t is the element with its quasinormal basis.
use Rattle.std.proofs.Common.{◌≡◌, ℕ, zero, suc, inl, inr, List, refl, sym, subst, Contains, ◌↔◌}
use Rattle.ht_types.specs.Links.{IsLinked, AreConnected}
use Rattle.ht_types.specs.TypedElements.{TypedValue}
use Rattle.ht_types.specs.declared.link.Link.{Link}
use Rattle.ht_types.proofs.AnchorLaws.{IsPlaceEquivalence}

-- some chain leads from the one place to the other
abbrev pub AreTogether : TypedValue → List ℕ → List Link → ℕ → ℕ → Type 0
AreTogether t places links i j = (k : ℕ) × AreConnected t places links k i j

-- both are among the places or neither is, and if they are, some chain leads from the one to the other
abbrev pub AreNear : TypedValue → List ℕ → List Link → ℕ → ℕ → Type 0
AreNear t places links i j = (Contains places i ↔ Contains places j) × (Contains places i → AreTogether t places links i j)

module _ (t : TypedValue) (places : List ℕ) (links : List Link) where
  linked_back : (i j : ℕ) → IsLinked t places links i j → IsLinked t places links j i
  linked_back i j l = record {
    link = l.link;
    listed = l.listed;
    under = l.under;
    ends = elim l.ends [ inl e ↦ inr e | inr e ↦ inl e ];
  }

  -- a link more in front of a chain
  connected_front : (k i m j : ℕ) → IsLinked t places links i m → AreConnected t places links k m j → AreConnected t places links (suc k) i j
  connected_front zero i m j l c = (i, refl, subst (IsLinked t places links i) c l)
  connected_front (suc k) i m j l c = (c.0, connected_front k i m c.0 l c.1, c.2)

  -- a chain taken backwards
  connected_back : (k i j : ℕ) → AreConnected t places links k i j → AreConnected t places links k j i
  connected_back zero i j c = sym c
  connected_back (suc k) i j c = connected_front k j c.0 i (linked_back c.0 j c.2) (connected_back k i c.0 c.1)

  -- a chain behind a chain
  connected_then : (k l i m j : ℕ) → AreConnected t places links k i m → AreConnected t places links l m j → AreTogether t places links i j
  connected_then k zero i m j c d = (k, subst (AreConnected t places links k i) d c)
  connected_then k (suc l) i m j c d = let r = connected_then k l i m d.0 c d.1 in (suc r.0, (d.0, r.1, d.2))

  pub together_on : (i m j : ℕ) → AreTogether t places links i m → AreTogether t places links m j → AreTogether t places links i j
  together_on i m j c d = connected_then c.0 d.0 i m j c.1 d.1

  pub together_back : (i j : ℕ) → AreTogether t places links i j → AreTogether t places links j i
  together_back i j c = (c.0, connected_back c.0 i j c.1)

  pub near_equivalence : IsPlaceEquivalence (AreNear t places links)
  near_equivalence = record {
    same = λ i. (((λ c. c), (λ c. c)), (λ c. (0, refl)));
    back = λ i j n. ((n.0.1, n.0.0), (λ c. together_back i j (n.1 (n.0.1 c))));
    on = λ i j k n m. (((λ c. m.0.0 (n.0.0 c)), (λ c. n.0.1 (m.0.1 c))), (λ c. together_on i j k (n.1 c) (m.1 (n.0.0 c))));
  }
