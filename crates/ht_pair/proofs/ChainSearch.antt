-- A reduced pair's bad chains can be found.
use Rattle.std.proofs.Common.{◌≡◌, ℕ, zero, suc, ◌≤◌, ◌<◌, ◌⊎◌, inl, inr, List, [], ◌∷◌, ◌++◌, length, refl, sym, ap, ◌∙◌, subst, arith, Contains, pos, negsuc}
use Rattle.std.proofs.lemmas.List.{length-append}
use Rattle.std.proofs.lemmas.List.Elements.{Contains-append_left, Contains-append_right, Contains-append_cases}
use Rattle.ht_word.specs.Words.{IsWordOf, ◌·◌, IsUnderSome}
use Rattle.ht_word.specs.declared.shape.Shape.{Shape}
use Rattle.ht_word.specs.declared.word.Word.{Word}
use Rattle.ht_word.proofs.Deciding.{under_some_or_not, contains_or_not}
use Rattle.ht_word.proofs.ListLaws.{Contains-nil, Contains-here, Contains-there, Contains-cons_cases, Contains-map, contained_in_map}
use Rattle.ht_pair.specs.Actions.{Moves, child_row, IsReduced}
use Rattle.ht_pair.specs.BadChains.{Splits, IsJoined, LeadsToSplit}
use Rattle.ht_pair.specs.Bases.{longest, IsBasis}
use Rattle.ht_pair.specs.Pairs.{from_words, IsPair, turned}
use Rattle.ht_pair.specs.SemiNormal.{CarriesUnder}
use Rattle.ht_pair.specs.Steps.{Carries}
use Rattle.ht_pair.specs.declared.row.Row.{Row}
use Rattle.ht_pair.proofs.BadChainLaws.{HasNoBadChain}
use Rattle.ht_pair.proofs.BasisLaws.{basis_word}
use Rattle.ht_pair.proofs.ReducedLaws.{row_above}
use Rattle.ht_pair.proofs.CanonicalLaws.{Everywhere, reduced_pair}
use Rattle.ht_pair.proofs.CarriesLaws.{carries_single, carries_from_steps}
use Rattle.ht_pair.proofs.MeetLaws.{chosen}
use Rattle.ht_pair.proofs.MovesLaws.{turn, turned-turned, turned_pair}

-- ---- deciding what one step of a reduced pair carries

-- whether a reduced pair carries a word to some word
carries_or_not : (shape : Shape) (p : List Row) → IsPair shape p → IsReduced shape p → (u : Word) → IsWordOf shape u → ((v : Word) × Carries shape p (pos 1) u v) ⊎ ¬ ((v : Word) × Carries shape p (pos 1) u v)
carries_or_not shape p pair reduced u h = elim (under_some_or_not u (from_words p)) [
  | inl s ↦ (let g = contained_in_map (λ (t : Row). t.from) p s.above s.listed in
      let m : Moves p u (g.0.to · s.under.rest) = record { row = g.0; rest = s.under.rest; listed = g.1; from = s.under.is ∙ ap (λ t. t · s.under.rest) (sym g.2); to = refl } in
      inl (g.0.to · s.under.rest, carries_from_steps shape p pair (pos 1) u (g.0.to · s.under.rest) h (u, refl, m)))
  | inr n ↦ inr (λ c. n (row_above shape Everywhere p (reduced_pair shape p pair reduced) (longest (from_words p)) u c.0 h tt (omega arith) (record { at = λ z w hz m. c.1.carried z w hz (u · z, refl, m) })))
]

-- whether it carries a word to a word under X
step_or_not : (shape : Shape) (p : List Row) → IsPair shape p → IsReduced shape p → (X : List Word) (u : Word) → IsWordOf shape u → CarriesUnder shape p (pos 1) u X ⊎ ¬ CarriesUnder shape p (pos 1) u X
step_or_not shape p pair reduced X u h = elim (carries_or_not shape p pair reduced u h) [
  | inr n ↦ inr (λ c. n (c.to, c.carries))
  | inl c ↦ elim (under_some_or_not c.0 X) [
    | inl s ↦ inl (record { to = c.0; carries = c.1; under = s })
    | inr n ↦ inr (λ d. n (subst (λ t. IsUnderSome t X) (carries_single shape p pair (pos 1) u d.to c.0 d.carries c.1) d.under))
  ]
]

-- a reduced pair turned round is reduced
turned_reduced : (shape : Shape) (p : List Row) → IsReduced shape p → IsReduced shape (turned p)
unfolding turn
turned_reduced shape p reduced u v rows = reduced v u (λ a low high. subst (λ (q : List Row). Contains q (child_row v u a)) (turned-turned p) (Contains-map turn (turned p) (child_row u v a) (rows a low high)))

-- whether the turned pair carries a word to a word under X
back_or_not : (shape : Shape) (p : List Row) → IsPair shape p → IsReduced shape p → (X : List Word) (u : Word) → IsWordOf shape u → CarriesUnder shape p (negsuc 0) u X ⊎ ¬ CarriesUnder shape p (negsuc 0) u X
back_or_not shape p pair reduced X u h = elim (step_or_not shape (turned p) (turned_pair shape p pair) (turned_reduced shape p reduced) X u h) [
  | inl c ↦ inl (record { to = c.to; carries = record { word = c.carries.word; carried = c.carries.carried }; under = c.under })
  | inr n ↦ inr (λ c. n (record { to = c.to; carries = record { word = c.carries.word; carried = c.carries.carried }; under = c.under }))
]

-- ---- the words that lead to a split

-- p carries x to a word of the list
StepsInto : Shape → List Row → List Word → Word → Type 0
StepsInto shape p T x = (y : Word) × Contains T y × Carries shape p (pos 1) x y

-- whether p carries a word into the list
into_or_not : (shape : Shape) (p : List Row) → IsPair shape p → IsReduced shape p → (T : List Word) (x : Word) → IsWordOf shape x → StepsInto shape p T x ⊎ ¬ StepsInto shape p T x
unfolding StepsInto
into_or_not shape p pair reduced T x h = elim (carries_or_not shape p pair reduced x h) [
  | inr n ↦ inr (λ s. n (s.0, s.2))
  | inl c ↦ elim (contains_or_not T c.0) [
    | inl k ↦ inl (c.0, k, c.1)
    | inr n ↦ inr (λ s. n (subst (Contains T) (carries_single shape p pair (pos 1) x s.0 c.0 s.2 c.1) s.1))
  ]
]

-- the words of X that lead to a split
record Leading (shape : Shape) (p : List Row) (X : List Word) : Type 0 where
  words : List Word
  leads : (x : Word) → Contains words x → (k : ℕ) × LeadsToSplit shape p X k x
  all : (k : ℕ) (x : Word) → Contains X x → LeadsToSplit shape p X k x → Contains words x

-- a word of R that steps into T, and the others
record Found (shape : Shape) (p : List Row) (T R : List Word) : Type 0 where
  front : List Word
  word : Word
  rest : List Word
  is : R ≡ front ++ word ∷ rest
  into : StepsInto shape p T word

-- some word of R steps into T, or none does
find : (shape : Shape) (p : List Row) → IsPair shape p → IsReduced shape p → (T R : List Word) → ((x : Word) → Contains R x → IsWordOf shape x) → Found shape p T R ⊎ ((x : Word) → Contains R x → ¬ StepsInto shape p T x)
find shape p pair reduced T [] words = inr (λ x c. absurd (Contains-nil x c))
find shape p pair reduced T (r ∷ R) words = elim (into_or_not shape p pair reduced T r (words r (Contains-here r R))) [
  | inl s ↦ inl (record { front = []; word = r; rest = R; is = refl; into = s })
  | inr n ↦ elim (find shape p pair reduced T R (λ x c. words x (Contains-there r R x c))) [
    | inl f ↦ inl (record { front = r ∷ f.front; word = f.word; rest = f.rest; is = ap (λ t. r ∷ t) f.is; into = f.into })
    | inr m ↦ inr (λ x c. elim (Contains-cons_cases r R x c) [ inl e ↦ subst (λ t. ¬ StepsInto shape p T t) e n | inr k ↦ m x k ])
  ]
]

-- a list into which no other word of X steps has all words that lead to a split
closed_all : (shape : Shape) (p : List Row) (X T R : List Word) → ((x : Word) → Contains X x → Splits shape p X x → Contains T x) → ((x : Word) → Contains X x → Contains T x ⊎ Contains R x) → ((x : Word) → Contains R x → ¬ StepsInto shape p T x) → (k : ℕ) (x : Word) → Contains X x → LeadsToSplit shape p X k x → Contains T x
unfolding LeadsToSplit StepsInto
closed_all shape p X T R splitting cover none zero x c leads = splitting x c leads
closed_all shape p X T R splitting cover none (suc k) x c leads = elim (cover x c) [
  | inl t ↦ t
  | inr r ↦ absurd (none x r (leads.0, closed_all shape p X T R splitting cover none k leads.0 leads.1 leads.3, leads.2))
]

-- a word that leads to a split may be added to such words
one_more : (shape : Shape) (p : List Row) (X T : List Word) (x : Word) → ((y : Word) → Contains T y → Contains X y) → ((y : Word) → Contains T y → (k : ℕ) × LeadsToSplit shape p X k y) → StepsInto shape p T x → (k : ℕ) × LeadsToSplit shape p X k x
unfolding LeadsToSplit StepsInto
one_more shape p X T x inside leads s = (suc (leads s.0 s.1).0, (s.0, inside s.0 s.1, s.2, (leads s.0 s.1).1))

-- words are added as long as some word steps into the list
grow : (shape : Shape) (p : List Row) → IsPair shape p → IsReduced shape p → (X : List Word) → IsBasis shape X → (fuel : ℕ) (R T : List Word) → length R ≤ fuel → ((x : Word) → Contains R x → Contains X x) → ((x : Word) → Contains T x → Contains X x) → ((x : Word) → Contains T x → (k : ℕ) × LeadsToSplit shape p X k x) → ((x : Word) → Contains X x → Splits shape p X x → Contains T x) → ((x : Word) → Contains X x → Contains T x ⊎ Contains R x) → Leading shape p X
grow shape p pair reduced X basis zero R T l in_R in_T leads splitting cover = record {
  words = T;
  leads = leads;
  all = λ k x c h. elim (cover x c) [ inl t ↦ t | inr r ↦ absurd (let i : r.0 < length R = r.1 in omega arith) ];
}
grow shape p pair reduced X basis (suc fuel) R T l in_R in_T leads splitting cover = elim (find shape p pair reduced T R (λ x c. basis_word shape X basis x (in_R x c))) [
  | inr none ↦ record { words = T; leads = leads; all = closed_all shape p X T R splitting cover none }
  | inl f ↦ (
      let x = f.word in
      let here : Contains R x = subst (λ t. Contains t x) (sym f.is) (Contains-append_right f.front (x ∷ f.rest) x (Contains-here x f.rest)) in
      grow shape p pair reduced X basis fuel (f.front ++ f.rest) (x ∷ T)
      (omega (arith, ap (λ (t : List Word). length t) f.is, length-append f.front (x ∷ f.rest), length-append f.front f.rest))
      (λ y c. in_R y (subst (λ t. Contains t y) (sym f.is) (elim (Contains-append_cases f.front f.rest y c) [ inl a ↦ Contains-append_left f.front (x ∷ f.rest) y a | inr b ↦ Contains-append_right f.front (x ∷ f.rest) y (Contains-there x f.rest y b) ])))
      (λ y c. elim (Contains-cons_cases x T y c) [ inl e ↦ subst (Contains X) e (in_R x here) | inr k ↦ in_T y k ])
      (λ y c. elim (Contains-cons_cases x T y c) [ inl e ↦ subst (λ t. (k : ℕ) × LeadsToSplit shape p X k t) e (one_more shape p X T x in_T leads f.into) | inr k ↦ leads y k ])
      (λ y c s. Contains-there x T y (splitting y c s))
      (λ y c. elim (cover y c) [
        | inl t ↦ inl (Contains-there x T y t)
        | inr r ↦ elim (Contains-append_cases f.front (x ∷ f.rest) y (subst (λ t. Contains t y) f.is r)) [
          | inl a ↦ inr (Contains-append_left f.front f.rest y a)
          | inr b ↦ elim (Contains-cons_cases x f.rest y b) [
            | inl e ↦ inl (subst (Contains (x ∷ T)) e (Contains-here x T))
            | inr m ↦ inr (Contains-append_right f.front f.rest y m)
          ]
        ]
      ]))
]

-- the words of X that lead to a split can be listed
leading : (shape : Shape) (p : List Row) → IsPair shape p → IsReduced shape p → (X : List Word) → IsBasis shape X → Leading shape p X
unfolding Splits LeadsToSplit
leading shape p pair reduced X basis =
    let T = chosen (λ x. Contains X x × Splits shape p X x) decided X in
    grow shape p pair reduced X basis (length X) X T.words (omega arith) (λ x c. c) T.in_list (λ x c. (0, (T.holds x c).1)) (λ x c s. T.all x c (c, s)) (λ x c. inr c)
  where
    decided : (x : Word) → (Contains X x × Splits shape p X x) ⊎ ¬ (Contains X x × Splits shape p X x)
    decided x = elim (contains_or_not X x) [
      | inr n ↦ inr (λ h. n h.0)
      | inl c ↦ elim (step_or_not shape p pair reduced X x (basis_word shape X basis x c)) [
        | inl s ↦ inr (λ h. h.1 s)
        | inr n ↦ inl (c, n)
      ]
    ]

-- ---- a bad chain, or none

-- a joined word of X that leads to a split
pub record HasBad (shape : Shape) (p : List Row) (X : List Word) : Type 0 where
  pub start : Word
  pub listed : Contains X start
  pub joined : IsJoined shape p X start
  pub steps : ℕ
  pub leads : LeadsToSplit shape p X steps start

-- a basis has a bad chain, or all its chains were looked at
pub bad_or_none : (shape : Shape) (p : List Row) → IsPair shape p → IsReduced shape p → (X : List Word) → IsBasis shape X → HasBad shape p X ⊎ HasNoBadChain shape p X
unfolding Splits IsJoined
bad_or_none shape p pair reduced X basis =
    let t = leading shape p pair reduced X basis in
    let word = basis_word shape X basis in
    let leads_or_not : (x : Word) → Contains X x → ((k : ℕ) × LeadsToSplit shape p X k x) ⊎ ¬ ((k : ℕ) × LeadsToSplit shape p X k x) = λ x c. elim (contains_or_not t.words x) [
      | inl k ↦ inl (t.leads x k)
      | inr n ↦ inr (λ l. n (t.all l.0 x c l.1))
    ] in
    elim (search leads_or_not X (λ x c. c)) [
      | inl b ↦ inl b
      | inr none ↦ inr (record {
        basis = basis;
        splits_or_not = λ x c. step_or_not shape p pair reduced X x (word x c);
        joined_or_not = λ x c. back_or_not shape p pair reduced X x (word x c);
        leads_or_not = leads_or_not;
        none_bad = λ x k c j l. none x c j k l;
      })
    ]
  where
    search : ((x : Word) → Contains X x → ((k : ℕ) × LeadsToSplit shape p X k x) ⊎ ¬ ((k : ℕ) × LeadsToSplit shape p X k x)) → (L : List Word) → ((x : Word) → Contains L x → Contains X x) → HasBad shape p X ⊎ ((x : Word) → Contains L x → IsJoined shape p X x → (k : ℕ) → ¬ LeadsToSplit shape p X k x)
    search dec [] inside = inr (λ x c j k l. Contains-nil x c)
    search dec (y ∷ L) inside =
        let here = inside y (Contains-here y L) in
        elim (search dec L (λ x c. inside x (Contains-there y L x c))) [
          | inl b ↦ inl b
          | inr none ↦ elim (back_or_not shape p pair reduced X y (basis_word shape X basis y here)) [
            | inl u ↦ inr (λ x c j k l. elim (Contains-cons_cases y L x c) [ inl e ↦ subst (λ t. IsJoined shape p X t) (sym e) j u | inr m ↦ none x m j k l ])
            | inr joined ↦ elim (dec y here) [
              | inl l ↦ inl (record { start = y; listed = here; joined = joined; steps = l.0; leads = l.1 })
              | inr n ↦ inr (λ x c j k l. elim (Contains-cons_cases y L x c) [ inl e ↦ n (k, subst (LeadsToSplit shape p X k) (sym e) l) | inr m ↦ none x m j k l ])
            ]
          ]
        ]
