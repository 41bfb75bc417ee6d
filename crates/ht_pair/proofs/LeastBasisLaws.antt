-- Each reduced pair has a least semi-normal basis, which is reached from the roots by expanding the words of bad chains.
use Rattle.std.proofs.Common.{◌≡◌, ◌≢◌, ℕ, zero, suc, ◌≤◌, ◌<◌, ◌⊎◌, inl, inr, List, [], ◌∷◌, ◌++◌, length, refl, sym, ap, ◌∙◌, subst, arith, Contains, pos, negsuc, ◌+◌}
use Rattle.std.proofs.lemmas.Bool.{cases_lt}
use Rattle.std.proofs.lemmas.List.Elements.{All-contains, Contains-append_left, Contains-append_right}
use Rattle.ht_word.specs.Words.{IsWordOf, IsUnderSome}
use Rattle.ht_word.specs.declared.shape.Shape.{Shape}
use Rattle.ht_word.specs.declared.word.Word.{Word}
use Rattle.ht_word.proofs.Deciding.{contains_or_not}
use Rattle.ht_word.proofs.ListLaws.{Contains-nil, Contains-here, Contains-there, Contains-cons_cases}
use Rattle.ht_word.proofs.WordLaws.{under_refl, under_same, All-from_contains}
use Rattle.ht_pair.specs.Actions.{IsReduced}
use Rattle.ht_pair.specs.BadChains.{Splits, IsJoined, LeadsToSplit, ComesFromJoined}
use Rattle.ht_pair.specs.Bases.{longest, roots, IsBasis, IsAllUnder}
use Rattle.ht_pair.specs.Pairs.{from_words, IsPair}
use Rattle.ht_pair.specs.SemiNormal.{CarriesUnder, IsSemiNormal}
use Rattle.ht_pair.specs.Steps.{Carries}
use Rattle.ht_pair.specs.declared.row.Row.{Row}
use Rattle.ht_pair.proofs.BadChainLaws.{semi_normal_without, bad_word_out}
use Rattle.ht_pair.proofs.BasisLaws.{longest_least, some_at, some_trans, under_roots, basis_holds, basis_word, roots_basis, words_of, words_of_basis, words_of_length}
use Rattle.ht_pair.proofs.CarriesLaws.{carries_word, carries_from_steps, carries_back, carries_injective}
use Rattle.ht_pair.proofs.ChainSearch.{bad_or_none}
use Rattle.ht_pair.proofs.ExpansionLaws.{expanded, under_new, new_under, expanded_basis, expanded_longest}
use Rattle.ht_pair.proofs.MovesLaws.{pair_moves}

-- ---- the words of a bad chain

-- the words of a bad chain, from its start to the word that splits
record ChainWords (shape : Shape) (p : List Row) (X : List Word) (start : Word) : Type 0 where
  words : List Word
  start_in : Contains words start
  in_X : (w : Word) → Contains words w → Contains X w
  comes : (w : Word) → Contains words w → (j : ℕ) × ComesFromJoined shape p X j w
  leads : (w : Word) → Contains words w → (j : ℕ) × LeadsToSplit shape p X j w
  before : (w : Word) → Contains words w → (w ≡ start) ⊎ ((v : Word) × Contains words v × Carries shape p (pos 1) v w)
  last : Word
  last_in : Contains words last
  splits : Splits shape p X last

-- a word that leads to a split begins such a chain
chain_words : (shape : Shape) (p : List Row) → IsPair shape p → (X : List Word) (i k : ℕ) (x : Word) → Contains X x → ComesFromJoined shape p X i x → LeadsToSplit shape p X k x → ChainWords shape p X x
unfolding Splits LeadsToSplit ComesFromJoined
chain_words shape p pair X i zero x c comes leads =
    let only : (w : Word) → Contains (x ∷ []) w → x ≡ w = λ w d. elim (Contains-cons_cases x [] w d) [ inl e ↦ e | inr n ↦ absurd (Contains-nil w n) ] in
    record {
      words = x ∷ [];
      start_in = Contains-here x [];
      in_X = λ w d. subst (Contains X) (only w d) c;
      comes = λ w d. (i, subst (ComesFromJoined shape p X i) (only w d) comes);
      leads = λ w d. (0, subst (LeadsToSplit shape p X 0) (only w d) leads);
      before = λ w d. inl (sym (only w d));
      last = x;
      last_in = Contains-here x [];
      splits = leads;
    }
chain_words shape p pair X i (suc k) x c comes leads =
    let y = leads.0 in
    let t = chain_words shape p pair X (suc i) k y leads.1 (x, c, carries_back shape p pair (pos 1) x y leads.2, comes) leads.3 in
    record {
      words = x ∷ t.words;
      start_in = Contains-here x t.words;
      in_X = λ w d. elim (Contains-cons_cases x t.words w d) [ inl e ↦ subst (Contains X) e c | inr m ↦ t.in_X w m ];
      comes = λ w d. elim (Contains-cons_cases x t.words w d) [ inl e ↦ (i, subst (ComesFromJoined shape p X i) e comes) | inr m ↦ t.comes w m ];
      leads = λ w d. elim (Contains-cons_cases x t.words w d) [ inl e ↦ (suc k, subst (LeadsToSplit shape p X (suc k)) e leads) | inr m ↦ t.leads w m ];
      before = λ w d. elim (Contains-cons_cases x t.words w d) [
        | inl e ↦ inl (sym e)
        | inr m ↦ inr (elim (t.before w m) [
          | inl e ↦ (x, Contains-here x t.words, subst (Carries shape p (pos 1) x) (sym e) leads.2)
          | inr h ↦ (h.0, Contains-there x t.words h.0 h.1, h.2)
        ])
      ];
      last = t.last;
      last_in = Contains-there x t.words t.last t.last_in;
      splits = t.splits;
    }

-- ---- rounds

-- N has each word under X that p carries to no word under X
unfoldable pub HasSplitWords : Shape → List Row → List Word → List Word → Type 0
HasSplitWords shape p X N = (u : Word) → IsWordOf shape u → IsUnderSome u X → ¬ CarriesUnder shape p (pos 1) u X → Contains N u

-- a semi-normal basis, under which every semi-normal basis is
pub record IsLeastSemiNormal (shape : Shape) (p : List Row) (V : List Word) : Type 0 where
  pub semi_normal : IsSemiNormal shape p V
  pub least : (W : List Word) → IsSemiNormal shape p W → IsAllUnder W V

-- one place of a word in a list
pub without : (N : List Word) (x : Word) → Contains N x → (M : List Word) × (length N ≡ suc (length M)) × ((u : Word) → Contains N u → u ≢ x → Contains M u)
without [] x c = absurd (Contains-nil x c)
without (y ∷ N) x c = elim (Contains-cons_cases y N x c) [
  | inl e ↦ (N, refl, λ u d n. elim (Contains-cons_cases y N u d) [ inl f ↦ absurd (n (sym f ∙ e)) | inr m ↦ m ])
  | inr k ↦ (let r = without N x k in (y ∷ r.0, ap suc r.1, λ u d n. elim (Contains-cons_cases y N u d) [ inl f ↦ subst (Contains (y ∷ r.0)) f (Contains-here y r.0) | inr m ↦ Contains-there y r.0 u (r.2 u m n) ]))
]

-- one bad chain after another is expanded; each takes a word off the list N
pub rounds : (shape : Shape) (p : List Row) → IsPair shape p → IsReduced shape p → (k : ℕ) (X N : List Word) → IsBasis shape X → length N ≤ k → HasSplitWords shape p X N → ((W : List Word) → IsSemiNormal shape p W → IsAllUnder W X) → (V : List Word) × IsLeastSemiNormal shape p V × (longest V ≤ longest X + k)
unfolding HasSplitWords Splits IsJoined ComesFromJoined
rounds shape p pair reduced zero X N basis l inner wide = elim (bad_or_none shape p pair reduced X basis) [
  | inr none ↦ (X, record { semi_normal = semi_normal_without shape p pair X none; least = wide }, omega arith)
  | inl bad ↦ absurd (
      let t = chain_words shape p pair X 0 bad.steps bad.start bad.listed bad.joined bad.leads in
      let c = inner t.last (basis_word shape X basis t.last (t.in_X t.last t.last_in)) (some_at X t.last t.last (t.in_X t.last t.last_in) (under_refl t.last)) t.splits in
      let i : c.0 < length N = c.1 in
      omega arith)
]
rounds shape p pair reduced (suc k) X N basis l inner wide = elim (bad_or_none shape p pair reduced X basis) [
  | inr none ↦ (X, record { semi_normal = semi_normal_without shape p pair X none; least = wide }, omega arith)
  | inl bad ↦ (
      let t = chain_words shape p pair X 0 bad.steps bad.start bad.listed bad.joined bad.leads in
      let C : Word → Type 0 = λ w. Contains t.words w in
      let e = expanded shape C (contains_or_not t.words) X in
      let new = expanded_basis shape C (contains_or_not t.words) X basis e in
      let last_X = t.in_X t.last t.last_in in
      let M = without N t.last (inner t.last (basis_word shape X basis t.last last_X) (some_at X t.last t.last last_X (under_refl t.last)) t.splits) in
      let r = rounds shape p pair reduced k e.words M.0 new (let s = M.1 in omega arith)
      (λ u h s out.
      let was = new_under shape C X basis e u s in
      M.2 u (inner u h was.0 (λ c. out (
      let hv = carries_word shape p pair (pos 1) u c.to c.carries in
      record {
        to = c.to;
        carries = c.carries;
        under = under_new shape C (contains_or_not t.words) X e c.to hv c.under (λ g. elim (t.before c.to g.1) [
          | inl is_start ↦ bad.joined (record { to = u; carries = subst (λ a. Carries shape p (negsuc 0) a u) is_start (carries_back shape p pair (pos 1) u c.to c.carries); under = was.0 })
          | inr b ↦ (let same : b.0 ≡ u = carries_injective shape p pair (pos 1) b.0 u c.to b.2 c.carries in
              was.1 (subst (Contains X) same (t.in_X b.0 b.1), subst C same b.1))
        ]);
      })))
      (λ is_last. was.1 (subst (Contains X) (sym is_last) last_X, subst C (sym is_last) t.last_in)))
      (λ W semi. All-from_contains (λ w. IsUnderSome w e.words) W (λ w c.
      under_new shape C (contains_or_not t.words) X e w (basis_word shape W semi.basis w c) (All-contains (λ w. IsUnderSome w X) W w (wide W semi) c) (λ g.
      bad_word_out shape p pair X W semi (λ u s. some_trans s.under (All-contains (λ w. IsUnderSome w X) W s.above (wide W semi) s.listed)) w (t.comes w g.1).0 (t.leads w g.1).0 (t.comes w g.1).1 (t.leads w g.1).1 c))) in
      (r.0, r.1, (let b = r.2 in omega (arith, expanded_longest shape C X e))))
]

-- ---- from the roots

-- all words of fewer than k letters
shorter : Shape → ℕ → List Word
shorter shape zero = []
shorter shape (suc k) = shorter shape k ++ words_of shape k

-- this list has each such word
shorter_holds : (shape : Shape) (k : ℕ) (u : Word) → IsWordOf shape u → length u.letters < k → Contains (shorter shape k) u
unfolding shorter
shorter_holds shape zero u h l = absurd (omega arith)
shorter_holds shape (suc k) u h l = elim (cases_lt (length u.letters) k) [
  | inl m ↦ Contains-append_left (shorter shape k) (words_of shape k) u (shorter_holds shape k u h m)
  | inr m ↦ (
      let s = basis_holds shape (words_of shape k) (words_of_basis shape k) u h (omega (arith, longest_least (words_of shape k) k (λ w c. omega (arith, words_of_length shape k w c)))) in
      let same : u ≡ s.above = under_same s.under (omega (arith, words_of_length shape k s.above s.listed)) in
      Contains-append_right (shorter shape k) (words_of shape k) u (subst (Contains (words_of shape k)) (sym same) s.listed))
]

-- at the roots, the words that are carried to no word are shorter than some `from` word
inner_roots : (shape : Shape) (p : List Row) → IsPair shape p → HasSplitWords shape p (roots shape) (shorter shape (longest (from_words p)))
unfolding HasSplitWords
inner_roots shape p pair = λ u h s out. elim (cases_lt (length u.letters) (longest (from_words p))) [
  | inl l ↦ shorter_holds shape (longest (from_words p)) u h l
  | inr l ↦ absurd (let m = pair_moves shape p pair u h l in out (record { to = m.0; carries = carries_from_steps shape p pair (pos 1) u m.0 h (u, refl, m.2); under = under_roots shape m.0 m.1 }))
]

-- a reduced pair has a least semi-normal basis
pub least_semi_normal : (shape : Shape) (p : List Row) → IsPair shape p → IsReduced shape p → (V : List Word) × IsLeastSemiNormal shape p V
unfolding HasSplitWords
least_semi_normal shape p pair reduced =
    let N = shorter shape (longest (from_words p)) in
    let r = rounds shape p pair reduced (length N) (roots shape) N (roots_basis shape) (omega arith) (inner_roots shape p pair)
    (λ W semi. All-from_contains (λ w. IsUnderSome w (roots shape)) W (λ w c. under_roots shape w (basis_word shape W semi.basis w c))) in
    (r.0, r.1)
