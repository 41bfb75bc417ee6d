-- The links of an element connect the ends of each atom. t is the element with its quasinormal basis. The two links of an end connect it with the next
-- end on its round, so all ends of a round are connected; the link of a row connects what the words above the row's two words come under.
use Rattle.std.proofs.Common.{◌≡◌, ℕ, zero, suc, ◌⊎◌, inl, inr, List, ◌++◌, Some, slice_get, refl, sym, ap, ◌∙◌, subst, subst₂, arith, Contains, ◌↔◌, ℤ, pos, neg_ℤ, ◌+ℤ◌}
use Rattle.std.proofs.lemmas.Int.{ints}
use Rattle.std.proofs.lemmas.List.Elements.{All-contains}
use Rattle.std.proofs.lemmas.Option.{same_Some}
use Rattle.ht_word.specs.Words.{◌·◌, IsUnder, IsWordOf}
use Rattle.ht_word.specs.declared.word.Word.{Word}
use Rattle.ht_word.proofs.WordLaws.{after-append, under_after, under_refl, under_trans, word_rest}
use Rattle.ht_pair.specs.Atoms.{AreJoined, AreLinked, IsAtom, words_at}
use Rattle.ht_pair.specs.Kinds.{IsCycleWord, IsAttractorWord, IsRepellerWord}
use Rattle.ht_pair.specs.Pairs.{turned}
use Rattle.ht_pair.specs.Steps.{Carries}
use Rattle.ht_pair.proofs.BasisLaws.{basis_single, some_at}
use Rattle.ht_pair.proofs.CarriesLaws.{carries_single, carries_back, carries_word, carries_extends, carries_sum}
use Rattle.ht_quasi.proofs.StepLaws.{at_place, listed_at, same_at}
use Rattle.ht_types.specs.Flows.{power_in, IsEndIn}
use Rattle.ht_types.specs.Links.{ReachesEnd, IsLink, ConnectEnds, reach_in}
use Rattle.ht_types.specs.TypedElements.{TypedValue, IsTyped}
use Rattle.ht_types.specs.declared.direction.Direction.{Direction}
use Rattle.ht_types.specs.declared.direction.Direction.TheVariants.{Ahead, Behind}
use Rattle.ht_types.specs.declared.link.Link.{Link}
use Rattle.ht_types.proofs.AnchorLaws.{IsEndWord, MeetsEnd, end_meets, anchor, AreNextNear, met_near}
use Rattle.ht_types.proofs.AtomLaws.{atom_infinite, atom_linked, last_infinite}
use Rattle.ht_types.proofs.CourseLaws.{same_place}
use Rattle.ht_types.proofs.FlowLaws.{turned_base}
use Rattle.ht_types.proofs.JoinedLaws.{joined_by_row, row_carries}
use Rattle.ht_types.proofs.MirrorLaws.{turned_mirrors, attractor_repeller, repeller_attractor}
use Rattle.ht_types.proofs.PlacedWords.{at_places, placed_word}
use Rattle.ht_types.proofs.TypedLaws.{typed_base}
use Rattle.ht_pieces.proofs.InsideLaws.{inside_from_under}
use Rattle.ht_pieces.proofs.KeptAtoms.{carried_into_atom}
use Rattle.ht_links.specs.Listing.{ListsEnd}
use Rattle.ht_links.proofs.ChainLaws.{AreTogether, AreNear, together_on, together_back, near_equivalence}
use Rattle.ht_links.proofs.ListingLaws.{IsWhole}

-- ---- short for an element with its basis

abbrev StandsAt : TypedValue → ℕ → Word → Type 0
StandsAt t i x = slice_get t.quasi.basis.words i ≡ Some x

abbrev IsCarried : TypedValue → ℤ → Word → Word → Type 0
IsCarried t k u v = Carries t.element.shape t.element.rows k u v

abbrev IsInfinite : TypedValue → Word → Type 0
IsInfinite t x = ¬ IsCycleWord t.element.shape t.element.rows x

abbrev AreJoinedIn : TypedValue → Word → Word → Type 0
AreJoinedIn t x y = AreJoined t.element.shape t.element.rows x y

abbrev MeetsAt : TypedValue → Word → ℕ → Type 0
MeetsAt t u i = MeetsEnd t.element.shape t.element.rows t.quasi.basis.words u i

-- an infinite word at one of the places
record IsOneOf (t : TypedValue) (places : List ℕ) (n : ℕ) (x : Word) : Type 0 where
  here : StandsAt t n x
  inside : Contains places n
  infinite : IsInfinite t x

-- such a word, where all ends that it comes under are connected with that at i
record IsConnectedTo (t : TypedValue) (places : List ℕ) (links : List Link) (i n : ℕ) (x : Word) : Type 0 where
  one : IsOneOf t places n x
  ends : (j : ℕ) → MeetsAt t x j → AreTogether t places links i j

-- ---- one atom

module _ (t : TypedValue) (typed : IsTyped t.element t.quasi t.kinds) (links : List Link) (all : IsWhole t links) (places : List ℕ) (atom : IsAtom t.element.shape t.element.rows t.quasi.basis.words places) where
  -- one link
  one_link : (link : Link) (x : Word) (n : ℕ) → Contains links link → StandsAt t n x → Contains places n → IsUnder link.cone x → AreTogether t places links link.ahead.to link.behind.to
  one_link link x n listed here c under =
      (1, (link.ahead.to, refl, record { link = link; listed = listed; under = record { above = x; listed = at_places t.quasi.basis.words places n x c here; under = under }; ends = inl (refl, refl) }))

  -- a power leads from under one word of the atom under words of the atom alone
  stays : (k : ℤ) (u v x y : Word) (i j : ℕ) → StandsAt t i x → StandsAt t j y → IsUnder u x → IsUnder v y → IsCarried t k u v → Contains places i → Contains places j
  stays k u v x y i j x_is y_is under_u under_v carries c =
      let X = t.quasi.basis.words in
      let h = typed_base t typed in
      let d = inside_from_under t.element.shape (words_at X places) u carries.word (some_at (words_at X places) x u (at_places X places i x c x_is) under_u) in
      let g = placed_word X places y (carried_into_atom h atom k u v y d carries (listed_at X j y y_is) under_v) in
      subst (Contains places) (same_place X h.semi.basis.prefix_free g.0 j y y g.2 y_is refl) g.1

  -- so the atom keeps places
  keeps : (k : ℤ) (u v x y : Word) (i j : ℕ) → StandsAt t i x → StandsAt t j y → IsUnder u x → IsUnder v y → IsCarried t k u v → Contains places i ↔ Contains places j
  keeps k u v x y i j x_is y_is under_u under_v carries = (
    stays k u v x y i j x_is y_is under_u under_v carries,
    stays (neg_ℤ k) v u y x j i y_is x_is under_v under_u (carries_back t.element.shape t.element.rows typed.canonical.pair k u v carries),
  )

  is_link : (link : Link) → Contains links link → IsLink t link
  is_link link c = All-contains (IsLink t) links link all.are c

  -- ---- rounds

  -- the second link of an end comes under the next end in the end's direction
  next_is : (e : Direction) (i j : ℕ) (x y : Word) (z : List ℕ) (l : ListsEnd t e i links) → StandsAt t i x → StandsAt t j y → IsCarried t (power_in e 1) x (y · z) → ReachesEnd t e l.second.cone (reach_in e l.second) → (reach_in e l.second).to ≡ j
  next_is e i j x y z l x_is y_is one r =
      let shape = t.element.shape in
      let p = t.element.rows in
      let X = t.quasi.basis.words in
      let h = typed_base t typed in
      let k = power_in e 1 in
      let next = reach_in e l.second in
      let same : l.are.word ≡ x = same_at X X i l.are.word x refl l.are.here x_is in
      let s = l.are.under.rest in
      let cone_is : l.second.cone ≡ x · s = l.are.cone ∙ l.are.under.is ∙ ap (λ w. w · s) same in
      let there : Carries shape p k (x · s) (r.above · next.rest) = subst₂ (λ m u. Carries shape p (power_in e m) u (r.above · next.rest)) l.are.step cone_is r.carries in
      let words = carries_single shape p h.pair k (x · s) (r.above · next.rest) ((y · z) · s) there (carries_extends shape p k x (y · z) s (word_rest shape x s there.word) one) in
      let under : IsUnder (r.above · next.rest) y = record { rest = z ++ s; is = words ∙ after-append y z s } in
      let equal = basis_single shape X h.semi.basis (r.above · next.rest) r.above y (listed_at X next.to r.above r.here) (listed_at X j y y_is) (under_after r.above next.rest) under in
      same_place X h.semi.basis.prefix_free next.to j r.above y r.here y_is equal

  -- so its two links connect it with that
  next_together : (e : Direction) (i j : ℕ) (x y : Word) (z : List ℕ) → ListsEnd t e i links → StandsAt t i x → StandsAt t j y → IsCarried t (power_in e 1) x (y · z) → Contains places i → AreTogether t places links i j
  next_together e i j x y z l x_is y_is one c = by e l one
    where
      under : (e : Direction) (l : ListsEnd t e i links) → IsUnder l.first.cone x
      under e l = subst (IsUnder l.first.cone) (same_at t.quasi.basis.words t.quasi.basis.words i l.are.word x refl l.are.here x_is) l.are.under

      first : (e : Direction) (l : ListsEnd t e i links) → AreTogether t places links l.first.ahead.to l.first.behind.to
      first e l = one_link l.first x i l.first_listed x_is c (under e l)

      second : (e : Direction) (l : ListsEnd t e i links) → AreTogether t places links l.second.ahead.to l.second.behind.to
      second e l = one_link l.second x i l.second_listed x_is c (subst (λ u. IsUnder u x) (sym l.are.cone) (under e l))

      by : (e : Direction) (l : ListsEnd t e i links) → IsCarried t (power_in e 1) x (y · z) → AreTogether t places links i j
      by Ahead l one =
          let next = next_is Ahead i j x y z l x_is y_is one (is_link l.second l.second_listed).ahead in
          let here = subst (λ k. AreTogether t places links k l.first.behind.to) l.are.itself (first Ahead l) in
          let there = subst₂ (AreTogether t places links) next l.are.other (second Ahead l) in
          together_on t places links i l.first.behind.to j here (together_back t places links j l.first.behind.to there)
      by Behind l one =
          let next = next_is Behind i j x y z l x_is y_is one (is_link l.second l.second_listed).behind in
          let here = subst (λ k. AreTogether t places links l.first.ahead.to k) l.are.itself (first Behind l) in
          let there = subst₂ (AreTogether t places links) l.are.other next (second Behind l) in
          together_on t places links i l.first.ahead.to j (together_back t places links l.first.ahead.to i here) there

  next_near : (e : Direction) (i j : ℕ) (x y : Word) (z : List ℕ) → StandsAt t i x → StandsAt t j y → IsEndIn e t.element.shape t.element.rows x → IsCarried t (power_in e 1) x (y · z) → AreNear t places links i j
  next_near e i j x y z x_is y_is ends one = (
    keeps (power_in e 1) x (y · z) x y i j x_is y_is (under_refl x) (under_after y z) one,
    next_together e i j x y z (all.ends e i x x_is ends) x_is y_is one,
  )

  ahead_near : AreNextNear t.element.shape t.element.rows t.quasi.basis.words (AreNear t places links)
  ahead_near i j x y z x_is y_is ends one = next_near Ahead i j x y z x_is y_is ends one

  behind_near : AreNextNear t.element.shape (turned t.element.rows) t.quasi.basis.words (AreNear t places links)
  behind_near i j x y z x_is y_is ends one =
      let mirrors = turned_mirrors t.element.shape t.element.rows typed.canonical.pair in
      next_near Behind i j x y z x_is y_is (ends.0, ends.1, attractor_repeller mirrors x ends.0 ends.1 ends.2) (mirrors.to (pos 1) x (y · z) one)

  -- two attractors under which powers carry one word are connected
  attractors_near : (k l : ℤ) (i j : ℕ) (u x y : Word) (s z : List ℕ) → StandsAt t i x → StandsAt t j y → IsAttractorWord t.element.shape t.element.rows x → IsAttractorWord t.element.shape t.element.rows y
      → IsCarried t k u (x · s) → IsCarried t l u (y · z) → AreNear t places links i j
  attractors_near = met_near (typed_base t typed) (near_equivalence t places links) ahead_near

  -- so are two repellers
  repellers_near : (k l : ℤ) (i j : ℕ) (u x y : Word) (s z : List ℕ) → StandsAt t i x → StandsAt t j y → IsRepellerWord t.element.shape t.element.rows x → IsRepellerWord t.element.shape t.element.rows y
      → IsCarried t k u (x · s) → IsCarried t l u (y · z) → AreNear t places links i j
  repellers_near k l i j u x y s z x_is y_is a b c d =
      let mirrors = turned_mirrors t.element.shape t.element.rows typed.canonical.pair in
      met_near (turned_base (typed_base t typed)) (near_equivalence t places links) behind_near (neg_ℤ k) (neg_ℤ l) i j u x y s z x_is y_is (a.0, a.1, repeller_attractor mirrors x a.0 a.1 a.2) (b.0, b.1, repeller_attractor mirrors y b.0 b.1 b.2)
      (mirrors.from (neg_ℤ k) u (x · s) (subst (λ m. IsCarried t m u (x · s)) (twice k) c)) (mirrors.from (neg_ℤ l) u (y · z) (subst (λ m. IsCarried t m u (y · z)) (twice l) d))
    where
      twice : (m : ℤ) → m ≡ neg_ℤ (neg_ℤ m)
      twice m = omega (arith, ints)

  -- ---- what words come under

  -- a word under x comes under what x comes under
  meets_under : (u x : Word) (i : ℕ) → IsWordOf t.element.shape u → IsUnder u x → MeetsAt t x i → MeetsAt t u i
  meets_under u x i hu under m =
      let shape = t.element.shape in
      let p = t.element.rows in
      let z = under.rest in
      let hz = word_rest shape x z (subst (IsWordOf shape) under.is hu) in
      let there = subst (Carries shape p m.power (x · z)) (after-append m.above m.rest z) (carries_extends shape p m.power x (m.above · m.rest) z hz m.carries) in
      record { above = m.above; here = m.here; ends = m.ends; power = m.power; rest = m.rest ++ z; carries = subst (λ w. Carries shape p m.power w (m.above · (m.rest ++ z))) (sym under.is) there }

  -- and a word under what a power carries it to
  meets_before : (k : ℤ) (u v : Word) (i : ℕ) → IsCarried t k u v → MeetsAt t v i → MeetsAt t u i
  meets_before k u v i carries m = record {
    above = m.above;
    here = m.here;
    ends = m.ends;
    power = k +ℤ m.power;
    rest = m.rest;
    carries = carries_sum t.element.shape t.element.rows typed.canonical.pair k m.power (k +ℤ m.power) refl u v (m.above · m.rest) carries m.carries;
  }

  -- each end that a link's cone comes under is connected with the link's attractor
  link_meets : (link : Link) (x : Word) (n i : ℕ) → Contains links link → IsOneOf t places n x → IsUnder link.cone x → MeetsAt t link.cone i → AreTogether t places links i link.ahead.to
  link_meets link x n i listed one under m = by m.ends
    where
      inside : Contains places i
      inside = (keeps m.power link.cone (m.above · m.rest) x m.above n i one.here m.here under (under_after m.above m.rest) m.carries).0 one.inside

      by : IsEndWord t.element.shape t.element.rows m.above → AreTogether t places links i link.ahead.to
      by (inl a) =
          let r = (is_link link listed).ahead in
          (attractors_near m.power (pos link.ahead.steps) i link.ahead.to link.cone m.above r.above m.rest link.ahead.rest m.here r.here a r.ends m.carries r.carries).1 inside
      by (inr b) =
          let r = (is_link link listed).behind in
          let near = repellers_near m.power (neg_ℤ (pos link.behind.steps)) i link.behind.to link.cone m.above r.above m.rest link.behind.rest m.here r.here b r.ends m.carries r.carries in
          together_on t places links i link.behind.to link.ahead.to (near.1 inside) (together_back t places links link.ahead.to link.behind.to (one_link link x n listed one.here one.inside under))

  -- ---- joined words

  -- what two joined words come under is connected, by the link of a row
  joined_together : (x y : Word) (n i j : ℕ) → IsOneOf t places n x → Contains t.quasi.basis.words y → AreJoinedIn t x y → MeetsAt t x i → MeetsAt t y j → AreTogether t places links i j
  joined_together x y n i j one listed joined first second =
      let shape = t.element.shape in
      let p = t.element.rows in
      let X = t.quasi.basis.words in
      let h = typed_base t typed in
      let x_listed = listed_at X n x one.here in
      let r = (joined_by_row shape p h.pair X h.semi.basis t.quasi.y typed.quasinormal.rows x y x_listed listed).0 joined in
      let l = all.rows r.row r.listed (record { above = x; infinite = (x_listed, one.infinite); under = r.from }) in
      let cone = l.link.cone in
      let word = (is_link l.link l.listed).word in
      let z = l.under.rest in
      let hz = word_rest shape r.row.from z (subst (IsWordOf shape) l.under.is word) in
      let step : Carries shape p (pos 1) cone (r.row.to · z) = subst (λ w. Carries shape p (pos 1) w (r.row.to · z)) (sym l.under.is) (carries_extends shape p (pos 1) r.row.from r.row.to z hz (row_carries shape p X t.quasi.y typed.quasinormal.rows r.row r.listed)) in
      let there = meets_under (r.row.to · z) y j (carries_word shape p h.pair (pos 1) cone (r.row.to · z) step) (under_trans (under_after r.row.to z) r.to) second in
      let under = under_trans l.under r.from in
      let to_first = link_meets l.link x n i l.listed one under (meets_under cone x i word under first) in
      let to_second = link_meets l.link x n j l.listed one under (meets_before (pos 1) cone (r.row.to · z) j step there) in
      together_on t places links i l.link.ahead.to j to_first (together_back t places links j l.link.ahead.to to_second)

  -- so a link of a chain leads on to a word of the atom that is connected with what the first comes under
  step_together : (x y : Word) (n m i : ℕ) → IsOneOf t places n x → MeetsAt t x i → StandsAt t m y → IsInfinite t y → AreJoinedIn t x y ⊎ AreJoinedIn t y x → IsConnectedTo t places links i m y
  step_together x y n m i one first y_is other (inl g) = record {
    one = record { here = y_is; inside = (keeps (pos 1) g.from g.to x y n m one.here y_is g.under_first g.under_second g.carries).0 one.inside; infinite = other };
    ends = λ j second. joined_together x y n i j one (listed_at t.quasi.basis.words m y y_is) g first second;
  }
  step_together x y n m i one first y_is other (inr g) =
      let last : IsOneOf t places m y = record { here = y_is; inside = (keeps (pos 1) g.from g.to y x m n y_is one.here g.under_first g.under_second g.carries).1 one.inside; infinite = other } in
      record { one = last; ends = λ j second. together_back t places links j i (joined_together y x m j i last (listed_at t.quasi.basis.words n x one.here) g second first) }

  -- and so do chains
  chain_together : (k : ℕ) (x y : Word) (n m i : ℕ) → IsOneOf t places n x → MeetsAt t x i → StandsAt t m y → AreLinked t.element.shape t.element.rows t.quasi.basis.words (suc k) x y → IsConnectedTo t places links i m y
  chain_together zero x y n m i one first y_is (w, before, last, link) = step_together x y n m i one first y_is last.1 (subst (λ s. AreJoinedIn t s y ⊎ AreJoinedIn t y s) (sym before) link)
  chain_together (suc k) x y n m i one first y_is (w, before, last, link) =
      let X = t.quasi.basis.words in
      let middle = last_infinite t.element.shape t.element.rows X (suc k) x w (listed_at X n x one.here, one.infinite) before in
      let at = middle.0.0 in
      let r = chain_together k x w n at i one first (at_place X w middle.0) before in
      let a = anchor (typed_base t typed) w middle in
      let s = step_together w y at m a.0 r.one a.1 y_is last.1 link in
      record { one = s.one; ends = λ j second. together_on t places links i a.0 j (r.ends a.0 a.1) (s.ends j second) }

  -- all ends of the atom are connected
  pub ends_connected : ConnectEnds t places links
  ends_connected i j first second =
      let chain = atom_linked t.element.shape t.element.rows t.quasi.basis.words places i j first.word second.word atom first.listed second.listed first.here second.here in
      by chain.0 chain.1
    where
      start : IsOneOf t places i first.word
      start =
          let a = atom_infinite t.element.shape t.element.rows t.quasi.basis.words places i atom first.listed in
          record { here = first.here; inside = first.listed; infinite = subst (IsInfinite t) (same_Some a.0 first.word (sym a.1 ∙ first.here)) (a.2).1 }

      by : (k : ℕ) → AreLinked t.element.shape t.element.rows t.quasi.basis.words k first.word second.word → AreTogether t places links i j
      by zero c = (0, same_place t.quasi.basis.words (typed_base t typed).semi.basis.prefix_free i j first.word second.word first.here second.here c)
      by (suc k) c =
          let h = typed_base t typed in
          (chain_together k first.word second.word i j i start (end_meets h first.word i first.here first.ends) second.here c).ends j (end_meets h second.word j second.here second.ends)
