-- Conjugators made atom by atom: one stage leads to the next, or no element conjugates.
use Rattle.std.proofs.Common.{◌≡◌, ◌≢◌, ℕ, ◌⊎◌, inl, inr, List, ◌∷◌, ◌++◌, sym, subst, arith, AllPairs, Contains}
use Rattle.std.specs.Str.{bytes_eq}
use Rattle.std.proofs.lemmas.Bool.{cases_Bool}
use Rattle.std.proofs.lemmas.Bool.Decides.{not_from_Decides}
use Rattle.std.proofs.lemmas.Slice.Eq.{bytes_eq-Decides}
use Rattle.std.proofs.lemmas.List.Elements.{All-contains, Contains-append_left, Contains-append_right}
use Rattle.ht_word.specs.declared.shape.Shape.{Shape}
use Rattle.ht_word.specs.declared.word.Word.{Word}
use Rattle.ht_word.proofs.ListLaws.{Contains-cons_cases, Contains-here, Contains-there}
use Rattle.ht_pair.specs.Atoms.{IsAtom, words_at}
use Rattle.ht_pair.specs.Bases.{Covers}
use Rattle.ht_pair.specs.Conjugacy.{AreConjugate}
use Rattle.ht_pair.specs.LocalConjugacy.{ConjugatesOn}
use Rattle.ht_pair.specs.NormalConjugators.{IsLeastAttractor, CarriesToAttractor}
use Rattle.ht_pair.specs.Pairs.{from_words}
use Rattle.ht_pair.specs.declared.row.Row.{Row}
use Rattle.ht_types.proofs.TurnLaws.{HasSemiNormal}
use Rattle.ht_pieces.proofs.KeptAtoms.{atom_words}
use Rattle.ht_counterparts.specs.Counterparts.{AreCounterparts}
use Rattle.ht_counterparts.proofs.AtomCounterparts.{came_atom, counterpart_one, counterpart_one_back, restricted, sent_atom}
use Rattle.ht_counterparts.proofs.GluedRows.{glued}
use Rattle.ht_counterparts.proofs.PieceLaws.{IsPiece, atom_piece, joined_pieces}
use Rattle.ht_counterparts.proofs.PieceRelations.{conjugates_across}
use Rattle.ht_conj.specs.Matchings.{AreMatched, IsTakenOut}
use Rattle.ht_conj.specs.Stages.{AreConjugateAt, IsStage}
use Rattle.ht_conj.proofs.MatchingLaws.{matched_by, matched_related, matched_same, matched_without}
use Rattle.ht_conj.proofs.PartsDone.{atom_done}
use Rattle.ht_conj.proofs.TakenOutLaws.{taken_cases, taken_head, taken_here, taken_length, taken_more, taken_pairs}

-- two lists of places are one, or not
same_or_not : (k l : List ℕ) → (k ≡ l) ⊎ ¬ (k ≡ l)
same_or_not k l = let d = bytes_eq-Decides k l in elim (cases_Bool (bytes_eq k l)) [ inl e ↦ inl (d.0 e) | inr n ↦ inr (not_from_Decides (bytes_eq k l) d n) ]

module _ {shape : Shape} {f g : List Row} {X Y : List Word} (first : HasSemiNormal shape f X) (second : HasSemiNormal shape g Y) where
  -- where the elements are conjugate, all atoms are matched with those of the other that they are conjugate to
  pub atoms_matched : (A B : List (List ℕ)) → ((k : List ℕ) → Contains A k → IsAtom shape f X k) → ((k : List ℕ) → IsAtom shape f X k → Contains A k)
      → ((l : List ℕ) → Contains B l → IsAtom shape g Y l) → ((l : List ℕ) → IsAtom shape g Y l → Contains B l)
      → AllPairs (λ (k : List ℕ) (l : List ℕ). k ≢ l) A → AreConjugate shape f g → AreMatched (AreConjugateAt shape f X g Y) A (Contains B)
  atoms_matched A B each all each' all' different conjugate =
      let c = conjugate.conjugates in
      matched_by (AreConjugateAt shape f X g Y) (AreCounterparts shape f X g Y conjugate.by) (λ k l. restricted first second c) (λ k l l'. counterpart_one first second c) (λ k k' l. counterpart_one_back first second c) A (Contains B) different
      (λ k e. let l = sent_atom first second c (each k e) in (l.0, all' l.0 l.1.second, l.1))
      (λ l e. let k = came_atom first second c (each' l e) in (k.0, all k.0 k.1.first, k.1))

  -- rows that conjugate on the next atom are added
  pub next_stage : {cycles rows more : List Row} {k l : List ℕ} {A B B' : List (List ℕ)} → IsTakenOut l B B'
      → ConjugatesOn shape more f (words_at X k) g (words_at Y l)
      → ((c : Word) → IsLeastAttractor shape f X k c → CarriesToAttractor shape more g (words_at Y l) c) → IsStage shape f X g Y cycles (k ∷ A) B rows → IsStage shape f X g Y cycles A B' (rows ++ more)
  next_stage {cycles} {rows} {more} {k} {l} {A} {B} {B'} t c normal s =
      let one = All-contains (IsAtom shape f X) (k ∷ A) k s.first_done.each (Contains-here k A) in
      let other = All-contains (IsAtom shape g Y) B l s.second_done.each (taken_here t) in
      let done = atom_done first (taken_head k A) s.first_done in
      let done' = atom_done second t s.second_done in
      let piece : IsPiece shape f s.first = record { pair = first.pair; kept = s.kept } in
      record {
        first = s.first ++ words_at X k;
        second = s.second ++ words_at Y l;
        first_done = done;
        second_done = done';
        many = omega (arith, taken_length t, s.many);
        kept = (joined_pieces piece (atom_piece first one)).kept;
        conjugates = glued piece (atom_piece first one) done.free done'.free s.conjugates c;
        on_cycles = λ row e. Contains-append_left rows more row (s.on_cycles row e);
        on_atoms = λ places d atom least. elim (s.on_atoms places d atom least) [
          | inl e ↦ elim (Contains-cons_cases k A places e) [
            | inl same ↦ inr (record {
              part = more;
              among = λ row i. Contains-append_right rows more row i;
              from = subst (λ q. Covers shape (from_words more) (words_at X q)) same c.from;
              carries = in_basis other (normal d (subst (λ q. IsLeastAttractor shape f X q d) (sym same) least));
            })
            | inr i ↦ inl i
          ]
          | inr sends ↦ inr (record {
            part = sends.part;
            among = λ row i. Contains-append_left rows more row (sends.among row i);
            from = sends.from;
            carries = sends.carries;
          })
        ];
        matched = λ conjugate.
            matched_same (AreConjugateAt shape f X g Y) A (λ z. Contains B z × ¬ (z ≡ l)) (Contains B')
            (λ z e. elim (taken_cases t z e.0) [ inl same ↦ absurd (e.1 (sym same)) | inr i ↦ i ])
            (λ z e. (taken_more t z e, λ same. (taken_pairs t (λ y z. y ≢ z) (λ y z n e. n (sym e)) s.second_done.different).1 z e (sym same)))
            (matched_without (AreConjugateAt shape f X g Y) same_or_not k A (Contains B) l (taken_here t) across (s.matched conjugate));
      }
    where
      in_basis : {q : List Row} {d : Word} → IsAtom shape g Y l → CarriesToAttractor shape q g (words_at Y l) d → CarriesToAttractor shape q g Y d
      in_basis atom e = record { to = e.to; listed = (atom_words atom e.to e.listed).0; steps = e.steps; front = e.front; back = e.back; attractor = e.attractor; proper = e.proper; carries = e.carries }

      across : (k' b : List ℕ) → Contains A k' → Contains B b → AreConjugateAt shape f X g Y k' l → AreConjugateAt shape f X g Y k b
          → AreConjugateAt shape f X g Y k' b
      across k' b e i along on =
          let atoms = s.first_done.each in
          let atoms' = s.second_done.each in
          conjugates_across first second (All-contains (IsAtom shape f X) (k ∷ A) k' atoms (Contains-there k A k' e)) (All-contains (IsAtom shape f X) (k ∷ A) k atoms (Contains-here k A))
          (All-contains (IsAtom shape g Y) B l atoms' (taken_here t)) (All-contains (IsAtom shape g Y) B b atoms' i) along.1 c on.1

  -- an atom that is conjugate to none of those left tells that the elements aren't conjugate
  pub no_stage : {cycles rows : List Row} {k : List ℕ} {A B : List (List ℕ)} → ((l : List ℕ) → Contains B l → ¬ AreConjugateAt shape f X g Y k l)
      → IsStage shape f X g Y cycles (k ∷ A) B rows → ¬ AreConjugate shape f g
  no_stage {k = k} {A} {B} none s conjugate = matched_related (AreConjugateAt shape f X g Y) k A (Contains B) (s.matched conjugate) none
