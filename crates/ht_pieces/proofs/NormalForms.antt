-- Some conjugator on an atom is normal: it carries the least attractor to an attractor and few letters.
use Rattle.std.proofs.Common.{◌≡◌, ℕ, List, sym, subst, arith, Contains, ℤ, pos, neg_ℤ, ◌+ℤ◌}
use Rattle.std.proofs.lemmas.Int.{ints}
use Rattle.ht_word.specs.Words.{◌·◌}
use Rattle.ht_word.specs.declared.shape.Shape.{Shape}
use Rattle.ht_word.specs.declared.word.Word.{Word}
use Rattle.ht_word.proofs.WordLaws.{under_after}
use Rattle.ht_pair.specs.Actions.{Moves}
use Rattle.ht_pair.specs.Atoms.{IsAtom, words_at}
use Rattle.ht_pair.specs.Kinds.{IsAttractorWord}
use Rattle.ht_pair.specs.LocalConjugacy.{ConjugatesOn}
use Rattle.ht_pair.specs.NormalConjugators.{CarriesToAttractor, IsLeastAttractor}
use Rattle.ht_pair.specs.Pairs.{IsPair}
use Rattle.ht_pair.specs.SemiNormal.{IsSemiNormal}
use Rattle.ht_pair.specs.Steps.{Steps}
use Rattle.ht_pair.specs.declared.row.Row.{Row}
use Rattle.ht_pair.proofs.PrefixMapLaws.{Then}
use Rattle.ht_types.proofs.AttractorLaws.{IsAttractorOf}
use Rattle.ht_types.proofs.TurnLaws.{HasSemiNormal}
use Rattle.ht_pieces.proofs.Conjugating.{IsConjugator, rows_conjugate, then_conjugate}
use Rattle.ht_pieces.proofs.ConjugatingRows.{alike_conjugates}
use Rattle.ht_pieces.proofs.EndValues.{end_value}
use Rattle.ht_pieces.proofs.InsideLaws.{inside_listed}
use Rattle.ht_pieces.proofs.KeptAtoms.{atom_inside, atom_is_kept, atom_words}
use Rattle.ht_pieces.proofs.PartRows.{part_rows}
use Rattle.ht_pieces.specs.Values.{IsValue}
use Rattle.ht_pieces.proofs.Values.{value_exact, value_then}

-- a conjugator followed by the steps back of its value at an attractor, as rows
pub normal_rows : {shape : Shape} {f g : List Row} {X Y : List Word} {k l : List ℕ} {F : Word → Word → Type 0} → HasSemiNormal shape f X → HasSemiNormal shape g Y
    → IsAtom shape f X k → IsAtom shape g Y l → IsConjugator shape f g (words_at X k) (words_at Y l) F
    → (x : Word) → Contains (words_at X k) x → IsAttractorWord shape f x → (q : List Row) × ConjugatesOn shape q f (words_at X k) g (words_at Y l) × CarriesToAttractor shape q g (words_at Y l) x
normal_rows {shape} {f} {g} {X} {Y} {k} {l} {F} first second atom other c x listed (m, G, attractor) =
    let kept = atom_is_kept second other in
    let of : IsAttractorOf shape f X x m G = record { listed = (atom_words atom x listed).0; attractor = attractor } in
    let d = atom_inside first atom x listed in
    let e = end_value c kept first second x m G of d in
    let back = neg_ℤ e.power in
    let by = then_conjugate c kept back in
    let none : e.power +ℤ back ≡ pos 0 = none_left e.power in
    let value : IsValue shape (Then F (Steps g back)) g x (e.end · e.front) (pos 0) = subst (IsValue shape (Then F (Steps g back)) g x (e.end · e.front)) none (value_then c e.inside.word e.value back) in
    let r = part_rows by.map in (
      r.rows,
      alike_conjugates by r.rows r.from (record { bound = 0; alike = λ u v hu l. r.by u v }),
      record {
        to = e.end;
        listed = inside_listed second.semi.basis (λ t n. (atom_words other t n).0) e.inside e.end e.listed (under_after e.end e.front);
        steps = m;
        front = e.front;
        back = e.back;
        attractor = e.ends;
        proper = e.proper;
        carries = record { word = d.word; carried = λ z w hz s. value_exact by d.word value z w hz (r.by (x · z) w (subst (λ t. Moves r.rows t w) (sym s.1) s.2)) };
      },
    )
  where
    none_left : (i : ℤ) → i +ℤ neg_ℤ i ≡ pos 0
    none_left i = omega (arith, ints)

-- where some rows conjugate on an atom, some do that carry the least attractor so
pub some_normal : (shape : Shape) (f g : List Row) (X Y : List Word) → IsPair shape f → IsPair shape g → IsSemiNormal shape f X → IsSemiNormal shape g Y → (k l : List ℕ)
    → IsAtom shape f X k → IsAtom shape g Y l → (h : List Row)
    → ConjugatesOn shape h f (words_at X k) g (words_at Y l) → (x : Word) → IsLeastAttractor shape f X k x → (q : List Row) × ConjugatesOn shape q f (words_at X k) g (words_at Y l) × CarriesToAttractor shape q g (words_at Y l) x
some_normal shape f g X Y pair_f pair_g semi_X semi_Y k l atom other h conjugates x least =
    let first : HasSemiNormal shape f X = record { pair = pair_f; semi = semi_X } in
    let second : HasSemiNormal shape g Y = record { pair = pair_g; semi = semi_Y } in
    normal_rows first second atom other (rows_conjugate pair_f pair_g (atom_is_kept first atom) conjugates) x least.listed least.attractor
