-- What a pair carries that moves words as rows do.
use Rattle.std.proofs.Common.{◌≡◌, pos, List, ◌++◌, max, ℕ, refl, sym, ap, ◌∙◌, subst, arith, Contains}
use Rattle.std.proofs.lemmas.List.{length-append}
use Rattle.ht_word.specs.Words.{◌·◌, IsLetters, IsUnderSome, IsWordOf}
use Rattle.ht_word.specs.declared.shape.Shape.{Shape}
use Rattle.ht_word.specs.declared.word.Word.{Word}
use Rattle.ht_word.proofs.ListLaws.{contained_in_map}
use Rattle.ht_word.proofs.WordLaws.{after-append, after_cancel_right, letters_append, length-after, length-ones, ones, ones_letters, under_after, word_after}
use Rattle.ht_pair.specs.Actions.{Moves, Alike}
use Rattle.ht_pair.specs.Bases.{Covers, longest}
use Rattle.ht_pair.specs.Pairs.{from_words}
use Rattle.ht_pair.specs.Steps.{Carries}
use Rattle.ht_pair.specs.declared.row.Row.{Row}
use Rattle.ht_pair.proofs.BasisLaws.{covers_long, some_at}
use Rattle.ht_pair.proofs.MovesLaws.{moves_extends}

-- rows move what is under their `from` words
under_moved : (rows : List Row) (u : Word) → IsUnderSome u (from_words rows) → (v : Word) × Moves rows u v
under_moved rows u s =
    let row = contained_in_map (λ (row : Row). row.from) rows s.above s.listed in
    (row.0.to · s.under.rest, record { row = row.0; rest = s.under.rest; listed = row.1; from = s.under.is ∙ ap (λ t. t · s.under.rest) (sym row.2); to = refl })

module _ {shape : Shape} {p rows : List Row} (alike : Alike shape p rows) where
  -- the `from` word of each of the rows is carried to its `to` word
  pub row_carried : (row : Row) → Contains rows row → IsWordOf shape row.from → Carries shape p (pos 1) row.from row.to
  row_carried row c word = record {
    word = word;
    carried = λ z w hz s. alike (row.from · z) w (row.to · z) (word_after shape row.from z word hz) (subst (λ t. Moves p t w) (sym s.1) s.2) (record { row = row; rest = z; listed = c; from = refl; to = refl });
  }

  -- and what some of the rows carry from a word that they cover
  pub part_carried : {part : List Row} {V : List Word} → ((row : Row) → Contains part row → Contains rows row) → Covers shape (from_words part) V → (c d : Word)
      → Contains V c → Carries shape part (pos 1) c d → Carries shape p (pos 1) c d
  part_carried {part} {V} among covers c d listed carries = record {
    word = carries.word;
    carried = λ z w hz s. with_letters z w hz (subst (λ t. Moves p t w) (sym s.1) s.2);
  }
    where
      with_letters : (z : List ℕ) (w : Word) → IsLetters shape z → Moves p (c · z) w → w ≡ d · z
      with_letters z w hz move =
          let k = max (longest (from_words part)) (longest V) in
          let y = ones k in
          let hzy = letters_append shape z y hz (ones_letters shape k) in
          let u = c · (z ++ y) in
          let hu = word_after shape c (z ++ y) carries.word hzy in
          let m = under_moved part u ((covers_long shape (from_words part) V covers u hu (omega (arith, length-after c (z ++ y), length-append z y, length-ones k))).1 (some_at V c u listed (under_after c (z ++ y)))) in
          let there = carries.carried (z ++ y) m.0 hzy (u, refl, m.1) in
          let same = alike u (w · y) m.0 hu (subst (λ t. Moves p t (w · y)) (after-append c z y) (moves_extends p (c · z) w y move))
          (record { row = m.1.row; rest = m.1.rest; listed = among m.1.row m.1.listed; from = m.1.from; to = m.1.to }) in
          after_cancel_right w (d · z) y (same ∙ there ∙ sym (after-append d z y))
