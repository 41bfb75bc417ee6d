-- The elements of the words of a sample are the sample.
use Rattle.std.proofs.Common.{◌≡◌, ℕ, List, [], length, sym, ◌∙◌, subst₂, Result, Ok, Err, IfOk}
use Rattle.ht_word.specs.declared.shape.Shape.{Shape}
use Rattle.ht_word.specs.declared.word.Word.{Word}
use Rattle.ht_word.proofs.WordLaws.{All-from_contains, after-nil}
use Rattle.ht_pair.specs.Actions.{Moves, IsCanonicalFor}
use Rattle.ht_pair.specs.declared.row.Row.{Row}
use Rattle.ht_pair.proofs.MovesLaws.{moves_extends}
use Rattle.ht_sample.specs.Groups.{rows_between, sample_rows}
use Rattle.ht_sample.specs.declared.elements.SampleElements.{SampleElements}
use Rattle.ht_sample.specs.Samples.{read_at, IsSampleBasis, SampleWords, IsSample}
use Rattle.ht_sample.proofs.BetweenLaws.{between-from_words, between-to_words, between_pair}
use Rattle.ht_sample.proofs.ConjugateLaws.{AreRowsSent, sent_groups, sent_conjugates}
use Rattle.ht_sample.proofs.GroupLaws.{groups_pair}

-- the rows between two bases send the groups of the one to the groups of the other
rows_sent : (X Y : List Word) → length X ≡ length Y → AreRowsSent (Moves (rows_between X Y)) (sample_rows X) (sample_rows Y)
rows_sent X Y same =
    let H = rows_between X Y in
    let moved = All-from_contains (λ (row : Row). Moves H row.from row.to) H (λ row c. record { row = row; rest = []; listed = c; from = sym (after-nil row.from); to = sym (after-nil row.to) }) in
    let all = sent_groups (Moves H) (moves_extends H) 500 H moved in
    subst₂ (λ (Z W : List Word). AreRowsSent (Moves H) (sample_rows Z) (sample_rows W)) (between-from_words X Y same) (between-to_words X Y same) all

pub sample_made : {T : Type 0} (r : Result SampleElements T) (shape : Shape) (number : ℕ) (D E : List Word) (order : List ℕ) → shape.n ≡ 2 → shape.r ≡ 1
    → SampleWords shape number D E order → IsSampleBasis shape D → IsSampleBasis shape (read_at E order)
    → IfOk r (λ s. (s.a.shape ≡ shape) × (s.h.shape ≡ shape) × (s.c.shape ≡ shape))
    → IfOk r (λ s. IsCanonicalFor shape s.a.rows (sample_rows D))
    → IfOk r (λ s. IsCanonicalFor shape s.h.rows (rows_between D (read_at E order)))
    → IfOk r (λ s. IsCanonicalFor shape s.c.rows (sample_rows (read_at E order)))
    → IfOk r (λ s. IsSample number s.a s.h s.c)
sample_made (Ok s) shape number D E order two one words first images shapes a_is h_is c_is =
    let F = read_at E order in
    record {
      shape = shape;
      letters = two;
      one_root = one;
      a_shape = shapes.0;
      h_shape = shapes.1;
      c_shape = shapes.2;
      D = D;
      E = E;
      order = order;
      words = words;
      a_is = a_is;
      h_is = h_is;
      c_canonical = c_is.form;
      conjugates = sent_conjugates shape (rows_between D F) (sample_rows D) (sample_rows F) s.h.rows s.a.rows s.c.rows (between_pair shape D F first images).pair (groups_pair shape two D first).pair
          h_is a_is c_is (rows_sent D F (first.size ∙ sym images.size));
    }
sample_made (Err fault) shape number D E order two one words first images shapes a_is h_is c_is = tt
