-- Rows that agree along the rows of one step: they conjugate, and rows that conjugate do; and what agreeing is for value lists.
use Rattle.std.proofs.Common.{◌≡◌, ◌↔◌, ℕ, List, ◌++◌, refl, sym, ap, ◌∙◌, subst, arith, append_assoc, Contains, pos}
use Rattle.std.proofs.lemmas.List.{length-append}
use Rattle.std.proofs.lemmas.List.Elements.{All-contains}
use Rattle.ht_word.specs.Words.{◌·◌, IsLetters, IsWordOf, IsUnder, IsUnderSome}
use Rattle.ht_word.specs.declared.shape.Shape.{Shape}
use Rattle.ht_word.specs.declared.word.Word.{Word}
use Rattle.ht_word.proofs.ListLaws.{contained_in_map}
use Rattle.ht_word.proofs.WordLaws.{after-append, after_cancel_right, length-after, length-ones, letters_append, ones, ones_letters, under_after, under_trans, word_after, word_rest}
use Rattle.ht_pair.specs.Actions.{Moves}
use Rattle.ht_pair.specs.Bases.{IsBasis, longest}
use Rattle.ht_pair.specs.Images.{Entry}
use Rattle.ht_pair.specs.Pairs.{IsPair, from_words}
use Rattle.ht_pair.specs.Steps.{Carries}
use Rattle.ht_pair.specs.ValueLists.{IsFollowed, Sends}
use Rattle.ht_pair.specs.declared.row.Row.{Row}
use Rattle.ht_pair.proofs.BasisLaws.{basis_holds, basis_single, some_at}
use Rattle.ht_pair.proofs.MovesLaws.{moves_extends, moves_map}
use Rattle.ht_pair.proofs.StepsLaws.{steps_map}
use Rattle.ht_pair.proofs.ValueListLaws.{reach_of, sends_extends, sends_some, sends_word, value_once}
use Rattle.ht_quasi.specs.Quasis.{IsYOf}
use Rattle.ht_pieces.proofs.LongSteps.{steps_long}
use Rattle.ht_local.specs.PlacedLists.{AgreesAlong, IsListBehind, rows_at}
use Rattle.ht_local.proofs.TableLaws.{IsTableOver, moves_sent, sent_moves}

-- ---- conjugating

-- what rows that conjugate on V do on the words under it
abbrev pub Commutes : List Row → List Row → List Row → Shape → List Word → Type 0
Commutes h a b shape V = (u u' v v' w : Word) → IsWordOf shape u → IsUnderSome u V → Moves a u u' → Moves h u' v' → Moves h u v → Moves b v w → w ≡ v'

-- rows that commute under V agree along a row of one step from under it
pub commuting_agree : {shape : Shape} {f g h : List Row} {V : List Word} → IsPair shape f → Commutes h f g shape V → (row : Row) → Carries shape f (pos 1) row.from row.to
    → IsUnderSome row.from V → AgreesAlong shape h g row
commuting_agree {shape} {f} {g} {h} {V} pair commutes row carries under = λ z v v' w hz m n m'.
    let size = (steps_map shape f pair (pos 1)).ahead.bound in
    let t = ones size in
    let ht = ones_letters shape size in
    let hzt = letters_append shape z t hz ht in
    let there = steps_long shape f pair (pos 1) row.from row.to carries (z ++ t) hzt (omega (arith, length-append z t, length-ones size)) in
    let move : Moves f (row.from · (z ++ t)) (row.to · (z ++ t)) = subst (λ e. Moves f e (row.to · (z ++ t))) (sym there.1) there.2 in
    let first : Moves h (row.from · (z ++ t)) (v · t) = subst (λ e. Moves h e (v · t)) (after-append row.from z t) (moves_extends h (row.from · z) v t m) in
    let second : Moves h (row.to · (z ++ t)) (v' · t) = subst (λ e. Moves h e (v' · t)) (after-append row.to z t) (moves_extends h (row.to · z) v' t m') in
    after_cancel_right w v' t (commutes (row.from · (z ++ t)) (row.to · (z ++ t)) (v · t) (v' · t) (w · t) (word_after shape row.from (z ++ t) carries.word hzt)
    (some_after under (z ++ t)) move second first (moves_extends g v w t n))
  where
    some_after : {W : List Word} {u : Word} → IsUnderSome u W → (y : List ℕ) → IsUnderSome (u · y) W
    some_after {W} {u} s y = some_at W s.above (u · y) s.listed (under_trans (under_after u y) s.under)

-- rows that agree along all rows of one step from under V commute there
pub agreeing_commute : {shape : Shape} {f g h : List Row} {X V : List Word} {y : List Row} → IsBasis shape X → IsYOf shape f X y → ((x : Word) → Contains V x → Contains X x)
    → ((row : Row) (x : Word) → Contains y row → Contains V x → IsUnder row.from x → AgreesAlong shape h g row) → Commutes h f g shape V
agreeing_commute {shape} {f} {g} {h} {X} {V} {y} basis rows within agree = λ u u' v v' w hu under move n n' k.
    let size = longest (from_words y) in
    let t = ones size in
    let ht = ones_letters shape size in
    let hut = word_after shape u t hu ht in
    let s = basis_holds shape (from_words y) rows.basis (u · t) hut (omega (arith, length-after u t, length-ones size)) in
    let r = contained_in_map (λ (q : Row). q.from) y s.above s.listed in
    let row = r.0 in
    let z = s.under.rest in
    let is : u · t ≡ row.from · z = s.under.is ∙ ap (λ (e : Word). e · z) (sym r.2) in
    let hz = word_rest shape s.above z (subst (IsWordOf shape) s.under.is hut) in
    let over = All-contains (λ e. IsUnderSome e X) (from_words y) s.above rows.from_under s.listed in
    let same : over.above ≡ under.above = basis_single shape X basis (u · t) over.above under.above over.listed (within under.above under.listed) (under_trans s.under over.under) (under_trans (under_after u t) under.under) in
    let below : IsUnder row.from under.above = subst (λ e. IsUnder e under.above) (sym r.2) (subst (IsUnder s.above) same over.under) in
    let carries = All-contains (λ (q : Row). Carries shape f (pos 1) q.from q.to) y row rows.to r.1 in
    let there : u' · t ≡ row.to · z = carries.carried z (u' · t) hz (row.from · z, refl, subst (λ e. Moves f e (u' · t)) is (moves_extends f u u' t move)) in
    after_cancel_right w v' t (agree row under.above r.1 under.listed below z (v · t) (v' · t) (w · t) hz
    (subst (λ e. Moves h e (v · t)) is (moves_extends h u v t n')) (moves_extends g v w t k) (subst (λ e. Moves h e (v' · t)) there (moves_extends h u' v' t n)))

-- ---- value lists

-- along a row the rows of the lists agree where the two lists that tell both ways round are one
module _ {shape : Shape} {X : List Word} {k : List ℕ} {lists : List (List Entry)} (t : IsTableOver shape X k lists) where
  behind_sent : {index : ℕ} {u : Word} {L : List Entry} → IsListBehind shape X k lists index u L → (z : List ℕ) (v : Word) → IsLetters shape z → Moves (rows_at X k lists) (u · z) v → Sends L z v
  behind_sent {index} {u} {L} b z v hz m = (b.sends z v hz).1 (moves_sent t index b.place b.above b.list b.place_at b.here b.list_at (b.letters ++ z) v
      (subst (λ e. Moves (rows_at X k lists) e v) (ap (λ (e : Word). e · z) b.is ∙ after-append b.above b.letters z) m))

  sent_behind : {index : ℕ} {u : Word} {L : List Entry} → IsListBehind shape X k lists index u L → (z : List ℕ) (v : Word) → IsLetters shape z → Sends L z v → Moves (rows_at X k lists) (u · z) v
  sent_behind {index} {u} {L} b z v hz s = subst (λ e. Moves (rows_at X k lists) e v) (sym (ap (λ (e : Word). e · z) b.is ∙ after-append b.above b.letters z))
      (sent_moves t index b.place b.above b.list b.place_at b.here b.list_at (b.letters ++ z) v ((b.sends z v hz).0 s))

  pub lists_agree : {g : List Row} {row : Row} {i j : ℕ} {B M N : List Entry} → IsPair shape g → IsListBehind shape X k lists i row.from B → IsFollowed shape B g (pos 1) M → IsListBehind shape X k lists j row.to N
      → (M ≡ N) ↔ AgreesAlong shape (rows_at X k lists) g row
  lists_agree {g} {row} {i} {j} {B} {M} {N} pair first followed second = (
    (λ same z v v' w hz m n m'. followed.followed z v w v' hz (behind_sent first z v hz m) (v, refl, n) (subst (λ O. Sends O z v') (sym same) (behind_sent second z v' hz m'))),
    (λ agree. value_once shape M N followed.value_list second.value_list (λ z w v hz s s'.
        let size = (moves_map shape g pair).ahead.bound in
        let r = ones (reach_of B) in
        let hzr = letters_append shape z r hz (ones_letters shape (reach_of B)) in
        let a = sends_some shape B first.value_list (z ++ r) hzr (omega (arith, length-append z r, length-ones (reach_of B))) in
        let y = r ++ ones size in
        let hzy = letters_append shape z y hz (letters_append shape r (ones size) (ones_letters shape (reach_of B)) (ones_letters shape size)) in
        let sent : Sends B (z ++ y) (a.0 · ones size) = subst (λ e. Sends B e (a.0 · ones size)) (append_assoc z r (ones size)) (sends_extends B (z ++ r) a.0 (ones size) a.1) in
        let move = (moves_map shape g pair).ahead.total (a.0 · ones size) (sends_word shape B first.value_list (z ++ y) (a.0 · ones size) hzy sent) (omega (arith, length-after a.0 (ones size), length-ones size)) in
        let there : move.0 ≡ w · y = followed.followed (z ++ y) (a.0 · ones size) move.0 (w · y) hzy sent (a.0 · ones size, refl, move.1) (sends_extends M z w y s) in
        let here : move.0 ≡ v · y = agree (z ++ y) (a.0 · ones size) (v · y) move.0 hzy (sent_behind first (z ++ y) (a.0 · ones size) hzy sent) move.1 (sent_behind second (z ++ y) (v · y) hzy (sends_extends N z v y s')) in
        after_cancel_right w v y (sym there ∙ here))),
  )
