-- Value lists that send as a conjugator does: from what is known at an end, and from one step.
use Rattle.std.proofs.Common.{◌≡◌, ℕ, ◌+◌, ◌≤◌, List, ◌++◌, length, sym, ◌∙◌, subst, arith, append_assoc, ℤ, neg_ℤ, ◌+ℤ◌}
use Rattle.std.proofs.lemmas.List.{length-append}
use Rattle.ht_word.specs.Words.{◌·◌, IsLetters, IsWordOf}
use Rattle.ht_word.specs.declared.shape.Shape.{Shape}
use Rattle.ht_word.specs.declared.word.Word.{Word}
use Rattle.ht_word.proofs.WordLaws.{after-append, after_cancel_right, length-after, length-ones, letters_append, ones, ones_letters, word_after}
use Rattle.ht_pair.specs.Actions.{Moves}
use Rattle.ht_pair.specs.Images.{Entry}
use Rattle.ht_pair.specs.Steps.{Steps, Carries}
use Rattle.ht_pair.specs.ValueLists.{IsValueList, IsFollowed, Sends}
use Rattle.ht_pair.specs.declared.row.Row.{Row}
use Rattle.ht_pair.proofs.CarriesLaws.{carries_back, carries_extends}
use Rattle.ht_pair.proofs.StepsLaws.{steps_map}
use Rattle.ht_pair.proofs.ValueListLaws.{cone_of, cone_sends, reach_of, sends_extends, sends_some, sends_word}
use Rattle.ht_pieces.specs.Pieces.{IsInside}
use Rattle.ht_pieces.specs.Values.{IsValue}
use Rattle.ht_pieces.proofs.Conjugating.{IsConjugator, steps_commute}
use Rattle.ht_pieces.proofs.InsideLaws.{inside_extends}
use Rattle.ht_pieces.proofs.KeptLaws.{kept_carries}
use Rattle.ht_pieces.proofs.LongSteps.{steps_long}
use Rattle.ht_pieces.proofs.Values.{value_moved, value_under}
use Rattle.ht_local.specs.PlacedLists.{SendsAs}

-- B sends letters where L sends them behind the letters `by`
abbrev pub IsBehind : Shape → List Entry → List ℕ → List Entry → Type 0
IsBehind shape L by B = (z : List ℕ) (v : Word) → IsLetters shape z → (Sends B z v → Sends L (by ++ z) v) × (Sends L (by ++ z) v → Sends B z v)

module _ {shape : Shape} {f g : List Row} {V W : List Word} {h : List Row} (c : IsConjugator shape f g V W (Moves h)) where
  -- the image of the known word under the known power sends so
  pub sends_value : {x t : Word} {i : ℤ} (L : List Entry) → IsWordOf shape x → IsValue shape (Moves h) g x t i → IsFollowed shape (cone_of t) g i L → SendsAs shape h x L
  sends_value {x} {t} {i} L hx value image = record {
    at = λ z v w hz s m.
        let y = ones value.bound in
        let hy = ones_letters shape value.bound in
        let hzy = letters_append shape z y hz hy in
        let there = value.at (z ++ y) hzy (omega (arith, length-append z y, length-ones value.bound)) in
        let first : there.0 ≡ v · y = image.followed (z ++ y) (t · (z ++ y)) there.0 (v · y) hzy (cone_sends t (z ++ y)) there.2 (sends_extends L z v y s) in
        let long : Moves h (x · (z ++ y)) (w · y) = subst (λ e. Moves h e (w · y)) (after-append x z y) (c.map.extends (x · z) w y m) in
        let second : w · y ≡ there.0 = c.map.single (x · (z ++ y)) (w · y) there.0 (word_after shape x (z ++ y) hx hzy) long there.1 in
        sym (after_cancel_right w v y (second ∙ first));
  }

  -- what is known at the anchor is known at the word
  pub anchor_value : {x a t : Word} {i : ℤ} (k : ℤ) (rest : List ℕ) → IsInside shape V a → IsWordOf shape t → IsLetters shape rest → IsValue shape (Moves h) g a t i
      → Carries shape f k x (a · rest) → IsValue shape (Moves h) g x (t · rest) (i +ℤ neg_ℤ k)
  anchor_value {x} {a} {t} {i} k rest d ht hr value carries =
      value_moved c (inside_extends d rest hr) (word_after shape t rest ht hr) (value_under value rest hr) (neg_ℤ k) x (carries_back shape f c.first k x (a · rest) carries)

  -- so does the list of the word where steps lead, behind the letters there, followed by as many steps back
  pub sends_next : {x y : Word} (k : ℤ) (by : List ℕ) (L B M : List Entry) → Carries shape f k x (y · by) → IsWordOf shape y → IsLetters shape by → IsValueList shape B → IsBehind shape L by B
      → SendsAs shape h y L → IsFollowed shape B g (neg_ℤ k) M → SendsAs shape h x M
  sends_next {x} {y} k by L B M carries hy hb list behind sends image = record {
    at = λ z v w hz s m.
        let back = neg_ℤ k in
        let sf = steps_map shape f c.first back in
        let sg = (steps_map shape g c.second back).ahead in
        let size = c.map.bound + (sf.ahead.bound + sg.bound) in
        let r = ones (reach_of B) in
        let hzr = letters_append shape z r hz (ones_letters shape (reach_of B)) in
        let t = r ++ ones size in
        let ht = letters_append shape r (ones size) (ones_letters shape (reach_of B)) (ones_letters shape size) in
        let hzt = letters_append shape z t hz ht in
        let long : size ≤ length (z ++ t) = omega (arith, length-append z t, length-append r (ones size), length-ones size) in
        let down = carries_back shape f c.first k x (y · by) carries in
        let hx = carries.word in
        let move : Moves h (x · (z ++ t)) (w · t) = subst (λ e. Moves h e (w · t)) (after-append x z t) (c.map.extends (x · z) w t m) in
        let inside = (c.map.inside (x · (z ++ t)) (w · t) (word_after shape x (z ++ t) hx hzt) move).0 in
        let there = above c k x (y · by) (z ++ t) carries hzt inside in
        let other = c.map.total ((y · by) · (z ++ t)) there (omega (arith, length-after (y · by) (z ++ t))) in
        let b = sends_some shape B list (z ++ r) hzr (omega (arith, length-append z r, length-ones (reach_of B))) in
        let a = b.0 · ones size in
        let sent : Sends B (z ++ t) a = subst (λ e. Sends B e a) (append_assoc z r (ones size)) (sends_extends B (z ++ r) b.0 (ones size) b.1) in
        let same : a ≡ other.0 = sends.at (by ++ (z ++ t)) a other.0 (letters_append shape by (z ++ t) hb hzt) ((behind (z ++ t) a hzt).0 sent) (subst (λ e. Moves h e other.0) (after-append y by (z ++ t)) other.1) in
        let e = sg.total a (sends_word shape B list (z ++ t) a hzt sent) (omega (arith, length-after b.0 (ones size), length-ones size)) in
        let first : e.0 ≡ v · t = image.followed (z ++ t) a e.0 (v · t) hzt sent e.1 (sends_extends M z v t s) in
        let second : e.0 ≡ w · t = steps_commute c back ((y · by) · (z ++ t)) (x · (z ++ t)) other.0 (w · t) e.0 (word_after shape (y · by) (z ++ t) (word_after shape y by hy hb) hzt)
        (steps_long shape f c.first back (y · by) x down (z ++ t) hzt (omega arith)) move other.1 (subst (λ o. Steps g back o e.0) same e.1) in
        after_cancel_right v w t (sym first ∙ second);
  }
    where
      -- where steps lead from inside, with letters behind it, is inside
      above : (c : IsConjugator shape f g V W (Moves h)) (k : ℤ) (x u : Word) (z : List ℕ) → Carries shape f k x u → IsLetters shape z → IsInside shape V (x · z) → IsInside shape V (u · z)
      above c k x u z carries hz d = kept_carries c.first c.kept k (x · z) (u · z) d (carries_extends shape f k x u z hz carries)
