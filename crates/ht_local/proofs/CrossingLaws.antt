-- From the value of a conjugator at one end of a link to that at the other.
use Rattle.std.proofs.Common.{◌≡◌, ◌≢◌, ℕ, ◌+◌, List, [], ◌++◌, length, Option, Some, refl, sym, ap, ◌∙◌, subst, arith, Contains, ℤ, pos, neg_ℤ, ◌+ℤ◌}
use Rattle.std.proofs.lemmas.Int.{ints}
use Rattle.ht_word.specs.Words.{◌·◌, IsLetters, IsWordOf}
use Rattle.ht_word.specs.declared.shape.Shape.{Shape}
use Rattle.ht_word.specs.declared.word.Word.{Word}
use Rattle.ht_word.proofs.WordLaws.{word_after, word_rest}
use Rattle.ht_pair.specs.Atoms.{IsInfiniteWord}
use Rattle.ht_pair.specs.Kinds.{IsAttractor, IsRepeller}
use Rattle.ht_pair.specs.Pairs.{IsPair}
use Rattle.ht_pair.specs.Steps.{Carries}
use Rattle.ht_pair.specs.declared.row.Row.{Row}
use Rattle.ht_pair.proofs.CarriesLaws.{carries_back, carries_extends, carries_sum, carries_word}
use Rattle.ht_pair.proofs.KindLaws.{cycle_no_attractor, cycle_no_repeller}
use Rattle.ht_types.specs.Flows.{IsEndIn}
use Rattle.ht_types.specs.WordKinds.{HasKind}
use Rattle.ht_types.specs.declared.direction.Direction.{Direction}
use Rattle.ht_types.specs.declared.direction.Direction.TheVariants.{Ahead, Behind}
use Rattle.ht_types.specs.declared.kind.Kind.{Kind}
use Rattle.ht_types.specs.declared.kind.Kind.TheVariants.{Cycle, Attractor, Repeller, Passing}
use Rattle.ht_types.proofs.SeenLaws.{open_kind}
use Rattle.ht_types.proofs.TurnLaws.{HasSemiNormal}
use Rattle.ht_pieces.specs.Pieces.{IsInside, IsKept}
use Rattle.ht_pieces.specs.Values.{IsValue}
use Rattle.ht_pieces.proofs.Conjugating.{IsConjugator}
use Rattle.ht_pieces.proofs.InsideLaws.{inside_extends}
use Rattle.ht_pieces.proofs.KeptLaws.{kept_carries}
use Rattle.ht_pieces.proofs.Values.{value_from, value_moved, value_under}
use Rattle.ht_local.specs.Crossings.{AreRoundsApart, AreTurnedKinds, IsFoundFront, letters_of}
use Rattle.ht_local.proofs.FarEnds.{HasFarValue, far_ahead, far_behind}

-- ---- kinds of ends

-- the kind that an end in the direction has
abbrev kind_in : Direction → ℕ → List ℕ → Kind
kind_in Ahead m G = Attractor m G
kind_in Behind m G = Repeller m G

-- an end in the direction, with its period and letters
abbrev IsEndOf : Direction → Shape → List Row → Word → ℕ → List ℕ → Type 0
IsEndOf Ahead shape p x m G = IsAttractor shape p x m G
IsEndOf Behind shape p x m G = IsRepeller shape p x m G

record HasEndKind (side : Direction) (shape : Shape) (p : List Row) (x : Word) (kind : Kind) : Type 0 where
  pub m : ℕ
  pub letters : List ℕ
  pub is : kind ≡ kind_in side m letters
  pub ends : IsEndOf side shape p x m letters

end_of : (side : Direction) (shape : Shape) (p : List Row) → IsPair shape p → (X : List Word) (x : Word) (kind : Kind) → HasKind shape p X x kind → IsEndIn side shape p x → HasEndKind side shape p x kind
end_of Ahead shape p pair X x (Attractor m by) h e = record { m = m; letters = by; is = refl; ends = h }
end_of Ahead shape p pair X x (Cycle m) h e = absurd (open_kind Ahead shape p pair X x (Cycle m) h (λ n. n) e)
end_of Ahead shape p pair X x (Repeller m by) h e = absurd (open_kind Ahead shape p pair X x (Repeller m by) h (λ n. n) e)
end_of Ahead shape p pair X x (Passing ahead behind) h e = absurd (open_kind Ahead shape p pair X x (Passing ahead behind) h (λ n. n) e)
end_of Behind shape p pair X x (Repeller m by) h e = record { m = m; letters = by; is = refl; ends = h }
end_of Behind shape p pair X x (Cycle m) h e = absurd (open_kind Behind shape p pair X x (Cycle m) h (λ n. n) e)
end_of Behind shape p pair X x (Attractor m by) h e = absurd (open_kind Behind shape p pair X x (Attractor m by) h (λ n. n) e)
end_of Behind shape p pair X x (Passing ahead behind) h e = absurd (open_kind Behind shape p pair X x (Passing ahead behind) h (λ n. n) e)

-- its letters are of the shape
pub end_letters : (side : Direction) {shape : Shape} {p : List Row} {X : List Word} → HasSemiNormal shape p X → (x : Word) (kind : Kind) → HasKind shape p X x kind → IsEndIn side shape p x → IsLetters shape (letters_of kind)
end_letters side {shape} {p} {X} h x kind has ends =
    let e = end_of side shape p h.pair X x kind has ends in
    subst (λ k. IsLetters shape (letters_of k)) (sym e.is) (by side e.m e.letters e.ends)
  where
    by : (side : Direction) (m : ℕ) (G : List ℕ) → IsEndOf side shape p x m G → IsLetters shape (letters_of (kind_in side m G))
    by Ahead m G a = word_rest shape x G (carries_word shape p h.pair (pos m) x (x · G) a.lengthens.1)
    by Behind m G a = word_rest shape x G (carries_word shape p h.pair (neg_ℤ (pos m)) x (x · G) a.lengthens.1)

-- it is no cycle word
pub end_infinite : (side : Direction) {shape : Shape} {p : List Row} {X : List Word} → HasSemiNormal shape p X → (x : Word) → Contains X x → IsEndIn side shape p x → IsInfiniteWord shape p X x
end_infinite Ahead {shape} {p} h x c e = (c, (λ w. cycle_no_attractor shape p h.pair x w.0 e.0 e.1 w.1 e.2))
end_infinite Behind {shape} {p} h x c e = (c, (λ w. cycle_no_repeller shape p h.pair x w.0 e.0 e.1 w.1 e.2))

-- ---- the front that is found

turned_kinds : (side : Direction) (m n : ℕ) (G L front back : List ℕ) → n ≡ m → L ≡ front ++ back → G ≡ back ++ front → back ≢ [] → AreTurnedKinds (kind_in side n L) (kind_in side m G) front back
turned_kinds Ahead m n G L front back same whole turned proper = (same, record { whole = whole; turned = turned; proper = proper })
turned_kinds Behind m n G L front back same whole turned proper = (same, record { whole = whole; turned = turned; proper = proper })

letters_in : (side : Direction) (m : ℕ) (G : List ℕ) → letters_of (kind_in side m G) ≡ G
letters_in Ahead m G = refl
letters_in Behind m G = refl

-- ---- one link

-- the far value of F at b, by the front of the letters of the end of g
pub record HasFound (shape : Shape) (F : Word → Word → Type 0) (g : List Row) (b end v : Word) (x : List ℕ) (found : Option (List ℕ)) : Type 0 where
  pub front : List ℕ
  pub is : found ≡ Some front
  pub power : ℤ
  pub value : IsValue shape F g b (end · front) power
  pub shares : Carries shape g power ((end · front) · x) v

module _ {shape : Shape} {f g : List Row} {X Y V W : List Word} {F : Word → Word → Type 0} (c : IsConjugator shape f g V W F) (kept : IsKept shape g (IsInside shape W)) (first : HasSemiNormal shape f X) (second : HasSemiNormal shape g Y) where
  -- by an end in either direction
  far_in : (side : Direction) (b : Word) (m : ℕ) (G : List ℕ) → Contains X b → IsEndOf side shape f b m G → IsInside shape V b → (x y w : List ℕ) (v end : Word) (n : ℕ) (L : List ℕ) (s : ℤ) → IsLetters shape x → IsLetters shape y → IsWordOf shape v
      → IsValue shape F g (b · x) v (pos 0) → Contains Y end → IsEndOf side shape g end n L → Carries shape g s (v · y) (end · w) → HasFarValue shape F g b end v m n G L x y w
  far_in Ahead b m G listed a d x y w v end n L s hx hy hv value there a' leads = far_ahead c kept first second b m G (record { listed = listed; attractor = a }) d x y w v end n L s hx hy hv value (record { listed = there; attractor = a' }) leads
  far_in Behind b m G listed r d x y w v end n L s hx hy hv value there r' leads = far_behind c kept first second b m G listed r d x y w v end n L s hx hy hv value there r' leads

  pub found_at : (side : Direction) (b : Word) (kind : Kind) → Contains X b → HasKind shape f X b kind → IsEndIn side shape f b → IsInside shape V b
      → (x y w : List ℕ) (v end : Word) (other : Kind) (s : ℤ) (j : ℕ) (found : Option (List ℕ)) → IsLetters shape x → IsLetters shape y → IsWordOf shape v → IsValue shape F g (b · x) v (pos 0)
      → Contains Y end → HasKind shape g Y end other → IsEndIn side shape g end → Carries shape g s (v · y) (end · w) → j ≡ length x + length y → IsFoundFront other kind (length w) j found → HasFound shape F g b end v x found
  found_at side b kind listed has ends d x y w v end other s j found hx hy hv value there has' ends' leads sum told =
      let a = end_of side shape f first.pair X b kind has ends in
      let e = end_of side shape g second.pair Y end other has' ends' in
      let far = far_in side b a.m a.letters listed a.ends d x y w v end e.m e.letters s hx hy hv value there e.ends leads in
      let turned = subst (λ k. AreTurnedKinds other k far.front far.back) (sym a.is) (subst (λ k. AreTurnedKinds k (kind_in side a.m a.letters) far.front far.back) (sym e.is) (turned_kinds side a.m e.m a.letters e.letters far.front far.back far.same far.whole far.turned far.proper)) in
      let long : letters_of other ≡ e.letters = ap letters_of e.is ∙ letters_in side e.m e.letters in
      let apart = subst (λ z. AreRoundsApart (length z) (length w) (length far.front + j)) (sym long) (subst (λ k. AreRoundsApart (length e.letters) (length w) (length far.front + k)) (sym sum) far.apart) in
      record { front = far.front; is = told far.front far.back turned apart; power = far.power; value = far.value; shares = far.shares }

  -- along steps of f
  pub value_along : (q u b : Word) (t v : Word) (i k j n : ℤ) (y w : List ℕ) → IsInside shape V q → IsWordOf shape t → IsValue shape F g u t i → Carries shape f k q (u · y) → Carries shape f j q b → IsLetters shape w
      → n ≡ (i +ℤ (neg_ℤ k +ℤ j)) → Carries shape g n ((t · y) · w) v → IsValue shape F g (b · w) v (pos 0)
  value_along q u b t v i k j n y w d ht value near far hw is led =
      let hy = word_rest shape u y (carries_word shape f first.pair k q (u · y) near) in
      let m = neg_ℤ k +ℤ j in
      let across = carries_sum shape f first.pair (neg_ℤ k) j m refl (u · y) q b (carries_back shape f first.pair k q (u · y) near) far in
      let here = inside_extends (kept_carries first.pair c.kept k q (u · y) d near) w hw in
      let htyw = word_after shape (t · y) w (word_after shape t y ht hy) hw in
      let moved = value_moved c here htyw (value_under (value_under value y hy) w hw) m (b · w) (carries_extends shape f m (u · y) b w hw across) in
      let there = value_from c (subst (IsValue shape F g (b · w) ((t · y) · w)) (sym is) moved) (neg_ℤ n) v (carries_back shape g second.pair n ((t · y) · w) v led) in
      subst (IsValue shape F g (b · w) v) (none n) there
    where
      none : (n : ℤ) → neg_ℤ n +ℤ n ≡ pos 0
      none n = omega (arith, ints)
