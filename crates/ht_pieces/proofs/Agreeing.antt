-- Two conjugators that agree at a word agree at each word that powers carry it to, and at the long words above it.
use Rattle.std.proofs.Common.{◌≡◌, ℕ, List, [], ◌∷◌, ◌++◌, max, sym, ap, ◌∙◌, subst, arith, ℤ}
use Rattle.std.proofs.lemmas.List.Elements.{All-nil}
use Rattle.ht_word.specs.Words.{◌·◌, IsLetter, IsLetters, IsWordOf}
use Rattle.ht_word.specs.declared.shape.Shape.{Shape}
use Rattle.ht_word.specs.declared.word.Word.{Word}
use Rattle.ht_word.proofs.ListLaws.{Contains-here}
use Rattle.ht_word.proofs.WordLaws.{after-append, after-nil, after_cancel_right, length-ones, letters_append, ones, ones_letters, under_after, word_after}
use Rattle.ht_pair.specs.Actions.{Moves}
use Rattle.ht_pair.specs.Bases.{longest}
use Rattle.ht_pair.specs.Steps.{Carries}
use Rattle.ht_pair.specs.declared.row.Row.{Row}
use Rattle.ht_pair.proofs.BasisLaws.{some_at}
use Rattle.ht_pair.proofs.CarriesLaws.{carries_extends, carries_single}
use Rattle.ht_pieces.specs.Agreements.{AreAlikeUnder}
use Rattle.ht_pieces.specs.Pieces.{IsInside}
use Rattle.ht_pieces.proofs.Conjugating.{IsConjugator, conjugate_carries}
use Rattle.ht_pieces.proofs.InsideLaws.{inside_above, inside_extends}
use Rattle.ht_pieces.proofs.KeptLaws.{kept_carries}
use Rattle.ht_pieces.proofs.PartMaps.{sent_long}
use Rattle.ht_pieces.proofs.Rising.{Rises}

-- wherever F and K both send a word under u, they send it to the same word
pub record Agree (shape : Shape) (F K : Word → Word → Type 0) (u : Word) : Type 0 where
  pub at : (z : List ℕ) (v v' : Word) → IsLetters shape z → F (u · z) v → K (u · z) v' → v ≡ v'

agree_extends : {shape : Shape} {F K : Word → Word → Type 0} {u : Word} → Agree shape F K u → (y : List ℕ) → IsLetters shape y → Agree shape F K (u · y)
agree_extends {shape} {F} {K} {u} a y hy = record { at = λ z v v' hz s t. a.at (y ++ z) v v' (letters_append shape y z hy hz) (subst (λ w. F w v) (after-append u y z) s) (subst (λ w. K w v') (after-append u y z) t) }

agree_here : {shape : Shape} {F K : Word → Word → Type 0} {u : Word} → Agree shape F K u → (v v' : Word) → F u v → K u v' → v ≡ v'
agree_here {shape} {F} {K} {u} a v v' s t = a.at [] v v' (All-nil (IsLetter shape)) (subst (λ w. F w v) (sym (after-nil u)) s) (subst (λ w. K w v') (sym (after-nil u)) t)

-- rows that are alike under a word agree at it
pub alike_agree : (shape : Shape) (h q : List Row) (c : Word) → IsWordOf shape c → AreAlikeUnder shape h q (c ∷ []) → Agree shape (Moves h) (Moves q) c
alike_agree shape h q c hc alike = record { at = λ z v v' hz s t. alike (c · z) v v' (word_after shape c z hc hz) (some_at (c ∷ []) c (c · z) (Contains-here c []) (under_after c z)) s t }

module _ {shape : Shape} {f g : List Row} {V W : List Word} {F K : Word → Word → Type 0} (a : IsConjugator shape f g V W F) (b : IsConjugator shape f g V W K) where
  -- they agree at a word that both send to one word
  agree_sent : (u v v' : Word) → IsWordOf shape u → F u v → K u v' → v ≡ v' → Agree shape F K u
  agree_sent u v v' hu s t same = record {
    at = λ y w w' hy s' t'.
        let word = word_after shape u y hu hy in
        a.map.single (u · y) w (v · y) word s' (a.map.extends u v y s) ∙ ap (λ e. e · y) same ∙ b.map.single (u · y) (v' · y) w' word (b.map.extends u v' y t) t';
  }

  -- agreeing goes along with powers
  agree_carried : (i : ℤ) (u w : Word) → IsInside shape V u → Carries shape f i u w → Agree shape F K u → Agree shape F K w
  agree_carried i u w d carries agree = record {
    at = λ z v v' hz s t.
        let k = max a.map.bound b.map.bound in
        let y = ones k in
        let hy = ones_letters shape k in
        let x = sent_long a.map (u · z) (inside_extends d z hz) y hy (omega (arith, length-ones k)) in
        let x' = sent_long b.map (u · z) (inside_extends d z hz) y hy (omega (arith, length-ones k)) in
        let same : x.0 ≡ x'.0 = agree_here (agree_extends (agree_extends agree z hz) y hy) x.0 x'.0 x.1 x'.1 in
        let far = carries_extends shape f i (u · z) (w · z) y hy (carries_extends shape f i u w z hz carries) in
        let first = conjugate_carries a i ((u · z) · y) ((w · z) · y) x.0 (v · y) far x.1 (a.map.extends (w · z) v y s) in
        let second = conjugate_carries b i ((u · z) · y) ((w · z) · y) x'.0 (v' · y) far x'.1 (b.map.extends (w · z) v' y t) in
        after_cancel_right v v' y (carries_single shape g a.second i x.0 (v · y) (v' · y) first (subst (λ e. Carries shape g i e (v' · y)) (sym same) second));
  }

  -- a word inside V at which they agree
  pub record AgreeInside (u : Word) : Type 0 where
    pub inside : IsInside shape V u
    pub agree : Agree shape F K u

  pub agree_rises : Rises shape f AgreeInside
  agree_rises = record {
    word = λ u d. d.inside.word;
    extends = λ u z d hz. record { inside = inside_extends d.inside z hz; agree = agree_extends d.agree z hz };
    carried = λ i u v d carries. record { inside = kept_carries a.first a.kept i u v d.inside carries; agree = agree_carried i u v d.inside carries d.agree };
    bound = max (max a.map.bound b.map.bound) (longest V);
    above = λ u z d l.
        let inside = inside_above shape V u z d.inside (omega arith) in
        let x = a.map.total u inside (omega arith) in
        let x' = b.map.total u inside (omega arith) in
        let same : x.0 · z ≡ x'.0 · z = agree_here d.agree (x.0 · z) (x'.0 · z) (a.map.extends u x.0 z x.1) (b.map.extends u x'.0 z x'.1) in
        record { inside = inside; agree = agree_sent u x.0 x'.0 inside.word x.1 x'.1 (after_cancel_right x.0 x'.0 z same) };
  }
