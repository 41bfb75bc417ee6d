-- Lines, each with its line feed, at the begin of bytes.
use Rattle.std.proofs.Common.{◌≡◌, ◌≢◌, ◌<◌, ◌≤◌, ◌⊎◌, inl, inr, ℕ, List, [], ◌∷◌, ◌++◌, length, refl, sym, ap, ◌∙◌, arith, append-nil, append_assoc}
use Rattle.std.specs.List.{AllByRecursion}
use Rattle.std.proofs.lemmas.List.{append_cancel_right}
use Rattle.std.proofs.lemmas.List.Elements.{recursion_from_All}
use Rattle.ht_text.specs.Files.{AreOneLine, ended}
use Rattle.ht_text.proofs.Cuts.{IsFree, same_cut}

-- a list with an item within isn't empty
pub item_within : {X : Type 0} (a b : List X) (x : X) → a ++ x ∷ b ≢ []
item_within [] b x e = cc
item_within (y ∷ a) b x e = cc

-- the first line, its line feed, and what is behind it
pub first_line : (line : List ℕ) (lines : List (List ℕ)) (rest : List ℕ) → ended (line ∷ lines) ++ rest ≡ line ++ 10 ∷ (ended lines ++ rest)
first_line line lines rest = append_assoc (line ++ 10 ∷ []) (ended lines) rest ∙ append_assoc line (10 ∷ []) (ended lines ++ rest)

-- longer are lines and more behind them, which rest begins with
pub record HasMoreLines (lines longer : List (List ℕ)) (rest behind : List ℕ) : Type 0 where
  pub more : List (List ℕ)
  pub is : longer ≡ lines ++ more
  pub bytes : rest ≡ ended more ++ behind

-- `goes_on`, by recursion
go_on : (lines longer : List (List ℕ)) (rest behind : List ℕ) → AllByRecursion (IsFree 10) lines → AllByRecursion (IsFree 10) longer → (length lines ≤ length longer) ⊎ (behind ≡ [])
    → ended lines ++ rest ≡ ended longer ++ behind → HasMoreLines lines longer rest behind
go_on [] longer rest behind p q few e = record { more = longer; is = refl; bytes = e }
go_on (line ∷ lines) [] rest behind p q (inl few) e = absurd (omega arith)
go_on (line ∷ lines) [] rest behind p q (inr none) e = absurd (item_within line (ended lines ++ rest) 10 (sym (first_line line lines rest) ∙ e ∙ none))
go_on (line ∷ lines) (other ∷ longer) rest behind p q few e =
    let same = same_cut 10 line (ended lines ++ rest) other (ended longer ++ behind) p.0 q.0 (sym (first_line line lines rest) ∙ e ∙ first_line other longer behind) in
    let head = same.0 in
    let on = go_on lines longer rest behind p.1 q.1 (fewer few) same.1 in
    let tail = on.is in
    record { more = on.more; is = cc; bytes = on.bytes }
  where
    fewer : (length (line ∷ lines) ≤ length (other ∷ longer)) ⊎ (behind ≡ []) → (length lines ≤ length longer) ⊎ (behind ≡ [])
    fewer (inl h) = inl (omega arith)
    fewer (inr h) = inr h

-- of two fronts of lines of the same bytes the one that is no shorter goes on the other, and so do all lines of the bytes
pub goes_on : (lines longer : List (List ℕ)) (rest behind : List ℕ) → AreOneLine lines → AreOneLine longer → (length lines ≤ length longer) ⊎ (behind ≡ [])
    → ended lines ++ rest ≡ ended longer ++ behind → HasMoreLines lines longer rest behind
goes_on lines longer rest behind p q few e =
    go_on lines longer rest behind (recursion_from_All (IsFree 10) lines p) (recursion_from_All (IsFree 10) longer q) few e

-- the bytes before the last line feed of lines
pub record EndsByFeed (text : List ℕ) : Type 0 where
  pub before : List ℕ
  pub is : text ≡ before ++ 10 ∷ []

-- lines end by a line feed
pub ends_by_feed : (line : List ℕ) (lines : List (List ℕ)) → EndsByFeed (ended (line ∷ lines))
ends_by_feed line [] = record { before = line; is = append-nil (line ++ 10 ∷ []) }
ends_by_feed line (next ∷ lines) =
    let h = ends_by_feed next lines in
    record { before = (line ++ 10 ∷ []) ++ h.before; is = ap (λ t. (line ++ 10 ∷ []) ++ t) h.is ∙ sym (append_assoc (line ++ 10 ∷ []) h.before (10 ∷ [])) }

-- the rest of some bytes isn't the lines more, with or without the last line feed, and if there are two lines and more, it doesn't begin with the first of them
abbrev pub Excluded : List ℕ → List (List ℕ) → Type 0
Excluded rest [] = rest ≢ []
Excluded rest (line ∷ []) = (rest ≢ line) × ((behind : List ℕ) → rest ≢ line ++ 10 ∷ behind)
Excluded rest (line ∷ next ∷ more) = (behind : List ℕ) → rest ≢ line ++ 10 ∷ behind

-- the rest doesn't begin with the first of excluded lines
pub first_excluded : (rest line : List ℕ) (more : List (List ℕ)) → Excluded rest (line ∷ more) → (behind : List ℕ) → rest ≢ line ++ 10 ∷ behind
first_excluded rest line [] h = h.1
first_excluded rest line (next ∷ more) h = h

-- lines are excluded where the rest doesn't begin with the first of two and more
pub excluded_by_first : (rest line : List ℕ) (more : List (List ℕ)) → more ≢ [] → ((behind : List ℕ) → rest ≢ line ++ 10 ∷ behind) → Excluded rest (line ∷ more)
excluded_by_first rest line [] some h = absurd (some refl)
excluded_by_first rest line (next ∷ more) some h = h

-- excluded lines aren't the rest
pub not_whole : (rest : List ℕ) (more : List (List ℕ)) → Excluded rest more → rest ≢ ended more ++ []
not_whole rest [] h e = h e
not_whole rest (line ∷ more) h e = first_excluded rest line more h (ended more ++ []) (e ∙ first_line line more [])

-- nor are they without their last line feed
pub not_bare : (rest : List ℕ) (more : List (List ℕ)) → Excluded rest more → rest ++ 10 ∷ [] ≢ ended more ++ []
not_bare rest [] h e = item_within rest [] 10 e
not_bare rest (line ∷ []) h e =
    h.0 (append_cancel_right rest line (10 ∷ []) (e ∙ append-nil ((line ++ 10 ∷ []) ++ []) ∙ append-nil (line ++ 10 ∷ [])))
not_bare rest (line ∷ next ∷ more) h e =
    let last = ends_by_feed next more in
    h last.before (append_cancel_right rest (line ++ 10 ∷ last.before) (10 ∷ [])
    (e ∙ first_line line (next ∷ more) [] ∙ ap (λ t. line ++ 10 ∷ t) (append-nil (ended (next ∷ more)) ∙ last.is) ∙ sym (append_assoc line (10 ∷ last.before) (10 ∷ []))))

-- the rest doesn't begin with a line of excluded lines
pub not_longer : (rest behind : List ℕ) (more others : List (List ℕ)) → 0 < length more → Excluded rest (more ++ others) → rest ≢ ended more ++ behind
not_longer rest behind [] others some h e = absurd (omega arith)
not_longer rest behind (line ∷ more) others some h e = first_excluded rest line (more ++ others) h (ended more ++ behind) (e ∙ first_line line more behind)
