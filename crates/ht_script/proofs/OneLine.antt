-- Bytes are the text of one line at most.
use Rattle.std.proofs.Common.{◌≡◌, ◌⊎◌, ℕ, inl, inr, List, [], ◌∷◌, length, Option, Some, None, refl, sym, ap, ◌∙◌, subst, arith}
use Rattle.std.specs.Prelude.{codes}
use Rattle.ht_word.specs.declared.word.Word.{Word}
use Rattle.ht_pair.specs.declared.row.Row.{Row}
use Rattle.ht_text.proofs.Numbers.{same_num}
use Rattle.ht_text.proofs.WordTexts.{same_word}
use Rattle.ht_text.proofs.RowTexts.{same_rows}
use Rattle.ht_script.specs.declared.command.Command.{Command}
use Rattle.ht_script.specs.declared.command.Command.TheVariants as command
use Rattle.ht_script.specs.declared.line.Line.{Line}
use Rattle.ht_script.specs.declared.line.Line.TheVariants.{Blank, Group, Reduce, LetRows, LetProduct, Show, Equal, Image, Load, Basis, Order, Types, Profile, Parts, Conj, Ponds, Share, Power}
use Rattle.ht_script.specs.declared.factor.Factor.{Factor}
use Rattle.ht_script.specs.Factors.{IsFactor, AreListed, AreFactors}
use Rattle.ht_script.specs.Tokens.{◌▸◌, Is, IsSpaces, IsToken}
use Rattle.ht_script.specs.Lines.{IsComment, IsNumber, AreRows, IsNamed, IsWritten, IsFileNamed, IsLine}
use Rattle.ht_script.specs.Slots.{keyword, IsTaken}
use Rattle.ht_script.proofs.TokenLaws.{IsOneToken, both, no_token, none_of}
use Rattle.ht_script.proofs.GrammarLaws.{number_token, name_token, equals_token, rows_token, rows_first, word_token, file_token}
use Rattle.ht_script.proofs.FactorTexts.{factor_token, factor_first, same_listed}
use Rattle.ht_script.proofs.CommandLaws.{keyword_token, same_command}
use Rattle.ht_script.proofs.LineLaws.{CommandFits, IsCommandText, AreNamed, Told, told, command_for, command_tokens, command_text, unmarked_command}

keyword_is_token : (c : Command) (t : List ℕ) → Is (keyword c) t → IsToken t
keyword_is_token c t e = subst IsToken (sym e) (keyword_token c)

not_blank : (bytes : List ℕ) → IsSpaces bytes ⊎ IsComment bytes → ¬ IsCommandText bytes
not_blank bytes (inl spaces) s = no_token CommandFits bytes command_tokens spaces s
not_blank bytes (inr comment) s = unmarked_command bytes s comment.text comment.marked

-- bytes have one command at most
one_command : (bytes : List ℕ) (c d : Option Command) → Told bytes c → Told bytes d → c ≡ d
one_command bytes None None g h = refl
one_command bytes None (Some d) g h = absurd (not_blank bytes g (command_text bytes d h))
one_command bytes (Some c) None g h = absurd (not_blank bytes h (command_text bytes c g))
one_command bytes (Some c) (Some d) g h =
    let words = both (Is (keyword c)) (IsTaken c) (Is (keyword d)) (IsTaken d) bytes (keyword_is_token c) (keyword_is_token d) g h in
    ap Some (same_command c d (sym words.first ∙ words.second))

-- the rest behind the word of a command
behind_both : (c : Command) (R S : List ℕ → Type 0) (bytes : List ℕ) → (Is (keyword c) ▸ R) bytes → (Is (keyword c) ▸ S) bytes → IsOneToken (Is (keyword c)) R (Is (keyword c)) S
behind_both c R S bytes g h = both (Is (keyword c)) R (Is (keyword c)) S bytes (keyword_is_token c) (keyword_is_token c) g h

one_number : (m n : ℕ) (R S : List ℕ → Type 0) (bytes : List ℕ) → (IsNumber m ▸ R) bytes → (IsNumber n ▸ S) bytes → (m ≡ n) × IsOneToken (IsNumber m) R (IsNumber n) S
one_number m n R S bytes g h =
    let numbers = both (IsNumber m) R (IsNumber n) S bytes (λ t k. number_token t m k) (λ t k. number_token t n k) g h in
    (same_num numbers.token m n numbers.first numbers.second, numbers)

one_name : (m n : List ℕ) (R S : List ℕ → Type 0) (bytes : List ℕ) → (IsNamed m ▸ R) bytes → (IsNamed n ▸ S) bytes → (m ≡ n) × IsOneToken (IsNamed m) R (IsNamed n) S
one_name m n R S bytes g h =
    let names = both (IsNamed m) R (IsNamed n) S bytes (λ t k. name_token t k.0) (λ t k. name_token t k.0) g h in
    (sym names.first.1 ∙ names.second.1, names)

one_word : (u v : Word) (R S : List ℕ → Type 0) (bytes : List ℕ) → (IsWritten u ▸ R) bytes → (IsWritten v ▸ S) bytes → (u ≡ v) × IsOneToken (IsWritten u) R (IsWritten v) S
one_word u v R S bytes g h =
    let words = both (IsWritten u) R (IsWritten v) S bytes (λ t k. word_token t u k) (λ t k. word_token t v k) g h in
    (same_word words.token u v words.first words.second, words)

one_rows : (p q : List Row) (bytes : List ℕ) → (AreRows p ▸ IsSpaces) bytes → (AreRows q ▸ IsSpaces) bytes → p ≡ q
one_rows p q bytes g h =
    let rows = both (AreRows p) IsSpaces (AreRows q) IsSpaces bytes (λ t k. rows_token t p k) (λ t k. rows_token t q k) g h in
    same_rows rows.token p q rows.first rows.second

-- rows begin with an `x`, and no factor does
not_both : (p : List Row) (q : List Factor) (bytes : List ℕ) → (AreRows p ▸ IsSpaces) bytes → ¬ AreListed q bytes
not_both p [] bytes g h = none_of (AreRows p) IsSpaces bytes (λ t k. rows_token t p k) h g
not_both p (f ∷ q) bytes g h =
    let firsts = both (AreRows p) IsSpaces (IsFactor f) (AreListed q) bytes (λ t k. rows_token t p k) (factor_token f) g h in
    let x = rows_first firsts.token p firsts.first in
    let start = factor_first f firsts.token firsts.second in
    let is_x = x.1 in
    let is_start = start.3 in
    let head : start.0 ≡ 120 = cc in
    start.2.2 head

-- one name, and one rest behind the `=`
record IsOneLet (a b : List ℕ) (R S : List ℕ → Type 0) : Type 0 where
  name : a ≡ b
  rest : List ℕ
  first : R rest
  second : S rest

one_let : (a b : List ℕ) (R S : List ℕ → Type 0) (bytes : List ℕ) → (Is (codes "let") ▸ IsNamed a ▸ Is (codes "=") ▸ R) bytes → (Is (codes "let") ▸ IsNamed b ▸ Is (codes "=") ▸ S) bytes → IsOneLet a b R S
one_let a b R S bytes g h =
    let rest = behind_both command.Let (IsNamed a ▸ Is (codes "=") ▸ R) (IsNamed b ▸ Is (codes "=") ▸ S) bytes g h in
    let names = one_name a b (Is (codes "=") ▸ R) (Is (codes "=") ▸ S) rest.rest rest.behind_first rest.behind_second in
    let equals = both (Is (codes "=")) R (Is (codes "=")) S names.1.rest equals_token equals_token names.1.behind_first names.1.behind_second in
    record { name = names.0; rest = equals.rest; first = equals.behind_first; second = equals.behind_second }

-- bytes are one list of so many names
same_names : (p q : List (List ℕ)) (bytes : List ℕ) → length p ≡ length q → AreNamed p bytes → AreNamed q bytes → p ≡ q
same_names [] [] bytes e g h = refl
same_names [] (b ∷ q) bytes e g h = absurd (omega arith)
same_names (a ∷ p) [] bytes e g h = absurd (omega arith)
same_names (a ∷ p) (b ∷ q) bytes e g h =
    let names = one_name a b (AreNamed p) (AreNamed q) bytes g h in
    let first_is = names.0 in
    let others_are = same_names p q names.1.rest (omega arith) names.1.behind_first names.1.behind_second in
    cc

-- the names behind the word of a command
one_list : (c : Command) (p q : List (List ℕ)) (bytes : List ℕ) → length p ≡ length q → (Is (keyword c) ▸ AreNamed p) bytes → (Is (keyword c) ▸ AreNamed q) bytes → p ≡ q
one_list c p q bytes e g h = let rest = behind_both c (AreNamed p) (AreNamed q) bytes g h in same_names p q rest.rest e rest.behind_first rest.behind_second

same_line : (bytes : List ℕ) (l m : Line) → command_for l ≡ command_for m → IsLine bytes l → IsLine bytes m → l ≡ m
same_line bytes Blank Blank e g h = refl
same_line bytes (Group n r) (Group n' r') e g h =
    let rest = behind_both command.Group (IsNumber n ▸ IsNumber r ▸ IsSpaces) (IsNumber n' ▸ IsNumber r' ▸ IsSpaces) bytes g h in
    let first = one_number n n' (IsNumber r ▸ IsSpaces) (IsNumber r' ▸ IsSpaces) rest.rest rest.behind_first rest.behind_second in
    let second = one_number r r' IsSpaces IsSpaces first.1.rest first.1.behind_first first.1.behind_second in
    let n_is = first.0 in
    let r_is = second.0 in
    cc
same_line bytes (Reduce p) (Reduce q) e g h =
    let rest = behind_both command.Reduce (AreRows p ▸ IsSpaces) (AreRows q ▸ IsSpaces) bytes g h in
    ap Reduce (one_rows p q rest.rest rest.behind_first rest.behind_second)
same_line bytes (LetRows a p) (LetRows b q) e g h =
    let values = one_let a b (AreRows p ▸ IsSpaces) (AreRows q ▸ IsSpaces) bytes g h in
    let name_is = values.name in
    let rows_are = one_rows p q values.rest values.first values.second in
    cc
same_line bytes (LetRows a p) (LetProduct b q) e g h =
    let values = one_let a b (AreRows p ▸ IsSpaces) (AreFactors q) bytes g h in absurd (not_both p q values.rest values.first values.second.1)
same_line bytes (LetProduct a p) (LetRows b q) e g h =
    let values = one_let a b (AreFactors p) (AreRows q ▸ IsSpaces) bytes g h in absurd (not_both q p values.rest values.second values.first.1)
same_line bytes (LetProduct a p) (LetProduct b q) e g h =
    let values = one_let a b (AreFactors p) (AreFactors q) bytes g h in
    let name_is = values.name in
    let factors_are = same_listed p q values.rest values.first.1 values.second.1 in
    cc
same_line bytes (Show a) (Show b) e g h = let same = one_list command.Show (a ∷ []) (b ∷ []) bytes refl g h in cc
same_line bytes (Equal a b) (Equal a' b') e g h = let same = one_list command.Equal (a ∷ b ∷ []) (a' ∷ b' ∷ []) bytes refl g h in cc
same_line bytes (Image a u) (Image b v) e g h =
    let rest = behind_both command.Image (IsNamed a ▸ IsWritten u ▸ IsSpaces) (IsNamed b ▸ IsWritten v ▸ IsSpaces) bytes g h in
    let names = one_name a b (IsWritten u ▸ IsSpaces) (IsWritten v ▸ IsSpaces) rest.rest rest.behind_first rest.behind_second in
    let word = one_word u v IsSpaces IsSpaces names.1.rest names.1.behind_first names.1.behind_second in
    let name_is = names.0 in
    let word_is = word.0 in
    cc
same_line bytes (Load a u) (Load b v) e g h =
    let rest = behind_both command.Load (IsNamed a ▸ IsFileNamed u ▸ IsSpaces) (IsNamed b ▸ IsFileNamed v ▸ IsSpaces) bytes g h in
    let names = one_name a b (IsFileNamed u ▸ IsSpaces) (IsFileNamed v ▸ IsSpaces) rest.rest rest.behind_first rest.behind_second in
    let files = both (IsFileNamed u) IsSpaces (IsFileNamed v) IsSpaces names.1.rest (λ t k. file_token t k.0) (λ t k. file_token t k.0) names.1.behind_first names.1.behind_second in
    let name_is = names.0 in
    let file_is = sym files.first.1 ∙ files.second.1 in
    cc
same_line bytes (Basis a) (Basis b) e g h = let same = one_list command.Basis (a ∷ []) (b ∷ []) bytes refl g h in cc
same_line bytes (Order a) (Order b) e g h = let same = one_list command.Order (a ∷ []) (b ∷ []) bytes refl g h in cc
same_line bytes (Types a) (Types b) e g h = let same = one_list command.Types (a ∷ []) (b ∷ []) bytes refl g h in cc
same_line bytes (Profile a) (Profile b) e g h = let same = one_list command.Profile (a ∷ []) (b ∷ []) bytes refl g h in cc
same_line bytes (Parts a b d) (Parts a' b' d') e g h = let same = one_list command.Parts (a ∷ b ∷ d ∷ []) (a' ∷ b' ∷ d' ∷ []) bytes refl g h in cc
same_line bytes (Conj a b d) (Conj a' b' d') e g h = let same = one_list command.Conj (a ∷ b ∷ d ∷ []) (a' ∷ b' ∷ d' ∷ []) bytes refl g h in cc
same_line bytes (Ponds a) (Ponds b) e g h = let same = one_list command.Ponds (a ∷ []) (b ∷ []) bytes refl g h in cc
same_line bytes (Share a u v) (Share b u' v') e g h =
    let rest = behind_both command.Share (IsNamed a ▸ IsWritten u ▸ IsWritten v ▸ IsSpaces) (IsNamed b ▸ IsWritten u' ▸ IsWritten v' ▸ IsSpaces) bytes g h in
    let names = one_name a b (IsWritten u ▸ IsWritten v ▸ IsSpaces) (IsWritten u' ▸ IsWritten v' ▸ IsSpaces) rest.rest rest.behind_first rest.behind_second in
    let first = one_word u u' (IsWritten v ▸ IsSpaces) (IsWritten v' ▸ IsSpaces) names.1.rest names.1.behind_first names.1.behind_second in
    let second = one_word v v' IsSpaces IsSpaces first.1.rest first.1.behind_first first.1.behind_second in
    let name_is = names.0 in
    let first_is = first.0 in
    let second_is = second.0 in
    cc
same_line bytes (Power a b) (Power a' b') e g h = let same = one_list command.Power (a ∷ b ∷ []) (a' ∷ b' ∷ []) bytes refl g h in cc
same_line bytes _ _ e g h = absurd cc

pub one_line : (bytes : List ℕ) (l m : Line) → IsLine bytes l → IsLine bytes m → l ≡ m
one_line bytes l m g h = same_line bytes l m (one_command bytes (command_for l) (command_for m) (told l bytes g) (told m bytes h)) g h
