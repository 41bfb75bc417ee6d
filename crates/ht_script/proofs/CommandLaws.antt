-- The words of the commands, and what stands behind them.
use Rattle.std.proofs.Common.{◌≡◌, ◌≢◌, ◌<◌, ◌≤◌, ◌+◌, ℕ, ◌⊎◌, inl, inr, List, [], ◌∷◌, ◌++◌, length, take, get_or, Option, Some, None, Bool, false, true≢false, cond, eqb, refl, sym, ap, ◌∙◌, subst, arith, rules}
use Rattle.std.specs.Prelude.{codes}
use Rattle.std.specs.Cmp.Lexicographic.{pointwise, bytes_decides}
use Rattle.std.proofs.lemmas.Bool.{cases_lt}
use Rattle.std.proofs.lemmas.Fmt.{decimal_digit}
use Rattle.std.proofs.lemmas.List.Elements.{All-from_recursion}
use Rattle.ht_text.specs.Fronts.{IsFront, IsLongestFront}
use Rattle.ht_word.specs.Words.{root_word}
use Rattle.ht_script.specs.declared.command.Command.{Command}
use Rattle.ht_script.specs.declared.command.Command.TheVariants as command
use Rattle.ht_script.specs.declared.command.Slot.{Slot}
use Rattle.ht_script.specs.declared.command.Slot.TheVariants.{Number, Name, Equals, Word, File}
use Rattle.ht_script.specs.declared.ending.Ending.{Ending}
use Rattle.ht_script.specs.Tokens.{Is, IsToken, IsSpaced, IsApart}
use Rattle.ht_script.specs.Slots.{keyword, IsSlot, IsOfEnding, FitsSlots, IsKeyword}
use Rattle.ht_script.proofs.TokenLaws.{AreTokens, spaced_before, one_spaced}
use Rattle.ht_script.proofs.FrontLaws.{longest_same, front_map}
use Rattle.ht_script.proofs.GrammarLaws.{number_token, name_token, equals_token, word_token, file_token}
use Rattle.ht_script.proofs.NameLaws.{name_a, file_a}
use Rattle.ht_script.proofs.SpacedFronts.{Fits, TakesSpace}
use Rattle.ht_script.proofs.EndingLaws.{root_text, root_is, ending_before, some_ending}

-- every command
abbrev pub commands : List Command
commands =
    command.Group ∷ command.Reduce ∷ command.Let ∷ command.Show ∷ command.Equal ∷ command.Image ∷ command.Load ∷
    command.Basis ∷ command.Order ∷ command.Types ∷ command.Profile ∷ command.Parts ∷ command.Conj ∷
    command.Ponds ∷ command.Share ∷ command.Power ∷ []

-- the word of the command at a place
abbrev pub word_at : ℕ → List ℕ
word_at k = keyword (get_or commands k command.Group)

-- where a command stands among all
place_of : (c : Command) → (k : ℕ) × (k < 16) × (keyword c ≡ word_at k)
place_of command.Group = (0, omega arith, refl)
place_of command.Reduce = (1, omega arith, refl)
place_of command.Let = (2, omega arith, refl)
place_of command.Show = (3, omega arith, refl)
place_of command.Equal = (4, omega arith, refl)
place_of command.Image = (5, omega arith, refl)
place_of command.Load = (6, omega arith, refl)
place_of command.Basis = (7, omega arith, refl)
place_of command.Order = (8, omega arith, refl)
place_of command.Types = (9, omega arith, refl)
place_of command.Profile = (10, omega arith, refl)
place_of command.Parts = (11, omega arith, refl)
place_of command.Conj = (12, omega arith, refl)
place_of command.Ponds = (13, omega arith, refl)
place_of command.Share = (14, omega arith, refl)
place_of command.Power = (15, omega arith, refl)

-- a test that two texts differ
pub differs : (token word : List ℕ) (same : Bool) → same ≡ pointwise eqb token word → same ≡ false → token ≢ word
differs token word same test is e = true≢false (sym ((bytes_decides token word).1 e) ∙ sym test ∙ is)

-- a token that is the word of no command
pub no_keyword : (token : List ℕ) (n : ℕ) → 16 ≤ n → ((k : ℕ) → k < n → token ≢ word_at k) → ¬ IsKeyword token
no_keyword token n all none h = let at = place_of h.0 in none at.0 (omega (arith, at.1)) (h.1 ∙ at.2)

-- the longest front that the words of the first n commands have
pub record IsLongestOf (token : List ℕ) (n most : ℕ) : Type 0 where
  pub within : most ≤ length token
  pub front : IsFront IsKeyword (take most token)
  pub longest : (k j : ℕ) → k < n → j ≤ length token → IsFront (Is (word_at k)) (take j token) → j ≤ most

pub longest_of_none : (token : List ℕ) → IsLongestOf token 0 0
longest_of_none token = record {
  within = omega arith;
  front = record { rest = codes "group"; text = (command.Group, refl) };
  longest = λ k j below. absurd (omega arith);
}

longest_of_next : (token : List ℕ) (n most next m : ℕ) → IsLongestOf token n most → IsLongestFront (Is (word_at n)) token next → most ≤ m → next ≤ m → (m ≡ most) ⊎ (m ≡ next) → IsLongestOf token (n + 1) m
longest_of_next token n most next m h g old_low next_low which = record {
  within = elim which [
    | inl e ↦ omega (arith, h.within)
    | inr e ↦ omega (arith, g.within)
  ];
  front = elim which [
    | inl e ↦ subst (λ k. IsFront IsKeyword (take k token)) (sym e) h.front
    | inr e ↦ subst (λ k. IsFront IsKeyword (take k token)) (sym e) (front_map (Is (word_at n)) IsKeyword (take next token) (λ t i. (get_or commands n command.Group, i)) g.front)
  ];
  longest = λ k j below within f. elim (cases_lt k n) [
    | inl before ↦ (let l : j ≤ most = h.longest k j before within f in omega arith)
    | inr last ↦ (let e : k ≡ n = omega arith in let l : j ≤ next = g.longest j within (subst (λ i. IsFront (Is (word_at i)) (take j token)) e f) in omega arith)
  ];
}

pub longest_of_new : (token : List ℕ) (n most next : ℕ) → IsLongestOf token n most → IsLongestFront (Is (word_at n)) token next → most < next → IsLongestOf token (n + 1) next
longest_of_new token n most next h g more = longest_of_next token n most next next h g (omega arith) (omega arith) (inr refl)

pub longest_of_old : (token : List ℕ) (n most next : ℕ) → IsLongestOf token n most → IsLongestFront (Is (word_at n)) token next → next ≤ most → IsLongestOf token (n + 1) most
longest_of_old token n most next h g less = longest_of_next token n most next most h g (omega arith) less (inl refl)

pub longest_of_all : (token : List ℕ) (n most : ℕ) → 16 ≤ n → IsLongestOf token n most → IsLongestFront IsKeyword token most
longest_of_all token n most all h = record {
  within = h.within;
  front = h.front;
  longest = λ j l f. let at = place_of f.text.0 in h.longest at.0 j (omega (arith, at.1)) l (record { rest = f.rest; text = f.text.1 ∙ at.2 });
}

slot_token : (slot : Slot) (t : List ℕ) → IsSlot slot t → IsToken t
slot_token Number t h = number_token t h.0 h.1
slot_token Name t h = name_token t h
slot_token Equals t h = equals_token t h
slot_token Word t h = word_token t h.0 h.1
slot_token File t h = file_token t h

-- each slot has some token
some_slot : (slot : Slot) → (t : List ℕ) × IsSlot slot t
some_slot Number = (codes "1", (1, record { small = omega arith; is = sym (decimal_digit 1 (omega arith)) }))
some_slot Name = (codes "a", name_a)
some_slot Equals = (codes "=", refl)
some_slot File = (codes "a", file_a)
some_slot Word = (codes "x1", (root_word 1, record { has_text = root_text; is = root_is }))

-- a token of the slot, and behind it tokens of the slots and the ending
abbrev pub SlotFits : Ending → Slot → List Slot → List ℕ → List ℕ → Type 0
SlotFits e slot slots token rest = IsSlot slot token × FitsSlots e slots rest

-- one more space may stand before what stands behind a word
pub space_before : (e : Ending) (slots : List Slot) (bytes : List ℕ) → FitsSlots e slots bytes → FitsSlots e slots (32 ∷ bytes)
space_before e [] bytes h = ending_before e bytes h
space_before e (slot ∷ slots) bytes h = spaced_before (SlotFits e slot slots) bytes h

-- something may stand behind each word
pub some_behind : (e : Ending) (slots : List Slot) → (bytes : List ℕ) × FitsSlots e slots bytes × IsApart bytes
some_behind e [] = some_ending e
some_behind e (slot ∷ slots) =
    let token = some_slot slot in
    let rest = some_behind e slots in (32 ∷ (token.0 ++ rest.0), one_spaced (SlotFits e slot slots) token.0 rest.0 (token.1, rest.1) rest.2, refl)

pub slot_tokens : (e : Ending) (slot : Slot) (slots : List Slot) → AreTokens (SlotFits e slot slots)
slot_tokens e slot slots = λ t r h. slot_token slot t h.0

pub slot_takes_space : (e : Ending) (slot : Slot) (slots : List Slot) → TakesSpace (SlotFits e slot slots)
slot_takes_space e slot slots = λ t r h. (h.0, space_before e slots r h.1)

pub slot_fits : (e : Ending) (slot : Slot) (slots : List Slot) (t : List ℕ) → IsSlot slot t → Fits (SlotFits e slot slots) t
slot_fits e slot slots t h = let rest = some_behind e slots in (rest.0, (h, rest.1))

pub some_fits : (e : Ending) (slot : Slot) (slots : List Slot) → (t : List ℕ) × Fits (SlotFits e slot slots) t
some_fits e slot slots = let token = some_slot slot in (token.0, slot_fits e slot slots token.0 token.1)

-- the longest front of a token of the slot, whatever stands behind it
pub longest_slot : (e : Ending) (slot : Slot) (slots : List Slot) (t : List ℕ) (k : ℕ) → IsLongestFront (IsSlot slot) t k → IsLongestFront (Fits (SlotFits e slot slots)) t k
longest_slot e slot slots t k h = longest_same (IsSlot slot) (Fits (SlotFits e slot slots)) t k (λ u f. slot_fits e slot slots u f) (λ u f. f.1.0) h

-- the longest front of what stands behind a token of the slot
pub longest_later : (e : Ending) (slot : Slot) (slots : List Slot) (t rest : List ℕ) (k : ℕ) → IsSlot slot t → IsLongestFront (FitsSlots e slots) rest k → IsLongestFront (SlotFits e slot slots t) rest k
longest_later e slot slots t rest k is_slot h = longest_same (FitsSlots e slots) (SlotFits e slot slots t) rest k (λ u f. (is_slot, f)) (λ u f. f.1) h

-- the first of the commands that has the word
abbrev find_command : List Command → List ℕ → Option Command
find_command [] token = None
find_command (c ∷ more) token = cond (pointwise eqb token (keyword c)) (Some c) (find_command more token)

-- it finds each command by its own word: a last clause with `_` or c stands for all commands but the first
finds : (c : Command) → find_command commands (keyword c) ≡ Some c
finds command.Group = refl
finds _ = refl

-- each command has a word of its own
pub same_command : (c d : Command) → keyword c ≡ keyword d → c ≡ d
same_command c d e = let same : Some c ≡ Some d = sym (finds c) ∙ ap (λ t. find_command commands t) e ∙ finds d in cc

-- the first byte of a word
first_byte : (word x y : List ℕ) (b : ℕ) → 0 < length word → word ++ x ≡ b ∷ y → get_or word 0 0 ≡ b
first_byte [] x y b some e = absurd (omega arith)
first_byte (c ∷ word) x y b some e = cc

-- no comment begins with the word of a command
pub no_mark : (c : Command) (x y : List ℕ) → keyword c ++ x ≢ 35 ∷ y
no_mark command.Group x y e = let same = first_byte (keyword command.Group) x y 35 (omega arith) e in omega arith
no_mark c x y e = let same = first_byte (keyword c) x y 35 (omega arith) e in omega arith

-- the word of a command is a token
pub keyword_token : (c : Command) → IsToken (keyword c)
keyword_token command.Group = record { some = omega arith; no_space = All-from_recursion (λ b. b ≢ 32) (keyword command.Group) (search rules) }
keyword_token c = record { some = omega arith; no_space = All-from_recursion (λ b. b ≢ 32) (keyword c) (search rules) }

-- without slots there is the ending
pub longest_no_slots : (e : Ending) (slots : List Slot) (bytes : List ℕ) (k : ℕ) → length slots ≡ 0 → IsLongestFront (IsOfEnding e) bytes k → IsLongestFront (FitsSlots e slots) bytes k
longest_no_slots e [] bytes k none h = h
longest_no_slots e (slot ∷ slots) bytes k none h = absurd (omega arith)

-- of slots, the first and the later ones
pub by_first_slot : (e : Ending) (slots : List Slot) (slot : Slot) (later : List Slot) (bytes : List ℕ) (k : ℕ) → slots ≡ slot ∷ later → IsLongestFront (IsSpaced (SlotFits e slot later)) bytes k → IsLongestFront (FitsSlots e slots) bytes k
by_first_slot e slots slot later bytes k is h = subst (λ s. IsLongestFront (FitsSlots e s) bytes k) (sym is) h
