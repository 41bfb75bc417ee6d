-- Loads: the names of files, and what is bound.
use Rattle.std.proofs.Common.{◌≡◌, ◌<◌, ◌≤◌, ℕ, zero, suc, List, [], ◌∷◌, length, inl, inr, Some, sym, subst, arith}
use Rattle.std.specs.Prelude.{All}
use Rattle.std.specs.Str.{IsAscii, IsUtf8}
use Rattle.std.proofs.lemmas.List.Elements.{All-cons, All-head, All-tail}
use Rattle.std.proofs.lemmas.Str.{IsUtf8-from_ascii}
use Rattle.ht_word.specs.declared.shape.Shape.{Shape}
use Rattle.ht_pair.specs.declared.row.Row.{Row}
use Rattle.ht_pair.specs.Pairs.{IsPair, longest_of}
use Rattle.ht_pair.specs.Actions.{IsCanonicalFor}
use Rattle.ht_text.specs.Files.{IsFileOf}
use Rattle.ht_script.specs.Names.{IsFileStart, IsFileByte, IsFileName}
use Rattle.ht_answer.specs.declared.answer.Answer.TheVariants.{Load}
use Rattle.ht_calc.specs.Loads.{Loads, loaded}
use Rattle.ht_calc.specs.Names.{bind, HasRoom}
use Rattle.ht_calc.specs.States.{State}

-- the bytes of a file's name are ASCII
start_low : (b : ℕ) → IsFileStart b → b < 128
start_low b (inl upper) = omega (arith, upper.1)
start_low b (inr (inl lower)) = omega (arith, lower.1)
start_low b (inr (inr digit)) = omega (arith, digit.1)

byte_low : (b : ℕ) → IsFileByte b → b < 128
byte_low b (inl start) = start_low b start
byte_low b (inr (inl is)) = omega (arith, is)
byte_low b (inr (inr (inl is))) = omega (arith, is)
byte_low b (inr (inr (inr is))) = omega (arith, is)

all_low : (bytes : List ℕ) → All IsFileByte bytes → IsAscii bytes
all_low [] are i = omega arith
all_low (b ∷ bytes) are zero = byte_low b (All-head IsFileByte b bytes are)
all_low (b ∷ bytes) are (suc i) = all_low bytes (All-tail IsFileByte b bytes are) i

-- so a file's name is a text
pub file_is_text : (file : List ℕ) → IsFileName file → IsUtf8 file
file_is_text file is =
    subst IsUtf8 (sym is.is) (IsUtf8-from_ascii (is.first ∷ is.others) (all_low (is.first ∷ is.others) (All-cons IsFileByte is.first is.others (inl is.is_start) is.are_bytes)))

-- the name is bound to the element of the file
pub file_bound : (old new : State) (name said : List ℕ) (bytes : List ℕ) (rows canonical : List Row) (shape : Shape) (count : ℕ) → old.shape ≡ Some shape → HasRoom old.names name
    → IsFileOf bytes shape rows → IsPair shape rows → IsCanonicalFor shape canonical rows → length canonical ≤ 8192 → longest_of canonical ≤ 1024
    → said ≡ name → count ≡ length canonical → new ≡ record old { names = bind old.names name canonical } → Loads old name (Some bytes) (Load said count) new
file_bound old new name said bytes rows canonical shape count some room is_file pair canonical_for few short same counted is =
    subst (λ (s : State). Loads old name (Some bytes) (Load said count) s) (sym is)
    (subst (λ (n : List ℕ). Loads old name (Some bytes) (Load n count) (record old { names = bind old.names name canonical })) (sym same)
    (subst (λ k. Loads old name (Some bytes) (Load name k) (record old { names = bind old.names name canonical })) (sym counted)
    (loaded bytes rows canonical shape some room is_file pair canonical_for few short)))
