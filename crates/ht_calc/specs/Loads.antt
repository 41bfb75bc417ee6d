-- What a load does with what its fetch gave.
-- Where several refusals fit, the first of this order is given: file, file form, file shape, rows, large.
--
--     IsFileRefusal fault why           the refusal says this fault; none says want of memory
--     Loads old name gives answer new   from the state old, a load of the name whose fetch gives this gets the answer and leads to new
use Rattle.std.specs.Prelude.{◌≡◌, ◌≤◌, ℕ, List, length, Option, Some, None, IsSome, ⊤}
use Rattle.ht_word.specs.declared.shape.Shape as shapes
use Rattle.ht_pair.specs.declared.row.Row.{Row}
use Rattle.ht_pair.specs.declared.fault.RowsFault.TheVariants.{Foreign, FromNotBasis, ToNotBasis, Large}
use Rattle.ht_pair.specs.Pairs.{IsPair, longest_of}
use Rattle.ht_pair.specs.Actions.{IsCanonicalFor}
use Rattle.ht_text.specs.declared.fault.FileFault.{FileFault}
use Rattle.ht_text.specs.declared.fault.FileFault.TheVariants.{Form, Shape, Rows}
use Rattle.ht_text.specs.Files.{IsFileOf, IsFileFault}
use Rattle.ht_answer.specs.declared.answer.Answer.{Answer}
use Rattle.ht_answer.specs.declared.answer.Answer.TheVariants.{Load, Refused}
use Rattle.ht_answer.specs.declared.answer.Refusal.{Refusal}
use Rattle.ht_answer.specs.declared.answer.Refusal.TheVariants as refusal
use Rattle.ht_calc.specs.Names.{bind, HasRoom}
use Rattle.ht_calc.specs.States.{State}

abbrev pub IsFileRefusal : FileFault → Refusal → Type 0
IsFileRefusal (Form l) (refusal.Form said) = said ≡ l
IsFileRefusal Shape refusal.Shape = ⊤
IsFileRefusal (Rows (Foreign place)) (refusal.RowsForeign said) = said ≡ place
IsFileRefusal (Rows FromNotBasis) refusal.RowsFrom = ⊤
IsFileRefusal (Rows ToNotBasis) refusal.RowsTo = ⊤
IsFileRefusal (Rows (Large rows letters)) (refusal.Large said_rows said_letters) = (said_rows ≡ rows) × (said_letters ≡ letters)
IsFileRefusal _ _ = ⊥

pub data Loads (old : State) (name : List ℕ) : Option (List ℕ) → Answer → State → Type 0 where
  loaded : (bytes : List ℕ) (rows canonical : List Row) (shape : shapes.Shape) → old.shape ≡ Some shape → HasRoom old.names name → IsFileOf bytes shape rows → IsPair shape rows → IsCanonicalFor shape canonical rows
      → length canonical ≤ 8192 → longest_of canonical ≤ 1024 → Loads old name (Some bytes) (Load name (length canonical)) (record old { names = bind old.names name canonical })
  no_file : IsSome old.shape → HasRoom old.names name → Loads old name None (Refused refusal.File) old
  file_refused : (bytes : List ℕ) (shape : shapes.Shape) (fault : FileFault) (why : Refusal) → old.shape ≡ Some shape → HasRoom old.names name → IsFileFault bytes shape fault → IsFileRefusal fault why
      → Loads old name (Some bytes) (Refused why) old
