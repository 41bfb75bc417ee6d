-- Two elements of one shape with their quasinormal bases.
use Rattle.std.proofs.Common.{◌≡◌, ◌⊎◌, List, Option, Contains, subst}
use Rattle.ht_word.specs.declared.shape.Shape.{Shape}
use Rattle.ht_word.specs.declared.word.Word.{Word}
use Rattle.ht_pair.specs.Conjugacy.{AreConjugate}
use Rattle.ht_pair.specs.Kinds.{IsCycleWord}
use Rattle.ht_pair.specs.Parts.{IsPeriodicPart}
use Rattle.ht_pair.specs.SemiNormal.{IsQuasinormal}
use Rattle.ht_pair.specs.declared.row.Row.{Row}
use Rattle.ht_cycles.specs.Matches.{IsMatch, TellsMatch}
use Rattle.ht_types.specs.TypedElements.{TypedValue, IsTyped}
use Rattle.ht_types.proofs.CycleKindLaws.{cycle_or_not}
use Rattle.ht_types.proofs.KnownParts.{periodic_part}
use Rattle.ht_types.proofs.TurnLaws.{HasSemiNormal}
use Rattle.ht_conj.proofs.LinkedAtomLaws.{typed_basis}

pub record AreOfOneShape (f g : TypedValue) : Type 0 where
  pub first : IsTyped f.element f.quasi f.kinds
  pub second : IsTyped g.element g.quasi g.kinds
  pub same : g.element.shape ≡ f.element.shape

abbrev pub AreConjugateElements : TypedValue → TypedValue → Type 0
AreConjugateElements f g = AreConjugate f.element.shape f.element.rows g.element.rows

abbrev pub MatchCycles : TypedValue → TypedValue → List Row → Type 0
MatchCycles f g rows = IsMatch f.element.shape f.element.rows f.quasi.basis.words g.element.rows g.quasi.basis.words rows

abbrev pub TellsCycles : TypedValue → TypedValue → Option (List Row) → Type 0
TellsCycles f g found = TellsMatch f.element.shape f.element.rows f.quasi.basis.words g.element.rows g.quasi.basis.words found

-- a quasinormal basis whose cycle words are known
pub record HasKnownBasis (shape : Shape) (p : List Row) (X : List Word) : Type 0 where
  pub basis : HasSemiNormal shape p X
  pub quasinormal : IsQuasinormal shape p X
  pub told : (x : Word) → Contains X x → IsCycleWord shape p x ⊎ ¬ IsCycleWord shape p x
  pub periodic : List Word
  pub is_periodic : IsPeriodicPart shape p X periodic

known_basis : (t : TypedValue) → IsTyped t.element t.quasi t.kinds → HasKnownBasis t.element.shape t.element.rows t.quasi.basis.words
known_basis t typed =
    let part = periodic_part t.element t.quasi t.kinds typed in
    record {
      basis = typed_basis t typed;
      quasinormal = typed.quasinormal.least;
      told = cycle_or_not t.element.shape t.element.rows t.quasi.basis.words t.kinds typed.canonical.canonical.pair typed.kinds_are;
      periodic = part.0;
      is_periodic = part.1;
    }

module _ {f g : TypedValue} (both : AreOfOneShape f g) where
  pub first_basis : HasKnownBasis f.element.shape f.element.rows f.quasi.basis.words
  first_basis = known_basis f both.first

  pub second_basis : HasKnownBasis f.element.shape g.element.rows g.quasi.basis.words
  second_basis = subst (λ s. HasKnownBasis s g.element.rows g.quasi.basis.words) both.same (known_basis g both.second)
