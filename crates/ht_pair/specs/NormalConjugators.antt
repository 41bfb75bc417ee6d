-- Normal conjugators: of all conjugators those that are short where a short one is known. This project's own.
--
--     IsLeastAttractor shape p X places c      c is the least attractor of the atom
--     CarriesToAttractor shape h b Y c         h carries c to an attractor of b in Y with a proper prefix of its letters
--     CarriesFewWords shape h P Q              at most as many words as P and Q have cover P, and h carries each under Q
--     CarriesCycles shape h a X b Y            the same of the periodic parts of a and of b
--     IsNormal shape h a b                     h conjugates a into b, carries the least attractor of each atom of a to an
--                                              attractor and few letters, and the periodic part of a by few rows
use Rattle.std.specs.Prelude.{ℕ, pos, ◌≢◌, ◌≤◌, ◌+◌, List, [], ◌++◌, length, Contains}
use Rattle.std.specs.declared.cmp.Ordering.TheVariants.{Less}
use Rattle.ht_word.specs.declared.word.Word.{Word}
use Rattle.ht_word.specs.declared.shape.Shape.{Shape}
use Rattle.ht_word.specs.Words.{◌·◌, word_cmp}
use Rattle.ht_pair.specs.declared.row.Row.{Row}
use Rattle.ht_pair.specs.Bases.{Covers}
use Rattle.ht_pair.specs.Steps.{Carries}
use Rattle.ht_pair.specs.Conjugacy.{Conjugates}
use Rattle.ht_pair.specs.SemiNormal.{CarriesUnder, IsQuasinormal}
use Rattle.ht_pair.specs.Kinds.{IsAttractor, IsAttractorWord}
use Rattle.ht_pair.specs.Parts.{IsPeriodicPart}
use Rattle.ht_pair.specs.Atoms.{IsAtom, words_at}

pub record IsLeastAttractor (shape : Shape) (p : List Row) (X : List Word) (places : List ℕ) (c : Word) : Type 0 where
  pub listed : Contains (words_at X places) c
  pub attractor : IsAttractorWord shape p c
  pub least : (x : Word) → Contains (words_at X places) x → IsAttractorWord shape p x → word_cmp x c ≢ Less

pub record CarriesToAttractor (shape : Shape) (h b : List Row) (Y : List Word) (c : Word) : Type 0 where
  pub to : Word
  pub listed : Contains Y to
  pub steps : ℕ
  pub front : List ℕ
  pub back : List ℕ
  pub attractor : IsAttractor shape b to steps (front ++ back)
  pub proper : back ≢ []
  pub carries : Carries shape h (pos 1) c (to · front)

pub record CarriesFewWords (shape : Shape) (h : List Row) (P Q : List Word) : Type 0 where
  pub words : List Word
  pub few : length words ≤ length P + length Q
  pub covers : Covers shape words P
  pub carries : (x : Word) → Contains words x → CarriesUnder shape h (pos 1) x Q

pub record CarriesCycles (shape : Shape) (h a : List Row) (X : List Word) (b : List Row) (Y : List Word) : Type 0 where
  pub first : List Word
  pub second : List Word
  pub first_part : IsPeriodicPart shape a X first
  pub second_part : IsPeriodicPart shape b Y second
  pub few_words : CarriesFewWords shape h first second

pub record IsNormal (shape : Shape) (h a b : List Row) : Type 0 where
  pub conjugates : Conjugates shape h a b
  pub first_basis : List Word
  pub second_basis : List Word
  pub first_quasinormal : IsQuasinormal shape a first_basis
  pub second_quasinormal : IsQuasinormal shape b second_basis
  pub on_atoms : (places : List ℕ) (c : Word) → IsAtom shape a first_basis places → IsLeastAttractor shape a first_basis places c → CarriesToAttractor shape h b second_basis c
  pub on_cycles : CarriesCycles shape h a first_basis b second_basis
