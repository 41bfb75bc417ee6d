-- Where words under the infinite part flow. This project's own. X is the quasinormal basis of p.
--
--     FlowsUnder shape p X u                    some power from 0 on carries u under an attractor of X, and all powers from 0 to this one carry it
--                                               under X
--     IsAddressed shape p X u at rest steps     the word of X at the place, the rest and the steps are the address of u, which flows under an
--                                               attractor; the steps are fewer than 2^121 in absolute value
--     IsStuck shape p X u word steps            the steps, from 0 on and fewer than 2^121, carry u to the word, under X all the way and before under no
--                                               attractor; the word is under X, one step carries it to no word under X, and u doesn't flow
--                                               under an attractor
--     IsFlowed shape p X u flowed               one of these two, as the answer says
use Rattle.std.specs.Prelude.{ℕ, ℤ, pos, nat_abs, ◌≡◌, ◌<◌, ◌≤◌, ◌^◌, List, Some, slice_get}
use Rattle.ht_word.specs.declared.word.Word.{Word}
use Rattle.ht_word.specs.declared.shape.Shape.{Shape}
use Rattle.ht_word.specs.Words.{IsUnderSome}
use Rattle.ht_pair.specs.declared.row.Row.{Row}
use Rattle.ht_pair.specs.Addresses.{IsAddress}
use Rattle.ht_pair.specs.Kinds.{IsAttractorWord}
use Rattle.ht_pair.specs.Reaches.{CarriesUnderSuch}
use Rattle.ht_pair.specs.SemiNormal.{CarriesUnder}
use Rattle.ht_pair.specs.Steps.{Carries}
use Rattle.ht_flow.specs.declared.address.Flowed.{Flowed}
use Rattle.ht_flow.specs.declared.address.Flowed.TheVariants.{Address, Stuck}

pub record FlowsUnder (shape : Shape) (p : List Row) (X : List Word) (u : Word) : Type 0 where
  pub steps : ℕ
  pub to : Word
  pub reached : CarriesUnderSuch shape p (IsAttractorWord shape p) X (pos steps) u to
  pub under : (j : ℕ) → j ≤ steps → CarriesUnder shape p (pos j) u X

pub record IsAddressed (shape : Shape) (p : List Row) (X : List Word) (u : Word) (at : ℕ) (rest : List ℕ) (steps : ℤ) : Type 0 where
  pub above : Word
  pub here : slice_get X at ≡ Some above
  pub address : IsAddress shape p X u above rest steps
  pub few : nat_abs steps < 2 ^ 121
  pub flows : FlowsUnder shape p X u

pub record IsStuck (shape : Shape) (p : List Row) (X : List Word) (u word : Word) (steps : ℤ) : Type 0 where
  pub count : ℕ
  pub from_none : steps ≡ pos count
  pub few : count < 2 ^ 121
  pub carries : Carries shape p (pos count) u word
  pub before : (j : ℕ) → j < count → CarriesUnder shape p (pos j) u X × ((v : Word) → ¬ CarriesUnderSuch shape p (IsAttractorWord shape p) X (pos j) u v)
  pub under : IsUnderSome word X
  pub stops : ¬ CarriesUnder shape p (pos 1) word X
  pub never : ¬ FlowsUnder shape p X u

abbrev pub IsFlowed : Shape → List Row → List Word → Word → Flowed → Type 0
IsFlowed shape p X u (Address at rest steps) = IsAddressed shape p X u at rest steps
IsFlowed shape p X u (Stuck word steps) = IsStuck shape p X u word steps
