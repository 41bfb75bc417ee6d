-- Where passing words lead to: their reaches. This project's own. X is the quasinormal basis of p.
--
--     CarriesUnderSuch shape p P X k u v   the k-th power carries u to v, and v is under a word of X with the property P
--     IsReachAhead shape p X x k v         from 1 on the k-th power is the first that carries x under an attractor of X, and it carries x to v
--     IsReachBehind shape p X x k v        the same for the powers from -1 down and a repeller
--     HasAhead shape p X x reach           a word that stays ahead has its reach ahead, and a word that doesn't stay ahead has none,
--                                          though a later power may carry it under an attractor
--     HasBehind shape p X x reach          the same behind
use Rattle.std.specs.Prelude.{ℕ, ℤ, pos, neg_ℤ, Option, None, Some, List, Contains}
use Rattle.ht_word.specs.declared.word.Word.{Word}
use Rattle.ht_word.specs.declared.shape.Shape.{Shape}
use Rattle.ht_word.specs.Words.{IsUnder}
use Rattle.ht_num.specs.Numbers.{IsLeastPositive}
use Rattle.ht_pair.specs.declared.row.Row.{Row}
use Rattle.ht_pair.specs.Steps.{Carries}
use Rattle.ht_pair.specs.SemiNormal.{StaysAhead, StaysBehind}
use Rattle.ht_pair.specs.Kinds.{IsAttractorWord, IsRepellerWord}

pub record CarriesUnderSuch (shape : Shape) (p : List Row) (P : Word → Type 0) (X : List Word) (k : ℤ) (u v : Word) : Type 0 where
  pub above : Word
  pub listed : Contains X above
  pub such : P above
  pub carries : Carries shape p k u v
  pub under : IsUnder v above

pub record IsReachAhead (shape : Shape) (p : List Row) (X : List Word) (x : Word) (k : ℕ) (v : Word) : Type 0 where
  pub reached : CarriesUnderSuch shape p (IsAttractorWord shape p) X (pos k) x v
  pub first : IsLeastPositive (λ j. (w : Word) × CarriesUnderSuch shape p (IsAttractorWord shape p) X (pos j) x w) k

pub record IsReachBehind (shape : Shape) (p : List Row) (X : List Word) (x : Word) (k : ℕ) (v : Word) : Type 0 where
  pub reached : CarriesUnderSuch shape p (IsRepellerWord shape p) X (neg_ℤ (pos k)) x v
  pub first : IsLeastPositive (λ j. (w : Word) × CarriesUnderSuch shape p (IsRepellerWord shape p) X (neg_ℤ (pos j)) x w) k

abbrev pub HasAhead : Shape → List Row → List Word → Word → Option (ℕ × Word) → Type 0
HasAhead shape p X x None = ¬ StaysAhead shape p X x
HasAhead shape p X x (Some reach) = StaysAhead shape p X x × IsReachAhead shape p X x reach.0 reach.1

abbrev pub HasBehind : Shape → List Row → List Word → Word → Option (ℕ × Word) → Type 0
HasBehind shape p X x None = ¬ StaysBehind shape p X x
HasBehind shape p X x (Some reach) = StaysBehind shape p X x × IsReachBehind shape p X x reach.0 reach.1
