-- What contracts see of the objects in memory.
--
--     SourceState     bytes left, the most that a call gives, the numbers of the calls that fail, and the counts
--     SinkState       bytes held, the most that it holds and that a call takes, the calls that fail, and the counts
--     LibraryState    its files, the calls that fail, and the counts
use Rattle.std.specs.Prelude.{ℕ, List}

pub record SourceState : Type 0 where
  pub left : List ℕ
  pub piece : ℕ
  pub fail : List ℕ
  pub calls : ℕ
  pub taken : ℕ
  pub faults : ℕ

pub record SinkState : Type 0 where
  pub held : List ℕ
  pub room : ℕ
  pub piece : ℕ
  pub fail : List ℕ
  pub calls : ℕ
  pub faults : ℕ

pub record LibraryState : Type 0 where
  pub files : List (List ℕ × List ℕ)
  pub fail : List ℕ
  pub calls : ℕ
  pub faults : ℕ
