-- Words with room for one more letter, where words of a sample may have 64 letters. This project's own.
--
--     has_room w        w has fewer than 64 letters
--     room_from X p     the first place at p or behind it, going round to place 0, whose word has room
--     full_under w      how many words of 64 letters are under w: 2 to the number of letters that w lacks
--     IsWhole X         no word has more than 64 letters, and the numbers of words of 64 letters under the words sum to 2^64
use Rattle.std.specs.Prelude.{ℕ, ◌≡◌, ◌≤◌, ◌+◌, ◌-◌, ◌^◌, Bool, List, Option, All, length, take, drop, nat_lt}
use Rattle.std.specs.List.{position, sum_by}
use Rattle.std.specs.Option.{option_map, option_or}
use Rattle.ht_word.specs.declared.word.Word.{Word}

abbrev pub has_room : Word → Bool
has_room w = nat_lt (length w.letters) 64

unfoldable pub room_from : List Word → ℕ → Option ℕ
room_from X p = option_or (option_map (λ k. p + k) (position has_room (drop p X))) (position has_room (take p X))

unfoldable pub full_under : Word → ℕ
full_under w = 2 ^ (64 - length w.letters)

pub record IsWhole (X : List Word) : Type 0 where
  pub short : All (λ w. length w.letters ≤ 64) X
  pub full : sum_by full_under X ≡ 2 ^ 64
