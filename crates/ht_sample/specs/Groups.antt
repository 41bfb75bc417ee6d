-- The rows of a sample's first element: its words are taken in groups of eight, and each group is moved within itself.
-- This project's own.
--
--     sends u v                the row u to v
--     rows_between X Y         the words of X to the words of Y, place by place
--     turn_from first u W      u to the first of W, each word of W to the next, and the last to the word `first`
--     exchange u v             u to v, and v to u
--     drift u v                u to u1, v1 to u2, and v2 to v
--     wheel t u v y            t to u, u to t1, v to y, y1 to t2, and y2 to v
--     in_twos f W              f of the words two by two
--     in_fours f W             f of the words four by four
--     group_rows k W           the rows of the words W, of the group with the number k: by k modulo 4 the words are turned, each to
--                              the next, or they are exchanged, drift, or run as wheels
--     groups k W               the rows of the first k groups of W, which are counted from 0
--     sample_rows W            the rows of the first 500 groups
use Rattle.std.specs.Prelude.{ℕ, zero, suc, ◌*◌, ◌%◌, ◌==◌, List, [], ◌∷◌, ◌++◌, take, drop, cond}
use Rattle.ht_word.specs.declared.word.Word.{Word}
use Rattle.ht_word.specs.Words.{child}
use Rattle.ht_pair.specs.declared.row.Row.{Row}

abbrev pub sends : Word → Word → Row
sends u v = record { from = u; to = v }

abbrev pub rows_between : List Word → List Word → List Row
rows_between [] Y = []
rows_between (x ∷ X) [] = []
rows_between (x ∷ X) (y ∷ Y) = sends x y ∷ rows_between X Y

abbrev pub turn_from : Word → Word → List Word → List Row
turn_from first u [] = sends u first ∷ []
turn_from first u (v ∷ W) = sends u v ∷ turn_from first v W

abbrev pub turn : List Word → List Row
turn [] = []
turn (u ∷ W) = turn_from u u W

abbrev pub exchange : Word → Word → List Row
exchange u v = sends u v ∷ sends v u ∷ []

abbrev pub drift : Word → Word → List Row
drift u v = sends u (child u 1) ∷ sends (child v 1) (child u 2) ∷ sends (child v 2) v ∷ []

abbrev pub wheel : Word → Word → Word → Word → List Row
wheel t u v y = sends t u ∷ sends u (child t 1) ∷ sends v y ∷ sends (child y 1) (child t 2) ∷ sends (child y 2) v ∷ []

abbrev pub in_twos : (Word → Word → List Row) → List Word → List Row
in_twos f [] = []
in_twos f (u ∷ []) = []
in_twos f (u ∷ v ∷ W) = f u v ++ in_twos f W

abbrev pub in_fours : (Word → Word → Word → Word → List Row) → List Word → List Row
in_fours f [] = []
in_fours f (t ∷ []) = []
in_fours f (t ∷ u ∷ []) = []
in_fours f (t ∷ u ∷ v ∷ []) = []
in_fours f (t ∷ u ∷ v ∷ y ∷ W) = f t u v y ++ in_fours f W

unfoldable pub group_rows : ℕ → List Word → List Row
group_rows k W = cond (k % 4 == 0) (turn W) (cond (k % 4 == 1) (in_twos exchange W) (cond (k % 4 == 2) (in_twos drift W) (in_fours wheel W)))

unfoldable pub groups : ℕ → List Word → List Row
groups zero W = []
groups (suc k) W = groups k W ++ group_rows k (take 8 (drop (8 * k) W))

abbrev pub sample_rows : List Word → List Row
sample_rows W = groups 500 W
