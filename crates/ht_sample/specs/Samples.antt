-- Samples: three elements of G(2, 1), made from one number; h conjugates a into c. This project's own.
--
--     word_at X i             the word of X at the place i, counted from 0 (the root past the end, where no sample looks)
--     read_at X order         the words of X at the places of the order
--     IsSampleBasis shape X   a basis of 4,000 words, of at most 64 letters
--     IsSmallPair shape p     a pair within the limits of an element: at most 8,192 rows, and at most 1,024 letters in a word
--     SampleWords number      two bases of 4,000 words each, and an order of their places
--     IsSample number a h c   the sample of the number: h sends the first basis to the second in that order, a moves the first
--                             basis within itself by groups, and c is the inverse of h, then a, then h
use Rattle.std.specs.Prelude.{ℕ, ◌≡◌, ◌≤◌, List, length, map, slice_index_or}
use Rattle.ht_word.specs.declared.word.Word.{Word}
use Rattle.ht_word.specs.declared.shape.Shape.{Shape}
use Rattle.ht_word.specs.Words.{root_word}
use Rattle.ht_pair.specs.Bases.{roots, longest, IsBasis}
use Rattle.ht_pair.specs.Pairs.{IsPair, longest_of}
use Rattle.ht_pair.specs.declared.row.Row.{Row}
use Rattle.ht_pair.specs.Actions.{IsCanonical, IsCanonicalFor}
use Rattle.ht_pair.specs.Conjugacy.{Conjugates}
use Rattle.ht_pair.specs.Elements.{ElementValue}
use Rattle.ht_sample.specs.Growth.{IsGrown}
use Rattle.ht_sample.specs.Shuffles.{places_to, shuffled}
use Rattle.ht_sample.specs.Groups.{rows_between, sample_rows}

abbrev pub word_at : List Word → ℕ → Word
word_at X i = slice_index_or X i (root_word 1)

abbrev pub read_at : List Word → List ℕ → List Word
read_at X order = map (word_at X) order

pub record IsSampleBasis (shape : Shape) (X : List Word) : Type 0 where
  pub basis : IsBasis shape X
  pub size : length X ≡ 4000
  pub short : longest X ≤ 64

pub record IsSmallPair (shape : Shape) (p : List Row) : Type 0 where
  pub pair : IsPair shape p
  pub few : length p ≤ 8192
  pub short : longest_of p ≤ 1024

pub record SampleWords (shape : Shape) (number : ℕ) (D E : List Word) (order : List ℕ) : Type 0 where
  pub first_state : ℕ
  pub second_state : ℕ
  pub first : IsGrown shape 3999 number (roots shape) first_state D
  pub second : IsGrown shape 3999 first_state (roots shape) second_state E
  pub order_is : order ≡ shuffled 3999 second_state (places_to 4000)

pub record IsSample (number : ℕ) (a h c : ElementValue) : Type 0 where
  pub shape : Shape
  pub letters : shape.n ≡ 2
  pub one_root : shape.r ≡ 1
  pub a_shape : a.shape ≡ shape
  pub h_shape : h.shape ≡ shape
  pub c_shape : c.shape ≡ shape
  pub D : List Word
  pub E : List Word
  pub order : List ℕ
  pub words : SampleWords shape number D E order
  pub open words use *
  pub a_is : IsCanonicalFor shape a.rows (sample_rows D)
  pub h_is : IsCanonicalFor shape h.rows (rows_between D (read_at E order))
  pub c_canonical : IsCanonical shape c.rows
  pub conjugates : Conjugates shape h.rows a.rows c.rows
