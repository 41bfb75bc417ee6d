-- A power carries a word to a word just where the image of the word is that word.
use Rattle.std.proofs.Common.{◌≡◌, List, [], get_or, refl, sym, ap, ◌∙◌, subst, ℕ, ℤ}
use Rattle.ht_word.specs.Words.{◌·◌, IsWordOf}
use Rattle.ht_word.specs.declared.shape.Shape.{Shape}
use Rattle.ht_word.specs.declared.word.Word.{Word}
use Rattle.ht_word.proofs.ListLaws.{Contains-here}
use Rattle.ht_word.proofs.WordLaws.{after-nil}
use Rattle.ht_pair.specs.Images.{Entry}
use Rattle.ht_pair.specs.Pairs.{IsPair}
use Rattle.ht_pair.specs.Steps.{Carries, Steps}
use Rattle.ht_pair.specs.ValueLists.{Sends, IsFollowed}
use Rattle.ht_pair.specs.declared.row.Row.{Row}
use Rattle.ht_pair.proofs.CarriesLaws.{carries_word}
use Rattle.ht_pair.proofs.ImageLaws.{entry_carried}
use Rattle.ht_pair.proofs.ValueListLaws.{cone_of, cone_value, sends_single, followed_once, followed_image}

-- a word whose image is one word is carried to it
pub word_carried : (shape : Shape) (p : List Row) (k : ℤ) (u v : Word) → IsWordOf shape u → IsFollowed shape (cone_of u) p k (cone_of v) → Carries shape p k u v
word_carried shape p k u v word h =
    subst (λ t. Carries shape p k t v) (after-nil u)
    (entry_carried shape p k u (cone_of v) (record { letters = []; word = v }) (followed_image shape p k u (cone_of v) word h) (Contains-here (record { letters = []; word = v }) []))

-- the list of one word sends letters to the word with the letters
cone_sent : (shape : Shape) (u : Word) (t : List ℕ) (w : Word) → IsWordOf shape u → Sends (cone_of u) t w → w ≡ u · t
cone_sent shape u t w word s = sends_single shape (cone_of u) (cone_value shape u word) t w (u · t) s (record { entry = record { letters = []; word = u }; rest = t; listed = Contains-here (record { letters = []; word = u }) []; from = refl; to = refl })

-- a word that is carried to a word has it as its image
pub carried_word : (shape : Shape) (p : List Row) → IsPair shape p → (k : ℤ) (u v : Word) (L : List Entry) → IsFollowed shape (cone_of u) p k L → Carries shape p k u v → L ≡ cone_of v
carried_word shape p pair k u v L h c =
    let word = carries_word shape p pair k u v c in
    followed_once shape p k (cone_of u) L (cone_of v) pair (cone_value shape u c.word) h (record {
      value_list = cone_value shape v word;
      followed = λ t w w' w'' letters from steps to. c.carried t w' letters (subst (λ s. Steps p k s w') (cone_sent shape u t w c.word from) steps) ∙ sym (cone_sent shape v t w'' word to);
    })

-- equal lists of one word have one word
pub cone_once : (u v : Word) → cone_of u ≡ cone_of v → u ≡ v
cone_once u v e = ap (λ (L : List Entry). (get_or L 0 (record { letters = []; word = u })).word) e
