use Rattle.std.proofs.Common.{refl}
use Rattle.ht_text.specs.Texts.{word_text}
use Rattle.ht_text.proofs.WordTexts.{same_word}
use Rattle.ht_text.proofs.laws.word_texts_are_one_word.Goals as goal

pub returns-clause-read : goal.returns-clause-read
returns-clause-read c = same_word

pub returns-clause-written : goal.returns-clause-written
returns-clause-written c = λ u v g h e. same_word (word_text u) u v (record { has_text = g; is = refl }) (record { has_text = h; is = e })
