use Rattle.std.proofs.Common.{◌≡◌, take, All}
use Rattle.std.specs.Prelude.{map}
use Rattle.ht_text.specs.Texts.{IsDigitLetter, letter_code}
use Rattle.ht_text.proofs.word.read_letters.Given as goal

abbrev pub invariant-loop-digit : goal.invariant-loop-digit
invariant-loop-digit l = All IsDigitLetter l.letters × (take l.digit-index l.bytes ≡ map letter_code l.letters)
