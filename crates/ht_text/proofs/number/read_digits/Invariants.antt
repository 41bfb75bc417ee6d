use Rattle.std.proofs.Common.{◌≡◌, ◌<◌, ◌^◌, take}
use Rattle.std.specs.Str.Parse.{digits_value, AllDigits}
use Rattle.ht_text.proofs.number.read_digits.Given as goal

abbrev pub invariant-loop-b : goal.invariant-loop-b
invariant-loop-b l =
    AllDigits 10 (take l.b-index l.bytes)
    × (l.value ≡ digits_value 10 (take l.b-index l.bytes))
    × (l.value < 10 ^ l.b-index)
