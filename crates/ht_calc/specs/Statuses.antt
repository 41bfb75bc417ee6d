-- The number of each status, which the program ends with.
--
--     number_of status    0 to 6
use Rattle.std.specs.Prelude.{ℕ}
use Rattle.ht_calc.specs.declared.status.Status.{Status}
use Rattle.ht_calc.specs.declared.status.Status.TheVariants.{Done, SomeRefused, BadWords, ReadFault, WriteFault, NoMemory, TooLong}

abbrev pub number_of : Status → ℕ
number_of Done = 0
number_of SomeRefused = 1
number_of BadWords = 2
number_of ReadFault = 3
number_of WriteFault = 4
number_of NoMemory = 5
number_of TooLong = 6
