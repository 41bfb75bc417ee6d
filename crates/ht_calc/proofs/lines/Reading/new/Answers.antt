use Rattle.std.proofs.Common.{[], None, arith}
use Rattle.ht_calc.proofs.Standing.{nothing_read, ready_anew}
use Rattle.ht_calc.proofs.lines.Reading.new.Goals as goal

pub returns-clause-stands : goal.returns-clause-stands
returns-clause-stands c = λ files calls. record { lines = []; read = rw c.new-2.ensures.items nothing_read; answered = c.new.ensures files calls }

pub returns-clause-ready : goal.returns-clause-ready
returns-clause-ready c = let count = (c.new.ensures None (record { faults = 0; asked = 0 })).count in ready_anew _ c.new-2.ensures.items (omega (arith, count))
