use Rattle.ht_conj.specs.Classes.{AreClasses}
use Rattle.ht_conj.proofs.classes.classes_of.Given as goal

abbrev pub invariant-loop-atom : goal.invariant-loop-atom
invariant-loop-atom g l = AreClasses l.t l.yielded l.classes.items
