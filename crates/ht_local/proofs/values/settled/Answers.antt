use Rattle.ht_local.proofs.values.settled.Goals as goal

pub returns-in-Some-clause-list : goal.returns-in-Some-clause-list
returns-in-Some-clause-list c = λ place at. c.requires.slot c.in-Some.list place c.in-Some.is at
