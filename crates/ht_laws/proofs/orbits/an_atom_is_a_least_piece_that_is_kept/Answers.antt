use Rattle.ht_types.proofs.AtomExistence.{atom_exists}
use Rattle.ht_types.proofs.AtomLaws.{atom_infinite, atom_kept, atom_linked, atom_least}
use Rattle.ht_laws.proofs.orbits.an_atom_is_a_least_piece_that_is_kept.Goals as goal

pub returns-clause-infinite : goal.returns-clause-infinite
returns-clause-infinite c = λ shape p X places i atom c. let x = atom_infinite shape p X places i atom c in (x.0, x.1, x.2.1)

pub returns-clause-kept : goal.returns-clause-kept
returns-clause-kept c = atom_kept

pub returns-clause-linked : goal.returns-clause-linked
returns-clause-linked c = atom_linked

pub returns-clause-least : goal.returns-clause-least
returns-clause-least c = atom_least

pub returns-clause-each : goal.returns-clause-each
returns-clause-each c = atom_exists
