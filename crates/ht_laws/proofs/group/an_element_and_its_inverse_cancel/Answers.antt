use Rattle.ht_laws.proofs.GroupLaws.{turned_after, turned_before, inverse_after, inverse_before}
use Rattle.ht_laws.proofs.group.an_element_and_its_inverse_cancel.Goals as goal

pub returns-clause-turned_after : goal.returns-clause-turned_after
returns-clause-turned_after c = turned_after

pub returns-clause-turned_before : goal.returns-clause-turned_before
returns-clause-turned_before c = turned_before

pub returns-clause-inverse_after : goal.returns-clause-inverse_after
returns-clause-inverse_after c = inverse_after

pub returns-clause-inverse_before : goal.returns-clause-inverse_before
returns-clause-inverse_before c = inverse_before
