use Rattle.ht_pair.proofs.element.Element.row_of.Goals as goal

pub place_of-requires-clause-prefix_free : goal.place_of-requires-clause-prefix_free
place_of-requires-clause-prefix_free c = rw c.as_slice.ensures c.self.invariant.pair.from.prefix_free

pub place_of-requires-clause-ascending : goal.place_of-requires-clause-ascending
place_of-requires-clause-ascending c = rw c.as_slice.ensures c.self.invariant.ascending

pub returns : goal.returns
returns c = rw (← c.self.view_is) (rw c.as_slice.ensures at c.place_of.ensures)
