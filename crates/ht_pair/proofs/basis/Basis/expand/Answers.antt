use Rattle.std.proofs.Common.{◌≡◌, ◌∙◌, ap, List, ◌++◌, refl}
use Rattle.ht_word.specs.declared.word.Word.{Word}
use Rattle.ht_pair.specs.HeldBases.{children}
use Rattle.ht_pair.proofs.HeldBasisLaws.{held_after, expanded_after}
use Rattle.ht_pair.proofs.basis.Basis.expand.Goals as goal

-- what is put there are the children
others_are : (c : goal.After-give_way) → c.add_children.new.words ≡ children c.self.inside.shape c.at.result.now
others_are c = c.in_ok-add_children.ensures ∙ ap (λ (t : List Word). t ++ children c.self.inside.shape c.at.result.now) c.new-children.ensures

pub invariant_of-self : goal.invariant_of-self
invariant_of-self c =
    held_after c.give_way.result c.self.inside.shape c.self.inside.words c.add_children.new.words c.give_way.new.words c.args.place c.at.result.now c.at.ensures (others_are c) c.give_way.ensures.ok c.give_way.ensures.err c.self.invariant

pub returns-clause-ok : goal.returns-clause-ok
returns-clause-ok c = rw (← c.self.view_is) (
    expanded_after c.give_way.result (record { shape = c.self.inside.shape; words = c.self.inside.words }) (record { shape = c.self.inside.shape; words = c.give_way.new.words }) c.add_children.new.words c.args.place
    c.at.result.now c.at.ensures (others_are c) refl c.give_way.ensures.ok)
