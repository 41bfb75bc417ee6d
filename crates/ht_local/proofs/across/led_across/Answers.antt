use Rattle.std.proofs.Common.{◌≡◌, sym, ap, ◌∙◌, subst}
use Rattle.ht_word.specs.Words.{◌·◌, IsUnderSome, IsWordOf}
use Rattle.ht_word.proofs.WordLaws.{under_after, word_after}
use Rattle.ht_pair.proofs.BasisLaws.{some_at, some_trans}
use Rattle.ht_types.specs.declared.kind.Reach.{Reach}
use Rattle.ht_local.proofs.across.led_across.Goals as goal
use Rattle.ht_local.proofs.across.led_across.Goals.{In_ok-from}
use Rattle.ht_types.specs.Links.{reach_in}

-- the word that is led
from_is : (c : In_ok-from) → c.args.near.now.word · (reach_in c.args.direction c.args.link.now).rest ≡ c.in_ok-from.from
from_is c = sym (c.in_ok-from.ensures ∙ ap (λ z. c.args.near.now.word · z) (c.as_slice.ensures ∙ ap (λ (r : Reach). r.rest) c.reach-reach.ensures))

pub led_by-requires-clause-word : goal.led_by-requires-clause-word
led_by-requires-clause-word c =
    subst (IsWordOf c.args.g.now.element.shape) (from_is ((goal.at.led_by-requires-clause-word c).In_ok-from)) (word_after c.args.g.now.element.shape c.args.near.now.word (reach_in c.args.direction c.args.link.now).rest c.requires.near.word c.requires.letters)

pub led_by-requires-clause-under : goal.led_by-requires-clause-under
led_by-requires-clause-under c =
    let i = c.requires.near.infinite in
    subst (λ u. IsUnderSome u c.args.g.now.quasi.basis.words) (from_is ((goal.at.led_by-requires-clause-under c).In_ok-from))
    (some_trans (under_after c.args.near.now.word (reach_in c.args.direction c.args.link.now).rest) (some_at c.args.g.now.quasi.basis.words i.above c.args.near.now.word i.infinite.0 i.under))
