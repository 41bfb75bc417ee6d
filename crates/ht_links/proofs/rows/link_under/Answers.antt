use Rattle.std.proofs.Common.{◌≡◌, ◌++◌, sym, ap, ◌∙◌, subst}
use Rattle.ht_word.specs.Words.{◌·◌}
use Rattle.ht_types.specs.Flows.{IsUnderInfinite}
use Rattle.ht_links.proofs.LinkLaws.{exits_link}
use Rattle.ht_links.proofs.ReachLaws.{infinite_behind}
use Rattle.ht_links.proofs.rows.link_under.Goals as goal
use Rattle.ht_links.proofs.rows.link_under.Goals.{In_ok-longer}

longer_is : (c : In_ok-longer) → c.in_ok-longer.longer ≡ c.args.word.now · c.in_ok-ahead.ahead.letters
longer_is c = c.in_ok-longer.ensures ∙ ap (λ z. c.args.word.now · z) c.as_slice.ensures

pub exit_of-requires-2-clause-infinite : goal.exit_of-requires-2-clause-infinite
exit_of-requires-2-clause-infinite c =
    let t = c.args.t.now in
    subst (IsUnderInfinite t.element.shape t.element.rows t.quasi.basis.words) (sym (longer_is (goal.at.exit_of-requires-2-clause-infinite c).In_ok-longer)) (infinite_behind c.args.word.now c.in_ok-ahead.ahead.letters c.requires.infinite)

pub returns : goal.returns
returns c =
    exits_link c.args.t.now c.args.word.now c.in_ok-longer.longer c.in_ok-cone.cone c.in_ok-ahead.ahead c.in_ok-behind.behind c.extend.new.self c.requires.word c.requires.infinite c.in_ok-ahead.ensures (longer_is (goal.at.returns c).In_ok-longer) c.in_ok-behind.ensures
    (c.in_ok-cone.ensures ∙ ap (λ z. c.in_ok-longer.longer · z) c.as_slice-2.ensures) (c.in_ok-extend.ensures.ok ∙ ap (λ z. c.in_ok-ahead.ahead.rest ++ z) c.as_slice-3.ensures)
