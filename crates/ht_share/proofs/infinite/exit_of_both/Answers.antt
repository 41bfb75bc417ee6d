use Rattle.std.proofs.Common.{◌++◌, ◌∙◌, sym, ap, subst}
use Rattle.ht_word.specs.Words.{◌·◌, IsWordOf}
use Rattle.ht_word.proofs.WordLaws.{word_after}
use Rattle.ht_flow.specs.Flowing.{FlowsUnder}
use Rattle.ht_share.specs.Exits.{AreExits}
use Rattle.ht_share.proofs.InfiniteShares.{exits_joined}
use Rattle.ht_share.proofs.infinite.exit_of_both.Goals as goal

pub exit_word-requires-2-clause-word : goal.exit_word-requires-2-clause-word
exit_word-requires-2-clause-word c =
    let shape = c.args.t.now.element.shape in
    let v = c.args.v.now in
    subst (IsWordOf shape) (sym (c.in_ok-longer.ensures ∙ ap (λ z. v · z) c.as_slice.ensures)) (word_after shape v c.in_ok-exit.exit c.requires.second.0 c.in_ok-exit.ensures.letters)

pub returns : goal.returns
returns c =
    let shape = c.args.t.now.element.shape in
    let p = c.args.t.now.element.rows in
    let X = c.args.t.now.quasi.basis.words in
    let v = c.args.v.now in
    let first = c.in_ok-exit.exit in
    let more = c.in_ok-more.more in
    subst (AreExits shape p X c.args.u.now v) (sym (c.in_ok-extend.ensures.ok ∙ ap (λ z. first ++ z) c.as_slice-2.ensures))
    (exits_joined shape p X c.args.u.now v first more c.in_ok-exit.ensures.letters c.in_ok-more.ensures.letters c.in_ok-exit.ensures.flows
    (λ z hz. subst (λ w. FlowsUnder shape p X ((w · more) · z)) (c.in_ok-longer.ensures ∙ ap (λ y. v · y) c.as_slice.ensures) (c.in_ok-more.ensures.flows z hz)))
