use Rattle.std.proofs.Common.{◌≡◌, Some, slice_get, ◌∙◌, ap, subst}
use Rattle.std.proofs.lemmas.Result.{on_ok_weaker}
use Rattle.ht_quasi.specs.declared.quasi.Quasi.{Quasi}
use Rattle.ht_types.specs.Flows.{IsExit, opposite}
use Rattle.ht_types.specs.declared.direction.Direction.{Direction}
use Rattle.ht_links.specs.Listing.{IsEndLink}
use Rattle.ht_links.proofs.LinkLaws.{end_infinite, end_links}
use Rattle.ht_links.proofs.ListingLaws.{end_linked}
use Rattle.ht_links.proofs.ends.add_links_of.Goals as goal
use Rattle.ht_links.proofs.ends.add_links_of.Goals.{After-at-word}

-- the word is that of the basis at the place
here : (c : After-at-word) → slice_get c.args.t.now.quasi.basis.words c.args.place ≡ Some c.at-word.result.now
here c = subst (λ W. slice_get W c.args.place ≡ Some c.at-word.result.now) (c.words.ensures.words ∙ ap (λ (q : Quasi). q.basis.words) c.quasi.ensures.quasi) c.at-word.ensures

pub exit_of-requires-clause-infinite : goal.exit_of-requires-clause-infinite
exit_of-requires-clause-infinite c =
    let at = here (goal.at.exit_of-requires-clause-infinite c).After-at-word in
    end_infinite c.args.t.now c.quasi.ensures.typed c.args.direction c.args.place c.at-word.result.now at (c.requires.end c.at-word.result.now at)

pub returns : goal.returns
returns c =
    let t = c.args.t.now in
    let d = c.args.direction in
    let place = c.args.place in
    let x = c.at-word.result.now in
    let exit = c.in_ok-exit.exit in
    let at = here (goal.at.returns c).After-at-word in
    let ends = c.requires.end x at in
    let first = c.in_ok-end_link.field-0 in
    let second = c.in_ok-end_link-2.field-0 in
    let out : IsExit t.element.shape t.element.rows t.quasi.basis.words (opposite d) x exit = subst (λ (e : Direction). IsExit t.element.shape t.element.rows t.quasi.basis.words e x exit) c.opposite.ensures c.in_ok-exit.ensures in
    let copy : c.in_ok-from_slice.field-0 ≡ exit.letters = c.in_ok-from_slice.ensures ∙ c.as_slice.ensures in
    let one : IsEndLink d x exit (record { steps = 0; to = place; rest = exit.letters }) first = subst (λ z. IsEndLink d x exit (record { steps = 0; to = place; rest = z }) first) copy c.in_ok-end_link.ensures in
    let links = end_links t c.quasi.ensures.typed d place x at ends exit out c.in_ok-next.next first second one (c.in_ok-next.ensures x at) c.in_ok-end_link-2.ensures in
    on_ok_weaker c.push-2.result (λ is. end_linked t c.quasi.ensures.typed d place x first second c.args.links.now c.push.new.self c.push-2.new.self at ends links c.in_ok-push.ensures.ok is) c.push-2.ensures.ok
