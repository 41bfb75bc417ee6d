use Rattle.std.proofs.Common.{[], ◌++◌, ap, ◌∙◌}
use Rattle.std.proofs.lemmas.Option.{slice_get-get_or}
use Rattle.ht_links.proofs.ReachLaws.{end_leads, end_step}
use Rattle.ht_links.proofs.ends.next_reach.Goals as goal

pub unreachable-requires : goal.unreachable-requires
unreachable-requires c =
    let here = slice_get-get_or c.args.t.now.quasi.basis.words c.args.place (record { root = 1; letters = [] }) c.requires.place in
    end_leads c.args.t.now c.keeps_kinds.ensures c.args.direction c.args.place _ here (c.requires.end _ here) (rw c.in_default.is at (c.step_in.ensures _ here))

pub returns : goal.returns
returns c = λ x here.
    end_step c.args.t.now c.keeps_kinds.ensures c.args.direction c.args.place x here (c.requires.end x here) c.in-Leads.to c.in-Leads.rest c.args.letters.now c.extend.new.self (rw c.in-Leads.is at (c.step_in.ensures x here)) c.requires.letters
    (c.in_ok-extend.ensures.ok ∙ ap (λ z. z ++ c.as_slice-2.result.now) (c.in_ok-behind.ensures ∙ c.as_slice.ensures) ∙ ap (λ z. c.in-Leads.rest ++ z) c.as_slice-2.ensures)
