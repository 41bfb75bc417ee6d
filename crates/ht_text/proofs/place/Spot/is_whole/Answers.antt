use Rattle.std.proofs.Common.{◌↔◌, false, IsTrue, [], sym, subst}
use Rattle.ht_text.specs.Places.{FollowsRows}
use Rattle.ht_text.proofs.PlaceLaws.{from_unfinished, to_finished}
use Rattle.ht_text.proofs.place.Spot.is_whole.Goals as goal

pub returns-in-From : goal.returns-in-From
returns-in-From c = subst (λ s. IsTrue false ↔ FollowsRows s []) (sym c.in-From.is) ((λ e. absurd cc), (λ h. absurd (from_unfinished c.in-From.field-0 h)))

pub returns-in-To : goal.returns-in-To
returns-in-To c =
    let end = to_finished c.in-To.place in
    subst (λ s. IsTrue c.is_whole.result ↔ FollowsRows s []) (sym c.in-To.is) ((λ yes. end.0 (c.is_whole.ensures.0 yes)), (λ h. c.is_whole.ensures.1 (end.1 h)))
