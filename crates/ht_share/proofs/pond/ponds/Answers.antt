use Rattle.std.proofs.Common.{◌≡◌, ◌-◌, ◌++◌, ℕ, List, [], ◌∷◌, length, take, Option, option_to_list, sym, ap, ◌∙◌, subst, arith}
use Rattle.std.proofs.lemmas.List.{append-nil}
use Rattle.ht_types.specs.declared.sharing.Pond.{Pond}
use Rattle.ht_share.specs.PondLists.{AreFound}
use Rattle.ht_share.proofs.ListedLaws.{ArePondsOf, listed_none}
use Rattle.ht_share.proofs.ListingLaws.{IsListing, listing_next, listing_done}
use Rattle.ht_share.proofs.pond.ponds.Goals as goal
use Rattle.ht_share.proofs.pond.ponds.Goals.{In-Some}

left : (c : In-Some) → IsListing c.args.t.now.element.shape c.args.t.now.element.rows c.args.t.now.quasi.basis.words c.loop-last.ponds (c.pop.new.self.items ++ c.in-Some.last ∷ [])
left c = let t = c.args.t.now in subst (IsListing t.element.shape t.element.rows t.quasi.basis.words c.loop-last.ponds) c.in-Some.ensures.items c.loop-last.invariant

pub loop-last-init : goal.loop-last-init
loop-last-init c =
    let t = c.args.t.now in
    record {
      inner = c.in_ok-inner.inner;
      all = c.in_ok-inner.ensures;
      done = 0;
      within = omega arith;
      listed = subst (ArePondsOf t.element.shape t.element.rows t.quasi.basis.words []) (sym c.new-ponds.ensures) (listed_none t.element.shape t.element.rows t.quasi.basis.words);
      left = subst (λ W. AreFound t.element.shape t.element.rows t.quasi.basis.words W c.in_ok-found.found.items) c.as_slice.ensures c.in_ok-found.ensures;
    }

pub loop-last-preserved : goal.loop-last-preserved
loop-last-preserved c =
    let t = c.args.t.now in
    listing_next t.element.shape t.element.rows c.keeps_kinds.ensures.canonical.canonical.pair t.quasi.basis.words c.loop-last.ponds c.push.new.self c.pop.new.self.items c.in-Some.last (left (goal.at.loop-last-preserved c).In-Some)
    (c.in_ok-push.ensures.ok ∙ ap (λ (last : Option Pond). c.loop-last.ponds ++ option_to_list last) (sym c.in-Some-last.is))

pub loop-last-preserved-in_default-last : goal.loop-last-preserved-in_default-last
loop-last-preserved-in_default-last c =
    let t = c.args.t.now in
    listing_next t.element.shape t.element.rows c.keeps_kinds.ensures.canonical.canonical.pair t.quasi.basis.words c.loop-last.ponds c.loop-last.ponds c.pop.new.self.items c.in-Some.last (left (goal.at.loop-last-preserved-in_default-last c).In-Some)
    (sym (append-nil c.loop-last.ponds) ∙ ap (λ (last : Option Pond). c.loop-last.ponds ++ option_to_list last) (sym c.in_default-last.is))

pub returns : goal.returns
returns c =
    let t = c.args.t.now in
    let found = c.loop-last.found in
    let none : c.pop.new.self.items ≡ [] = c.in_default.ensures.rest ∙ ap (λ (n : ℕ). take (n - 1) found.items) c.in_default.ensures.cases.0 in
    listing_done t.element.shape t.element.rows t.quasi.basis.words c.loop-last.ponds found.items (ap (λ (t : List (Option Pond)). length t) (c.in_default.ensures.items ∙ append-nil c.pop.new.self.items ∙ none)) c.loop-last.invariant
