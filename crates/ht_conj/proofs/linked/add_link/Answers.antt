use Rattle.std.proofs.Common.{sym, subst, rules}
use Rattle.std.proofs.lemmas.Result.{on_ok_weaker}
use Rattle.ht_pair.specs.HeldBases.{IsPlaceAbove}
use Rattle.ht_quasi.specs.declared.quasi.Quasi.{Quasi}
use Rattle.ht_word.specs.Words.{IsUnderSome}
use Rattle.ht_conj.proofs.LinkedAtomLaws.{HasOwner, cone_under, link_added, owner_of}
use Rattle.ht_conj.proofs.linked.add_link.Goals as goal
use Rattle.ht_conj.proofs.linked.add_link.Goals.{In-Some}

owner : (c : In-Some) → HasOwner c.args.t.now c.args.link c.args.atoms.now c.args.owners.now c.in-Some.place
owner c =
    owner_of c.args.t.now c.args.link c.args.atoms.now c.args.owners.now c.in-Some.place c.quasi.ensures.typed c.requires.link c.requires.owners
    (subst (λ (q : Quasi). IsPlaceAbove q.basis.words c.args.link.cone c.in-Some.place) c.quasi.ensures.quasi c.in-Some.ensures)

pub unreachable-requires : goal.unreachable-requires
unreachable-requires c = c.in_default.ensures (subst (λ (q : Quasi). IsUnderSome c.args.link.cone q.basis.words) (sym c.quasi.ensures.quasi) (cone_under c.args.t.now c.args.link c.requires.link))

pub offset_bounds-owners-place : goal.offset_bounds-owners-place
offset_bounds-owners-place c = let l = (owner c).within in search rules

pub bounds-owners-place : goal.bounds-owners-place
bounds-owners-place c = (owner (goal.at.bounds-owners-place c).In-Some).within

pub offset_bounds-atoms-owners : goal.offset_bounds-atoms-owners
offset_bounds-atoms-owners c = let l = (owner (goal.at.offset_bounds-atoms-owners c).In-Some).inside in search rules

pub bounds-atoms-owners : goal.bounds-atoms-owners
bounds-atoms-owners c = (owner (goal.at.bounds-atoms-owners c).In-Some).inside

pub returns : goal.returns
returns c =
    on_ok_weaker c.push.result
    (λ pushed. link_added c.args.t.now c.args.link c.args.atoms.now c.args.owners.now c.in-Some.place c.index-atoms-owners.result c.push.new.self (owner (goal.at.returns c).In-Some) pushed)
    c.push.ensures.ok
