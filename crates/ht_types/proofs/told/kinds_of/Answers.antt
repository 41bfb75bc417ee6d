use Rattle.std.proofs.Common.{◌≡◌, List, Result, Ok, Err, IfOk, map, pos, neg_ℤ}
use Rattle.std.specs.Prelude.{zip, All}
use Rattle.ht_types.specs.declared.kind.Kind.{Kind}
use Rattle.ht_types.specs.TypedElements.{HasShortReaches}
use Rattle.ht_types.specs.WordKinds.{AreKinds}
use Rattle.ht_types.specs.WordSteps.{told_kind}
use Rattle.ht_types.proofs.KindsLaws.{AreCoursesOf, steps_inside, courses_return, kinds_right, kinds_short}
use Rattle.ht_types.proofs.told.kinds_of.Goals as goal
use Rattle.ht_types.proofs.told.kinds_of.Goals.{In_ok-behind}

-- what holds of the kinds that are told holds of the answer
if_told : {E : Type 0} (P : List Kind → Type 0) (result : Result (List Kind) E) (told : List Kind) → IfOk result (λ kinds. kinds ≡ told) → ((kinds : List Kind) → kinds ≡ told → P kinds) → IfOk result P
if_told P (Ok kinds) told is right = right kinds is
if_told P (Err e) told is right = tt

pub courses-requires : goal.courses-requires
courses-requires c = steps_inside c.args.a.now.shape c.args.a.now.rows c.args.basis.now.words (pos 1) c.args.ahead.now c.requires.ahead

pub courses-requires-2 : goal.courses-requires-2
courses-requires-2 c = steps_inside c.args.a.now.shape c.args.a.now.rows c.args.basis.now.words (neg_ℤ (pos 1)) c.args.behind.now c.requires.behind

-- the courses are those of the words, by the steps ahead and behind
there : (c : In_ok-behind) → AreCoursesOf c.args.a.now.shape c.args.a.now.rows c.args.basis.now.words (pos 1) c.in_ok-ahead.ahead
there c = record { steps = c.args.ahead.now; are = c.requires.ahead; told = c.in_ok-ahead.ensures }

back : (c : In_ok-behind) → AreCoursesOf c.args.a.now.shape c.args.a.now.rows c.args.basis.now.words (neg_ℤ (pos 1)) c.in_ok-behind.behind
back c = record { steps = c.args.behind.now; are = c.requires.behind; told = c.in_ok-behind.ensures }

pub told_kinds-requires : goal.told_kinds-requires
told_kinds-requires c =
    let at = (goal.at.told_kinds-requires c).In_ok-behind in
    courses_return c.args.a.now.shape c.args.a.now.rows c.args.basis.now.words c.in_ok-ahead.ahead c.in_ok-behind.behind (there at) (back at) c.keeps_limits.ensures.canonical.pair c.requires.basis.semi_normal

pub returns-clause-kinds : goal.returns-clause-kinds
returns-clause-kinds c =
    let at = (goal.at.returns-clause-kinds c).In_ok-behind in
    if_told (AreKinds c.args.a.now.shape c.args.a.now.rows c.args.basis.now.words) c.told_kinds.result (map (λ p. told_kind p.0 p.1) (zip c.in_ok-ahead.ahead c.in_ok-behind.behind)) c.told_kinds.ensures
    (kinds_right c.args.a.now.shape c.args.a.now.rows c.args.basis.now.words c.in_ok-ahead.ahead c.in_ok-behind.behind (there at) (back at) c.keeps_limits.ensures.canonical.pair c.requires.basis.semi_normal)

pub returns-clause-short : goal.returns-clause-short
returns-clause-short c =
    let at = (goal.at.returns-clause-short c).In_ok-behind in
    if_told (All HasShortReaches) c.told_kinds.result (map (λ p. told_kind p.0 p.1) (zip c.in_ok-ahead.ahead c.in_ok-behind.behind)) c.told_kinds.ensures
    (λ kinds. kinds_short c.args.a.now.shape c.args.a.now.rows c.args.basis.now.words c.in_ok-ahead.ahead c.in_ok-behind.behind (there at) (back at) kinds c.requires.few)
