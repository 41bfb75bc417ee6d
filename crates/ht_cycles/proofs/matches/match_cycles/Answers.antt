use Rattle.std.proofs.lemmas.Bool.Decides.{not_from_Decides}
use Rattle.ht_cycles.proofs.MatchLaws.{typed_profiles, same_profiles}
use Rattle.ht_cycles.proofs.matches.match_cycles.Goals as goal

pub returns-then-not-branch : goal.returns-then-not-branch
returns-then-not-branch c =
    let f = c.args.f.now in
    let g = c.args.g.now in
    let told = c.in_ok-have_one_profile.ensures in
    let differ = not_from_Decides c.in_ok-have_one_profile.field-0 told.4 c.if-not-branch.true in (
      λ one. differ (same_profiles f.element.shape f.element.rows g.element.rows f.quasi.basis.words g.quasi.basis.words told.0 told.1 told.2 told.3 one),
      λ rows P Q first second on. differ (typed_profiles f g c.keeps_kinds.ensures c.keeps_kinds-2.ensures c.requires.shape told.0 told.1 told.2 told.3 rows P Q first second on),
    )
