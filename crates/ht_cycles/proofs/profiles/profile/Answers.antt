use Rattle.std.proofs.Common.{◌≡◌, ap, ◌∙◌}
use Rattle.std.proofs.lemmas.Result.{IfOk-weaker}
use Rattle.ht_pair.specs.Elements.{ElementValue}
use Rattle.ht_pair.specs.Profiles.{IsProfile}
use Rattle.ht_cycles.specs.Runs.{runs}
use Rattle.ht_cycles.proofs.ProfileLaws.{positive_given, profile_given}
use Rattle.ht_cycles.proofs.profiles.profile.Goals as goal

pub profile_of-requires-clause-positive : goal.profile_of-requires-clause-positive
profile_of-requires-clause-positive c =
    let k = c.keeps_kinds.ensures in
    positive_given c.args.t.now.element.shape c.args.t.now.element.rows c.args.t.now.quasi.basis.words c.args.t.now.kinds c.in_ok-lengths.lengths.items c.sort_unstable.new.self.items c.as_slice.result.now c.in_ok-lengths.ensures c.as_slice.ensures.value
    k.canonical.canonical.pair k.quasinormal.least.ascending k.kinds_are c.sort_unstable.ensures.permutation

pub returns : goal.returns
returns c =
    let k = c.keeps_kinds.ensures in
    IfOk-weaker c.profile_of.result (λ profile. profile ≡ runs c.shape.result.n 0 c.as_slice.result.now) (IsProfile c.args.t.now.element.shape c.args.t.now.element.rows c.args.t.now.quasi.basis.words)
    (λ profile is.
    profile_given c.args.t.now.element.shape c.shape.result c.args.t.now.element.rows c.args.t.now.quasi.basis.words c.args.t.now.kinds c.in_ok-lengths.lengths.items c.sort_unstable.new.self.items c.as_slice.result.now profile
    (c.shape.ensures ∙ ap (λ (t : ElementValue). t.shape) c.element.ensures.element) c.in_ok-lengths.ensures c.as_slice.ensures.value is k.canonical.canonical.pair k.quasinormal.least.ascending k.kinds_are c.sort_unstable.ensures.permutation c.sort_unstable.ensures.sorted)
    c.profile_of.ensures
