use Rattle.std.proofs.Common.{◌≡◌, ℕ, List, length, take, eqb, refl, ap, subst₂}
use Rattle.std.specs.Cmp.Lexicographic.{pointwise}
use Rattle.std.proofs.lemmas.Option.{slice_get_within}
use Rattle.ht_word.specs.declared.word.Word.{Word}
use Rattle.ht_word.proofs.PrefixTests.{prefix_test}
use Rattle.ht_quasi.proofs.StepLaws.{listed_at}
use Rattle.ht_share.proofs.ReturnLaws.{repelled}
use Rattle.ht_share.proofs.search.is_on_repeller.Goals as goal
use Rattle.ht_types.proofs.TypedLaws.{typed_base}

pub kind-requires : goal.kind-requires
kind-requires c = let p = c.requires.placed in slice_get_within c.args.t.now.quasi.basis.words c.args.walk.now.to p.above p.here

pub returns-in-Repeller : goal.returns-in-Repeller
returns-in-Repeller c = λ yes k v.
    let p = c.requires.placed in
    let by = c.in-Repeller.by in
    let rest = c.args.walk.now.rest in
    let long : Word = record { root = 1; letters = by } in
    let short : Word = record { root = 1; letters = rest } in
    let test = subst₂ (λ (a b : List ℕ). c.starts_with.result ≡ pointwise eqb b (take (length b) a)) c.as_slice.ensures c.as_slice-in-Repeller.ensures c.starts_with.ensures.value in
    let under = (prefix_test long short c.starts_with.result refl test).0 yes in
    repelled (typed_base c.args.t.now c.keeps_kinds.ensures) c.args.word.now p.above c.in-Repeller.m by rest under.rest (listed_at c.args.t.now.quasi.basis.words c.args.walk.now.to p.above p.here)
    (rw c.in-Repeller.is at (c.keeps_kinds.ensures.kinds_are.each c.args.walk.now.to p.above c.kind.result.now p.here c.kind.ensures.kind)) p.is (ap (λ (w : Word). w.letters) under.is) c.requires.inner k v
