use Rattle.std.proofs.Common.{◌≡◌, ◌∙◌, List, slice_get, length, subst, sym, ap, arith, Contains}
use Rattle.ht_word.specs.declared.word.Word.{Word}
use Rattle.ht_pair.specs.Bases.{IsPrefixFree}
use Rattle.ht_pair.specs.Pairs.{from_words}
use Rattle.ht_pair.specs.declared.row.Row.{Row}
use Rattle.ht_quasi.specs.declared.quasi.Quasi.{Quasi}
use Rattle.ht_local.proofs.StepBelowLaws.{step_told}
use Rattle.ht_local.proofs.WayLaws.{place_within}
use Rattle.ht_local.proofs.tests.steps_below.Goals as goal

pub at-requires-2 : goal.at-requires-2
at-requires-2 c =
    let is : c.words.result.now ≡ c.args.f.now.quasi.basis.words = c.words.ensures.words ∙ ap (λ (q : Quasi). q.basis.words) c.quasi-quasi.ensures.quasi in
    let l = place_within c.args.f.now c.keeps_kinds.ensures c.args.k.now c.requires.atom c.args.index c.at.result.now c.at.ensures in
    omega (arith, l, ap (λ (ws : List Word). length ws) is)

pub rows_below-requires-clause-free : goal.rows_below-requires-clause-free
rows_below-requires-clause-free c =
    let is : c.as_slice.result.now ≡ c.args.f.now.quasi.y = c.as_slice.ensures ∙ ap (λ (q : Quasi). q.y) c.quasi-quasi.ensures.quasi in
    subst (λ (rows : List Row). IsPrefixFree (from_words rows)) (sym is) c.keeps_kinds.ensures.quasinormal.rows.basis.prefix_free

pub returns : goal.returns
returns c = λ row.
    let words : c.words.result.now ≡ c.args.f.now.quasi.basis.words = c.words.ensures.words ∙ ap (λ (q : Quasi). q.basis.words) c.quasi-quasi.ensures.quasi in
    let is : c.as_slice.result.now ≡ c.args.f.now.quasi.y = c.as_slice.ensures ∙ ap (λ (q : Quasi). q.y) c.quasi-quasi.ensures.quasi in
    let here = ap (λ (ws : List Word). slice_get ws c.at.result.now) (sym words) ∙ c.at-2.ensures in
    let told = step_told c.args.f.now c.args.k.now c.args.index row c.at.ensures here in
    let below = c.rows_below.ensures row in
    ((λ d. let h = below.0 d in told.0 (subst (λ (rows : List Row). Contains rows row) is h.0, h.1)), (λ s. let h = told.1 s in below.1 (subst (λ (rows : List Row). Contains rows row) (sym is) h.0, h.1)))
