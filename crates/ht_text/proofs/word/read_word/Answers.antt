use Rattle.std.proofs.Common.{◌∷◌, ap, ◌∙◌, subst}
use Rattle.ht_text.specs.Texts.{IsWord}
use Rattle.ht_text.proofs.WordTexts.{bare_root, lettered_parts}
use Rattle.ht_text.proofs.word.read_word.Goals as goal

pub returns-in_default-read_root : goal.returns-in_default-read_root
returns-in_default-read_root c = λ w h.
    c.in_default-read_root.ensures w.root (bare_root c.in-Some.text.now w c.in_default-cut.ensures (subst (λ t. IsWord t w) c.in-Some.ensures h))

pub returns-in_default-read_root-2 : goal.returns-in_default-read_root-2
returns-in_default-read_root-2 c = λ w h.
    let cut = subst (λ t. IsWord t w) (c.in-Some.ensures ∙ ap (λ t. 120 ∷ t) c.in-Some-cut.ensures.1) h in
    c.in_default-read_root-2.ensures w.root (lettered_parts c.in-Some-cut.front.now c.in-Some-cut.digits.now w c.in-Some-cut.ensures.0 cut).0

pub returns-in_default-2 : goal.returns-in_default-2
returns-in_default-2 c = λ w h.
    let cut = subst (λ t. IsWord t w) (c.in-Some.ensures ∙ ap (λ t. 120 ∷ t) c.in-Some-cut.ensures.1) h in
    (rw c.in_default-2.is at c.in_ok-letters.ensures) w.letters (lettered_parts c.in-Some-cut.front.now c.in-Some-cut.digits.now w c.in-Some-cut.ensures.0 cut).1
