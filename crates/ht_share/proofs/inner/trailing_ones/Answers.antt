use Rattle.std.proofs.Common.{◌∙◌, ◌++◌, ◌∷◌, [], take, get_or, sym, ap, subst₂, arith}
use Rattle.std.proofs.lemmas.List.{take_more}
use Rattle.ht_share.specs.InnerWords.{IsTrailing}
use Rattle.ht_share.proofs.InnerLaws.{trailing_none, trailing_more, trailing_other}
use Rattle.ht_share.proofs.inner.trailing_ones.Goals as goal
use Rattle.ht_share.proofs.inner.trailing_ones.Goals.{then-letter-eq1, else-letter-eq1}

pub loop-letter-init : goal.loop-letter-init
loop-letter-init c = record { few = omega arith; so_far = trailing_none }

pub loop-letter-preserved : goal.loop-letter-preserved
loop-letter-preserved c =
    let letters = c.args.letters.now in
    let i = c.loop-letter.letter-index in
    let a = get_or letters i 0 in
    let more = take_more letters i 0 c.loop-letter-test.true in
    let few = c.loop-letter.invariant.few in
    elim c.if-letter-eq1.branch [
      | then-letter-eq1 w ↦ record {
        few = omega (arith, w.count-is, few);
        so_far =
            subst₂ IsTrailing (ap (λ b. take i letters ++ b ∷ []) (sym w.if-letter-eq1.true) ∙ sym more) (sym w.count-is)
            (trailing_more (take i letters) c.loop-letter.count c.loop-letter.invariant.so_far);
      }
      | else-letter-eq1 w ↦ record {
        few = omega (arith, w.count-is);
        so_far = subst₂ IsTrailing (sym more) (sym w.count-is) (trailing_other (take i letters) a w.if-letter-eq1.false);
      }
    ]
