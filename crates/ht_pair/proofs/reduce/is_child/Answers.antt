use Rattle.std.proofs.Common.{◌≡◌, ◌↔◌, ℕ, Bool, eqb, IsTrue, true≢false, List, [], ◌∷◌, sym, ap, ◌∙◌}
use Rattle.std.specs.Cmp.Lexicographic.{pointwise, bytes_decides}
use Rattle.ht_word.specs.declared.word.Word.{Word}
use Rattle.ht_word.specs.Words.{◌·◌, child, root_word}
use Rattle.ht_word.proofs.WordLaws.{after_cancel_right}
use Rattle.ht_pair.proofs.reduce.is_child.Goals as goal

child_test : (w : Word) (found letters : List ℕ) (root letter : ℕ) (b : Bool) → w.root ≡ root → w ≡ child (root_word w.root · found) letter → b ≡ pointwise eqb found letters → IsTrue b ↔ (w ≡ child (root_word root · letters) letter)
child_test w found letters root letter b roots is test =
    let d = bytes_decides found letters in (
      (λ t. is ∙ (λ i. child (root_word (roots i) · d.0 (sym test ∙ t) i) letter)),
      (λ e. test ∙ d.1 (ap (λ (u : Word). u.letters) (after_cancel_right (root_word w.root · found) (root_word root · letters) (letter ∷ []) (sym is ∙ e)))),
    )

pub returns-in_default : goal.returns-in_default
returns-in_default c = ((λ t. absurd (true≢false (sym t))), λ e. absurd (c.in_default.ensures (root_word c.args.root · c.args.letters.now) e))

pub returns-then-word-root : goal.returns-then-word-root
returns-then-word-root c = child_test c.args.word.now c.in-Some.found.now c.args.letters.now c.args.root c.args.letter c.eq.result c.if-word-root.true c.in-Some.ensures c.eq.ensures
