use Rattle.std.proofs.Common.{◌≡◌, ◌++◌, ℕ, List, Option, Some, refl, ap, ◌∙◌, subst, arith}
use Rattle.ht_word.specs.Words.{◌·◌}
use Rattle.ht_word.specs.declared.word.Word.{Word}
use Rattle.ht_quasi.specs.declared.quasi.Quasi.{Quasi}
use Rattle.ht_quasi.proofs.StepLaws.{same_at}
use Rattle.ht_types.specs.declared.kind.Kind.{Kind}
use Rattle.ht_local.specs.Crossings.{IsFoundFront, letters_of}
use Rattle.ht_local.proofs.across.far_word.Goals as goal

-- the same front, told of the same kinds and numbers
as_told : {a other b kind : Kind} {i k j n : ℕ} {found front : Option (List ℕ)} → a ≡ other → b ≡ kind → i ≡ k → j ≡ n → found ≡ front → IsFoundFront a b i j found → IsFoundFront other kind k n front
as_told {a} {other} {b} {kind} {i} {k} {j} {n} {found} {front} first second before behind is told =
    subst (IsFoundFront other kind k n) is (subst (λ m. IsFoundFront other kind k m found) behind (subst (λ m. IsFoundFront other kind m j found) before (subst (λ o. IsFoundFront other o i j found) second (subst (λ o. IsFoundFront o b i j found) first told))))

pub returns : goal.returns
returns c = λ kind other end there here at.
    let g = c.args.g.now in
    let first = same_at g.kinds g.kinds c.args.exit.now.to c.kind.result.now other refl c.kind.ensures.kind here in
    let second = same_at c.args.f.now.kinds c.args.f.now.kinds c.args.far.now.to c.kind-2.result.now kind refl c.kind-2.ensures.kind there in
    let top = same_at c.words.result.now g.quasi.basis.words c.args.exit.now.to c.at-end.result.now end (c.words.ensures.words ∙ ap (λ (q : Quasi). q.basis.words) c.quasi.ensures.quasi) c.at-end.ensures at in (
      Some c.in-Some.front,
      ap Some (c.in_ok-joined.ensures ∙ ap (λ (y : Word). y · c.as_slice.result.now) top ∙ ap (λ z. end · z) c.as_slice.ensures),
      (λ z e. subst (λ k. (back : List ℕ) × (letters_of k ≡ z ++ back)) first (c.in_ok-front.ensures.front z (c.in-Some.is ∙ e))),
      as_told first second c.len-before.ensures (omega (arith, c.len.ensures, c.len-2.ensures, c.len-3.ensures)) c.in-Some.is c.in_ok-front.ensures.found,
    )
