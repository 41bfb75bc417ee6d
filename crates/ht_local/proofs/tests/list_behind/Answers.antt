use Rattle.std.proofs.Common.{◌≡◌, ◌∙◌, ◌↔◌, ◌++◌, ℕ, List, Result, Ok, Err, Some, slice_get, length, subst, sym, ap, arith}
use Rattle.std.specs.Result.{IfOk}
use Rattle.std.proofs.lemmas.List.Elements.{All-contains}
use Rattle.std.proofs.lemmas.Option.{slice_get_within, same_Some}
use Rattle.ht_word.specs.declared.word.Word.{Word}
use Rattle.ht_word.specs.Words.{IsLetters, IsUnder, IsWordOf}
use Rattle.ht_word.proofs.WordLaws.{word_rest}
use Rattle.ht_pair.specs.Images.{Entry}
use Rattle.ht_pair.specs.ValueLists.{IsValueList, Sends}
use Rattle.ht_quasi.specs.declared.quasi.Quasi.{Quasi}
use Rattle.ht_local.specs.PlacedLists.{IsListBehind}
use Rattle.ht_local.proofs.tests.list_behind.Goals as goal
use Rattle.ht_local.proofs.PlaceLaws.{entry_listed}

-- what a value has by two clauses
both : {X Y : Type 0} (r : Result X Y) (P Q R : X → Type 0) → ((x : X) → P x → Q x → R x) → IfOk r P → IfOk r Q → IfOk r R
both (Ok x) P Q R by p q = by x p q
both (Err e) P Q R by p q = tt

pub at-requires : goal.at-requires
at-requires c = slice_get_within c.args.k.now c.args.index c.requires.under.0 c.requires.under.1

pub at-requires-2 : goal.at-requires-2
at-requires-2 c =
    let u = c.requires.under in
    let is : c.words.result.now ≡ c.args.f.now.quasi.basis.words = c.words.ensures.words ∙ ap (λ (q : Quasi). q.basis.words) c.quasi.ensures.quasi in
    let same : u.0 ≡ c.at.result.now = same_Some u.0 c.at.result.now (sym u.1 ∙ c.at.ensures) in
    let l = slice_get_within c.args.f.now.quasi.basis.words u.0 u.2.word u.2.here in
    omega (arith, l, ap (λ (ws : List Word). length ws) is)

-- the word there is the one that the word is under
above : {X ws : List Word} {place at : ℕ} {x word : Word} (k : List ℕ) (index : ℕ) → ws ≡ X → slice_get k index ≡ Some place → slice_get k index ≡ Some at → slice_get X place ≡ Some x → slice_get ws at ≡ Some word → x ≡ word
above {X} {ws} {place} {at} {x} {word} k index is e h here there =
    same_Some x word (sym here ∙ ap (λ i. slice_get X i) (same_Some place at (sym e ∙ h)) ∙ ap (λ (V : List Word). slice_get V at) (sym is) ∙ there)

pub unreachable-requires : goal.unreachable-requires
unreachable-requires c =
    let u = c.requires.under in
    let is : c.words.result.now ≡ c.args.f.now.quasi.basis.words = c.words.ensures.words ∙ ap (λ (q : Quasi). q.basis.words) c.quasi.ensures.quasi in
    c.in_default.ensures (subst (IsUnder c.args.word.now) (above c.args.k.now c.args.index is u.1 c.at.ensures u.2.here c.at-2.ensures) u.2.above)

pub at-requires-3 : goal.at-requires-3
at-requires-3 c =
    let l = slice_get_within c.args.k.now c.args.index c.requires.under.0 c.requires.under.1 in
    let many : length c.args.lists.now ≡ length c.args.k.now = c.requires.many in
    omega arith

pub behind-requires-clause-image : goal.behind-requires-clause-image
behind-requires-clause-image c =
    let is : c.shape.result ≡ c.args.f.now.element.shape = c.shape.ensures ∙ ap (λ (q : Quasi). q.basis.shape) c.quasi.ensures.quasi ∙ c.keeps_kinds.ensures.shape_is in
    let L = c.at-3.result.now in
    subst (λ s. IsValueList s L) (sym is) (All-contains (IsValueList c.args.f.now.element.shape) c.args.lists.now L c.requires.lists (entry_listed c.args.lists.now c.args.index L c.at-3.ensures))

pub behind-requires-clause-letters : goal.behind-requires-clause-letters
behind-requires-clause-letters c =
    let is : c.shape.result ≡ c.args.f.now.element.shape = c.shape.ensures ∙ ap (λ (q : Quasi). q.basis.shape) c.quasi.ensures.quasi ∙ c.keeps_kinds.ensures.shape_is in
    let letters = c.in-Some.letters.now in
    subst (λ s. IsLetters s letters) (sym is) (word_rest c.args.f.now.element.shape c.at-2.result.now letters (subst (IsWordOf c.args.f.now.element.shape) c.in-Some.ensures c.requires.word))

pub returns : goal.returns
returns c =
    let f = c.args.f.now in
    let L = c.at-3.result.now in
    let letters = c.in-Some.letters.now in
    let words : c.words.result.now ≡ f.quasi.basis.words = c.words.ensures.words ∙ ap (λ (q : Quasi). q.basis.words) c.quasi.ensures.quasi in
    let is : c.shape.result ≡ f.element.shape = c.shape.ensures ∙ ap (λ (q : Quasi). q.basis.shape) c.quasi.ensures.quasi ∙ c.keeps_kinds.ensures.shape_is in
    both c.behind.result (IsValueList c.shape.result) (λ (B : List Entry). (z : List ℕ) (v : Word) → IsLetters c.shape.result z → Sends B z v ↔ Sends L (letters ++ z) v)
    (IsListBehind f.element.shape f.quasi.basis.words c.args.k.now c.args.lists.now c.args.index c.args.word.now)
    (λ B list sends. record {
      place = c.at.result.now;
      place_at = c.at.ensures;
      above = c.at-2.result.now;
      here = ap (λ (V : List Word). slice_get V c.at.result.now) (sym words) ∙ c.at-2.ensures;
      list = L;
      list_at = c.at-3.ensures;
      letters = letters;
      is = c.in-Some.ensures;
      value_list = subst (λ s. IsValueList s B) is list;
      sends = subst (λ s. (z : List ℕ) (v : Word) → IsLetters s z → Sends B z v ↔ Sends L (letters ++ z) v) is sends;
    }) c.behind.ensures.list c.behind.ensures.sends
