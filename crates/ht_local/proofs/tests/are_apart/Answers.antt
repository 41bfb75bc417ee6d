use Rattle.std.proofs.Common.{length, List, subst, ◌↔◌}
use Rattle.std.specs.Borrow.{Bor}
use Rattle.std.specs.Bool.{IsTrue}
use Rattle.std.specs.List.{AllAdjacentBelow}
use Rattle.ht_word.specs.Words.{IsUnder}
use Rattle.ht_word.specs.declared.word.Word.{Word}
use Rattle.ht_pair.specs.Pairs.{to_words}
use Rattle.ht_local.proofs.ApartTests.{apart_test}
use Rattle.ht_local.proofs.tests.are_apart.Goals as goal

pub returns : goal.returns
returns c =
    let told = subst (λ (xs : List (Bor Word)). IsTrue c.no_prefix_of_next.result ↔ AllAdjacentBelow (λ (word : Bor Word) (next : Bor Word). ¬ IsUnder next.now word.now) xs (length xs)) c.deref.ensures.value c.no_prefix_of_next.ensures in
    let test = apart_test (λ (word : Bor Word). word.now) (to_words c.args.rows.now) c.in_ok-words.words.items c.in_ok-words.ensures.permutation c.in_ok-words.ensures.sorted in
    ((λ yes. test.0 (told.0 yes)), (λ free. told.1 (test.1 free)))
