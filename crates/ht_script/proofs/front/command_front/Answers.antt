use Rattle.std.proofs.Common.{◌≡◌, length, arith, subst}
use Rattle.std.proofs.lemmas.Bool.Decides.{nat_tests}
use Rattle.ht_text.specs.Fronts.{IsLongestFront}
use Rattle.ht_script.specs.Slots.{ending_of, FitsSlots}
use Rattle.ht_script.proofs.LineLaws.{longest_blank, longest_in_word, longest_to_word, longest_past_word}
use Rattle.ht_script.proofs.front.command_front.Goals as goal

pub returns-in_default : goal.returns-in_default
returns-in_default c = longest_blank c.args.line.now c.in_default.ensures

pub returns-in_default-of_keyword : goal.returns-in_default-of_keyword
returns-in_default-of_keyword c =
    longest_in_word c.args.line.now c.in-Some.at c.in-Some.token.now c.in-Some.rest.now c.keyword_front.result c.requires c.in-Some.ensures c.in_default-of_keyword.ensures c.keyword_front.ensures

pub returns-then-is_empty : goal.returns-then-is_empty
returns-then-is_empty c =
    let none : length c.in-Some.rest.now ≡ 0 = grind (arith, nat_tests) in
    longest_to_word c.args.line.now c.in-Some.at c.in-Some.token.now c.in-Some.rest.now c.in-Some-of_keyword.command c.requires c.in-Some.ensures none c.in-Some-of_keyword.ensures

pub returns : goal.returns
returns c =
    longest_past_word c.args.line.now c.in-Some.at c.in-Some.token.now c.in-Some.rest.now c.in-Some-of_keyword.command c.slots_front-behind.result c.requires c.in-Some.ensures c.in-Some-of_keyword.ensures
    (subst (λ s. IsLongestFront (FitsSlots (ending_of c.in-Some-of_keyword.command) s) c.in-Some.rest.now c.slots_front-behind.result) c.slots.ensures
    (subst (λ e. IsLongestFront (FitsSlots e c.slots.result.now) c.in-Some.rest.now c.slots_front-behind.result) c.ending.ensures c.slots_front-behind.ensures))
