use Rattle.ht_laws.proofs.PowerRuleLaws.{rule_printed, printed_power_conjugate}
use Rattle.ht_laws.proofs.power_rule.what_the_power_rule_prints_conjugates_the_powers.Goals as goal

pub returns-clause-conjugates : goal.returns-clause-conjugates
returns-clause-conjugates c = λ shape a b budget i j h s t pair_a pair_b rule. (rule_printed shape a b budget i j h pair_a pair_b rule).conjugates s t

pub returns-clause-above : goal.returns-clause-above
returns-clause-above c = λ shape a b budget i j h pair_a pair_b rule. (rule_printed shape a b budget i j h pair_a pair_b rule).above

pub returns-clause-first_moves : goal.returns-clause-first_moves
returns-clause-first_moves c = λ shape a b budget i j h s pair_a pair_b rule. (rule_printed shape a b budget i j h pair_a pair_b rule).first_moves s

pub returns-clause-second_moves : goal.returns-clause-second_moves
returns-clause-second_moves c = λ shape a b budget i j h t pair_a pair_b rule. (rule_printed shape a b budget i j h pair_a pair_b rule).second_moves t

pub returns-clause-power_conjugate : goal.returns-clause-power_conjugate
returns-clause-power_conjugate c = λ shape a b budget i j h pair_a pair_b rule. printed_power_conjugate shape a b i j h pair_a pair_b (rule_printed shape a b budget i j h pair_a pair_b rule)

pub returns-clause-canonical : goal.returns-clause-canonical
returns-clause-canonical c = λ shape a b budget i j h pair_a pair_b rule. (rule_printed shape a b budget i j h pair_a pair_b rule).printed.canonical

pub returns-clause-normal : goal.returns-clause-normal
returns-clause-normal c = λ shape a b budget i j h pair_a pair_b rule. let by = rule_printed shape a b budget i j h pair_a pair_b rule in (by.from, by.to, by.compared, by.printed.normal)
