use Rattle.std.proofs.Common.{◌≡◌, List, sym, ap, ◌∙◌, subst, Err}
use Rattle.ht_word.specs.Words.{IsAscending}
use Rattle.ht_pair.specs.declared.row.Row.{Row}
use Rattle.ht_pair.specs.declared.fault.OpFault.{OpFault}
use Rattle.ht_pair.specs.declared.fault.OpFault.TheVariants as op_fault
use Rattle.ht_pair.specs.Pairs.{IsPair, from_words}
use Rattle.ht_calc.proofs.ConjugatorLaws.{kept_small, own_size}
use Rattle.ht_calc.proofs.conjugator.element_of.Goals as goal

pub of_pair-requires-clause-pair : goal.of_pair-requires-clause-pair
of_pair-requires-clause-pair c = subst (IsPair c.args.shape) (sym (c.in_ok-copy.ensures ∙ c.as_slice.ensures)) c.requires.pair

pub of_pair-requires-clause-order : goal.of_pair-requires-clause-order
of_pair-requires-clause-order c = subst (λ (p : List Row). IsAscending (from_words p)) (sym (c.in_ok-copy.ensures ∙ c.as_slice.ensures)) c.requires.ascending

pub returns-in-Ok-clause-element : goal.returns-in-Ok-clause-element
returns-in-Ok-clause-element c =
    kept_small c.args.shape c.args.rows.now c.in_ok-copy.copy c.in-Ok.element c.requires (c.in_ok-copy.ensures ∙ c.as_slice.ensures) c.in-Ok.ensures.canonical c.keeps_limits.ensures

pub returns-in-Err-clause-large : goal.returns-in-Err-clause-large
returns-in-Err-clause-large c = λ count letters is.
    let same : c.in-Err.fault ≡ op_fault.Large count letters = cc in
    own_size c.args.shape c.args.rows.now c.in_ok-copy.copy count letters c.requires (c.in_ok-copy.ensures ∙ c.as_slice.ensures) (c.in-Err.ensures.large count letters (ap (λ (f : OpFault). Err f) same))
