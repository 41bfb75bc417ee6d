use Rattle.std.proofs.Common.{◌∙◌, List, ◌++◌, length, sym, ap, arith, append-nil}
use Rattle.std.proofs.lemmas.List.{drop_all}
use Rattle.ht_word.specs.declared.word.Word.{Word}
use Rattle.ht_quasi.specs.declared.quasi.Quasi.{Quasi}
use Rattle.ht_cycles.specs.Runs.{lengths_of}
use Rattle.ht_cycles.proofs.RunLaws.{one_more_kind}
use Rattle.ht_cycles.proofs.profiles.cycle_lengths.Goals as goal

pub loop-place-preserved : goal.loop-place-preserved
loop-place-preserved c =
    one_more_kind c.args.t.now.kinds c.loop-place.place c.kind.result.now c.loop-place.lengths.items c.add_length.new.lengths.items (lengths_of c.args.t.now.kinds) c.kind.ensures.kind c.loop-place.invariant (c.in_ok-add_length.ensures)

pub returns : goal.returns
returns c =
    sym (append-nil c.loop-place.lengths.items) ∙ ap (λ t. c.loop-place.lengths.items ++ lengths_of t) (sym (drop_all c.loop-place.place c.args.t.now.kinds (omega (arith, c.keeps_kinds.ensures.kinds_are.as_many, ap (λ (q : Quasi). length q.basis.words) c.quasi.ensures.quasi, ap (λ (W : List Word). length W) c.words.ensures.words)))) ∙ c.loop-place.invariant
