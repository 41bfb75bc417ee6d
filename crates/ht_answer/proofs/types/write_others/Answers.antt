use Rattle.std.proofs.Common.{◌≡◌, ◌≤◌, ◌<◌, ◌++◌, sym, subst}
use Rattle.std.specs.List.{zip}
use Rattle.std.proofs.lemmas.List.{take_all}
use Rattle.ht_word.specs.declared.word.Word.{Word}
use Rattle.ht_types.specs.declared.kind.Kind.{Kind}
use Rattle.ht_text.specs.Writes.{AddsFront}
use Rattle.ht_text.proofs.Writing.{at_refusal}
use Rattle.ht_answer.specs.KindTexts.{later_entry_text}
use Rattle.ht_answer.proofs.Pieces.{adds_piece, wrote_piece}
use Rattle.ht_answer.proofs.TypesTexts.{number_of_entries, entry_at}
use Rattle.ht_answer.proofs.types.write_others.Goals as goal

pub loop-place-preserved : goal.loop-place-preserved
loop-place-preserved c =
    let number = number_of_entries c.args.words.now c.args.kinds.now c.requires.as_many in
    let entry = entry_at c.args.words.now c.args.kinds.now c.loop-place.place c.index-words-place.result c.index-kinds-place.result c.requires.as_many c.loop-place-test.true c.index-words-place.is c.index-kinds-place.is in
    wrote_piece (later_entry_text c.args.all.now) c.args.out.now.items c.loop-place.out.items c.write_later.new.out.items (zip c.args.words.now c.args.kinds.now)
    (c.index-words-place.result, c.index-kinds-place.result) c.loop-place.place (subst (λ n. c.loop-place.place < n) (sym number) c.loop-place-test.true) c.loop-place.invariant
    (subst (λ (t : Word × Kind). c.write_later.new.out.items ≡ c.loop-place.out.items ++ later_entry_text c.args.all.now t) (sym entry) c.in_ok-write_later.ensures.ok)

pub returns-in_err-write_later-clause-err : goal.returns-in_err-write_later-clause-err
returns-in_err-write_later-clause-err c =
    let number = number_of_entries c.args.words.now c.args.kinds.now c.requires.as_many in
    let entry = entry_at c.args.words.now c.args.kinds.now c.loop-place.place c.index-words-place.result c.index-kinds-place.result c.requires.as_many c.loop-place-test.true c.index-words-place.is c.index-kinds-place.is in
    at_refusal c.from_residual.result
    (adds_piece (later_entry_text c.args.all.now) c.args.out.now.items c.loop-place.out.items c.write_later.new.out.items (zip c.args.words.now c.args.kinds.now)
    (c.index-words-place.result, c.index-kinds-place.result) c.loop-place.place (subst (λ n. c.loop-place.place < n) (sym number) c.loop-place-test.true) c.loop-place.invariant
    (subst (λ (t : Word × Kind). AddsFront c.loop-place.out.items c.write_later.new.out.items (later_entry_text c.args.all.now t)) (sym entry) c.in_err-write_later.ensures.err))

pub returns-clause-ok : goal.returns-clause-ok
returns-clause-ok c =
    let number = number_of_entries c.args.words.now c.args.kinds.now c.requires.as_many in
    let whole = take_all c.loop-place.place (zip c.args.words.now c.args.kinds.now) (subst (λ n. n ≤ c.loop-place.place) (sym number) c.loop-place-test.false) in
    rw whole at c.loop-place.invariant
