use Rattle.std.proofs.Common.{sym, subst}
use Rattle.std.specs.List.{flat_map, zip}
use Rattle.std.proofs.lemmas.List.Elements.{All-rest}
use Rattle.std.proofs.lemmas.Result.{on_err_weaker}
use Rattle.ht_text.specs.Texts.{HasText}
use Rattle.ht_text.specs.Writes.{AddsFront}
use Rattle.ht_text.proofs.Writing.{adds_within, adds_behind, at_refusal}
use Rattle.ht_answer.specs.KindTexts.{HasKindText, entry_text, later_entry_text}
use Rattle.ht_answer.proofs.TypesTexts.{first_and_later}
use Rattle.ht_answer.proofs.types.write_types.Goals as goal

pub returns-in_err-write_entry-clause-err : goal.returns-in_err-write_entry-clause-err
returns-in_err-write_entry-clause-err c =
    let split = first_and_later c.args.words.now c.in-Some.words_behind.now c.args.kinds.now c.in-Some-split_first.kinds_behind.now c.in-Some.word.now c.in-Some-split_first.kind.now c.in-Some.ensures.cases.0 c.in-Some-split_first.ensures.cases.0 in
    at_refusal c.from_residual.result
    (subst (λ t. AddsFront c.args.out.now.items c.write_entry.new.out.items t) (sym split)
    (adds_within c.args.out.now.items c.write_entry.new.out.items (entry_text c.args.words.now (c.in-Some.word.now, c.in-Some-split_first.kind.now))
    (flat_map (later_entry_text c.args.words.now) (zip c.in-Some.words_behind.now c.in-Some-split_first.kinds_behind.now)) c.in_err-write_entry.ensures.err))

pub write_others-requires-clause-words : goal.write_others-requires-clause-words
write_others-requires-clause-words c = All-rest HasText c.in-Some.word.now c.in-Some.words_behind.now c.args.words.now c.in-Some.ensures.cases.0 c.requires.words_have_texts

pub write_others-requires-clause-kinds : goal.write_others-requires-clause-kinds
write_others-requires-clause-kinds c =
    All-rest (HasKindText c.args.words.now) c.in-Some-split_first.kind.now c.in-Some-split_first.kinds_behind.now c.args.kinds.now c.in-Some-split_first.ensures.cases.0 c.requires.kinds_have_texts

pub returns-clause-err : goal.returns-clause-err
returns-clause-err c =
    let split = first_and_later c.args.words.now c.in-Some.words_behind.now c.args.kinds.now c.in-Some-split_first.kinds_behind.now c.in-Some.word.now c.in-Some-split_first.kind.now c.in-Some.ensures.cases.0 c.in-Some-split_first.ensures.cases.0 in
    on_err_weaker c.write_others.result
    (λ h. subst (λ t. AddsFront c.args.out.now.items c.write_others.new.out.items t) (sym split)
    (adds_behind c.args.out.now.items c.write_entry.new.out.items c.write_others.new.out.items (entry_text c.args.words.now (c.in-Some.word.now, c.in-Some-split_first.kind.now))
    (flat_map (later_entry_text c.args.words.now) (zip c.in-Some.words_behind.now c.in-Some-split_first.kinds_behind.now)) c.in_ok-write_entry.ensures.ok h))
    c.write_others.ensures.err
