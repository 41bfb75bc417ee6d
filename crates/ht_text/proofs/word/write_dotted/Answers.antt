use Rattle.std.proofs.Common.{[], ◌∷◌, sym, subst}
use Rattle.std.specs.Prelude.{map}
use Rattle.std.proofs.lemmas.Result.{on_ok_weaker, on_err_weaker}
use Rattle.ht_text.specs.Texts.{letter_code}
use Rattle.ht_text.specs.Writes.{AddsFront}
use Rattle.ht_text.proofs.WordTexts.{parts_text, second_part}
use Rattle.ht_text.proofs.Writing.{appended, adds_within, adds_behind, at_refusal}
use Rattle.ht_text.proofs.word.write_dotted.Goals as goal

pub returns-in_err-write_letters-clause-err : goal.returns-in_err-write_letters-clause-err
returns-in_err-write_letters-clause-err c =
    at_refusal c.from_residual-in_err-write_letters.result
    (subst (λ t. AddsFront c.args.out.now.items c.write_letters.new.out.items t) (sym (parts_text c.args.letters.now c.args.more.now c.requires.some))
    (adds_within c.args.out.now.items c.write_letters.new.out.items (46 ∷ map letter_code c.args.letters.now) (map letter_code c.args.more.now)
    (adds_behind c.args.out.now.items c.push.new.self.items c.write_letters.new.out.items (46 ∷ []) (map letter_code c.args.letters.now) c.in_ok-push.ensures.items c.in_err-write_letters.ensures.err)))

pub write_letters-requires-2 : goal.write_letters-requires-2
write_letters-requires-2 c = second_part c.args.letters.now c.args.more.now c.requires.digits

pub returns-clause-ok : goal.returns-clause-ok
returns-clause-ok c =
    let wrote = appended c.args.out.now.items c.push.new.self.items c.write_letters.new.out.items (46 ∷ []) (map letter_code c.args.letters.now) c.in_ok-push.ensures.items c.in_ok-write_letters.ensures.ok in
    rw (parts_text c.args.letters.now c.args.more.now c.requires.some)
    (on_ok_weaker c.write_letters-2.result
    (λ h. appended c.args.out.now.items c.write_letters.new.out.items c.write_letters-2.new.out.items (46 ∷ map letter_code c.args.letters.now) (map letter_code c.args.more.now) wrote h)
    c.write_letters-2.ensures.ok)

pub returns-clause-err : goal.returns-clause-err
returns-clause-err c =
    let wrote = appended c.args.out.now.items c.push.new.self.items c.write_letters.new.out.items (46 ∷ []) (map letter_code c.args.letters.now) c.in_ok-push.ensures.items c.in_ok-write_letters.ensures.ok in
    rw (parts_text c.args.letters.now c.args.more.now c.requires.some)
    (on_err_weaker c.write_letters-2.result
    (λ h. adds_behind c.args.out.now.items c.write_letters.new.out.items c.write_letters-2.new.out.items (46 ∷ map letter_code c.args.letters.now) (map letter_code c.args.more.now) wrote h)
    c.write_letters-2.ensures.err)
