use Rattle.std.proofs.Common.{arith}
use Rattle.ht_text.specs.declared.place.Place.TheVariants.{Start}
use Rattle.ht_text.specs.Places.{CompletesWith, EndsFromWord, EndsRow}
use Rattle.ht_text.proofs.PlaceLaws.{no_mark, word_ends, no_end}
use Rattle.ht_text.proofs.place.behind_from.Goals as goal

pub returns-then-not-is_whole : goal.returns-then-not-is_whole
returns-then-not-is_whole c = λ rest.
    no_end EndsFromWord c.args.place c.args.byte rest (λ t. no_mark c.args.place c.args.byte t (omega arith) (omega arith)) (λ f. let yes = c.is_whole.ensures.1 f in cc)

pub returns-then-byte-eq62 : goal.returns-then-byte-eq62
returns-then-byte-eq62 c = λ rest.
    word_ends EndsFromWord (CompletesWith EndsRow Start) c.args.place c.args.byte rest (λ t. no_mark c.args.place c.args.byte t (omega arith) (omega arith)) (c.is_whole.ensures.0 c.if-not-is_whole.false)
    ((λ e. e.1), (λ f. (c.if-byte-eq62.true, f)))
