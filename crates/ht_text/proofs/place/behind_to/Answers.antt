use Rattle.std.proofs.Common.{arith}
use Rattle.ht_text.specs.declared.place.Place.TheVariants.{Start}
use Rattle.ht_text.specs.Places.{CompletesWith, EndsFromWord, EndsRow}
use Rattle.ht_text.proofs.PlaceLaws.{no_mark, word_ends, no_end}
use Rattle.ht_text.proofs.RowFronts.{rows_begin}
use Rattle.ht_text.proofs.place.behind_to.Goals as goal

pub returns-then-not-is_whole : goal.returns-then-not-is_whole
returns-then-not-is_whole c = λ rest.
    no_end EndsRow c.args.place c.args.byte rest (λ t. no_mark c.args.place c.args.byte t (omega arith) (omega arith)) (λ f. let yes = c.is_whole.ensures.1 f in cc)

pub returns-then-byte-eq59 : goal.returns-then-byte-eq59
returns-then-byte-eq59 c = λ rest.
    word_ends EndsRow (CompletesWith EndsFromWord Start) c.args.place c.args.byte rest (λ t. no_mark c.args.place c.args.byte t (omega arith) (omega arith)) (c.is_whole.ensures.0 c.if-not-is_whole.false)
    ((λ e. (rows_begin rest).0 e.1), (λ f. (c.if-byte-eq59.true, (rows_begin rest).1 f)))
