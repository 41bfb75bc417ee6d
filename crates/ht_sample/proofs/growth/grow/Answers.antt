use Rattle.std.proofs.Common.{sym, ◌∙◌, ap, arith, List}
use Rattle.ht_word.specs.declared.word.Word.{Word}
use Rattle.ht_sample.specs.Rooms.{room_from}
use Rattle.ht_sample.proofs.WholeLaws.{room_found}
use Rattle.ht_sample.proofs.growth.grow.Goals as goal

pub unreachable-requires : goal.unreachable-requires
unreachable-requires c =
    let are = c.as_slice.ensures ∙ c.words-2.ensures.words in
    room_found c.args.basis.now.words c.draw-place.result c.requires.whole (omega (arith, c.requires.few)) (ap (λ (X : List Word). room_from X c.draw-place.result) (sym are) ∙ sym c.room_at.ensures.room ∙ c.in_default.is)
