use Rattle.std.proofs.Common.{◌≡◌, ◌∙◌, List, pos, sym, ap, subst}
use Rattle.std.proofs.lemmas.Result.{IfOk-weaker}
use Rattle.ht_pair.specs.declared.row.Row.{Row}
use Rattle.ht_pair.specs.Images.{Entry, IsImage}
use Rattle.ht_pair.specs.ValueLists.{IsValueList, IsFollowed}
use Rattle.ht_pair.proofs.ValueListLaws.{cone_of, cone_value, followed_image}
use Rattle.ht_text.specs.Texts.{HasRowsText}
use Rattle.ht_ask.specs.ShownImages.{rows_from}
use Rattle.ht_ask.proofs.QuestionTexts.{image_has_texts}
use Rattle.ht_ask.proofs.question.image_rows.Goals as goal

pub step-requires : goal.step-requires
step-requires c =
    subst (λ (L : List Entry). IsValueList c.args.element.now.shape L) (sym (c.in_ok-cone.ensures ∙ ap cone_of c.in_ok-copy.ensures)) (cone_value c.args.element.now.shape c.args.word c.requires)

pub returns-clause-image : goal.returns-clause-image
returns-clause-image c =
    let shape = c.args.element.now.shape in
    let p = c.args.element.now.rows in
    let L = c.in_ok-image.image in
    let followed = subst (λ (M : List Entry). IsFollowed shape M p (pos 1) L) (c.in_ok-cone.ensures ∙ ap cone_of c.in_ok-copy.ensures) c.in_ok-image.ensures in
    IfOk-weaker c.rows_under.result (λ (rows : List Row). rows ≡ rows_from c.args.word L) (λ (rows : List Row). (M : List Entry) × IsImage shape p (pos 1) c.args.word M × (rows ≡ rows_from c.args.word M))
    (λ rows is. (L, followed_image shape p (pos 1) c.args.word L c.requires followed, is)) c.rows_under.ensures

pub returns-clause-text : goal.returns-clause-text
returns-clause-text c =
    let shape = c.args.element.now.shape in
    let p = c.args.element.now.rows in
    let L = c.in_ok-image.image in
    let followed = subst (λ (M : List Entry). IsFollowed shape M p (pos 1) L) (c.in_ok-cone.ensures ∙ ap cone_of c.in_ok-copy.ensures) c.in_ok-image.ensures in
    IfOk-weaker c.rows_under.result (λ (rows : List Row). rows ≡ rows_from c.args.word L) HasRowsText
    (λ rows is. subst HasRowsText (sym is) (image_has_texts shape p c.args.word L (followed_image shape p (pos 1) c.args.word L c.requires followed) followed.value_list.words)) c.rows_under.ensures
