use Rattle.std.proofs.Common.{◌≡◌, ◌∙◌, sym, ap, subst, subst₂, true, false}
use Rattle.std.specs.Int.{w128}
use Rattle.std.proofs.lemmas.Int.{to_z-of_z}
use Rattle.ht_pair.specs.ValueLists.{IsFollowed}
use Rattle.ht_pair.proofs.ValueListLaws.{cone_of}
use Rattle.ht_share.proofs.ImageTests.{word_carried, carried_word, cone_once}
use Rattle.ht_share.proofs.carried.carries.Goals as goal

pub returns-in_default : goal.returns-in_default
returns-in_default c =
    let f = c.args.f.now in
    let u = c.args.u.now in
    let followed : IsFollowed f.shape (cone_of u) f.rows c.args.k c.in_ok-image.image = subst₂ (λ L i. IsFollowed f.shape L f.rows i c.in_ok-image.image) (c.in_ok-cone.ensures ∙ ap cone_of c.in_ok-copy.ensures) (to_z-of_z w128 c.args.k c.ranges.k) c.in_ok-image.ensures in (
      (λ e. absurd (let no : false ≡ true = e in cc)),
      (λ s. absurd (c.in_default.ensures c.args.v.now (carried_word f.shape f.rows c.keeps_limits.ensures.pair c.args.k u c.args.v.now c.in_ok-image.image followed s))),
    )

pub returns : goal.returns
returns c =
    let f = c.args.f.now in
    let u = c.args.u.now in
    let v = c.args.v.now in
    let followed : IsFollowed f.shape (cone_of u) f.rows c.args.k c.in_ok-image.image = subst₂ (λ L i. IsFollowed f.shape L f.rows i c.in_ok-image.image) (c.in_ok-cone.ensures ∙ ap cone_of c.in_ok-copy.ensures) (to_z-of_z w128 c.args.k c.ranges.k) c.in_ok-image.ensures in (
      (λ yes. word_carried f.shape f.rows c.args.k u v c.requires (subst (IsFollowed f.shape (cone_of u) f.rows c.args.k) (c.in-Some.ensures ∙ ap cone_of (c.same.ensures.0 yes)) followed)),
      (λ s. c.same.ensures.1 (cone_once c.in-Some.word.now v (sym c.in-Some.ensures ∙ carried_word f.shape f.rows c.keeps_limits.ensures.pair c.args.k u v c.in_ok-image.image followed s))),
    )
