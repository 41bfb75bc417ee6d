-- Conjugators as elements.
use Rattle.std.proofs.Common.{◌≡◌, ◌<◌, ◌⊎◌, ℕ, List, length, sym, ap, ◌∙◌, subst}
use Rattle.ht_word.specs.declared.shape.Shape.{Shape}
use Rattle.ht_pair.specs.declared.row.Row.{Row}
use Rattle.ht_pair.specs.Actions.{IsCanonical, IsCanonicalFor}
use Rattle.ht_pair.specs.Elements.{ElementValue, IsElement}
use Rattle.ht_pair.specs.Sizes.{IsLarge}
use Rattle.ht_pair.proofs.AlikeLaws.{alike_refl}
use Rattle.ht_pair.proofs.CanonicalLaws.{canonical_unique}

-- canonical rows are those of their element
pub own_form : (shape : Shape) (rows copy other : List Row) → IsCanonical shape rows → copy ≡ rows → IsCanonicalFor shape other copy → other ≡ rows
own_form shape rows copy other canonical same form =
    canonical_unique shape rows other rows canonical.pair (subst (IsCanonicalFor shape other) same form) (record { form = canonical; alike = alike_refl shape rows canonical.pair })

-- within the limits they are an element
pub kept_small : (shape : Shape) (rows copy : List Row) (element : ElementValue) → IsCanonical shape rows → copy ≡ rows → (element.shape ≡ shape) × IsCanonicalFor shape element.rows copy → IsElement element.shape element.rows
    → (element.shape ≡ shape) × (element.rows ≡ rows) × IsElement shape rows
kept_small shape rows copy element canonical same is small =
    let rows_are = own_form shape rows copy element.rows canonical same is.1 in
    (is.0, rows_are, subst (λ (p : List Row). IsElement shape p) rows_are (subst (λ (s : Shape). IsElement s element.rows) is.0 small))

-- beyond them they are large
pub own_size : (shape : Shape) (rows copy : List Row) (count letters : ℕ) → IsCanonical shape rows → copy ≡ rows → IsLarge shape copy count letters → IsLarge shape rows (length rows) letters
own_size shape rows copy count letters canonical same large =
    let size = large.0 in
    let rows_are = own_form shape rows copy size.canonical canonical same size.is_canonical in
    let count_is : count ≡ length rows = size.rows_is ∙ ap (λ (p : List Row). length p) rows_are in (
      record { canonical = size.canonical; is_canonical = subst (IsCanonicalFor shape size.canonical) same size.is_canonical; rows_is = sym count_is ∙ size.rows_is; letters_is = size.letters_is },
      subst (λ (k : ℕ). (8192 < k) ⊎ (1024 < letters)) count_is large.1,
    )
