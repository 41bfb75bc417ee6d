use Rattle.std.proofs.Common.{◌≡◌, ◌∙◌, ◌≤◌, inl, inr, List, sym, ap, subst, arith}
use Rattle.ht_pair.specs.declared.row.Row.{Row}
use Rattle.ht_pair.specs.Pairs.{longest_of}
use Rattle.ht_pair.proofs.element.Element.of_pair.Goals as goal

pub invariant_of-result : goal.invariant_of-result
invariant_of-result c = record { canonical = c.in_ok-rows.ensures.canonical.form; few_rows = omega arith; short_words = subst (λ (t : List Row). longest_of t ≤ 1024) c.as_slice.ensures (omega (arith, c.longest_in-letters.ensures)) }

pub returns-then-len-gt-MOST_ROWS-clause-large : goal.returns-then-len-gt-MOST_ROWS-clause-large
returns-then-len-gt-MOST_ROWS-clause-large c = λ count letters is.
    let rows : c.len-then-len-gt-MOST_ROWS.result ≡ count = cc in
    let longest : c.longest_in-letters.result ≡ letters = cc in (
      record {
        canonical = c.in_ok-rows.rows;
        is_canonical = c.in_ok-rows.ensures.canonical;
        rows_is = sym rows ∙ c.len-then-len-gt-MOST_ROWS.ensures;
        letters_is = sym longest ∙ c.longest_in-letters.ensures ∙ ap (λ (t : List Row). longest_of t) c.as_slice.ensures;
      },
      elim c.then-len-gt-MOST_ROWS.either [ inl more ↦ inl (omega (arith, more, c.len.ensures, c.len-then-len-gt-MOST_ROWS.ensures)) | inr longer ↦ inr (omega (arith, longer.1)) ],
    )
