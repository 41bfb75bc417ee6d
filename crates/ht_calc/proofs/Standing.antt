-- How far a script was read and answered, piece by piece.
use Rattle.std.proofs.Common.{◌≡◌, ◌≢◌, ℕ, ◌<◌, ◌≤◌, ◌+◌, inl, inr, List, [], ◌∷◌, ◌++◌, length, ap, refl, sym, ◌∙◌, subst, append_assoc, append-nil, length-append, arith}
use Rattle.std.specs.Prelude.{Option, ◌⊎◌, ◌==◌, true, false}
use Rattle.std.proofs.lemmas.Bool.Decides.{leb_tells, nat_tests}
use Rattle.std.proofs.lemmas.Grind.{flat_map-append}
use Rattle.std.proofs.lemmas.List.Elements.{All-push, All-nil}
use Rattle.ht_calc.specs.declared.lines.Reading.{Reading}
use Rattle.ht_calc.specs.declared.lines.Extent.{Extent}
use Rattle.ht_calc.specs.declared.lines.Extent.TheVariants.{Within, Ended, TooLong}
use Rattle.ht_calc.specs.ScriptLines.{lines_of, IsShort}
use Rattle.ht_calc.specs.Progress.{IsOneLine, whole_text, IsCut, IsReady, Calls, Origin, Answered, Stands}
use Rattle.ht_calc.proofs.RunLaws.{answered_so_far}
use Rattle.ht_calc.proofs.LineLaws.{next_line, last_line, lines_behind, whole_behind, lines_now, all_counting, counting_before, within_limits, beyond_limits}

-- no byte is read
pub nothing_read : IsCut [] [] []
nothing_read = record { bytes = refl; one_line = All-nil IsOneLine; short = All-nil IsShort; few = omega arith }

-- a line was ended
cut_line : (T : List ℕ) (lines : List (List ℕ)) (begun end line : List ℕ) → IsCut T lines begun → IsOneLine line → IsShort line → length lines < 65536 → line ≡ begun ++ end
    → IsCut (T ++ (end ++ 10 ∷ [])) (lines ++ line ∷ []) []
cut_line T lines begun end line cut one short few is = record {
  bytes = rw (cut.bytes, is) (simp (flat_map-append, append_assoc, append-nil));
  one_line = All-push IsOneLine lines line cut.one_line one;
  short = All-push IsShort lines line cut.short short;
  few = rw length-append (omega arith);
}

pub stands_line : (T O all : List ℕ) (files : Option (List (List ℕ × List ℕ))) (before : Origin) (mid now : Calls) (old new : Reading) (end line : List ℕ)
    → IsOneLine line → IsShort line → old.answering.lines < 65536 → line ≡ old.begun.items ++ end → new.begun.items ≡ []
    → (was : Stands Within T O files before mid old) → Answered files before now (was.lines ++ line ∷ []) new.answering all
    → Stands Within (T ++ (end ++ 10 ∷ [])) all files before now new
stands_line T O all files before mid now old new end line one short few is none was answered = record {
  lines = was.lines ++ line ∷ [];
  read = rw none (cut_line T was.lines old.begun.items end line was.read one short (omega (arith, was.answered.count)) is);
  answered = answered;
}

-- a line was begun, or more of it
pub stands_begun : (T O : List ℕ) (files : Option (List (List ℕ × List ℕ))) (before : Origin) (now : Calls) (old new : Reading) (more : List ℕ)
    → new.answering ≡ old.answering → new.begun.items ≡ old.begun.items ++ more → Stands Within T O files before now old → Stands Within (T ++ more) O files before now new
stands_begun T O files before now old new more same is was = record {
  lines = was.lines;
  read = record {
    bytes = rw is (rw was.read.bytes (append_assoc (whole_text was.lines) old.begun.items more));
    one_line = was.read.one_line;
    short = was.read.short;
    few = was.read.few;
  };
  answered = rw same was.answered;
}

-- there is no room for one more line, or for so many bytes of it
pub no_room : (lines begun more : ℕ) → lines ≤ 65536 → ¬ ((lines < 65536) × (begun + more ≤ 65536)) → (lines ≡ 65536) ⊎ (65536 < begun + more)
no_room lines begun more most full =
    elim (leb_tells (begun + more) 65536) [
      | inl fits ↦ elim (leb_tells 65536 lines) [
        | inl many ↦ inl (omega (arith, many.1))
        | inr few ↦ absurd (full (few.1, fits.1))
      ]
      | inr long ↦ inr long.1
    ]

-- the bytes go beyond the limits
pub stands_over : (T O : List ℕ) (files : Option (List (List ℕ × List ℕ))) (before : Origin) (now : Calls) (reading : Reading) (more next : List ℕ) (others : List (List ℕ))
    → lines_of (reading.begun.items ++ more) ≡ next ∷ others → (reading.answering.lines ≡ 65536) ⊎ (65536 < length next)
    → Stands Within T O files before now reading → Stands TooLong (T ++ more) O files before now reading
stands_over T O files before now reading more next others are why was =
    let all : lines_of (T ++ more) ≡ was.lines ++ next ∷ others = lines_behind T was.lines reading.begun.items more was.read ∙ ap (λ (rest : List (List ℕ)). was.lines ++ rest) are in
    let whole = ap length (whole_behind T was.lines reading.begun.items more was.read) in
    let beyond = counts why in record {
      lines = was.lines;
      read = (
        beyond_limits (T ++ more) was.lines next others all beyond,
        counting_before (T ++ more) was.lines next others all was.read.short was.read.few beyond,
        omega (arith, simp length-append at whole),
      );
      answered = was.answered;
    }
  where
    counts : (reading.answering.lines ≡ 65536) ⊎ (65536 < length next) → (length was.lines ≡ 65536) ⊎ (65536 < length next)
    counts (inl full) = inl (sym was.answered.count ∙ full)
    counts (inr long) = inr long

-- the next line, with its line feed, goes beyond the limits
pub line_over : (T O : List ℕ) (files : Option (List (List ℕ × List ℕ))) (before : Origin) (now : Calls) (reading : Reading) (end after : List ℕ)
    → IsOneLine (reading.begun.items ++ end) → (reading.answering.lines ≡ 65536) ⊎ (65536 < length reading.begun.items + length end)
    → Stands Within T O files before now reading → Stands TooLong (T ++ (end ++ 10 ∷ after)) O files before now reading
line_over T O files before now reading end after one why was =
    let next = reading.begun.items ++ end in
    stands_over T O files before now reading (end ++ 10 ∷ after) next (lines_of after) (next_line reading.begun.items end after one) (rw length-append why) was

-- what is begun, with these bytes, goes beyond the limits
pub begun_over : (T O : List ℕ) (files : Option (List (List ℕ × List ℕ))) (before : Origin) (now : Calls) (reading : Reading) (more : List ℕ)
    → IsOneLine (reading.begun.items ++ more) → 0 < length more → (reading.answering.lines ≡ 65536) ⊎ (65536 < length reading.begun.items + length more)
    → Stands Within T O files before now reading → Stands TooLong (T ++ more) O files before now reading
begun_over T O files before now reading more one some why was =
    let next = reading.begun.items ++ more in
    let are = last_line next (rw length-append (omega arith)) one in
    stands_over T O files before now reading more next [] are (rw length-append why) was

-- behind the next line there is one line less
pub one_less : (n all : ℕ) (begun new end after rest : List ℕ) → IsOneLine (begun ++ end) → rest ≡ end ++ 10 ∷ after → new ≡ [] → n + length (lines_of (begun ++ rest)) ≤ all
    → (n + 1) + length (lines_of (new ++ after)) ≤ all
one_less n all begun new end after rest one is none few =
    let are = ap length (ap (λ (r : List ℕ). lines_of (begun ++ r)) is ∙ next_line begun end after one) in rw none (omega (arith, are))

-- the script ends with a line feed, or is empty
pub stands_ended : (T O : List ℕ) (files : Option (List (List ℕ × List ℕ))) (before : Origin) (now : Calls) (reading : Reading) → reading.begun.items ≡ []
    → Stands Within T O files before now reading → Stands Ended T O files before now reading
stands_ended T O files before now reading none was =
    let are : lines_of T ≡ was.lines = lines_now T was.lines reading.begun.items was.read ∙ ap (λ (b : List ℕ). was.lines ++ lines_of b) none ∙ append-nil was.lines in record {
      lines = was.lines;
      read = (within_limits T was.lines are was.read.short was.read.few, are, all_counting T was.lines are was.read.short was.read.few);
      answered = was.answered;
    }

-- the last line was answered
pub stands_last : (T O all : List ℕ) (files : Option (List (List ℕ × List ℕ))) (before : Origin) (mid now : Calls) (old new : Reading)
    → 0 < length old.begun.items → IsOneLine old.begun.items → IsShort old.begun.items → old.answering.lines < 65536
    → (was : Stands Within T O files before mid old) → Answered files before now (was.lines ++ old.begun.items ∷ []) new.answering all
    → Stands Ended T all files before now new
stands_last T O all files before mid now old new some one short few was answered =
    let lines = was.lines ++ old.begun.items ∷ [] in
    let are : lines_of T ≡ lines = lines_now T was.lines old.begun.items was.read ∙ ap (λ (rest : List (List ℕ)). was.lines ++ rest) (last_line old.begun.items some one) in
    let shorts = All-push IsShort was.lines old.begun.items was.read.short short in
    let most : length lines ≤ 65536 = rw length-append (omega (arith, was.answered.count)) in record {
      lines = lines;
      read = (within_limits T lines are shorts most, are, all_counting T lines are shorts most);
      answered = answered;
    }

-- no bytes, and some
pub no_bytes : (bytes : List ℕ) (n : ℕ) → n ≡ length bytes → (n == 0) ≡ true → bytes ≡ []
no_bytes [] n are zero = refl
no_bytes (b ∷ bytes) n are zero = absurd (grind (arith, nat_tests))

pub some_bytes : (bytes : List ℕ) (n : ℕ) → n ≡ length bytes → (n == 0) ≡ false → 0 < length bytes
some_bytes bytes n are some = grind (arith, nat_tests)

-- no line is begun
pub none_begun : (begun end : List ℕ) → begun ≡ [] → end ≡ begun ++ end
none_begun begun end none = rw none refl

-- no line is begun, and there is room
pub ready_anew : (reading : Reading) → reading.begun.items ≡ [] → reading.answering.lines ≤ 65536 → IsReady reading
ready_anew reading none most = record {
  one_line = rw none (All-nil (λ (b : ℕ). b ≢ 10));
  short = rw none (omega arith);
  few = most;
  room = rw none (λ some. absurd (omega arith));
}

-- the same library
pub stands_told : (extent : Extent) (T O : List ℕ) (told same : Option (List (List ℕ × List ℕ))) (before : Origin) (now : Calls) (reading : Reading) → told ≡ same
    → Stands extent T O told before now reading → Stands extent T O same before now reading
stands_told extent T O told same before now reading is stands = subst (λ (files : Option (List (List ℕ × List ℕ))). Stands extent T O files before now reading) is stands

-- before a text that is empty
pub stands_anew : (T O text : List ℕ) (told same : Option (List (List ℕ × List ℕ))) (before : Origin) (now : Calls) (reading : Reading) → text ≡ [] → told ≡ same
    → Stands Within T O told before now reading → Stands Within T (O ++ text) same before now reading
stands_anew T O text told same before now reading none is stands =
    let behind : O ++ text ≡ O = ap (λ (t : List ℕ). O ++ t) none ∙ append-nil O in
    subst (λ (o : List ℕ). Stands Within T o same before now reading) (sym behind) (stands_told Within T O told same before now reading is stands)

-- how far it has come is now
pub stands_so_far : (T O : List ℕ) (files : Option (List (List ℕ × List ℕ))) (before : Origin) (now : Calls) (reading : Reading) → (was : Stands Within T O files before now reading)
    → Stands Within T O files (record before { done = length was.lines; written = O }) now reading
stands_so_far T O files before now reading was = record { lines = was.lines; read = was.read; answered = answered_so_far files before now was.lines reading.answering O was.answered }
