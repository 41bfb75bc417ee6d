-- Fetches, one after another.
use Rattle.std.proofs.Common.{◌≡◌, ◌∙◌, refl, sym, inl, inr, ◌∷◌, ℕ, ◌-◌, ◌^◌, ◌<◌, ◌≤◌, List, [], ◌++◌, ◌+◌, length, length-append, arith}
use Rattle.std.specs.Prelude.{Option, None, Some, IfSome, ◌⊎◌, count_by}
use Rattle.std.proofs.lemmas.List.Elements.{All-nil, All-cons, All-append}
use Rattle.std.proofs.lemmas.List.Sums.{sum_by-append}
use Rattle.ht_out.specs.Counts.{count_on, Rose}
use Rattle.ht_out.specs.FileMaps.{file_of, Gives, Misses}
use Rattle.ht_calc.specs.Fetches.{Fetched, MayGive, is_fault, AreFetches, AreAll, AreAmong}
use Rattle.ht_calc.proofs.Streams.{count_more}

-- no call, and no fault
pub nothing_asked : (files : Option (List (List ℕ × List ℕ))) (count : ℕ) → AreFetches files count count []
nothing_asked files count = record { each = All-nil (MayGive files); later = omega arith; faults = λ _. omega arith }

pub none_made : (count : ℕ) → AreAll count count []
none_made count = omega arith

-- all of the first and all of the others
pub all_more : (a b c : ℕ) (made others : List Fetched) → AreAll a b made → AreAll b c others → AreAll a c (made ++ others)
all_more a b c made others first second = rw length-append (count_more a b c (length made) (length others) first second)

-- some were made, and then maybe others
pub made_later : (a b c : ℕ) (made : List Fetched) (before more : ℕ) → AreAll a b made → length made ≤ before → b ≤ c → c ≤ count_on b more → AreAmong a c made (before + more)
made_later a b c made before more all few later most = (omega (arith, all), omega (arith, all, few, most))

-- first some fetches, and then others
pub asked_more : (files : Option (List (List ℕ × List ℕ))) (a b c : ℕ) (made others : List Fetched) → AreFetches files a b made → AreFetches files b c others → AreFetches files a c (made ++ others)
asked_more files a b c made others first second = record {
  each = All-append (MayGive files) made others first.each second.each;
  later = omega (arith, first.later, second.later);
  faults = λ low.
      let low_before : b < 2 ^ 64 - 1 = omega (arith, second.later, low) in
      let one = first.faults low_before in
      let two = second.faults low in
      rw sum_by-append (omega (arith, one, two));
}

-- the count may rise by more
pub asked_later : (files : Option (List (List ℕ × List ℕ))) (a b c : ℕ) (made : List Fetched) → AreFetches files a b made → b ≤ c → AreFetches files a c made
asked_later files a b c made asked later = record {
  each = asked.each;
  later = omega (arith, asked.later);
  faults = λ low. let low_before : b < 2 ^ 64 - 1 = omega arith in omega (arith, asked.faults low_before);
}

-- one call
one_call : (files : Option (List (List ℕ × List ℕ))) (before now : ℕ) (fetched : Fetched) → MayGive files fetched → before ≤ now
    → (now < 2 ^ 64 - 1 → before + count_by (is_fault files) (fetched ∷ []) ≤ now) → AreFetches files before now (fetched ∷ [])
one_call files before now fetched may later faults = record {
  each = All-cons (MayGive files) fetched [] may (All-nil (MayGive files));
  later = later;
  faults = faults;
}

-- a file was given
pub file_given : (files : Option (List (List ℕ × List ℕ))) (before now : ℕ) (file bytes : List ℕ) → before ≤ now → IfSome files (λ entries. Gives entries file 4194304 bytes)
    → AreFetches files before now (record { file = file; gives = Some bytes } ∷ [])
file_given files before now file bytes later gives = one_call files before now (record { file = file; gives = Some bytes }) gives later (λ low. omega arith)

-- a file wasn't given
pub file_failed : (files : Option (List (List ℕ × List ℕ))) (before now : ℕ) (file : List ℕ) → before ≤ now → Rose before now ⊎ Misses files file
    → AreFetches files before now (record { file = file; gives = None } ∷ [])
file_failed None before now file later (inl rose) = one_call None before now (record { file = file; gives = None }) tt later (λ low. omega arith)
file_failed None before now file later (inr missing) = absurd missing
file_failed (Some entries) before now file later why = one_call (Some entries) before now (record { file = file; gives = None }) tt later (λ low. risen (file_of entries file) refl low why)
  where
    risen : (found : Option (List ℕ)) → file_of entries file ≡ found → now < 2 ^ 64 - 1 → Rose before now ⊎ Misses (Some entries) file
        → before + count_by (is_fault (Some entries)) (record { file = file; gives = None } ∷ []) ≤ now
    risen None is low why = rw is (omega arith)
    risen (Some bytes) is low (inl rose) = rw is (omega arith)
    risen (Some bytes) is low (inr missing) = let clash : Some bytes ≡ None = sym is ∙ missing in cc
