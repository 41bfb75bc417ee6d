-- What the library was asked for.
--
--     Fetched                              a call of the library: the name of the file, and its first 4,194,305 bytes, or a failure
--     MayGive files fetched                a library of these files, where it tells them, may answer so
--     is_fault files fetched               it failed though the library has the name or tells nothing
--     AreFetches files before now fetches  each may be given, and at most as many are faults as the count of faults rose by; nothing is said of a count at its last value
--     AreAll before now fetches            they are all that were made: the number of fetches made went up by theirs
--     AreAmong before now fetches most     they were made, and maybe others: the number of fetches made went up by no less, and by no more than `most`
use Rattle.std.specs.Prelude.{◌≡◌, ℕ, ◌+◌, ◌-◌, ◌^◌, ◌<◌, ◌≤◌, ◌&&◌, List, length, Bool, true, Option, None, Some, All, IfSome, is_none, is_some, count_by}
use Rattle.ht_out.specs.Counts.{count_on}
use Rattle.ht_out.specs.FileMaps.{file_of, Gives}

pub record Fetched : Type 0 where
  pub file : List ℕ
  pub gives : Option (List ℕ)

abbrev pub MayGive : Option (List (List ℕ × List ℕ)) → Fetched → Type 0
MayGive files fetched = IfSome files (λ entries. IfSome fetched.gives (λ bytes. Gives entries fetched.file 4194304 bytes))

-- the files have the name, where they are told
abbrev pub may_have : Option (List (List ℕ × List ℕ)) → List ℕ → Bool
may_have None name = true
may_have (Some entries) name = is_some (file_of entries name)

abbrev pub is_fault : Option (List (List ℕ × List ℕ)) → Fetched → Bool
is_fault files fetched = is_none fetched.gives && may_have files fetched.file

pub record AreFetches (files : Option (List (List ℕ × List ℕ))) (before now : ℕ) (fetches : List Fetched) : Type 0 where
  pub each : All (MayGive files) fetches
  pub later : before ≤ now
  pub faults : now < 2 ^ 64 - 1 → before + count_by (is_fault files) fetches ≤ now

abbrev pub AreAll : ℕ → ℕ → List Fetched → Type 0
AreAll before now fetches = now ≡ count_on before (length fetches)

abbrev pub AreAmong : ℕ → ℕ → List Fetched → ℕ → Type 0
AreAmong before now fetches most = (count_on before (length fetches) ≤ now) × (now ≤ count_on before most)
