-- What sources and sinks count, take and hold: the words that the contracts share.
use Rattle.std.specs.Prelude.{◌≡◌, ◌≢◌, ℕ, ◌+◌, ◌-◌, ◌^◌, ◌≤◌, ◌==◌, min, Bool, true, false, not, ◌&&◌, if◌then◌else◌, Result, Ok, Err, OnErr, OnOk, Option, List, [], length, ◌++◌}
use Rattle.std.specs.Io.KnownBytes.{Consumes, Appends}

-- One more than the count, which stays at the largest u64.
abbrev pub counted : ℕ → ℕ
counted count = min (count + 1) (2 ^ 64 - 1)

-- The count rose, or stands at the largest u64.
abbrev pub Rose : ℕ → ℕ → Type 0
Rose before now = counted before ≤ now

-- An error has a fault as its cause: the count never falls, stays at `Ok`, and rose at `Err`.
pub record HasCause {T E : Type 0} (before now : ℕ) (result : Result T E) : Type 0 where
  pub later : before ≤ now
  pub no_fault : OnOk result (now ≡ before)
  pub failed : OnErr result (Rose before now)

-- Whether a call gave the end of input, or failed: the one with an answer for a buffer.
abbrev pub is_last : {E : Type 0} → Result ℕ E → List ℕ → Bool
is_last (Ok n) into = n == 0 && not (length into == 0)
is_last (Err e) into = true

-- Whether a call failed.
abbrev pub has_failed : {T E : Type 0} → Result T E → Bool
has_failed (Ok x) = false
has_failed (Err e) = true

-- How many calls have failed, after one more that did or did not.
abbrev pub faults_after : ℕ → Bool → ℕ
faults_after faults failed = if failed then counted faults else faults

-- How many calls were made from the first on that no call should follow, after one more that was or was not
-- such a one.
abbrev pub ended_after : ℕ → Bool → ℕ
ended_after ended last = if ended == 0 && not last then 0 else counted ended

-- How many calls had an empty buffer, after one more with this buffer.
abbrev pub idle_after : ℕ → List ℕ → ℕ
idle_after idle into = if length into == 0 then counted idle else idle

-- Some bytes, at most so many, were taken off the front of those left.
pub record Takes (old new : Option (List ℕ)) (most : ℕ) : Type 0 where
  pub bytes : List ℕ
  pub taken : Consumes old new bytes
  pub few : length bytes ≤ most

-- Exactly so many bytes were taken off the front of those left.
pub record TakesExactly (old new : Option (List ℕ)) (count : ℕ) : Type 0 where
  pub bytes : List ℕ
  pub taken : Consumes old new bytes
  pub all : length bytes ≡ count

-- The bytes held grew by a prefix of these, and some of these are left.
pub record Grows (old new : Option (List ℕ)) (bytes : List ℕ) : Type 0 where
  pub front : List ℕ
  pub back : List ℕ
  pub parts : bytes ≡ front ++ back
  pub more : back ≢ []
  pub grown : Appends old new front
