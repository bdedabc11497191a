-- A source in memory, as its callers see it.
use Rattle.std.specs.Prelude.{ℕ, ◌==◌, ◌&&◌, min, not, List, length, drop, Contains}
use Rattle.spy_io.specs.Causes.{counted, ended_after, idle_after}

-- The bytes left, the most that a call gives, the numbers of the calls that fail, the calls and faults so
-- far, how many calls were made from the first on that gave the end or failed, and how many had an empty
-- buffer.
pub record SourceState : Type 0 where
  pub left : List ℕ
  pub cut : ℕ
  pub failing : List ℕ
  pub calls : ℕ
  pub faults : ℕ
  pub ended : ℕ
  pub idle : ℕ

-- Nothing was taken, and no call was made.
abbrev pub fresh_source : List ℕ → ℕ → List ℕ → SourceState
fresh_source bytes cut failing = record {
  left = bytes;
  cut = cut;
  failing = failing;
  calls = 0;
  faults =
      0;
  ended = 0;
  idle = 0;
}

-- The next call's number is among the failing ones.
abbrev pub IsFailing : SourceState → Type 0
IsFailing s = Contains s.failing (counted s.calls)

-- How many bytes a call that does not fail gives: what the cut, the room and the bytes left allow.
abbrev pub given_count : SourceState → List ℕ → ℕ
given_count s into = min (min s.cut (length into)) (length s.left)

-- The source after a call that gave so many bytes for a buffer.
abbrev pub after_giving : SourceState → ℕ → List ℕ → SourceState
after_giving s count into = record s {
  left = drop count s.left;
  calls = counted s.calls;
  ended =
      ended_after s.ended (count == 0 && not (length into == 0));
  idle = idle_after s.idle into;
}

-- The source after a call for a buffer that failed.
abbrev pub after_fault : SourceState → List ℕ → SourceState
after_fault s into = record s {
  calls = counted s.calls;
  faults = counted s.faults;
  ended =
      counted s.ended;
  idle = idle_after s.idle into;
}
