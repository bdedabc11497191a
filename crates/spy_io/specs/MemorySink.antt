-- A sink in memory, as its callers see it.
use Rattle.std.specs.Prelude.{false, ◌≡◌, ℕ, ◌-◌, ◌<◌, ◌⊎◌, min, List, [], length, take, ◌++◌, Contains}
use Rattle.spy_io.specs.Causes.{counted, ended_after}

-- The bytes held, how many there is room for, the most that a call takes, the numbers of the calls that fail,
-- the calls and faults so far, and how many calls were made from the first on that failed.
pub record SinkState : Type 0 where
  pub held : List ℕ
  pub room : ℕ
  pub cut : ℕ
  pub failing : List ℕ
  pub calls : ℕ
  pub faults : ℕ
  pub ended : ℕ

-- Nothing is held, and no call was made.
abbrev pub fresh_sink : ℕ → ℕ → List ℕ → SinkState
fresh_sink room cut failing = record {
  held = [];
  room = room;
  cut = cut;
  failing = failing;
  calls =
      0;
  faults = 0;
  ended = 0;
}

-- The next call's number is among the failing ones, or the sink is full and the piece is not empty.
abbrev pub IsRefused : SinkState → List ℕ → Type 0
IsRefused s piece = Contains s.failing (counted s.calls) ⊎ ((length s.held ≡ s.room) × (0 < length piece))

-- How many bytes a call that does not fail takes: what the cut, the piece and the free room allow.
abbrev pub taken_count : SinkState → List ℕ → ℕ
taken_count s piece = min (min s.cut (length piece)) (s.room - length s.held)

-- The sink after a call that took so many bytes of the piece.
abbrev pub after_taking : SinkState → List ℕ → ℕ → SinkState
after_taking s piece count = record s {
  held = s.held ++ take count piece;
  calls = counted s.calls;
  ended =
      ended_after s.ended false;
}

-- The sink after a call that failed.
abbrev pub after_fault : SinkState → SinkState
after_fault s = record s { calls = counted s.calls; faults = counted s.faults; ended = counted s.ended }
