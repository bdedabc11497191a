-- How a replay ends.
use Rattle.std.specs.Prelude.{◌≡◌, ◌≢◌, Option, Some}
use Rattle.vocabulary.specs.Prelude.{Value, Tables, Seen, want_of, shown_difference}
use Rattle.replay.specs.declared.moving.Unlike.{Unlike}
use Rattle.replay.specs.declared.ends.ReplayEnd.{ReplayEnd}
use Rattle.replay.specs.declared.ends.ReplayEnd.TheVariants.{Differ, Memory}

-- A differing read is the one that was looked for, and what it should have seen is reported. Memory may have
-- run out at any time.
abbrev pub Tells : Tables → Option Seen → ReplayEnd → Type 0
Tells t found (Differ task number point field got want) =
    (found ≡ Some (record { task = task; number = number; point = point; field = field; got = got }))
    × (want ≡ want_of t (record { task = task; number = number; point = point; field = field; got = got }))
Tells t found Memory = Unit {0}

-- Why a replay does not find each read right: the differing read is the one that is shown.
abbrev pub IsEndOf : Tables → ReplayEnd → Type 0
IsEndOf t e = Tells t (shown_difference t) e

-- What was got and what was wanted, which differ.
pub record IsUnlike (got want : Value) (u : Unlike) : Type 0 where
  pub differ : got ≢ want
  pub got_is : u.got ≡ got
  pub want_is : u.want ≡ want
