-- The earliest of the uses of a place, as they bound further uses.
use Rattle.std.specs.Prelude.{◌≡◌, ℕ, ◌≤◌, if◌then◌else◌}
use Rattle.privilege.specs.declared.kinds.Priv.{Priv}
use Rattle.privilege.specs.declared.kinds.Coherence.TheVariants.{Exclusive, Atomic}
use Rattle.privilege.specs.declared.kinds.Kind.TheVariants.{Before}
use Rattle.privilege.specs.Interference.{agree, kind_of}
use Rattle.earliest_uses.specs.declared.serial_use.SerialUse.{SerialUse}
use Rattle.earliest_uses.specs.declared.first_two.Earliest.{Earliest}
use Rattle.earliest_uses.specs.declared.place_uses.PlaceUses.{PlaceUses}

-- The position of the earliest use that does not agree with an access.
abbrev pub against : Earliest → Priv → ℕ
against e q = if agree q e.access then e.other else e.position

-- The position of the earliest use with which another may not change places: it takes turns with atomic ones
-- if it is atomic itself.
abbrev pub bound : PlaceUses → SerialUse → ℕ
bound s u = elim u.coherence [ Exclusive ↦ against s.all u.access | Atomic ↦ against s.exclusive u.access ]

-- What bounds uses takes account of one: those that may not change places with it have a bound that is not
-- above its position.
abbrev pub IsNoted : (SerialUse → ℕ) → SerialUse → Type 0
IsNoted bounds one = (u : SerialUse) → kind_of u.access u.coherence one.access one.coherence ≡ Before
    → bounds u ≤ one.position
