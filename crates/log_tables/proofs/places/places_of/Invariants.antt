use Rattle.std.proofs.Common.{take}
use Rattle.indexmap.specs.IndexMap.{get}
use Rattle.log_tables.specs.Noted.{HoldsPlaces}
use Rattle.log_tables.proofs.places.places_of.Given as goal

abbrev pub invariant-loop-i : goal.invariant-loop-i
invariant-loop-i g l = HoldsPlaces g.W.K.PartialEq.eq g.W.KeyBy.key_of (get g.W.K.PartialEq.eq l.places) (take l.i l.rows)
