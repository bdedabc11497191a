-- How two accesses to one place interfere.
use Rattle.std.specs.Prelude.{Bool, true, false, ◌==◌, if◌then◌else◌}
use Rattle.privilege.specs.declared.kinds.Priv.{Priv}
use Rattle.privilege.specs.declared.kinds.Priv.TheVariants.{Ro, Red}
use Rattle.privilege.specs.declared.kinds.Coherence.{Coherence}
use Rattle.privilege.specs.declared.kinds.Coherence.TheVariants.{Atomic}
use Rattle.privilege.specs.declared.kinds.Kind.{Kind}
use Rattle.privilege.specs.declared.kinds.Kind.TheVariants.{Free, Turn, Before}

-- Two privileges agree where both read, or both reduce with one operator.
abbrev pub agree : Priv → Priv → Bool
agree Ro Ro = true
agree (Red one) (Red other) = one == other
agree _ _ = false

-- Whether two accesses are both atomic.
abbrev pub both_atomic : Coherence → Coherence → Bool
both_atomic Atomic Atomic = true
both_atomic _ _ = false

-- Two accesses, each with its privilege and its coherence, are free where they agree; else they take turns
-- where both are atomic; else the earlier comes before the other.
abbrev pub kind_of : Priv → Coherence → Priv → Coherence → Kind
kind_of p c q d = if agree p q then Free else if both_atomic c d then Turn else Before

-- The stronger of two kinds, in the order Free, Turn, Before.
abbrev pub stronger : Kind → Kind → Kind
stronger Free k = k
stronger Turn Before = Before
stronger Turn _ = Turn
stronger Before _ = Before
