-- What a privilege allows.
use Rattle.std.specs.Prelude.{Bool, true, false, ◌==◌}
use Rattle.privilege.specs.declared.kinds.Priv.{Priv}
use Rattle.privilege.specs.declared.kinds.Priv.TheVariants.{Ro, Rw, Wd, Red}

-- Whether a task with this privilege may see the old contents.
abbrev pub may_read : Priv → Bool
may_read Ro = true
may_read Rw = true
may_read Wd = false
may_read (Red op) = false

-- Whether a task with this privilege may put new contents in place of the old.
abbrev pub may_write : Priv → Bool
may_write Ro = false
may_write Rw = true
may_write Wd = true
may_write (Red op) = false

-- Whether the first privilege allows all that the second does. Who may read and write may do anything.
abbrev pub contains : Priv → Priv → Bool
contains Rw inner = true
contains Ro Ro = true
contains Wd Wd = true
contains (Red one) (Red other) = one == other
contains _ _ = false
