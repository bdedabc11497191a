use Rattle.std.proofs.Common.{◌≡◌, drop}
use Rattle.semantics.specs.Nesting.{first_given}
use Rattle.nested.specs.Rows.{shown_group}
use Rattle.nested.proofs.children.refused_groups.Given as goal

abbrev pub invariant-loop-group : goal.invariant-loop-group
invariant-loop-group g l = first_given (shown_group l.tables l.groups) l.all
    ≡ first_given (shown_group l.tables l.groups) (drop l.group-index l.all)
