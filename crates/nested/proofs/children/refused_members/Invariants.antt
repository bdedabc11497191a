use Rattle.std.proofs.Common.{◌≡◌, drop}
use Rattle.semantics.specs.Nesting.{first_given}
use Rattle.nested.specs.Rows.{shown_member}
use Rattle.nested.proofs.children.refused_members.Given as goal

abbrev pub invariant-loop-member : goal.invariant-loop-member
invariant-loop-member g l = first_given (shown_member l.tables l.groups) l.all
    ≡ first_given (shown_member l.tables l.groups) (drop l.member-index l.all)
