use Rattle.std.proofs.Common.{subst}
use Rattle.spy_grammar.specs.Nested.{GoodNested}
use Rattle.nest_rules.proofs.Adding.{good_fields}
use Rattle.nest_rules.proofs.groups.Groups.add.Goals as goal

pub push_privilege-requires-clause-ascend : goal.push_privilege-requires-clause-ascend
push_privilege-requires-clause-ascend c = let a = c.in-Greq in
    good_fields a.group a.tree a.space a.fields a.access (subst GoodNested a.is c.requires.good)
