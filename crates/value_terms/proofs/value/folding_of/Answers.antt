use Rattle.std.proofs.Common.{arith}
use Rattle.value_terms.proofs.Held.{other_base_spoils, other_group_spoils, more_groups_spoil}
use Rattle.value_terms.proofs.value.folding_of.Goals as goal

pub returns-in_default : goal.returns-in_default
returns-in_default c = other_base_spoils _ _ _ _ c.from.view_is c.in_default.not-Ident

pub returns-else-group-op : goal.returns-else-group-op
returns-else-group-op c = other_group_spoils _ _ _ _ _ _ c.from.view_is c.in-Ident.is c.as_slice.ensures.value
    (omega arith) c.group-item.is c.if-group-op.false

pub returns-in-len2-up : goal.returns-in-len2-up
returns-in-len2-up c = more_groups_spoil _ _ _ _ _ c.from.view_is c.in-Ident.is c.as_slice.ensures.value c.in-len2-up.len_at_least
