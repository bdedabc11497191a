use Rattle.std.proofs.Common.{refl, sym, ◌∙◌, arith}
use Rattle.shared_values.proofs.lemmas.Folded.{other_base_spoils, other_group_spoils, more_groups_spoil}
use Rattle.shared_values.proofs.folding.folding_of.Goals as goal

pub returns-in_default : goal.returns-in_default
returns-in_default c = other_base_spoils c.args.op c.args.from.now.base c.args.from.now.groups c.args.from.now refl
    (λ e. c.in_default.not-Ident (c.base.ensures ∙ e))

pub returns-else-group-op : goal.returns-else-group-op
returns-else-group-op c = other_group_spoils c.args.op c.args.from.now.base c.args.from.now.groups c.groups.result.now
    c.args.from.now _ refl (sym c.base.ensures ∙ c.in-Ident.is) c.groups.ensures (omega arith) c.group-item.is c.if-group-op.false

pub returns-in-len2-up : goal.returns-in-len2-up
returns-in-len2-up c = more_groups_spoil c.args.op c.args.from.now.base c.args.from.now.groups c.groups.result.now c.args.from.now
    refl (sym c.base.ensures ∙ c.in-Ident.is) c.groups.ensures c.in-len2-up.len_at_least
