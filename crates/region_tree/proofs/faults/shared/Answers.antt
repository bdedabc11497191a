use Rattle.std.proofs.Common.{sym, ◌∙◌}
use Rattle.region_tree.proofs.Finding.{meets_from}
use Rattle.region_tree.proofs.faults.shared.Goals as goal

pub returns : goal.returns
returns g c =
    meets_from c.args.decls.now c.args.i c.args.j c.in_ok-ours.ours c.in_ok-theirs.theirs c.first_common.result c.requires
    (sym c.in_ok-ours.ensures) (sym c.in_ok-theirs.ensures)
    c.if-ours-theirs.false (sym c.is_disjoint.ensures ∙ c.if-not-is_disjoint.false) c.first_common.ensures
