use Rattle.std.proofs.Common.{◌∙◌, ap, ap₂, sym, not}
use Rattle.semantics.specs.Rules.{is_of_wrong_kind}
use Rattle.log_rules.specs.Instances.{fits_inst}
use Rattle.log_rules.specs.Lookups.{inst_named, req_named}
use Rattle.log_rules.proofs.instances.is_of_wrong_kind.Goals as goal

pub returns-in-Map : goal.returns-in-Map
returns-in-Map g c =
    let n = c.args.named.now in
    let t = n.tables.now in
    ap not (c.fits_inst.ensures ∙ ap₂ fits_inst (n.is_req ∙ ap (req_named t) c.in-Map.is) (n.is_inst ∙ ap (inst_named t) c.in-Map.is))
    ∙ ap (is_of_wrong_kind t) (sym c.in-Map.is)
