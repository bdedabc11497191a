use Rattle.std.proofs.Common.{sym, ◌∙◌, ap, not, is_some}
use Rattle.semantics.specs.Rules.{lacks_req}
use Rattle.log_rules.specs.Lookups.{req_named}
use Rattle.log_rules.proofs.ListTests.{is_some-behind}
use Rattle.log_rules.proofs.names.lacks_req.Goals as goal

pub returns-in-Map : goal.returns-in-Map
returns-in-Map g c =
    let n = c.args.named.now in
    let t = n.tables.now in
    ap not (c.is_some.ensures ∙ is_some-behind n.req ∙ ap is_some (n.is_req ∙ ap (req_named t) c.in-Map.is))
    ∙ ap (lacks_req t) (sym c.in-Map.is)
