use Rattle.std.proofs.Common.{◌∙◌, ap, is_some}
use Rattle.vocabulary.specs.Prelude.{Map}
use Rattle.log_tables.specs.Mapped.{names_field}
use Rattle.log_rules.proofs.ListTests.{is_some-find_map}
use Rattle.log_rules.proofs.instances.is_mapped.Goals as goal

pub returns : goal.returns
returns g c =
    c.is_some.ensures ∙ ap is_some c.inst_of.ensures
    ∙ is_some-find_map (λ (m : Map). m.inst) (λ (m : Map). names_field m.item m.number m.fields
    (record { item = c.args.item; number = c.args.number; field = c.args.field })) c.args.tables.now.maps
