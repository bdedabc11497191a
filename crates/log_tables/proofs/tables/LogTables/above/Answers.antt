use Rattle.std.proofs.Common.{ap, ◌∙◌}
use Rattle.vocabulary.specs.Prelude.{Tables, space_above}
use Rattle.log_tables.proofs.tables.LogTables.above.Goals as goal

pub returns : goal.returns
returns g c = c.parent.ensures ∙ ap (λ (t : Tables). space_above t c.args.space) c.self.view_is
