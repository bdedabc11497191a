use Rattle.std.proofs.Common.{ap, ◌∙◌}
use Rattle.vocabulary.specs.Prelude.{is_in}
use Rattle.log_tables.proofs.lemmas.Members.{is_in-search}
use Rattle.field_kinds.proofs.cutting.is_among.Goals as goal

pub returns : goal.returns
returns c = c.is_ok.ensures.value
    ∙ is_in-search c.args.fields.now c.from.result c.binary_search.result c.requires c.binary_search.ensures.position
    ∙ ap (is_in c.args.fields.now) c.from.ensures
