use Rattle.std.proofs.Common.{◌∙◌}
use Rattle.log_tables.proofs.lemmas.Members.{is_in-search}
use Rattle.log_tables.proofs.fields.is_in.Goals as goal

pub returns : goal.returns
returns c = c.is_ok.ensures.value
    ∙ is_in-search c.args.fields.now c.args.field c.binary_search.result c.requires c.binary_search.ensures.position
