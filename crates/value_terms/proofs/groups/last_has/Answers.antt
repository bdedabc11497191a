use Rattle.value_terms.proofs.lemmas.Grouping.{last_read}
use Rattle.value_terms.proofs.groups.last_has.Goals as goal

pub returns-in-len1-up : goal.returns-in-len1-up
returns-in-len1-up c = last_read c.args.op c.args.groups.now _ c.in-len1-up.len_at_least c.last-item.is
