use Rattle.std.proofs.Common.{◌==◌, ◌&&◌}
use Rattle.std.specs.List.Sorted.{IsStrictlyIncreasing}
use Rattle.vocabulary.specs.Prelude.{Req}
use Rattle.list_lemmas.proofs.lemmas.Places.{all_found_behind}
use Rattle.log_tables.proofs.tables.LogTables.req.Goals as goal

pub returns-clause-ascend : goal.returns-clause-ascend
returns-clause-ascend g c = all_found_behind (λ (r : Req). IsStrictlyIncreasing r.fields)
    (λ (r : Req). (r.item == c.args.item) && (r.number == c.args.number)) _ c.get.result c.self.invariant.reqs c.get.ensures
