use Rattle.std.proofs.Common.{◌==◌}
use Rattle.std.specs.List.Sorted.{IsStrictlyIncreasing}
use Rattle.vocabulary.specs.Prelude.{FieldSpace}
use Rattle.list_lemmas.proofs.lemmas.Places.{all_found_behind}
use Rattle.log_tables.proofs.tables.LogTables.field_space.Goals as goal

pub returns-clause-ascend : goal.returns-clause-ascend
returns-clause-ascend g c = all_found_behind (λ (f : FieldSpace). IsStrictlyIncreasing f.fields)
    (λ (f : FieldSpace). f.id == c.args.id) _ c.get.result c.self.invariant.spaces c.get.ensures
