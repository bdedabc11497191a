use Rattle.std.proofs.Common.{◌==◌}
use Rattle.std.specs.List.Sorted.{IsStrictlyIncreasing}
use Rattle.vocabulary.specs.Prelude.{Inst}
use Rattle.list_lemmas.proofs.lemmas.Places.{all_found_behind}
use Rattle.log_tables.proofs.tables.LogTables.inst.Goals as goal

pub returns-clause-ascend : goal.returns-clause-ascend
returns-clause-ascend g c = all_found_behind (λ (i : Inst). IsStrictlyIncreasing i.fields)
    (λ (i : Inst). i.id == c.args.id) _ c.get.result c.self.invariant.insts c.get.ensures
