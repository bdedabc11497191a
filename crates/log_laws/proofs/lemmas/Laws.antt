-- What a log without a fault keeps, as its laws say it.
use Rattle.std.proofs.Common.{List}
use Rattle.std.specs.List.{AllByRecursion}
use Rattle.vocabulary.specs.Prelude.{Lined, Good, Command, records_of, tables_of, AreLinked, graph_of, HasNoCycle, IsInterleaving, NodesConflictByReads, replay_steps}
use Rattle.semantics.specs.declared.command.Command.TheVariants.{Check}
use Rattle.list_lemmas.proofs.lemmas.Pairs.{Apart, apart_none}
use Rattle.log_laws.proofs.lemmas.Admitted.{IsFaultless, consistent, all_mapped}
use Rattle.log_laws.proofs.lemmas.OwnConflicts.{by_reads, moves_once}
use Rattle.log_laws.proofs.Strict.{strict}
use Rattle.log_laws.proofs.Linked.{linked}
use Rattle.log_laws.proofs.Replay.{at_position, interleaves}

pub faultless_linked : (command : Command) (log : List Lined) → AllByRecursion Good (records_of log) → IsFaultless command log
    → AreLinked (graph_of (tables_of log).nodes)
faultless_linked command log good f = linked command log f (strict command log good f)

pub faultless_by_reads : (log : List Lined) → IsFaultless Check log → NodesConflictByReads (tables_of log)
faultless_by_reads log f = by_reads (tables_of log) (consistent Check log f) (all_mapped log f)

pub replay_interleaves : (log : List Lined) → AllByRecursion Good (records_of log) → IsFaultless Check log → HasNoCycle (tables_of log)
    → IsInterleaving (tables_of log) (replay_steps (tables_of log))
replay_interleaves log good f no_cycle =
    let t = tables_of log in
    let clear = strict Check log good f in
    let apart = at_position t Apart apart_none (λ n m. moves_once t (consistent Check log f) (all_mapped log f) clear n.op (clear.operations n m)) in
    interleaves t (linked Check log f clear) apart no_cycle
