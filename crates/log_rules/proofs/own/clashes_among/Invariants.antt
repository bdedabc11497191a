use Rattle.std.proofs.Common.{◌≡◌, false, take}
use Rattle.std.specs.List.{list_any}
use Rattle.vocabulary.specs.Prelude.{points_in, reqs_of}
use Rattle.log_rules.specs.Own.{clashes_with}
use Rattle.log_rules.specs.Tallied.{IfKept}
use Rattle.log_rules.proofs.own.clashes_among.Given as goal

abbrev pub invariant-loop-before : goal.invariant-loop-before
invariant-loop-before g l = IfKept l.tables l.tally
    (list_any (clashes_with l.tables l.asked.item l.asked.tree (points_in l.tables l.asked.space) l.asked.fields.now l.asked.access)
    (take l.before (reqs_of l.tables l.asked.item)) ≡ false)
