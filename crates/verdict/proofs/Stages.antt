-- What a stage finds is what `check` finds.
use Rattle.std.specs.Prelude.{◌↔◌}
use Rattle.findings.specs.declared.finding.Finding.{Finding}
use Rattle.findings.specs.declared.finding.Finding.TheVariants as findings
use Rattle.semantics.specs.declared.command.Command.TheVariants.{Check, Why}
use Rattle.vocabulary.specs.Prelude.{Ask, Tables}
use Rattle.outcomes.specs.Outcome.{CheckFinds, WhyFinds}
use Rattle.long_values.specs.LongOutcome.{CheckFindsLong}
use Rattle.log_findings.specs.Findings.{IsFoundOf}
use Rattle.verdict.specs.Stages.{FindsCycle, FindsDifference, FindsFault, FindsRace, FindsUnclean, IsStop}
use Rattle.verdict.specs.declared.stop.Stop.{Stop}
use Rattle.verdict.specs.declared.stop.Stop.TheVariants.{Found, Memory}

unclean_cycle : (t : Tables) (f : Finding) → FindsCycle t f → FindsUnclean t f
unclean_cycle t (findings.Cycle events) h = h
unclean_cycle t _ h = absurd h

unclean_race : (t : Tables) (f : Finding) → FindsRace t f → FindsUnclean t f
unclean_race t (findings.Race a b inst point field) h = h
unclean_race t _ h = absurd h

of_unclean : (t : Tables) (f : Finding) → FindsUnclean t f → CheckFinds t f
of_unclean t (findings.Cycle events) h = h
of_unclean t (findings.Race a b inst point field) h = h
of_unclean t _ h = absurd h

why_of_unclean : (t : Tables) (ask : Ask) (f : Finding) → FindsUnclean t f → WhyFinds t ask f
why_of_unclean t ask (findings.Cycle events) h = h
why_of_unclean t ask (findings.Race a b inst point field) h = h
why_of_unclean t ask _ h = absurd h

pub of_difference : (t : Tables) (f : Finding) → FindsDifference t f → CheckFinds t f
of_difference t (findings.Differ task number point field got want) h = h
of_difference t _ h = absurd h

pub of_fault : (t : Tables) (f : Finding) → FindsFault t f → IsFoundOf Check t f
of_fault t (findings.Fault line code) h = h
of_fault t _ h = absurd h

-- `why` shows the faults that `check` shows.
pub why_of_fault : (t : Tables) (ask : Ask) (f : Finding) → FindsFault t f → IsFoundOf (Why ask) t f
why_of_fault t ask (findings.Fault line code) h = h
why_of_fault t ask _ h = absurd h

stop_by : (P Q : Finding → Type 0) (s : Stop) → ((f : Finding) → P f → Q f) → IsStop P s → IsStop Q s
stop_by P Q (Found f) weaker h = (weaker f h.0, h.1)
stop_by P Q Memory weaker h = tt

pub stop_of_cycle : (t : Tables) (s : Stop) → IsStop (FindsCycle t) s → IsStop (FindsUnclean t) s
stop_of_cycle t s h = stop_by (FindsCycle t) (FindsUnclean t) s (unclean_cycle t) h

pub stop_of_race : (t : Tables) (s : Stop) → IsStop (FindsRace t) s → IsStop (FindsUnclean t) s
stop_of_race t s h = stop_by (FindsRace t) (FindsUnclean t) s (unclean_race t) h

pub stop_of_unclean : (t : Tables) (s : Stop) → IsStop (FindsUnclean t) s → IsStop (CheckFinds t) s
stop_of_unclean t s h = stop_by (FindsUnclean t) (CheckFinds t) s (of_unclean t) h

pub why_stop : (t : Tables) (ask : Ask) (s : Stop) → IsStop (FindsUnclean t) s → IsStop (WhyFinds t ask) s
why_stop t ask s h = stop_by (FindsUnclean t) (WhyFinds t ask) s (why_of_unclean t ask) h

pub stop_of_difference : (t : Tables) (s : Stop) → IsStop (FindsDifference t) s → IsStop (CheckFinds t) s
stop_of_difference t s h = stop_by (FindsDifference t) (CheckFinds t) s (of_difference t) h

-- What is found in tables is the same by long values as by values.
abbrev pub FindsAlike : Tables → Type 0
FindsAlike t = (f : Finding) → CheckFinds t f ↔ CheckFindsLong t f
