-- What each command finds in an input: the first that holds of a fault, a cycle, a race or an unordered pair,
-- and a differing read; and else its counts, with what it lists, or where a read came from.
use Rattle.std.specs.Prelude.{◌≡◌, ℕ, ◌+◌, List, map, filter, filter_map, length, Some, None, option_map, slice_get, unwrap_or, ◌⊎◌}
use Rattle.vocabulary.specs.Prelude.{Value, Lined, Place, Cell, ListedWait, Ask, Link, LinkKind, Reads, records_of, text_of, line_count, Tables, tables_of, pairs, item_kind, is_before, least_place, graph_of, IsCycle, HasNoCycle, id_of, IsRaceFree, Seen, want_of, IsRight, Differs, shown_difference, Command, Fault}
use Rattle.findings.specs.declared.finding.Dep.{Dep}
use Rattle.findings.specs.declared.finding.Finding.{Finding}
use Rattle.findings.specs.declared.finding.Finding.TheVariants as findings
use Rattle.findings.specs.declared.finding.WhyAsk.{WhyAsk}
use Rattle.findings.specs.declared.finding.WhyKind.{WhyKind}
use Rattle.findings.specs.declared.finding.WhyKind.TheVariants as shown
use Rattle.findings.specs.declared.finding.WhyLink.{WhyLink}
use Rattle.semantics.specs.declared.links.LinkKind.TheVariants as kinds
use Rattle.semantics.specs.Counts.{task_count, operation_count, read_count, wait_count}
use Rattle.semantics.specs.SerialOrder.{by_serial}
use Rattle.semantics.specs.ReplayOrder.{waits_at, shown_cycle}
use Rattle.semantics.specs.Spare.{AreSpareWaits}
use Rattle.semantics.specs.Links.{AreLinksOf, IsNoRead}
use Rattle.semantics.specs.declared.command.Command.TheVariants as commands
use Rattle.semantics.specs.TextFaults.{text_fault}
use Rattle.semantics.specs.Faults.{log_fault}
use Rattle.semantics.specs.Shown.{event_of, task_pairs, AreKept, IsShownPair, IsShownRace}

-- ---- Dependences.

abbrev pub dependence_at : Tables → ℕ × ℕ → Place → Dep
dependence_at t p place = record {
  before = is_before (item_kind t p.0 p.1);
  a =
      id_of t (by_serial t p).0;
  b = id_of t (by_serial t p).1;
  tree = place.tree;
  point = place.point;
  field =
      place.field;
}

-- The dependences, in program order of the first and then of the second item.
abbrev pub dependences : Tables → List Dep
dependences t = filter_map (λ (p : ℕ × ℕ). option_map (dependence_at t p) (least_place t p.0 p.1)) (pairs t)

abbrev pub before_count : List Dep → ℕ
before_count ds = length (filter (λ (d : Dep). d.before) ds)

-- ---- What is found in an admitted log. Tasks and items are named by their ids, nodes by their events.

-- The cycle that is shown has these events.
pub record ShowsCycle (t : Tables) (events : List ℕ) : Type 0 where
  pub nodes : List ℕ
  pub shown : shown_cycle (graph_of t.nodes) ≡ Some nodes
  pub is_cycle : IsCycle (graph_of t.nodes) nodes
  pub events_are : events ≡ map (event_of t) nodes

-- A listed wait by events: that of its node, and the one that is waited for.
abbrev pub events_of_wait : Tables → ListedWait → ℕ × ℕ
events_of_wait t w = (event_of t w.node, unwrap_or (slice_get (waits_at (graph_of t.nodes) w.node) w.k) 0)

-- The spare waits that are shown have these events: all of them, in order.
pub record ShowsSpare (t : Tables) (list : List (ℕ × ℕ)) : Type 0 where
  pub waits : List ListedWait
  pub are_spare : AreSpareWaits (graph_of t.nodes) waits
  pub events_are : list ≡ map (events_of_wait t) waits

-- The race that is shown is between the nodes with these events.
pub record ShowsRace (t : Tables) (a b : ℕ) (cell : Cell) : Type 0 where
  pub one : ℕ
  pub other : ℕ
  pub shown : IsShownRace t one other cell
  pub a_is : a ≡ event_of t one
  pub b_is : b ≡ event_of t other

-- The unordered pair that is shown is that of these tasks, at this place.
pub record ShowsPair (t : Tables) (a b : ℕ) (place : Place) : Type 0 where
  pub pair : ℕ × ℕ
  pub shown : IsShownPair t pair
  pub a_is : a ≡ id_of t (by_serial t pair).0
  pub b_is : b ≡ id_of t (by_serial t pair).1
  pub place_is : least_place t pair.0 pair.1 ≡ Some place

-- The differing read that is shown is this one, and in every interleaving it sees what it should not.
pub record ShowsDifference (t : Tables) (r : Seen) (want : Value) : Type 0 where
  pub shown : shown_difference t ≡ Some r
  pub differs : Differs t r
  pub want_is : want ≡ want_of t r

-- The run computed what sequential execution computes: whatever order its events allow, each read sees what
-- it should.
pub record IsSound (t : Tables) : Type 0 where
  pub no_cycle : HasNoCycle t
  pub no_race : IsRaceFree t
  pub right : IsRight t

-- What `check` finds.
abbrev pub CheckFinds : Tables → Finding → Type 0
CheckFinds t (findings.Cycle events) = ShowsCycle t events
CheckFinds t (findings.Race a b inst point field) =
    HasNoCycle t × ShowsRace t a b (record { inst = inst; point = point; field = field })
CheckFinds t (findings.Differ task number point field got want) =
    HasNoCycle t × IsRaceFree t × ShowsDifference t
    (record { task = task; number = number; point = point; field = field; got = got }) want
CheckFinds t (findings.Accepted tasks operations reads) =
    IsSound t × (tasks ≡ task_count t) × (operations ≡ operation_count t) × (reads ≡ read_count t)
CheckFinds t _ = ⊥

-- What `ordered` finds.
abbrev pub OrderedFinds : Tables → Finding → Type 0
OrderedFinds t (findings.Cycle events) = ShowsCycle t events
OrderedFinds t (findings.Unordered a b tree point field) =
    HasNoCycle t × ShowsPair t a b (record { tree = tree; point = point; field = field })
OrderedFinds t (findings.Ordered tasks pairs) =
    HasNoCycle t × AreKept t × (tasks ≡ task_count t) × (pairs ≡ length (task_pairs t))
OrderedFinds t _ = ⊥

-- What `deps` finds.
abbrev pub DepsFinds : Tables → Finding → Type 0
DepsFinds t (findings.Deps list items before turn) =
    (list ≡ dependences t) × (items ≡ length t.items) × (before ≡ before_count list)
    × (before + turn ≡ length list)
DepsFinds t _ = ⊥

-- What `spare` finds.
abbrev pub SpareFinds : Tables → Finding → Type 0
SpareFinds t (findings.Cycle events) = ShowsCycle t events
SpareFinds t (findings.Spare list waits) = HasNoCycle t × ShowsSpare t list × (waits ≡ wait_count t)
SpareFinds t _ = ⊥

-- A read that is asked for, and a link, as a report shows them.
abbrev pub ask_shown : Ask → WhyAsk
ask_shown ask = record { task = ask.task; req = ask.req; point = ask.point; field = ask.field }

abbrev pub kind_shown : LinkKind → WhyKind
kind_shown kinds.Write = shown.Write
kind_shown kinds.Put = shown.Put
kind_shown kinds.Copy = shown.Copy
kind_shown kinds.Start = shown.Start

abbrev pub link_shown : Link → WhyLink
link_shown l = record { kind = kind_shown l.kind; done = l.done; inst = l.inst; adds = l.adds }

-- The links that are shown are those of the read that is asked for.
pub record ShowsLinks (t : Tables) (ask : Ask) (list : List WhyLink) : Type 0 where
  pub links : List Link
  pub are_links : AreLinksOf t ask links
  pub list_is : list ≡ map link_shown links

-- What `why` finds.
abbrev pub WhyFinds : Tables → Ask → Finding → Type 0
WhyFinds t ask (findings.Cycle events) = ShowsCycle t events
WhyFinds t ask (findings.Race a b inst point field) =
    HasNoCycle t × ShowsRace t a b (record { inst = inst; point = point; field = field })
WhyFinds t ask (findings.NoRead task req point field) =
    HasNoCycle t × IsRaceFree t × IsNoRead t ask
    × (ask ≡ record { task = task; req = req; point = point; field = field })
WhyFinds t ask (findings.Why asked list) =
    HasNoCycle t × IsRaceFree t × ShowsLinks t ask list × (asked ≡ ask_shown ask)
WhyFinds t ask _ = ⊥

abbrev pub Finds : Command → Tables → Finding → Type 0
Finds commands.Check t f = CheckFinds t f
Finds commands.Ordered t f = OrderedFinds t f
Finds commands.Deps t f = DepsFinds t f
Finds commands.Spare t f = SpareFinds t f
Finds (commands.Why ask) t f = WhyFinds t ask f

-- What a command finds in a log of so many lines: the fault that it shows of the log, or else what it finds
-- in the tables.
abbrev pub IsFound : Command → ℕ → List Lined → Finding → Type 0
IsFound command lines log (findings.Fault line code) =
    log_fault command lines log ≡ Some (record { line = line; code = code })
IsFound command lines log f = (log_fault command lines log ≡ None) × Finds command (tables_of log) f

-- ---- What is found in an input.

-- A fault of the input's bytes or lines is shown.
pub record HasTextFault (bytes : List ℕ) (f : Finding) : Type 0 where
  pub fault : Fault
  pub shown : text_fault bytes ≡ Some fault
  pub finding_is : f ≡ findings.Fault fault.line fault.code

-- The input spells a log, and this is found in it.
pub record IsFoundIn (command : Command) (bytes : List ℕ) (f : Finding) : Type 0 where
  pub spelled : text_fault bytes ≡ None
  pub log : List Lined
  pub reads : Reads bytes log
  pub found : IsFound command (line_count bytes) log f

-- The outcome of a command on an input.
abbrev pub IsOutcome : Command → List ℕ → Finding → Type 0
IsOutcome command bytes f = HasTextFault bytes f ⊎ IsFoundIn command bytes f

-- What `print` writes of an input whose lines all spell something: each record, on a line of its own.
pub record IsPrinted (bytes text : List ℕ) : Type 0 where
  pub spelled : text_fault bytes ≡ None
  pub log : List Lined
  pub reads : Reads bytes log
  pub text_is : text ≡ text_of (records_of log)
