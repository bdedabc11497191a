-- A command finds one thing in a log, and has one outcome on an input.
use Rattle.std.proofs.Common.{ap₂, ◌≡◌, ℕ, ◌<◌, inl, inr, ◌⊎◌, List, map, length, refl, sym, ap, ◌∙◌, subst, arith, Option, Some, None, Contains}
use Rattle.std.specs.List.{AllByRecursion}
use Rattle.std.proofs.lemmas.Bool.{false_from_ne_true}
use Rattle.std.proofs.lemmas.List.{length-map}
use Rattle.vocabulary.specs.Prelude.{Lined, Good, Command, Cell, Place, records_of, line_count, Tables, tables_of, Value, least_place, id_of, LogNode, Node, graph_of, AreLinked, HasNoCycle, IsInterleaving, Seen, replay_steps, want_of, IsRight, Ask, Link}
use Rattle.findings.specs.declared.finding.Finding.{Finding}
use Rattle.findings.specs.declared.finding.Finding.TheVariants.{Accepted, Ordered, Deps, Spare, Cycle, Race, Unordered, Differ, Fault, NoRead, Why}
use Rattle.semantics.specs.declared.command.Command.TheVariants as commands
use Rattle.semantics.specs.declared.faults.Fault.{Fault as Shown}
use Rattle.semantics.specs.SerialOrder.{by_serial}
use Rattle.semantics.specs.ReplayOrder.{replay_order, is_stuck}
use Rattle.semantics.specs.Shown.{event_of, IsKept, AreKept, IsShownPair}
use Rattle.semantics.specs.Faults.{log_fault}
use Rattle.log_laws.proofs.lemmas.Admitted.{IsFaultless, faultless}
use Rattle.log_laws.proofs.lemmas.Cycles.{has_cycle}
use Rattle.log_laws.proofs.lemmas.Rounds.{listed_decides}
use Rattle.log_laws.proofs.lemmas.Laws.{faultless_linked, replay_interleaves}
use Rattle.log_laws.proofs.lemmas.ReadLogs.{held_is_good, one_read}
use Rattle.outcomes.specs.Outcome.{ShowsCycle, ShowsRace, ShowsPair, ShowsSpare, ShowsDifference, CheckFinds, OrderedFinds, DepsFinds, SpareFinds, ShowsLinks, WhyFinds, Finds, IsFound, events_of_wait, before_count, link_shown, IsOutcome}
use Rattle.spare_laws.proofs.lemmas.OneList.{one_list}
use Rattle.trail_laws.proofs.lemmas.Trails.{one_list as one_trail, why_faults}
use Rattle.semantics.specs.Links.{AreLinksOf, IsNoRead}
use Rattle.findings.specs.declared.finding.WhyLink.{WhyLink}
use Rattle.outcomes.proofs.Pairs.{first_failing, held_within}
use Rattle.outcomes.proofs.Races.{one_race}

one_cycle : (t : Tables) (es fs : List ℕ) → ShowsCycle t es → ShowsCycle t fs → es ≡ fs
one_cycle t es fs p q =
    let both : ◌≡◌ {A = Option (List ℕ)} (Some p.nodes) (Some q.nodes) = sym p.shown ∙ q.shown in
    let same : p.nodes ≡ q.nodes = cc in
    p.events_are ∙ ap (map (event_of t)) same ∙ sym q.events_are

free : {A : Type 0} (t : Tables) (es : List ℕ) → ShowsCycle t es → HasNoCycle t → A
free t es p none = absurd (none p.nodes p.is_cycle)

one_pair : (t : Tables) (p q : ℕ × ℕ) → IsShownPair t p → IsShownPair t q → p ≡ q
one_pair t p q h k = first_failing (IsKept t) h.front k.front p q h.back k.back (sym h.parts ∙ k.parts) h.kept k.kept h.not_kept k.not_kept

not_all_kept : {A : Type 0} (t : Tables) (p : ℕ × ℕ) → IsShownPair t p → AreKept t → A
not_all_kept t p h kept = absurd (h.not_kept (held_within (IsKept t) h.front p h.back (subst (AllByRecursion (IsKept t)) h.parts kept)))

-- What is found of a pair: its tasks, and the place.
same_pair : (t : Tables) (a b : ℕ) (place : Place) (c d : ℕ) (other : Place) → ShowsPair t a b place → ShowsPair t c d other → (a ≡ c)
    × (b ≡ d) × (place ≡ other)
same_pair t a b place c d other p q =
    let same = one_pair t p.pair q.pair p.shown q.shown in
    let own : (a ≡ id_of t (by_serial t q.pair).0) × (b ≡ id_of t (by_serial t q.pair).1) × (least_place t q.pair.0 q.pair.1 ≡ Some place) =
    subst (λ (x : ℕ × ℕ). (a ≡ id_of t (by_serial t x).0) × (b ≡ id_of t (by_serial t x).1) × (least_place t x.0 x.1 ≡ Some place)) same
    (p.a_is, p.b_is, p.place_is) in
    let both : ◌≡◌ {A = Option Place} (Some place) (Some other) = sym own.2 ∙ q.place_is in
    (own.0 ∙ sym q.a_is, own.1 ∙ sym q.b_is, cc)

unordered_is : (a b tree point field c d root at number : ℕ) → (a ≡ c) × (b ≡ d)
    × (◌≡◌ {A = Place} (record { tree = tree; point = point; field = field }) (record { tree = root; point = at; field = number }))
    → Unordered a b tree point field ≡ Unordered c d root at number
unordered_is a b tree point field c d root at number e =
    let places : (tree ≡ root) × (point ≡ at) × (field ≡ number) =
    (ap (λ (p : Place). p.tree) e.2, ap (λ (p : Place). p.point) e.2, ap (λ (p : Place). p.field) e.2) in
    rw (e.0, e.1, places.0, places.1, places.2) refl

race_is : (a b inst point field c d other at number : ℕ) → (a ≡ c) × (b ≡ d)
    × (◌≡◌ {A = Cell} (record { inst = inst; point = point; field = field }) (record { inst = other; point = at; field = number }))
    → Race a b inst point field ≡ Race c d other at number
race_is a b inst point field c d other at number e =
    let cells : (inst ≡ other) × (point ≡ at) × (field ≡ number) =
    (ap (λ (c : Cell). c.inst) e.2, ap (λ (c : Cell). c.point) e.2, ap (λ (c : Cell). c.field) e.2) in
    rw (e.0, e.1, cells.0, cells.1, cells.2) refl

differ_is : (r s : Seen) (v w : Value) → r ≡ s → v ≡ w
    → Differ r.task r.number r.point r.field r.got v ≡ Differ s.task s.number s.point s.field s.got w
differ_is r s v w e f = rw (e, f) refl

-- ---- what one command finds in tables

-- What the laws say of the tables of a log without a fault.
pub record AreOrderly (t : Tables) : Type 0 where
  pub replayed : HasNoCycle t → (k : ℕ) → k < length t.nodes → Contains (replay_order (graph_of t.nodes)) k
  pub interleaved : HasNoCycle t → IsInterleaving t (replay_steps t)

pub graph_length : (ns : List LogNode) → length (graph_of ns) ≡ length ns
graph_length ns = length-map {B = Node} ns _

-- Where there is no cycle, each node is in the replay order.
pub all_replayed : (t : Tables) → AreLinked (graph_of t.nodes) → HasNoCycle t → (k : ℕ) → k < length t.nodes
    → Contains (replay_order (graph_of t.nodes)) k
all_replayed t linked none k lt =
    let nodes = graph_of t.nodes in
    let within : k < length nodes = subst (λ n. k < n) (sym (graph_length t.nodes)) lt in
    (listed_decides nodes k).1 (
      within,
      false_from_ne_true (is_stuck nodes k) (λ is. let cycle = has_cycle nodes linked k within is in
          none cycle.0 cycle.1),
    )

orderly : (log : List Lined) → AllByRecursion Good (records_of log) → IsFaultless commands.Check log → AreOrderly (tables_of log)
orderly log good f = record {
  replayed = all_replayed (tables_of log) (faultless_linked commands.Check log good f);
  interleaved =
      replay_interleaves log good f;
}

-- A read has one list of links.
abbrev IsOneTrail : Tables → Ask → Type 0
IsOneTrail t ask = HasNoCycle t → (ls ms : List Link) → AreLinksOf t ask ls → AreLinksOf t ask ms → ls ≡ ms

-- A read that is not there has no links.
not_both : (t : Tables) (ask : Ask) (ls : List Link) → AreLinksOf t ask ls → IsNoRead t ask → ⊥
not_both t ask ls a no_read = let e = sym a.asked ∙ no_read a.read a.is_step in absurd cc

same_race : (t : Tables) → AreOrderly t → HasNoCycle t → (a b c d : ℕ) (cell other : Cell) → ShowsRace t a b cell → ShowsRace t c d other
    → (a ≡ c) × (b ≡ d) × (cell ≡ other)
same_race t orderly none a b c d cell other p q =
    let same = one_race t (orderly.replayed none) p.one p.other q.one q.other cell other p.shown q.shown in
    (p.a_is ∙ ap (event_of t) same.0 ∙ sym q.a_is, p.b_is ∙ ap (event_of t) same.1 ∙ sym q.b_is, same.2)

same_difference : (t : Tables) (r s : Seen) (v w : Value) → ShowsDifference t r v → ShowsDifference t s w
    → Differ r.task r.number r.point r.field r.got v ≡ Differ s.task s.number s.point s.field s.got w
same_difference t r s v w p q =
    let both : ◌≡◌ {A = Option Seen} (Some r) (Some s) = sym p.shown ∙ q.shown in
    let same : r ≡ s = cc in
    differ_is r s v w same (p.want_is ∙ ap (want_of t) same ∙ sym q.want_is)

not_right : {A : Type 0} (t : Tables) → AreOrderly t → HasNoCycle t → (r : Seen) (v : Value) → ShowsDifference t r v → IsRight t → A
not_right t orderly none r v p right =
    let whole = orderly.interleaved none in
    absurd (p.differs.differ (right (replay_steps t) whole p.differs.node p.differs.inst r (p.differs.sees (replay_steps t) whole)))

one_of_check : (t : Tables) → AreOrderly t → (f g : Finding) → CheckFinds t f → CheckFinds t g → f ≡ g
one_of_check t o (Cycle es) (Cycle fs) p q = ap Cycle (one_cycle t es fs p q)
one_of_check t o (Cycle es) (Race a b inst point field) p q = free t es p q.0
one_of_check t o (Cycle es) (Differ task number point field got want) p q = free t es p q.0
one_of_check t o (Cycle es) (Accepted tasks operations reads) p q = free t es p q.0.no_cycle
one_of_check t o (Cycle es) _ p q = absurd q
one_of_check t o (Race a b inst point field) (Cycle fs) p q = free t fs q p.0
one_of_check t o (Race a b inst point field) (Race c d other at number) p q =
    race_is a b inst point field c d other at number (same_race t o p.0 a b c d _ _ p.1 q.1)
one_of_check t o (Race a b inst point field) (Differ task number at other got want) p q = absurd (q.1 _ _ _ p.1.shown.race)
one_of_check t o (Race a b inst point field) (Accepted tasks operations reads) p q = absurd (q.0.no_race _ _ _ p.1.shown.race)
one_of_check t o (Race a b inst point field) _ p q = absurd q
one_of_check t o (Differ task number point field got want) (Cycle fs) p q = free t fs q p.0
one_of_check t o (Differ task number point field got want) (Race a b inst at other) p q = absurd (p.1 _ _ _ q.1.shown.race)
one_of_check t o (Differ task number point field got want) (Differ job name at other had wish) p q =
    same_difference t (record { task = task; number = number; point = point; field = field; got = got })
    (record { task = job; number = name; point = at; field = other; got = had }) want wish p.2 q.2
one_of_check t o (Differ task number point field got want) (Accepted tasks operations reads) p q = not_right t o p.0 _ want p.2 q.0.right
one_of_check t o (Differ task number point field got want) _ p q = absurd q
one_of_check t o (Accepted tasks operations reads) (Cycle fs) p q = free t fs q p.0.no_cycle
one_of_check t o (Accepted tasks operations reads) (Race a b inst point field) p q = absurd (p.0.no_race _ _ _ q.1.shown.race)
one_of_check t o (Accepted tasks operations reads) (Differ task number point field got want) p q = not_right t o q.0 _ want q.2 p.0.right
one_of_check t o (Accepted tasks operations reads) (Accepted jobs works looks) p q = rw (p.1, p.2, p.3, q.1, q.2, q.3) refl
one_of_check t o (Accepted tasks operations reads) _ p q = absurd q
one_of_check t o _ g p q = absurd p

one_of_ordered : (t : Tables) → (f g : Finding) → OrderedFinds t f → OrderedFinds t g → f ≡ g
one_of_ordered t (Cycle es) (Cycle fs) p q = ap Cycle (one_cycle t es fs p q)
one_of_ordered t (Cycle es) (Unordered a b tree point field) p q = free t es p q.0
one_of_ordered t (Cycle es) (Ordered tasks pairs) p q = free t es p q.0
one_of_ordered t (Cycle es) _ p q = absurd q
one_of_ordered t (Unordered a b tree point field) (Cycle fs) p q = free t fs q p.0
one_of_ordered t (Unordered a b tree point field) (Unordered c d root at number) p q =
    unordered_is a b tree point field c d root at number (same_pair t a b _ c d _ p.1 q.1)
one_of_ordered t (Unordered a b tree point field) (Ordered tasks pairs) p q = not_all_kept t p.1.pair p.1.shown q.1
one_of_ordered t (Unordered a b tree point field) _ p q = absurd q
one_of_ordered t (Ordered tasks pairs) (Cycle fs) p q = free t fs q p.0
one_of_ordered t (Ordered tasks pairs) (Unordered a b tree point field) p q = not_all_kept t q.1.pair q.1.shown p.1
one_of_ordered t (Ordered tasks pairs) (Ordered jobs others) p q = rw (p.2, p.3, q.2, q.3) refl
one_of_ordered t (Ordered tasks pairs) _ p q = absurd q
one_of_ordered t _ g p q = absurd p

one_of_deps : (t : Tables) → (f g : Finding) → DepsFinds t f → DepsFinds t g → f ≡ g
one_of_deps t (Deps list items before turn) (Deps other things earlier either) p q =
    let lists : list ≡ other = p.0 ∙ sym q.0 in
    let befores : before ≡ earlier = p.2 ∙ ap before_count lists ∙ sym q.2 in
    let turns : turn ≡ either = omega (arith, p.3, q.3, befores, ap length lists) in
    rw (lists, p.1 ∙ sym q.1, befores, turns) refl
one_of_deps t (Deps list items before turn) _ p q = absurd q
one_of_deps t _ g p q = absurd p

same_spare : (t : Tables) (ws vs : List (ℕ × ℕ)) → ShowsSpare t ws → ShowsSpare t vs → ws ≡ vs
same_spare t ws vs p q = p.events_are ∙ ap (map (events_of_wait t)) (one_list (graph_of t.nodes) p.waits q.waits p.are_spare q.are_spare)
    ∙ sym q.events_are

one_of_spare : (t : Tables) → (f g : Finding) → SpareFinds t f → SpareFinds t g → f ≡ g
one_of_spare t (Cycle es) (Cycle fs) p q = ap Cycle (one_cycle t es fs p q)
one_of_spare t (Cycle es) (Spare list waits) p q = free t es p q.0
one_of_spare t (Cycle es) _ p q = absurd q
one_of_spare t (Spare list waits) (Cycle fs) p q = free t fs q p.0
one_of_spare t (Spare list waits) (Spare other all) p q = rw (same_spare t list other p.1 q.1, p.2, q.2) refl
one_of_spare t (Spare list waits) _ p q = absurd q
one_of_spare t _ g p q = absurd p

no_read_is : (ask : Ask) (task req point field job name at other : ℕ)
    → ask ≡ record { task = task; req = req; point = point; field = field }
    → ask ≡ record { task = job; req = name; point = at; field = other }
    → NoRead task req point field ≡ NoRead job name at other
no_read_is ask task req point field job name at other p q =
    let both : ◌≡◌ {A = Ask} (record { task = task; req = req; point = point; field = field })
    (record { task = job; req = name; point = at; field = other }) = sym p ∙ q in
    rw (ap (λ (a : Ask). a.task) both, ap (λ (a : Ask). a.req) both, ap (λ (a : Ask). a.point) both, ap (λ (a : Ask). a.field) both) refl

same_links : (t : Tables) (ask : Ask) → IsOneTrail t ask → HasNoCycle t → (ls ms : List WhyLink) → ShowsLinks t ask ls → ShowsLinks t ask ms
    → ls ≡ ms
same_links t ask trail none ls ms p q = p.list_is ∙ ap (map link_shown) (trail none p.links q.links p.are_links q.are_links) ∙ sym q.list_is

one_of_why : (t : Tables) (ask : Ask) → AreOrderly t → IsOneTrail t ask → (f g : Finding) → WhyFinds t ask f → WhyFinds t ask g → f ≡ g
one_of_why t ask o one (Cycle es) (Cycle fs) p q = ap Cycle (one_cycle t es fs p q)
one_of_why t ask o one (Cycle es) (Race a b inst point field) p q = free t es p q.0
one_of_why t ask o one (Cycle es) (NoRead task req point field) p q = free t es p q.0
one_of_why t ask o one (Cycle es) (Why asked list) p q = free t es p q.0
one_of_why t ask o one (Cycle es) _ p q = absurd q
one_of_why t ask o one (Race a b inst point field) (Cycle fs) p q = free t fs q p.0
one_of_why t ask o one (Race a b inst point field) (Race c d other at number) p q =
    race_is a b inst point field c d other at number (same_race t o p.0 a b c d _ _ p.1 q.1)
one_of_why t ask o one (Race a b inst point field) (NoRead task req at other) p q = absurd (q.1 _ _ _ p.1.shown.race)
one_of_why t ask o one (Race a b inst point field) (Why asked list) p q = absurd (q.1 _ _ _ p.1.shown.race)
one_of_why t ask o one (Race a b inst point field) _ p q = absurd q
one_of_why t ask o one (NoRead task req point field) (Cycle fs) p q = free t fs q p.0
one_of_why t ask o one (NoRead task req point field) (Race a b inst at other) p q = absurd (p.1 _ _ _ q.1.shown.race)
one_of_why t ask o one (NoRead task req point field) (NoRead job name at other) p q =
    no_read_is ask task req point field job name at other p.3 q.3
one_of_why t ask o one (NoRead task req point field) (Why asked list) p q = absurd (not_both t ask q.2.links q.2.are_links p.2)
one_of_why t ask o one (NoRead task req point field) _ p q = absurd q
one_of_why t ask o one (Why asked list) (Cycle fs) p q = free t fs q p.0
one_of_why t ask o one (Why asked list) (Race a b inst point field) p q = absurd (p.1 _ _ _ q.1.shown.race)
one_of_why t ask o one (Why asked list) (NoRead task req point field) p q = absurd (not_both t ask p.2.links p.2.are_links q.2)
one_of_why t ask o one (Why asked list) (Why other links) p q = ap₂ Why (p.3 ∙ sym q.3) (same_links t ask one p.0 list links p.2 q.2)
one_of_why t ask o one (Why asked list) _ p q = absurd q
one_of_why t ask o one _ g p q = absurd p

-- What is known of the tables of a log in which a command finds no fault.
abbrev Known : Command → Tables → Type 0
Known commands.Check t = AreOrderly t
Known (commands.Why ask) t = AreOrderly t × IsOneTrail t ask
Known command t = Unit {0}

known : (command : Command) (lines : ℕ) (log : List Lined) → AllByRecursion Good (records_of log) → log_fault command lines log ≡ None
    → Known command (tables_of log)
known commands.Check lines log good clear = orderly log good (faultless commands.Check lines log clear)
known (commands.Why ask) lines log good none =
    let f = faultless commands.Check lines log (sym (why_faults ask lines log) ∙ none) in
    (orderly log good f, λ acyclic. one_trail log good f acyclic ask)
known command lines log good clear = tt

one_of : (command : Command) (t : Tables) → Known command t → (f g : Finding) → Finds command t f → Finds command t g → f ≡ g
one_of commands.Check t o f g p q = one_of_check t o f g p q
one_of (commands.Why ask) t o f g p q = one_of_why t ask o.0 o.1 f g p q
one_of commands.Ordered t o f g p q = one_of_ordered t f g p q
one_of commands.Deps t o f g p q = one_of_deps t f g p q
one_of commands.Spare t o f g p q = one_of_spare t f g p q

-- ---- in a log, and in an input

-- What is found is the log's fault, or is found in the tables of a log without one.
abbrev FaultOrFinding : Command → ℕ → List Lined → Finding → Type 0
FaultOrFinding command lines log f = ((shown : Shown) × (f ≡ Fault shown.line shown.code) × (log_fault command lines log ≡ Some shown))
    ⊎ ((log_fault command lines log ≡ None) × Finds command (tables_of log) f)

told : (command : Command) (lines : ℕ) (log : List Lined) (f : Finding) → IsFound command lines log f → FaultOrFinding command lines log f
told command lines log (Fault line code) p = inl (record { line = line; code = code }, refl, p)
told command lines log _ p = inr p

one_told : (command : Command) (lines : ℕ) (log : List Lined) → (log_fault command lines log ≡ None → Known command (tables_of log))
    → (f g : Finding) → FaultOrFinding command lines log f → FaultOrFinding command lines log g → f ≡ g
one_told command lines log laws f g (inl a) (inl b) =
    let both : ◌≡◌ {A = Option Shown} (Some a.0) (Some b.0) = sym a.2 ∙ b.2 in
    let same : a.0 ≡ b.0 = cc in
    a.1 ∙ ap (λ (s : Shown). Fault s.line s.code) same ∙ sym b.1
one_told command lines log laws f g (inl a) (inr b) = let wrong : ◌≡◌ {A = Option Shown} (Some a.0) None = sym a.2 ∙ b.0 in absurd cc
one_told command lines log laws f g (inr a) (inl b) = let wrong : ◌≡◌ {A = Option Shown} None (Some b.0) = sym a.0 ∙ b.2 in absurd cc
one_told command lines log laws f g (inr a) (inr b) = one_of command (tables_of log) (laws a.0) f g a.1 b.1

pub one_found : (command : Command) (lines : ℕ) (log : List Lined) → AllByRecursion Good (records_of log) → (f g : Finding)
    → IsFound command lines log f → IsFound command lines log g → f ≡ g
one_found command lines log good f g p q = one_told command lines log (known command lines log good) f g (told command lines log f p)
    (told command lines log g q)

pub one_answered : (command : Command) (bytes : List ℕ) (f g : Finding) → IsOutcome command bytes f → IsOutcome command bytes g → f ≡ g
one_answered command bytes f g (inl p) (inl q) =
    let both : ◌≡◌ {A = Option Shown} (Some p.fault) (Some q.fault) = sym p.shown ∙ q.shown in
    let same : p.fault ≡ q.fault = cc in
    p.finding_is ∙ ap (λ (s : Shown). Fault s.line s.code) same ∙ sym q.finding_is
one_answered command bytes f g (inl p) (inr q) = let wrong : ◌≡◌ {A = Option Shown} (Some p.fault) None = sym p.shown ∙ q.spelled in
    absurd cc
one_answered command bytes f g (inr p) (inl q) = let wrong : ◌≡◌ {A = Option Shown} None (Some q.fault) = sym p.spelled ∙ q.shown in
    absurd cc
one_answered command bytes f g (inr p) (inr q) =
    one_found command (line_count bytes) p.log (held_is_good 1 _ p.log p.reads.hold) f g p.found
    (subst (λ log. IsFound command (line_count bytes) log g) (one_read bytes q.log p.log q.reads p.reads) q.found)
