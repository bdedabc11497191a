-- A command finds something in each log, and has an outcome on each input.
use Rattle.std.proofs.Common.{◌≡◌, ℕ, ◌<◌, ◌⊎◌, inl, inr, true, false, not, ◌&&◌, List, [], ◌∷◌, ◌++◌, map, filter, length, refl, sym, ap, ◌∙◌, subst, Some, None, Contains}
use Rattle.std.specs.List.{AllByRecursion, range_with_len}
use Rattle.std.proofs.lemmas.Bool.{cases_Bool, true≢false}
use Rattle.std.proofs.lemmas.Option.{none-some, slice_get_within}
use Rattle.std.proofs.lemmas.List.Filters.{length-filter_both}
use Rattle.vocabulary.specs.Prelude.{Kind, stronger, Lined, Good, Command, Place, records_of, Tables, tables_of, is_free, item_kind, item_places, kind_at, least_of, least_place, pairs, strongest, Node, WaitsOn, Before, IsCycle, AreLinked, HasNoCycle, graph_of, id_of, IsRaceFree, Seen, Differs, IsRight, shown_difference, want_of, Cell, Ask, Link}
use Rattle.privilege.specs.declared.kinds.Kind.TheVariants.{Free, Turn, Before as FixedOrder}
use Rattle.findings.specs.declared.finding.Dep.{Dep}
use Rattle.findings.specs.declared.finding.Finding.{Finding}
use Rattle.findings.specs.declared.finding.Finding.TheVariants.{Accepted, Ordered, Deps, Spare, Cycle, Race, Unordered, Differ, Fault, NoRead, Why}
use Rattle.semantics.specs.declared.command.Command.TheVariants as commands
use Rattle.semantics.specs.Counts.{task_count, operation_count, read_count, wait_count}
use Rattle.semantics.specs.SerialOrder.{by_serial}
use Rattle.semantics.specs.ReplayOrder.{replay_order, is_stuck, shown_cycle}
use Rattle.semantics.specs.Shown.{event_of, IsKept, is_task_at, run_of, task_pairs}
use Rattle.semantics.specs.Faults.{log_fault}
use Rattle.log_laws.proofs.lemmas.Admitted.{faultless}
use Rattle.std.proofs.lemmas.List.Elements.{Contains-append_right}
use Rattle.list_lemmas.proofs.lemmas.Contained.{member_flat, member_map, Contains-here}
use Rattle.list_lemmas.proofs.lemmas.Filtered.{of_filter}
use Rattle.list_lemmas.proofs.lemmas.Firsts.{cases_option}
use Rattle.log_laws.proofs.lemmas.Cycles.{cycle_is_stuck, none_shown, shown_is_cycle}
use Rattle.log_laws.proofs.lemmas.Rounds.{before_met}
use Rattle.log_laws.proofs.lemmas.Laws.{faultless_linked}
use Rattle.trail_laws.proofs.lemmas.Trails.{some_list, why_faults}
use Rattle.semantics.specs.Links.{AreLinksOf, IsNoRead}
use Rattle.outcomes.specs.Outcome.{CheckFinds, OrderedFinds, DepsFinds, SpareFinds, WhyFinds, Finds, IsFound, ShowsCycle, ShowsRace, ask_shown, link_shown, before_count, dependences, events_of_wait}
use Rattle.outcomes.proofs.Decided.{IsDecided, before_told, last_wait}
use Rattle.outcomes.proofs.SomeRaces.{race_or_none}
use Rattle.outcomes.proofs.SomeSpare.{spare_list}
use Rattle.outcomes.proofs.lemmas.Found.{all_replayed, graph_length}
use Rattle.outcomes.proofs.lemmas.Replays.{right_everywhere, differs_everywhere}

-- All of a list pass, or there is a first that fails.
record FirstFailing {X : Type 0} (P : X → Type 0) (xs : List X) : Type 0 where
  front : List X
  at : X
  back : List X
  parts : xs ≡ front ++ at ∷ back
  passed : AllByRecursion P front
  fails : P at → ⊥

all_or_first : {X : Type 0} (P : X → Type 0) (tell : (x : X) → IsDecided (P x)) (xs : List X) → AllByRecursion P xs ⊎ FirstFailing P xs
all_or_first P tell [] = inl tt
all_or_first P tell (x ∷ xs) = elim (tell x) [
  | inr fails ↦ inr (record { front = []; at = x; back = xs; parts = refl; passed = tt; fails = fails })
  | inl holds ↦ elim (all_or_first P tell xs) [
    | inl all ↦ inl (holds, all)
    | inr f ↦ inr (record {
      front = x ∷ f.front;
      at = f.at;
      back = f.back;
      parts = ap (λ ys. x ∷ ys) f.parts;
      passed =
          (holds, f.passed);
      fails = f.fails;
    })
  ]
]

-- ---- two items that interfere have a least place at which they do

stronger_free : (k l : Kind) → is_free k ≡ true → is_free l ≡ true → is_free (stronger k l) ≡ true
stronger_free Free l p q = q
stronger_free Turn l p q = absurd (true≢false (sym p))
stronger_free FixedOrder l p q = absurd (true≢false (sym p))

free_everywhere : (t : Tables) (a b : ℕ) (ps : List Place) → least_of (filter (λ p. not (is_free (kind_at t a b p))) ps) ≡ None
    → is_free (strongest (map (kind_at t a b) ps)) ≡ true
free_everywhere t a b [] none = refl
free_everywhere t a b (p ∷ ps) none = elim (cases_Bool (is_free (kind_at t a b p))) [
  | inl free ↦ stronger_free (kind_at t a b p) _ free (free_everywhere t a b ps (rw free at none))
  | inr other ↦ absurd (none-some _ (sym (rw other at none)))
]

pair_has_place : (t : Tables) (p : ℕ × ℕ) → Contains (pairs t) p → (place : Place) × (least_place t p.0 p.1 ≡ Some place)
pair_has_place t p m =
    let first = member_flat _ (range_with_len 0 (length t.items)) p m in
    let second = member_map _ _ p first.2 in
    let meets = (of_filter (λ b. not (is_free (item_kind t first.0 b))) _ second.0 second.1).1 in
    elim (cases_option (least_place t first.0 second.0)) [
      | inl none ↦ absurd (true≢false (sym (free_everywhere t first.0 second.0 (item_places t first.0) none) ∙ not-true meets))
      | inr some ↦ subst (λ (q : ℕ × ℕ). (place : Place) × (least_place t q.0 q.1 ≡ Some place)) (sym second.2) some
    ]
  where
    not-true : {b : _} → not b ≡ true → b ≡ false
    not-true {b} e = elim (cases_Bool b) [ inl is ↦ absurd (true≢false (sym e ∙ ap not is)) | inr is ↦ is ]

-- ---- what a command finds in tables

-- What the laws say of the tables of a log without a fault.
pub record AreJudged (t : Tables) : Type 0 where
  pub linked : AreLinked (graph_of t.nodes)
  pub behind : (front : List ℕ) (k : ℕ) (back : List ℕ) → replay_order (graph_of t.nodes) ≡ front ++ k ∷ back → (j : ℕ)
      → WaitsOn (graph_of t.nodes) k j → Contains front j
  pub replayed : HasNoCycle t → (k : ℕ) → k < length t.nodes → Contains (replay_order (graph_of t.nodes)) k
  pub on_cycle : (c : List ℕ) → IsCycle (graph_of t.nodes) c → (k : ℕ) → Contains c k → is_stuck (graph_of t.nodes) k ≡ true
  pub shown : (c : List ℕ) → shown_cycle (graph_of t.nodes) ≡ Some c → IsCycle (graph_of t.nodes) c
  pub none : shown_cycle (graph_of t.nodes) ≡ None → (k : ℕ) → k < length (graph_of t.nodes) → is_stuck (graph_of t.nodes) k ≡ false

module _ (t : Tables) (laws : AreJudged t) where
  abbrev nodes : List Node
  nodes = graph_of t.nodes

  no_cycle : shown_cycle nodes ≡ None → (c : List ℕ) → IsCycle nodes c → ⊥
  no_cycle none [] cycle = cycle
  no_cycle none (k ∷ ks) cycle =
      let last = last_wait nodes k k ks cycle.1 in
      let within = slice_get_within nodes k last.1.by last.1.by_is in
      true≢false (sym (laws.on_cycle (k ∷ ks) cycle k (Contains-here ks)) ∙ laws.none none k within)

  cycle_or_none : ((events : List ℕ) × ShowsCycle t events) ⊎ HasNoCycle t
  cycle_or_none = elim (cases_option (shown_cycle nodes)) [
    | inl none ↦ inr (no_cycle none)
    | inr c ↦ inl (map (event_of t) c.0, record { nodes = c.0; shown = c.1; is_cycle = laws.shown c.0 c.1; events_are = refl })
  ]

  module _ (acyclic : HasNoCycle t) where
    told : (a b : ℕ) → IsDecided (Before nodes a b)
    told a b = before_told nodes (replay_order nodes) laws.behind
        (λ k lt. laws.replayed acyclic k (subst (λ n. k < n) (graph_length t.nodes) lt)) a b

    kept_or_not : (p : ℕ × ℕ) → IsDecided (IsKept t p)
    kept_or_not p = told (run_of t (by_serial t p).0) (run_of t (by_serial t p).1)

    ordered_without_cycle : (f : Finding) × OrderedFinds t f
    ordered_without_cycle = elim (all_or_first (IsKept t) kept_or_not (task_pairs t)) [
      | inl kept ↦ (Ordered (task_count t) (length (task_pairs t)), (acyclic, kept, refl, refl))
      | inr f ↦
          let listed = of_filter (λ (p : ℕ × ℕ). is_task_at t p.0 && is_task_at t p.1) (pairs t) f.at
          (subst (λ ps. Contains ps f.at) (sym f.parts) (Contains-append_right f.front (f.at ∷ f.back) f.at (Contains-here f.back))) in
          let found = pair_has_place t f.at listed.0 in
          let place = found.0 in (
            Unordered (id_of t (by_serial t f.at).0) (id_of t (by_serial t f.at).1) place.tree place.point place.field,
            (
              acyclic,
              record {
                pair = f.at;
                shown =
                    record { front = f.front; back = f.back; parts = f.parts; kept = f.passed; not_kept = f.fails };
                a_is = refl;
                b_is =
                    refl;
                place_is = found.1;
              },
            ),
          )
    ]

    spare_without_cycle : (f : Finding) × SpareFinds t f
    spare_without_cycle =
        let list = spare_list nodes told in (
          Spare (map (events_of_wait t) list.0) (wait_count t),
          (acyclic, record { waits = list.0; are_spare = list.1; events_are = refl }, refl),
        )

    shown_race_or_none : ((a : ℕ) × (b : ℕ) × (cell : Cell) × ShowsRace t a b cell) ⊎ IsRaceFree t
    shown_race_or_none = elim (race_or_none t (laws.replayed acyclic) told) [
      | inl r ↦ inl (event_of t r.0, event_of t r.1, r.2, record { one = r.0; other = r.1; shown = r.3; a_is = refl; b_is = refl })
      | inr free ↦ inr free
    ]

    module _ (right : IsRaceFree t → shown_difference t ≡ None → IsRight t) (differs : IsRaceFree t → (r : Seen)
        → shown_difference t ≡ Some r → Differs t r) where
      check_without_race : IsRaceFree t → (f : Finding) × CheckFinds t f
      check_without_race free = elim (cases_option (shown_difference t)) [
        | inl none ↦ (
          Accepted (task_count t) (operation_count t) (read_count t),
          (record { no_cycle = acyclic; no_race = free; right = right free none }, refl, refl, refl),
        )
        | inr r ↦
            let seen = r.0 in (
              Differ seen.task seen.number seen.point seen.field seen.got (want_of t seen),
              (acyclic, free, record { shown = r.1; differs = differs free seen r.1; want_is = refl }),
            )
      ]

      check_without_cycle : (f : Finding) × CheckFinds t f
      check_without_cycle = elim shown_race_or_none [
        | inl r ↦ (Race r.0 r.1 r.2.inst r.2.point r.2.field, (acyclic, r.3))
        | inr free ↦ check_without_race free
      ]

    module _ (ask : Ask) (links : IsRaceFree t → ((ls : List Link) × AreLinksOf t ask ls) ⊎ IsNoRead t ask) where
      why_without_race : IsRaceFree t → (f : Finding) × WhyFinds t ask f
      why_without_race free = elim (links free) [
        | inl ls ↦ (
          Why (ask_shown ask) (map link_shown ls.0),
          (acyclic, free, record { links = ls.0; are_links = ls.1; list_is = refl }, refl),
        )
        | inr none ↦ (NoRead ask.task ask.req ask.point ask.field, (acyclic, free, none, refl))
      ]

      why_without_cycle : (f : Finding) × WhyFinds t ask f
      why_without_cycle = elim shown_race_or_none [
        | inl r ↦ (Race r.0 r.1 r.2.inst r.2.point r.2.field, (acyclic, r.3))
        | inr free ↦ why_without_race free
      ]

  check_finds : (HasNoCycle t → IsRaceFree t → shown_difference t ≡ None → IsRight t)
      → (HasNoCycle t → IsRaceFree t → (r : Seen) → shown_difference t ≡ Some r → Differs t r) → (f : Finding) × CheckFinds t f
  check_finds right differs = elim cycle_or_none [
    | inl c ↦ (Cycle c.0, c.1)
    | inr acyclic ↦ check_without_cycle acyclic (right acyclic) (differs acyclic)
  ]

  why_finds : (ask : Ask) → (HasNoCycle t → IsRaceFree t → ((ls : List Link) × AreLinksOf t ask ls) ⊎ IsNoRead t ask) → (f : Finding)
      × WhyFinds t ask f
  why_finds ask links = elim cycle_or_none [
    | inl c ↦ (Cycle c.0, c.1)
    | inr acyclic ↦ why_without_cycle acyclic ask (links acyclic)
  ]

  ordered_finds : (f : Finding) × OrderedFinds t f
  ordered_finds = elim cycle_or_none [ inl c ↦ (Cycle c.0, c.1) | inr acyclic ↦ ordered_without_cycle acyclic ]

  spare_finds : (f : Finding) × SpareFinds t f
  spare_finds = elim cycle_or_none [ inl c ↦ (Cycle c.0, c.1) | inr acyclic ↦ spare_without_cycle acyclic ]

deps_finds : (t : Tables) → (f : Finding) × DepsFinds t f
deps_finds t =
    let list = dependences t in (
      Deps list (length t.items) (before_count list) (length (filter (λ (d : Dep). not d.before) list)),
      (refl, refl, refl, length-filter_both (λ (d : Dep). d.before) (λ (d : Dep). not d.before) (λ d. refl) list),
    )

-- What is found in tables is found in their log, where it has no fault.
found_of : (command : Command) (lines : ℕ) (log : List Lined) (f : Finding) → log_fault command lines log ≡ None
    → Finds command (tables_of log) f → IsFound command lines log f
found_of commands.Check lines log (Fault line code) none finds = absurd finds
found_of commands.Ordered lines log (Fault line code) none finds = absurd finds
found_of commands.Deps lines log (Fault line code) none finds = absurd finds
found_of commands.Spare lines log (Fault line code) none finds = absurd finds
found_of (commands.Why ask) lines log (Fault line code) none finds = absurd finds
found_of command lines log f none finds = (none, finds)

-- What the laws say of the reads of a log without a fault.
record AreReadsJudged (t : Tables) : Type 0 where
  right : HasNoCycle t → IsRaceFree t → shown_difference t ≡ None → IsRight t
  differs : HasNoCycle t → IsRaceFree t → (r : Seen) → shown_difference t ≡ Some r → Differs t r
  links : (ask : Ask) → HasNoCycle t → IsRaceFree t → ((ls : List Link) × AreLinksOf t ask ls) ⊎ IsNoRead t ask

some_found : (command : Command) (lines : ℕ) (log : List Lined) → (log_fault command lines log ≡ None → AreJudged (tables_of log))
    → (log_fault commands.Check lines log ≡ None → AreReadsJudged (tables_of log))
    → (f : Finding) × IsFound command lines log f
some_found command lines log laws reads = elim (cases_option (log_fault command lines log)) [
  | inr fault ↦ (Fault fault.0.line fault.0.code, fault.1)
  | inl none ↦ (let found = finds command none reads (laws none) in (found.0, found_of command lines log found.0 none found.1))
]
  where
    finds : (command : Command) → log_fault command lines log ≡ None
        → (log_fault commands.Check lines log ≡ None → AreReadsJudged (tables_of log)) → AreJudged (tables_of log) → (f : Finding)
        × Finds command (tables_of log) f
    finds commands.Check none reads laws = check_finds (tables_of log) laws (reads none).right (reads none).differs
    finds commands.Ordered none reads laws = ordered_finds (tables_of log) laws
    finds commands.Deps none reads laws = deps_finds (tables_of log)
    finds commands.Spare none reads laws = spare_finds (tables_of log) laws
    finds (commands.Why ask) none reads laws = why_finds (tables_of log) laws ask
        ((reads (sym (why_faults ask lines log) ∙ none)).links ask)

-- A command finds something in each log.
pub found_in : (command : Command) (lines : ℕ) (log : List Lined) → AllByRecursion Good (records_of log) → (f : Finding)
    × IsFound command lines log f
found_in command lines log good =
    let t = tables_of log in
    let nodes = graph_of t.nodes in
    some_found command lines log
    (λ none.
    let linked = faultless_linked command log good (faultless command lines log none) in
    record {
      linked = linked;
      behind = λ front k back is j waits. before_met nodes linked front k back is j ([], waits);
      replayed = all_replayed t linked;
      on_cycle = λ ks cycle k h. cycle_is_stuck nodes linked ks cycle k h;
      shown = shown_is_cycle nodes linked;
      none = (none_shown nodes).0;
    })
    (λ clear. record {
      right = right_everywhere lines log good clear;
      differs = differs_everywhere lines log good clear;
      links = λ ask acyclic free. some_list log good (faultless commands.Check lines log clear) acyclic free ask;
    })
