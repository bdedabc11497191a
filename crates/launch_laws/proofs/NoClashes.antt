-- In what a launch log writes, no two requirements of two tasks of one launch clash.
use Rattle.std.proofs.Common.{◌≡◌, ℕ, ◌+◌, ◌<◌, ◌≤◌, ◌==◌, true, false, not, inl, inr, List, [], ◌∷◌, ◌++◌, refl, sym, ap, ◌∙◌, subst, arith, Some, None, fold, length, append_assoc, append-nil, nat_lt, Contains, AllPairs}
use Rattle.std.specs.List.{list_any}
use Rattle.std.proofs.lemmas.Bool.{true≢false, cases_eq, and_parts, ltb-true, false_from_ne_true}
use Rattle.std.proofs.lemmas.Bool.Decides.{nat_tests}
use Rattle.std.proofs.lemmas.Option.{same_Some}
use Rattle.spy_grammar.specs.declared.code.Code.TheVariants as codes
use Rattle.vocabulary.specs.Prelude.{Record, LRecord, LLined, lined, lined_from, Tables, Space, with_record, tables_of, points_in}
use Rattle.spy_grammar.specs.declared.record.Record.TheVariants as records
use Rattle.spy_grammar.specs.declared.launches.LRecord.TheVariants.{Plain, Launch, Lreq}
use Rattle.semantics.specs.Rules.{is_declared, space_id, item_id, task_id, names}
use Rattle.semantics.specs.Faults.{records_fault}
use Rattle.semantics.specs.Launches.{TaskLaunch, Expanded, not_expanded, declared_by, for_tasks, writes, launches_by, with_launching, launch_records, is_launched, clash, interferes_in_launch, breaks_launch, launch_rules, launches_fault}
use Rattle.std.proofs.lemmas.List.Elements.{Contains-append_left, Contains-append_right, Contains-append_cases}
use Rattle.list_lemmas.proofs.lemmas.Contained.{only, both_none, unmapped_none, none_found, none_at, all_at, Contains-later, Contains-nil, Contains-cases, Contains-first, Contains-here}
use Rattle.list_lemmas.proofs.lemmas.Pairs.{AllPairs-append, AllPairs-where}
use Rattle.list_lemmas.proofs.lemmas.Parts.{split_at}
use Rattle.log_laws.proofs.lemmas.Admitted.{Unbroken, rule_kept, keeps_of}
use Rattle.launch_laws.proofs.Growth.{with_line, tables_more, stays, id_stays, points_stay, unbroken_at}
use Rattle.launch_laws.proofs.Authors.{task_is_item}
use Rattle.launch_laws.proofs.Clashes.{asked_by, clash_asks, clash_same}

-- ---- what one record of a launch log writes

-- What is written stays written.
writes_on : (e : Expanded) (rs : List LRecord) → (more : List Record) × ((fold with_launching e rs).written ≡ e.written ++ more)
writes_on e [] = ([], sym (append-nil e.written))
writes_on e (r ∷ rs) = let later = writes_on (with_launching e r) rs in
    (writes e r ++ later.0, later.1 ∙ append_assoc e.written (writes e r) later.0)

for_tasks_each : (P : Record → Type 0) (make : ℕ → ℕ → Record) → ((id colour : ℕ) → P (make id colour)) → (id : ℕ) (colours : List ℕ)
    → (x : Record) → Contains (for_tasks make id colours) x → P x
for_tasks_each P make each id [] x m = absurd (Contains-nil m)
for_tasks_each P make each id (colour ∷ colours) x m = elim (Contains-cases (for_tasks make (id + 1) colours) m) [
  | inl is ↦ subst P (sym is) (each id colour)
  | inr later ↦ for_tasks_each P make each (id + 1) colours x later
]

-- It declares no space.
abbrev IsQuiet : Record → Type 0
IsQuiet r = (t : Tables) (line : ℕ) → (with_record t line r).spaces ≡ t.spaces

quiet_so : (ys : List Record) → ((x : Record) → Contains ys x → IsQuiet x) → (t : Tables) (line : ℕ)
    → (fold with_line t (lined_from line ys)).spaces ≡ t.spaces
quiet_so [] quiet t line = refl
quiet_so (y ∷ ys) quiet t line = quiet_so ys (λ x m. quiet x (Contains-later ys m)) (with_record t line y) (line + 1)
    ∙ quiet y (Contains-here ys) t line

spaces_same : (xs ys : List Record) → ((x : Record) → Contains ys x → IsQuiet x)
    → (tables_of (lined (xs ++ ys))).spaces ≡ (tables_of (lined xs)).spaces
spaces_same xs ys quiet = ap (λ (t : Tables). t.spaces) (tables_more xs ys) ∙ quiet_so ys quiet (tables_of (lined xs)) (1 + length xs)

-- Of the records that one record writes, none declares a space before the last.
record IsCut (written : List Record) (z : Record) : Type 0 where
  front : List Record
  back : List Record
  is : written ≡ front ++ z ∷ back
  quiet : (x : Record) → Contains front x → IsQuiet x

cut_quiet : (written : List Record) (z : Record) → ((x : Record) → Contains written x → IsQuiet x) → Contains written z → IsCut written z
cut_quiet written z quiet m =
    let cut = split_at written z m in
    record {
      front = cut.0;
      back = cut.1;
      is = cut.2;
      quiet =
          λ x n. quiet x (subst (λ ys. Contains ys x) (sym cut.2) (Contains-append_left cut.0 (z ∷ cut.1) x n));
    }

cut_one : (written z : Record) → Contains (written ∷ []) z → IsCut (written ∷ []) z
cut_one written z m = record { front = []; back = []; is = ap (λ y. y ∷ []) (sym (only m)); quiet = λ x n. absurd (Contains-nil n) }

cut_writes : (e : Expanded) (r : LRecord) (z : Record) → Contains (writes e r) z → IsCut (writes e r) z
cut_writes e (Plain (records.End n)) z m = cut_one _ z m
cut_writes e (Plain _) z m = cut_one _ z m
cut_writes e (Launch base colours) z m = cut_quiet (writes e (Launch base colours)) z
    (for_tasks_each IsQuiet _ (λ id colour t line. refl) base colours) m
cut_writes e (Lreq base tree part fields access atomic) z m =
    cut_quiet (writes e (Lreq base tree part fields access atomic)) z (for_tasks_each IsQuiet _ (λ id colour t line. refl) base _) m

-- A launch writes a task for each of its ids.
tasks_made : (colours : List ℕ) (base id : ℕ) → base ≤ id → id < base + length colours
    → Contains (for_tasks (λ id colour. records.Task id) base colours) (records.Task id)
tasks_made [] base id low high = absurd (omega (arith, low, high))
tasks_made (colour ∷ colours) base id low high = elim (cases_eq id base) [
  | inl is ↦ Contains-first (for_tasks (λ id colour. records.Task id) (base + 1) colours) (ap (λ id. records.Task id) is)
  | inr other ↦ Contains-later (for_tasks (λ id colour. records.Task id) (base + 1) colours)
      (tasks_made colours (base + 1) id (omega (arith, low, other)) (omega (arith, high)))
]

launched_made : (base : ℕ) (colours : List ℕ) (id : ℕ) → is_launched (record { base = base; colours = colours }) id ≡ true
    → Contains (for_tasks (λ id colour. records.Task id) base colours) (records.Task id)
launched_made base colours id e =
    let parts = and_parts (not (nat_lt id base)) (nat_lt id (base + length colours)) e in
    tasks_made colours base id (grind (arith, nat_tests, parts.0)) (ltb-true id (base + length colours) parts.1)

regroup : {X : Type 0} (xs ys : List X) (z : X) (zs ws : List X) → (xs ++ (ys ++ z ∷ zs)) ++ ws ≡ (xs ++ ys) ++ z ∷ (zs ++ ws)
regroup [] ys z zs ws = append_assoc ys (z ∷ zs) ws
regroup (x ∷ xs) ys z zs ws = ap (λ l. x ∷ l) (regroup xs ys z zs ws)

-- ---- what is known of a requirement when it is written

-- The ids that a record asks by are declared.
abbrev IsKnown : Tables → Record → Type 0
IsKnown t z = (p : ℕ × ℕ) → asked_by z ≡ Some p → (is_declared t (item_id p.0) ≡ true) × (is_declared t (space_id p.1) ≡ true)

known_so : (log front : List Record) (z : Record) → Unbroken log (lined front) z → IsKnown (tables_of (lined front)) z
known_so log front (records.Req task tree space fields access atomic) u p e =
    let t : Tables = tables_of (lined front) in
    let all = (keeps_of log (lined front) (records.Req task tree space fields access atomic) u).declared in
    let is_task = task_is_item t task (all_at (is_declared t) (names (records.Req task tree space fields access atomic)) (task_id task) all
    (0, omega arith, refl)) in
    let is_space = all_at (is_declared t) (names (records.Req task tree space fields access atomic)) (space_id space) all
    (2, omega arith, refl) in
    let is = same_Some (task, space) p e in
    subst (λ (p : ℕ × ℕ). (is_declared t (item_id p.0) ≡ true) × (is_declared t (space_id p.1) ≡ true)) is (is_task, is_space)
known_so log front _ u p e = absurd cc

known_stays : (z : Record) (t : Tables) (line : ℕ) (r : Record) → IsKnown t z → IsKnown (with_record t line r) z
known_stays z t line r h p e = let k = h p e in (id_stays p.0 t line r k.0, (points_stay p.1 (points_in t p.1) t line r (k.1, refl)).0)

-- ---- the walk

module _ (final : Expanded) (none : records_fault final.written [] (lined final.written) ≡ None) where
  unbroken_in : (xs : List Record) (z : Record) (ys : List Record) → final.written ≡ xs ++ z ∷ ys → Unbroken final.written (lined xs) z
  unbroken_in xs z ys is = unbroken_at final.written xs z ys (subst (λ ws. records_fault final.written [] (lined ws) ≡ None) is none)

  -- What is written so far is known by what is declared so far.
  known_earlier : (xs more : List Record) → final.written ≡ xs ++ more → (z : Record) → Contains xs z → IsKnown (tables_of (lined xs)) z
  known_earlier xs more is z m =
      let cut = split_at xs z m in
      let u = unbroken_in cut.0 z (cut.1 ++ more) (is ∙ ap (λ ys. ys ++ more) cut.2 ∙ append_assoc cut.0 (z ∷ cut.1) more) in
      subst (λ ys. IsKnown (tables_of (lined ys)) z) (sym cut.2)
      (stays (λ t. IsKnown t z) (known_stays z) cut.0 (z ∷ cut.1) (known_so final.written cut.0 z u))

  module _ (e : Expanded) (r : LRecord) (more : List Record) (is : final.written ≡ (e.written ++ writes e r) ++ more) where
    cut_unbroken : (z : Record) (cut : IsCut (writes e r) z) → Unbroken final.written (lined (e.written ++ cut.front)) z
    cut_unbroken z cut = unbroken_in (e.written ++ cut.front) z (cut.back ++ more) (is ∙ ap (λ ys. (e.written ++ ys) ++ more) cut.is
        ∙ regroup e.written cut.front z cut.back more)

    -- A space asked for is declared before the record that writes so.
    space_known : (z : Record) → Contains (e.written ++ writes e r) z → (p : ℕ × ℕ) → asked_by z ≡ Some p
        → is_declared (declared_by e) (space_id p.1) ≡ true
    space_known z m p asks = elim (Contains-append_cases e.written (writes e r) z m) [
      | inl earlier ↦ (known_earlier e.written (writes e r ++ more) (is ∙ append_assoc e.written (writes e r) more) z earlier p asks).1
      | inr here ↦
          let cut = cut_writes e r z here in
          subst (λ ss. list_any (λ (s : Space). s.id == p.1) ss ≡ true) (spaces_same e.written cut.front cut.quiet)
          (known_so final.written (e.written ++ cut.front) z (cut_unbroken z cut) p asks).1
    ]

    same_points : (z : Record) → Contains (e.written ++ writes e r) z → (p : ℕ × ℕ) → asked_by z ≡ Some p
        → points_in (declared_by final) p.1 ≡ points_in (declared_by e) p.1
    same_points z m p asks =
        let kept = stays (λ t. (is_declared t (space_id p.1) ≡ true) × (points_in t p.1 ≡ points_in (declared_by e) p.1))
        (points_stay p.1 (points_in (declared_by e) p.1)) e.written (writes e r ++ more) (space_known z m p asks, refl) in
        ap (λ ws. points_in (tables_of (lined ws)) p.1) (is ∙ append_assoc e.written (writes e r) more) ∙ kept.1

    -- What is written here does not clash with what is written so far or here, for a launch so far.
    no_clash_here : interferes_in_launch e r ≡ false → (l : TaskLaunch) → Contains e.launches l → (q x : Record) → Contains (writes e r) q
        → Contains (e.written ++ writes e r) x → clash (declared_by final) l q x ≡ false
    no_clash_here kept l m q x a b =
        let by_launch = none_at (λ (l : TaskLaunch). list_any (λ q. list_any (clash (declared_by e) l q) (e.written ++ writes e r))
        (writes e r)) e.launches l kept m in
        let by_record = none_at (λ q. list_any (clash (declared_by e) l q) (e.written ++ writes e r)) (writes e r) q by_launch a in
        clash_same (declared_by final) (declared_by e) l q x (same_points q (Contains-append_right e.written (writes e r) q a))
        (same_points x b)
        ∙ none_at (clash (declared_by e) l q) (e.written ++ writes e r) x by_record b

  -- No requirement of a task is written before the launch of the task.
  no_earlier : (e : Expanded) (base : ℕ) (colours : List ℕ) (more : List Record)
      → final.written ≡ (e.written ++ writes e (Launch base colours)) ++ more
      → (z : Record) → Contains e.written z → (p : ℕ × ℕ) → asked_by z ≡ Some p
      → is_launched (record { base = base; colours = colours }) p.0 ≡ true → ⊥
  no_earlier e base colours more is z m p asks launched =
      let made = launched_made base colours p.0 launched in
      let cut = cut_writes e (Launch base colours) (records.Task p.0) made in
      let before : List Record = e.written ++ cut.front in
      let u = cut_unbroken e (Launch base colours) more is (records.Task p.0) cut in
      let fresh = none_at (is_declared (tables_of (lined before))) (item_id p.0 ∷ []) (item_id p.0) (rule_kept codes.RepeatedId refl u)
      (Contains-here []) in
      let known = (known_earlier e.written (writes e (Launch base colours) ++ more) (is
      ∙ append_assoc e.written (writes e (Launch base colours)) more) z m p asks).0 in
      true≢false (sym (stays (λ t. is_declared t (item_id p.0) ≡ true) (id_stays p.0) e.written cut.front known) ∙ fresh)

  -- For each launch so far: of two records the later does not clash with the earlier, and its tasks are written.
  pub record Holds (e : Expanded) : Type 0 where
    pub apart : (l : TaskLaunch) → Contains e.launches l → AllPairs (λ x y. clash (declared_by final) l y x ≡ false) e.written
    pub made : (l : TaskLaunch) → Contains e.launches l → (id : ℕ) → is_launched l id ≡ true → Contains e.written (records.Task id)

  new_apart : (e : Expanded) (r : LRecord) (more : List Record) → final.written ≡ (e.written ++ writes e r) ++ more → (l : TaskLaunch)
      → Contains (launches_by r) l
      → AllPairs (λ x y. clash (declared_by final) l y x ≡ false) (e.written ++ writes e r)
  new_apart e (Launch base colours) more is l m =
      AllPairs-where _ (e.written ++ writes e (Launch base colours)) (λ x y _ n. false_from_ne_true _ (λ bad.
      let asks = clash_asks (declared_by final) l y x bad in
      elim (Contains-append_cases e.written (writes e (Launch base colours)) y n) [
        | inl earlier ↦ no_earlier e base colours more is y earlier asks.0 asks.1
            (subst (λ l. is_launched l asks.0.0 ≡ true) (only m) asks.2)
        | inr here ↦ let task : asked_by y ≡ None =
            for_tasks_each (λ z. asked_by z ≡ None) (λ id colour. records.Task id) (λ id colour. refl) base colours y here in let bad =
            sym task ∙ asks.1 in absurd cc
      ]))
  new_apart e _ more is l m = absurd (Contains-nil m)

  new_made : (e : Expanded) (r : LRecord) (l : TaskLaunch) → Contains (launches_by r) l → (id : ℕ) → is_launched l id ≡ true
      → Contains (writes e r) (records.Task id)
  new_made e (Launch base colours) l m id launched = launched_made base colours id (subst (λ l. is_launched l id ≡ true) (only m) launched)
  new_made e _ l m id launched = absurd (Contains-nil m)

  one_more : (e : Expanded) (r : LRecord) (more : List Record) → final.written ≡ (e.written ++ writes e r) ++ more
      → interferes_in_launch e r ≡ false → Holds e → Holds (with_launching e r)
  one_more e r more is kept h = record {
    apart = λ l m. elim (Contains-append_cases e.launches (launches_by r) l m) [
      | inl old ↦
          AllPairs-append _ e.written (writes e r) (h.apart l old)
          (AllPairs-where _ (writes e r) (λ x y a b. no_clash_here e r more is kept l old y x b
          (Contains-append_right e.written (writes e r) x a)))
          (λ x y a b. no_clash_here e r more is kept l old y x b (Contains-append_left e.written (writes e r) x a))
      | inr new ↦ new_apart e r more is l new
    ];
    made = λ l m id launched. elim (Contains-append_cases e.launches (launches_by r) l m) [
      | inl old ↦ Contains-append_left e.written (writes e r) (records.Task id) (h.made l old id launched)
      | inr new ↦ Contains-append_right e.written (writes e r) (records.Task id) (new_made e r l new id launched)
    ];
  }

  pub walked : (e : Expanded) (rest : List LLined) → launches_fault e rest ≡ None → fold with_launching e (launch_records rest) ≡ final
      → Holds e → Holds final
  walked e [] kept is h = subst Holds is h
  walked e (l ∷ rest) kept is h =
      let parts = both_none _ (launches_fault (with_launching e l.rec) rest) kept in
      let none_broken = unmapped_none _ _ parts.0 in
      let free = none_found (breaks_launch e l.rec) launch_rules codes.LaunchInterference none_broken
      (5, omega arith, refl) in
      let more = writes_on (with_launching e l.rec) (launch_records rest) in
      walked (with_launching e l.rec) rest parts.1 is (one_more e l.rec more.0 (ap (λ (e : Expanded). e.written) (sym is) ∙ more.1) free h)

  pub nothing_holds : Holds not_expanded
  nothing_holds = record { apart = λ l m. absurd (Contains-nil m); made = λ l m. absurd (Contains-nil m) }
