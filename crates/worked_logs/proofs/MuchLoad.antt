-- The limit on the load: a log of a task with many requirements that reduce, and of many instances.
use Rattle.std.proofs.Common.{◌≡◌, ℕ, zero, suc, ◌+◌, ◌*◌, ◌≤◌, ◌<◌, nat_lt, Bool, true, false, cond, List, [], ◌∷◌, ◌++◌, All, map, fold, length, drop, replicate, refl, sym, ap, ap₂, ◌∙◌, subst, arith, Option, None, Some, option_map, append_assoc}
use Rattle.std.specs.List.{list_any, range_with_len}
use Rattle.std.specs.Option.{option_or}
use Rattle.std.proofs.lemmas.Bool.{le-ltb, lt-ltb, or_right}
use Rattle.std.proofs.lemmas.List.Elements.{All-from_recursion, All-nil, All-head, All-tail, All-append, All-replicate, All-map}
use Rattle.std.proofs.lemmas.List.Folds.{list_any-append}
use Rattle.std.proofs.lemmas.List.FromFn.{length-range_with_len}
use Rattle.vocabulary.specs.Prelude.{Code, Record, Lined, lined, lined_from, Tables, with_record, tables_of, Fault}
use Rattle.spy_grammar.specs.declared.code.Code.TheVariants as codes
use Rattle.spy_grammar.specs.declared.record.Record.TheVariants.{Header, Ispace, Fields, Tree, Redop, Task, Run, End}
use Rattle.semantics.specs.Rules.{runs_task}
use Rattle.semantics.specs.declared.command.Command.TheVariants.{Ordered}
use Rattle.semantics.specs.Faults.{at_line, records_fault, serial_fault, log_fault}
use Rattle.semantics.specs.Computed.{logs_computed}
use Rattle.worked_logs.specs.WorkedLimits.{framed, of_load}
use Rattle.worked_logs.proofs.FewPlaces.{points_up_to, point_count, few_points}
use Rattle.worked_logs.proofs.Frames.{IsInner, passes, by_records}
use Rattle.worked_logs.proofs.LoadRules.{size, reduction, instance, declared, Declare, after_req, after_inst, req_kept, inst_kept, run_kept, at_end, broken_if}

-- ---- One record after the other.

module _ (log : List Record) (points fs : List ℕ) where
  -- Records whose fault is this one have passed, up to the last of them, which stand from this line on.
  record Passed (line n k : ℕ) (last : List Record) (fault : Option Fault) : Type 0 where
    earlier : List Lined
    before : Declare points fs line n k earlier
    same : fault ≡ records_fault log earlier (lined_from line last)

  reached : (line n k line' n' k' : ℕ) (last : List Record) (earlier : List Lined)
      → Declare points fs line n k earlier → line ≡ line' → n ≡ n' → k ≡ k'
      → Passed line' n' k' last (records_fault log earlier (lined_from line last))
  reached line n k line' n' k' last earlier before e f g =
      let with_k = subst (λ k. Declare points fs line n k earlier) g before in
      let with_n = subst (λ n. Declare points fs line n k' earlier) f with_k in
      record {
        earlier = earlier;
        before = subst (λ line. Declare points fs line n' k' earlier) e with_n;
        same = ap (λ line. records_fault log earlier (lined_from line last)) e;
      }

  abbrev asking_on : ℕ → List Record → List Record
  asking_on reqs last = replicate reqs (reduction points fs) ++ last

  -- (The next instance has this id.)
  abbrev holding_on : ℕ → ℕ → List Record → List Record
  holding_on id insts last = map (instance points fs) (range_with_len id insts) ++ last

  -- So many requirements more, up to a total.
  module _ (to total : ℕ) (last : List Record) (few : to ≤ 131073) (fit : total * size points fs ≤ 4194304) where
    reqs_passed : (more line n : ℕ) (earlier : List Lined) → Declare points fs line n 0 earlier
        → line + more ≡ to → n + more ≡ total
        → Passed to total 0 last (records_fault log earlier (lined_from line (asking_on more last)))
    reqs_passed zero line n earlier before lines reqs =
        reached line n 0 to total 0 last earlier before (omega (arith, lines)) (omega (arith, reqs)) refl
    reqs_passed (suc more) line n earlier before lines reqs =
        let l : Lined = record { line = line; rec = reduction points fs } in
        let after = after_req points fs line n 0 earlier before in
        let on = reqs_passed more (line + 1) (n + 1) (earlier ++ l ∷ []) after in
        let later = on (omega (arith, lines)) (omega (arith, reqs)) in
        let in_lines : line ≤ 131073 = omega (arith, lines, few) in
        let kept = req_kept points fs line n 0 earlier before log in_lines total (omega (arith, reqs)) fit in
        record {
          earlier = later.earlier;
          before = later.before;
          same = passes log earlier l (lined_from (line + 1) (asking_on more last)) kept ∙ later.same;
        }

  -- So many instances more, up to a total.
  module _ (to n total : ℕ) (last : List Record) (few : to ≤ 131073) (fit : total * size points fs ≤ 1048576)
      (asks_few : n * size points fs ≤ 4194304) where
    insts_passed : (more line k : ℕ) (earlier : List Lined) → Declare points fs line n k earlier
        → line + more ≡ to → k + more ≡ total
        → Passed to n total last (records_fault log earlier (lined_from line (holding_on (k + 1) more last)))
    insts_passed zero line k earlier before lines insts =
        reached line n k to n total last earlier before (omega (arith, lines)) refl (omega (arith, insts))
    insts_passed (suc more) line k earlier before lines insts =
        let l : Lined = record { line = line; rec = instance points fs (k + 1) } in
        let after = after_inst points fs line n k earlier before in
        let on = insts_passed more (line + 1) (k + 1) (earlier ++ l ∷ []) after in
        let later = on (omega (arith, lines)) (omega (arith, insts)) in
        let in_lines : line ≤ 131073 = omega (arith, lines, few) in
        let unbroken = inst_kept points fs line n k earlier before log in_lines total in
        let kept = unbroken (omega (arith, insts)) fit asks_few in
        record {
          earlier = later.earlier;
          before = later.before;
          same = passes log earlier l (lined_from (line + 1) (holding_on (k + 1 + 1) more last)) kept ∙ later.same;
        }

-- ---- The whole log.

-- Sizes that keep all limits but that on the load.
pub record Fit (points fields reqs insts : ℕ) : Type 0 where
  pub points_fit : points ≤ 1048576
  pub records_fit : reqs + insts ≤ 131065
  pub accesses_fit : reqs * (points * fields) ≤ 4194304
  pub cells_fit : insts * (points * fields) ≤ 1048576

-- Too much load, at a line, or no fault.
abbrev fault_if : Bool → ℕ → Option Fault
fault_if big line = cond big (Some (at_line codes.TooMuchLoad line)) None

-- This is the fault of the last record, and, with no other fault, that of the log.
of_last : (big : Bool) (line : ℕ)
    → option_or (option_map (λ code. at_line code line) (broken_if big)) None ≡ fault_if big line
of_last true line = refl
of_last false line = refl

no_other : (big : Bool) (line : ℕ) → option_or (fault_if big line) (option_or None None) ≡ fault_if big line
no_other true line = refl
no_other false line = refl

module _ (points : ℕ) (fs : List ℕ) (reqs insts : ℕ) where
  abbrev all_points : List ℕ
  all_points = points_up_to points

  -- The records up to the task, and those after it up to these last ones.
  abbrev first_records : List Record
  first_records = Header 1 ∷ Ispace 1 ((1, points) ∷ []) ∷ Fields 1 fs ∷ Tree 1 1 1 ∷ Redop 1 ∷ Task 1 ∷ []

  abbrev asking : List Record
  asking = replicate reqs (reduction all_points fs)

  abbrev holding : List Record
  holding = map (instance all_points fs) (range_with_len 1 insts)

  abbrev later_records : List Record → List Record
  later_records last = asking ++ (holding ++ last)

  abbrev end_after_run : ℕ → List Record
  end_after_run count = Run 1 1 [] ∷ End count ∷ []

  -- The first records keep the rules, where some record runs the task.
  starts : (log last : List Record) → points ≤ 1048576 → list_any (runs_task 1) log ≡ true
      → records_fault log [] (lined (first_records ++ last))
      ≡ records_fault log (lined first_records) (lined_from 7 last)
  starts log last few runs = rw (few_points points few, runs) refl

  after_task : Declare all_points fs 7 0 0 (lined first_records)
  after_task = record {
    reqs = [];
    insts = [];
    count = refl;
    tables = ap (λ n. record (declared all_points fs [] []) { rects = record { x0 = 0; x1 = 0; y0 = 1; y1 = n } ∷ [] }) (sym (point_count points));
    reduce = All-nil _;
    whole = All-nil _;
    reqs_are = refl;
    insts_are = refl;
    asked = λ t flat at. omega arith;
  }

  -- All later records break no rule, but for the end if there is too much load.
  module _ (log : List Record) (count : ℕ) (fit : Fit points (length fs) reqs insts)
      (runs : list_any (runs_task 1) log ≡ true) where
    asks : reqs * size all_points fs ≤ 4194304
    asks = subst (λ p. reqs * (p * length fs) ≤ 4194304) (sym (point_count points)) fit.accesses_fit

    cells : insts * size all_points fs ≤ 1048576
    cells = subst (λ p. insts * (p * length fs) ≤ 1048576) (sym (point_count points)) fit.cells_fit

    -- After the requirements, and after the instances.
    asked : Passed log all_points fs (reqs + 7) reqs 0 (holding ++ end_after_run count)
        (records_fault log (lined first_records) (lined_from 7 (later_records (end_after_run count))))
    asked =
        let few = fit.records_fit in
        let passed = reqs_passed log all_points fs (reqs + 7) reqs (holding ++ end_after_run count) in
        passed (omega (arith, few)) asks reqs 7 0 (lined first_records) after_task (omega arith) (omega arith)

    held : Passed log all_points fs (reqs + 7 + insts) reqs insts (end_after_run count)
        (records_fault log asked.earlier (lined_from (reqs + 7) (holding ++ end_after_run count)))
    held =
        let few = fit.records_fit in
        let passed = insts_passed log all_points fs (reqs + 7 + insts) reqs insts (end_after_run count) in
        passed (omega (arith, few)) cells asks insts (reqs + 7) 0 asked.earlier asked.before (omega arith) (omega arith)

    told : (big : Bool) → nat_lt 67108864 (insts * (points * length fs * reqs)) ≡ big
        → records_fault log [] (lined (first_records ++ later_records (end_after_run count)))
        ≡ fault_if big (reqs + insts + 8)
    told big is =
        let line = reqs + 7 + insts in
        let few = fit.records_fit in
        let load = ap (λ p. nat_lt 67108864 (insts * (p * length fs * reqs))) (point_count points) ∙ is in
        let run : Lined = record { line = line; rec = Run 1 1 [] } in
        let end : Lined = record { line = line + 1; rec = End count } in
        let unbroken = run_kept all_points fs line reqs insts held.earlier held.before log (omega (arith, few)) asks in
        let ending = at_end all_points fs line reqs insts held.earlier held.before log count big asks load in
        let last_line : line + 1 ≡ reqs + insts + 8 = omega arith in
        starts log (later_records (end_after_run count)) fit.points_fit runs
        ∙ asked.same
        ∙ held.same
        ∙ passes log held.earlier run (end ∷ []) unbroken
        ∙ ap (λ (c : Option Code). option_or (option_map (λ code. at_line code (line + 1)) c) None) ending
        ∙ of_last big (line + 1)
        ∙ ap (fault_if big) last_line

  -- What holds of each kind of later record holds of all.
  all_later : (P : Record → Type 0) (last : List Record) → P (reduction all_points fs)
      → ((id : ℕ) → P (instance all_points fs id)) → All P last → All P (later_records last)
  all_later P last one each ends =
      let held = All-map P (instance all_points fs) (range_with_len 1 insts) (λ k d lt. each _) in
      let asked = All-replicate P reqs (reduction all_points fs) one in
      All-append P asking (holding ++ last) asked (All-append P holding last held ends)

  -- Some record runs the task.
  task_runs : (count : ℕ) → list_any (runs_task 1) (later_records (end_after_run count)) ≡ true
  task_runs count =
      list_any-append (runs_task 1) asking (holding ++ end_after_run count)
      ∙ or_right _ _ (list_any-append (runs_task 1) holding (end_after_run count) ∙ or_right _ _ refl)

  -- There is one item, so no two stand against program order.
  abbrev DeclaresNoItem : Record → Type 0
  DeclaresNoItem r = (t : Tables) (line : ℕ) → (with_record t line r).items ≡ t.items

  items_stay : (t : Tables) (line : ℕ) (rs : List Record) → All DeclaresNoItem rs
      → (fold (λ t (l : Lined). with_record t l.line l.rec) t (lined_from line rs)).items ≡ t.items
  items_stay t line [] none = refl
  items_stay t line (r ∷ rs) none =
      items_stay (with_record t line r) (line + 1) rs (All-tail DeclaresNoItem r rs none)
      ∙ All-head DeclaresNoItem r rs none t line

  in_order : (t : Tables) → length t.items ≡ 1 → serial_fault t ≡ None
  in_order t one = rw one refl

  keeps_order : (count : ℕ)
      → serial_fault (tables_of (lined (first_records ++ later_records (end_after_run count)))) ≡ None
  keeps_order count =
      let last = end_after_run count in
      let ends = All-from_recursion DeclaresNoItem last ((λ t line. refl), ((λ t line. refl), tt)) in
      let none = all_later DeclaresNoItem last (λ t line. refl) (λ id t line. refl) ends in
      let items = items_stay (tables_of (lined first_records)) 7 (later_records last) none in
      in_order (tables_of (lined (first_records ++ later_records last))) (ap length items)

  -- The records between the header and the end.
  abbrev inner : List Record
  inner = drop 1 first_records ++ later_records (Run 1 1 [] ∷ [])

  all_inner : All IsInner inner
  all_inner =
      let is : (false ≡ false) × (false ≡ false) = (refl, refl) in
      let run = Run 1 1 [] ∷ [] in
      let first = All-from_recursion IsInner (drop 1 first_records) (is, (is, (is, (is, (is, tt))))) in
      let later = all_later IsInner run is (λ id. is) (All-from_recursion IsInner run (is, tt)) in
      All-append IsInner (drop 1 first_records) (later_records run) first later

  same_log : framed inner ≡ first_records ++ later_records (end_after_run (length inner))
  same_log =
      let run = Run 1 1 [] ∷ [] in
      let end = End (length inner) ∷ [] in
      let held = ap (λ last. asking ++ last) (append_assoc holding run end) in
      ap (λ last. first_records ++ last) (append_assoc asking (holding ++ run) end ∙ held)

  -- What the frame, the records and the order of the items give together.
  fault_is : (lines : ℕ) (big : Bool) → Fit points (length fs) reqs insts
      → nat_lt 67108864 (insts * (points * length fs * reqs)) ≡ big
      → log_fault Ordered lines (lined (framed inner)) ≡ fault_if big (reqs + insts + 8)
  unfolding logs_computed
  fault_is lines big fit is =
      let count = length inner in
      let log = first_records ++ later_records (end_after_run count) in
      let frame = by_records lines inner all_inner ∙ ap (λ log. records_fault log [] (lined log)) same_log in
      let declaration = frame ∙ told log count fit (task_runs count) big is in
      let serial = subst (λ log. serial_fault (tables_of (lined log)) ≡ None) (sym same_log) (keeps_order count) in
      ap₂ (λ (first second : Option Fault). option_or first (option_or second None)) declaration serial
      ∙ no_other big (reqs + insts + 8)

module _ (lines points fields reqs insts : ℕ) (fit : Fit points fields reqs insts) where
  load_tells : (big : Bool) → nat_lt 67108864 (insts * (points * fields * reqs)) ≡ big
      → log_fault Ordered lines (lined (of_load points fields reqs insts)) ≡ fault_if big (reqs + insts + 8)
  load_tells big is =
      let n = length-range_with_len 1 fields in
      fault_is points (range_with_len 1 fields) reqs insts lines big
      (subst (λ fields. Fit points fields reqs insts) (sym n) fit)
      (ap (λ fields. nat_lt 67108864 (insts * (points * fields * reqs))) n ∙ is)

  pub load_kept : insts * (points * fields * reqs) ≤ 67108864
      → log_fault Ordered lines (lined (of_load points fields reqs insts)) ≡ None
  load_kept few = load_tells false (le-ltb 67108864 (insts * (points * fields * reqs)) few)

  pub load_broken : 67108864 < insts * (points * fields * reqs)
      → log_fault Ordered lines (lined (of_load points fields reqs insts))
      ≡ Some (at_line codes.TooMuchLoad (reqs + insts + 8))
  load_broken many = load_tells true (lt-ltb 67108864 (insts * (points * fields * reqs)) many)
