-- The walk over the records of a launch log.
use Rattle.std.proofs.Common.{◌≡◌, ℕ, suc, ◌+◌, ◌-◌, ◌<◌, ◌≤◌, true, false, List, [], ◌∷◌, ◌++◌, Contains, fold, find, get_or, length, map, replicate, Option, Some, None, option_map, refl, sym, ap, subst, ◌∙◌, inl, inr, arith, length-append, if◌then◌else◌}
use Rattle.std.specs.Bool.{⊤}
use Rattle.std.specs.List.{zip}
use Rattle.std.specs.List.Sorted.{IsStrictlyIncreasing}
use Rattle.std.specs.Option.{option_or}
use Rattle.std.proofs.lemmas.Bool.{cases_Bool, cases_lt}
use Rattle.std.proofs.lemmas.List.{get_or-replicate, length-map, length-replicate}
use Rattle.std.proofs.lemmas.List.Elements.{Contains-append_cases, Contains-append_right}
use Rattle.std.proofs.lemmas.List.Folds.{find-append}
use Rattle.vocabulary.specs.Prelude.{Code, Fault, LLined, LRecord, Record}
use Rattle.spy_grammar.specs.declared.code.Code.TheVariants as codes
use Rattle.semantics.specs.Faults.{at_line}
use Rattle.semantics.specs.Launches.{Expanded, TaskLaunch, breaks_launch, interferes_in_launch, launch_records, launch_rules, launches_by, launches_fault, not_expanded, with_launching, writes, written_log}
use Rattle.launch_claims.specs.Interference.{IsLeast}
use Rattle.std.proofs.lemmas.Option.{none-some}
use Rattle.launches.specs.Interfering.{BreaksAt, first_fault}
use Rattle.launches.specs.declared.launched.Launched.{Launched}
use Rattle.launches.specs.Steps.{IsKept, expanded_as, single_broken, single_rules}
use Rattle.launches.specs.Walks.{AreInOrder, HasWalked}
use Rattle.launches.proofs.Breaking.{Beside, IsEarlier, old_or_new, on_line, zip_more, zip_parts, zip_shorter, breaks_earlier, breaks_later, breaks_now, interferes_now}
use Rattle.list_lemmas.proofs.lemmas.Contained.{member_map, Contains-cases}

-- ---- the rules on one record

rules_or : (e : Expanded) (r : LRecord) → find (breaks_launch e r) launch_rules
    ≡ option_or (single_broken e r) (if interferes_in_launch e r then Some codes.LaunchInterference else None)
rules_or e r = find-append (breaks_launch e r) single_rules (codes.LaunchInterference ∷ [])

fault_by : (e : Expanded) (l : LLined) (rest : List LLined) (o : Option Code) → find (breaks_launch e l.rec) launch_rules ≡ o
    → launches_fault e (l ∷ rest) ≡ option_or (option_map (λ code. at_line code l.line) o) (launches_fault (with_launching e l.rec) rest)
fault_by e l rest o is =
    ap (λ (p : Option Code). option_or (option_map (λ code. at_line code l.line) p) (launches_fault (with_launching e l.rec) rest)) is

-- a record that breaks a rule by itself
fault_single : (e : Expanded) (l : LLined) (rest : List LLined) (code : Code) → single_broken e l.rec ≡ Some code
    → launches_fault e (l ∷ rest) ≡ Some (at_line code l.line)
fault_single e l rest code some =
    fault_by e l rest (Some code) (rules_or e l.rec
    ∙ ap (λ (o : Option Code). option_or o (if interferes_in_launch e l.rec then Some codes.LaunchInterference else None)) some)

-- one that breaks none by itself
fault_interfering : (e : Expanded) (l : LLined) (rest : List LLined) → single_broken e l.rec ≡ None → interferes_in_launch e l.rec ≡ true
    → launches_fault e (l ∷ rest) ≡ Some (at_line codes.LaunchInterference l.line)
fault_interfering e l rest none clashes =
    fault_by e l rest (Some codes.LaunchInterference)
    (rules_or e l.rec ∙ ap (λ (o : Option Code). option_or o (if interferes_in_launch e l.rec then Some codes.LaunchInterference
    else None)) none ∙ ap (λ b. if b then Some codes.LaunchInterference else None) clashes)

fault_past : (e : Expanded) (l : LLined) (rest : List LLined) → single_broken e l.rec ≡ None → interferes_in_launch e l.rec ≡ false
    → launches_fault e (l ∷ rest) ≡ launches_fault (with_launching e l.rec) rest
fault_past e l rest none agreeing =
    fault_by e l rest None
    (rules_or e l.rec ∙ ap (λ (o : Option Code). option_or o (if interferes_in_launch e l.rec then Some codes.LaunchInterference
    else None)) none ∙ ap (λ b. if b then Some codes.LaunchInterference else None) agreeing)

-- ---- lines that rise

-- Each record stands on a line before those of all later ones.
abbrev pub Rises : List LLined → Type 0
Rises [] = ⊤
Rises (l ∷ rest) = ((x : LLined) → Contains rest x → l.line < x.line) × Rises rest

abbrev pub lines_of : List LLined → List ℕ
lines_of log = map (λ (l : LLined). l.line) log

-- ---- the walk so far

-- With what is launched and written so far, and the lines beside it: the fault of the log is that of the first interference so far, and else that of the rest.
pub record Walks (log rest : List LLined) (e : Expanded) (ns ms : List ℕ) : Type 0 where
  pub fault : (o : Option ℕ) → IsLeast (BreaksAt (zip ns e.launches) (zip ms e.written)) o
      → launches_fault not_expanded log ≡ first_fault o (launches_fault e rest)
  pub whole : written_log log ≡ (fold with_launching e (launch_records rest)).written
  pub beside : Beside e ns ms
  pub order : AreInOrder (zip ms e.written)
  pub launched : (n : ℕ) → Contains ns n → (x : LLined) → Contains rest x → n < x.line
  pub written : (n : ℕ) → Contains ms n → (x : LLined) → Contains rest x → n < x.line
  pub rises : Rises rest

none_breaks : (n : ℕ) → ¬ BreaksAt [] [] n
none_breaks n b = let lt = b.launched.1 in omega (arith, lt)

start_judged : (fault : Option Fault) (o : Option ℕ) → IsLeast (BreaksAt [] []) o → fault ≡ first_fault o fault
start_judged fault None least = refl
start_judged fault (Some n) least = absurd (none_breaks n least.0)

walks_from : (log : List LLined) → Rises log → Walks log log not_expanded [] []
walks_from log rises = record {
  fault = start_judged (launches_fault not_expanded log);
  whole = refl;
  beside = record { launched = refl; written = refl };
  order = tt;
  launched = λ n h. absurd (let lt = h.1 in omega (arith, lt));
  written = λ n h. absurd (let lt = h.1 in omega (arith, lt));
  rises = rises;
}

-- ---- one record more

after_end : (e : Expanded) (ns ms : List ℕ) (nl : List TaskLaunch) (nr : List Record) (t n : ℕ) → IsEarlier t (zip ms e.written)
    → BreaksAt (zip ns e.launches ++ on_line t nl) (zip ms e.written ++ on_line t nr) n → n ≤ t
after_end e ns ms nl nr t n before b = elim (old_or_new t (zip ms e.written) nr b.own b.writes) [
  | inl old ↦ let lt = before b.own old in let at = b.at in omega (arith, lt, at)
  | inr new ↦ let is = new.0 in let at = b.at in omega (arith, is, at)
]

before_end : (ls : List (ℕ × TaskLaunch)) (ws : List (ℕ × Record)) (t n : ℕ) → IsEarlier t ws → BreaksAt ls ws n → n < t
before_end ls ws t n before b = let lt = before b.own b.writes in let at = b.at in omega (arith, lt, at)

judged_more : (log rest : List LLined) (l : LLined) (e : Expanded) (ns ms : List ℕ) → Walks log (l ∷ rest) e ns ms
    → single_broken e l.rec ≡ None → IsEarlier l.line (zip ns e.launches) → IsEarlier l.line (zip ms e.written)
    → (o : Option ℕ) → IsLeast (BreaksAt (zip ns e.launches ++ on_line l.line (launches_by l.rec))
    (zip ms e.written ++ on_line l.line (writes e l.rec))) o
    → launches_fault not_expanded log ≡ first_fault o (launches_fault (with_launching e l.rec) rest)
judged_more log rest l e ns ms w none earlier before None least =
    let ls = zip ns e.launches in
    let ws = zip ms e.written in
    let nl = launches_by l.rec in
    let nr = writes e l.rec in
    let t = l.line in
    let agreeing : interferes_in_launch e l.rec ≡ false = elim (cases_Bool (interferes_in_launch e l.rec)) [
      | inl clashes ↦ absurd (least t (breaks_now e l.rec ns ms nl t w.beside earlier before clashes))
      | inr agreeing ↦ agreeing
    ] in
    w.fault None (λ n b. let lt = before_end ls ws t n before b in least n (breaks_later ls ws nl nr t n (omega (arith, lt)) b))
    ∙ fault_past e l rest none agreeing
judged_more log rest l e ns ms w none earlier before (Some n) least =
    let ls = zip ns e.launches in
    let ws = zip ms e.written in
    let nl = launches_by l.rec in
    let nr = writes e l.rec in
    let t = l.line in
    elim (cases_lt n t) [
      | inl lt ↦ w.fault (Some n) (
        breaks_earlier ls ws nl nr t n lt least.0,
        λ m b. let le = before_end ls ws t m before b in
            least.1 m (breaks_later ls ws nl nr t m (omega (arith, le)) b),
      )
      | inr le ↦
          let most = after_end e ns ms nl nr t n before least.0 in
          let at : n ≡ t = omega (arith, le, most) in
          let now : BreaksAt (ls ++ on_line t nl) (ws ++ on_line t nr) t =
          subst (λ (m : ℕ). BreaksAt (ls ++ on_line t nl) (ws ++ on_line t nr) m) at least.0 in
          w.fault None (λ m b.
          let lt = before_end ls ws t m before b in
          let later = least.1 m (breaks_later ls ws nl nr t m (omega (arith, lt)) b) in
          omega (arith, lt, later, at))
          ∙ fault_interfering e l rest none (interferes_now e l.rec ns ms nl t w.beside before now)
          ∙ ap (λ (m : ℕ). Some (at_line codes.LaunchInterference m)) (sym at)
    ]

in_replicate : (k t n : ℕ) → Contains (replicate k t) n → n ≡ t
in_replicate k t n h =
    let lt : h.0 < k = omega (arith, h.1, length-replicate k t) in
    sym h.2 ∙ get_or-replicate k h.0 t n lt

order_line : (t : ℕ) (rs : List Record) → AreInOrder (on_line t rs)
order_line t [] = tt
order_line t (r ∷ rs) = (
  λ v h. let made = member_map (λ (x : Record). (t, x)) rs v h in let is = ap (λ (p : ℕ × Record). p.0) made.2 in
      omega (arith, is),
  order_line t rs,
)

order_more : (t : ℕ) (ws : List (ℕ × Record)) (rs : List Record) → AreInOrder ws → IsEarlier t ws → AreInOrder (ws ++ on_line t rs)
order_more t [] rs order before = order_line t rs
order_more t (w ∷ ws) rs order before = (
  λ v h. elim (old_or_new t ws rs v h) [
    | inl old ↦ order.0 v old
    | inr new ↦ let lt = before w (0, omega arith, refl) in let is = new.0 in omega (arith, lt, is)
  ],
  order_more t ws rs order.1 (λ x h. before x (Contains-append_right (w ∷ []) ws x h)),
)

lines_more : (l : LLined) (rest : List LLined) (ns : List ℕ) (k : ℕ)
    → ((n : ℕ) → Contains ns n → (x : LLined) → Contains (l ∷ rest) x → n < x.line) → Rises (l ∷ rest)
    → (n : ℕ) → Contains (ns ++ replicate k l.line) n → (x : LLined) → Contains rest x → n < x.line
lines_more l rest ns k so_far rises n h x later = elim (Contains-append_cases ns (replicate k l.line) n h) [
  | inl old ↦ so_far n old x (Contains-append_right (l ∷ []) rest x later)
  | inr new ↦ let is = in_replicate k l.line n new in let lt = rises.0 x later in omega (arith, is, lt)
]

walks_step : (log rest : List LLined) (l : LLined) (e : Expanded) (ns ms : List ℕ) → Walks log (l ∷ rest) e ns ms
    → single_broken e l.rec ≡ None
    → Walks log rest (with_launching e l.rec) (ns ++ replicate (length (launches_by l.rec)) l.line)
    (ms ++ replicate (length (writes e l.rec)) l.line)
walks_step log rest l e ns ms w none =
    let ls = zip ns e.launches in
    let ws = zip ms e.written in
    let nl = launches_by l.rec in
    let nr = writes e l.rec in
    let t = l.line in
    let earlier : IsEarlier t ls = λ x h. w.launched x.0 (zip_parts ns e.launches x h).0 l (0, omega arith, refl) in
    let before : IsEarlier t ws = λ x h. w.written x.0 (zip_parts ms e.written x h).0 l (0, omega arith, refl) in
    let launches : zip (ns ++ replicate (length nl) t) (e.launches ++ nl) ≡ ls ++ on_line t nl =
    zip_more t ns e.launches nl w.beside.launched in
    let records : zip (ms ++ replicate (length nr) t) (e.written ++ nr) ≡ ws ++ on_line t nr =
    zip_more t ms e.written nr w.beside.written in
    let one = w.beside.launched in
    let two = w.beside.written in
    record {
      fault = λ o least. judged_more log rest l e ns ms w none earlier before o
          (subst (λ (xs : List (ℕ × TaskLaunch)). IsLeast (BreaksAt xs (ws ++ on_line t nr)) o) launches
          (subst (λ (xs : List (ℕ × Record)). IsLeast
          (BreaksAt (zip (ns ++ replicate (length nl) t) (e.launches ++ nl)) xs) o) records least));
      whole = w.whole;
      beside = record {
        launched = length-append ns (replicate (length nl) t) ∙ ap (λ k. length ns + k) (length-replicate (length nl) t)
            ∙ ap (λ k. k + length nl) one ∙ sym (length-append e.launches nl);
        written = length-append ms (replicate (length nr) t) ∙ ap (λ k. length ms + k) (length-replicate (length nr) t)
            ∙ ap (λ k. k + length nr) two ∙ sym (length-append e.written nr);
      };
      order = subst AreInOrder (sym records) (order_more t ws nr w.order before);
      launched = lines_more l rest ns (length nl) w.launched w.rises;
      written = lines_more l rest ms (length nr) w.written w.rises;
      rises = w.rises.1;
    }

count_more : {X : Type 0} (ns : List ℕ) (xs ys zs : List X) (k t : ℕ) → length ns ≡ length xs → zs ≡ xs ++ ys → k ≡ length zs
    → replicate (k - length ns) t ≡ replicate (length ys) t
count_more ns xs ys zs k t long are counted =
    let all = ap length are ∙ length-append xs ys in
    let is : k - length ns ≡ length ys = omega (arith, long, all, counted) in
    ap (λ (n : ℕ). replicate n t) is

-- With a record that breaks no rule by itself.
pub walks_more : (log rest : List LLined) (l : LLined) (e f : Expanded) (ns ms next_ns next_ms : List ℕ) (k j : ℕ)
    → Walks log (l ∷ rest) e ns ms → single_broken e l.rec ≡ None → f ≡ with_launching e l.rec
    → k ≡ length f.launches → next_ns ≡ ns ++ replicate (k - length ns) l.line → j ≡ length f.written
    → next_ms ≡ ms ++ replicate (j - length ms) l.line → Walks log rest f next_ns next_ms
walks_more log rest l e f ns ms next_ns next_ms k j w none step launches are_ns records are_ms =
    let same_ns : next_ns ≡ ns ++ replicate (length (launches_by l.rec)) l.line =
    are_ns ∙ ap (λ (xs : List ℕ). ns ++ xs) (count_more ns e.launches (launches_by l.rec) f.launches k l.line w.beside.launched
    (ap (λ (x : Expanded). x.launches) step) launches) in
    let same_ms : next_ms ≡ ms ++ replicate (length (writes e l.rec)) l.line =
    are_ms ∙ ap (λ (xs : List ℕ). ms ++ xs) (count_more ms e.written (writes e l.rec) f.written j l.line w.beside.written
    (ap (λ (x : Expanded). x.written) step) records) in
    subst (λ (x : Expanded). Walks log rest x next_ns next_ms) (sym step)
    (subst (λ (xs : List ℕ). Walks log rest (with_launching e l.rec) xs next_ms) (sym same_ns)
    (subst (λ (xs : List ℕ). Walks log rest (with_launching e l.rec) (ns ++ replicate (length (launches_by l.rec)) l.line) xs) (sym same_ms)
    (walks_step log rest l e ns ms w none)))

-- At the end of the log.
pub walks_end : (log : List LLined) (e : Expanded) (ns ms : List ℕ) → Walks log [] e ns ms → HasWalked log e ns ms None
walks_end log e ns ms w =
    let one = w.beside.launched in
    let two = w.beside.written in
    record {
      fault = w.fault;
      whole = λ none. sym w.whole;
      launches = omega (arith, one);
      records = omega (arith, two);
      order = w.order;
    }

-- At a record that breaks a rule by itself.
pub walks_fault : (log rest : List LLined) (l : LLined) (e f : Expanded) (ns ms : List ℕ) (code : Code) → Walks log (l ∷ rest) e ns ms
    → single_broken e l.rec ≡ Some code → IsKept e f → HasWalked log f ns ms (Some (at_line code l.line))
walks_fault log rest l e f ns ms code w broken kept =
    let launches : zip ns f.launches ≡ zip ns e.launches =
    ap (zip ns) kept.launches.1 ∙ zip_shorter ns e.launches kept.launches.0 w.beside.launched in
    let records : zip ms f.written ≡ zip ms e.written =
    ap (zip ms) kept.written.1 ∙ zip_shorter ms e.written kept.written.0 w.beside.written in
    let one = w.beside.launched in
    let two = w.beside.written in
    let three = ap length kept.launches.1 ∙ length-append e.launches kept.launches.0 in
    let four = ap length kept.written.1 ∙ length-append e.written kept.written.0 in
    record {
      fault = λ o least.
          w.fault o (subst (λ (xs : List (ℕ × TaskLaunch)). IsLeast (BreaksAt xs (zip ms e.written)) o) launches
          (subst (λ (xs : List (ℕ × Record)). IsLeast (BreaksAt (zip ns f.launches) xs) o) records least))
          ∙ ap (first_fault o) (fault_single e l rest code broken);
      whole = λ none. absurd (none-some (at_line code l.line) (sym none));
      launches = omega (arith, one, three);
      records = omega (arith, two, four);
      order = subst AreInOrder (sym records) w.order;
    }

-- ---- at the start

rest_up : (n : ℕ) (xs : List ℕ) → IsStrictlyIncreasing (n ∷ xs) → IsStrictlyIncreasing xs
rest_up n xs up k lt =
    let next : suc k + 1 ≡ suc (k + 1) = omega arith in
    subst (λ (m : ℕ). get_or (n ∷ xs) (suc k) 0 < get_or (n ∷ xs) m 0) next (up (suc k) (omega (arith, lt)))

later_lines : (n : ℕ) (log : List LLined) → IsStrictlyIncreasing (n ∷ lines_of log) → (x : LLined) → Contains log x → n < x.line
later_lines n [] up x h = absurd (let lt = h.1 in omega (arith, lt))
later_lines n (l ∷ rest) up x h =
    let first : n < l.line = up 0 (omega (arith, length-map rest (λ (l : LLined). l.line))) in
    elim (Contains-cases rest h) [
      | inl is ↦ let same = ap (λ (y : LLined). y.line) is in omega (arith, first, same)
      | inr later ↦
          let lt = later_lines l.line rest (rest_up n (lines_of (l ∷ rest)) up) x later in
          omega (arith, first, lt)
    ]

rises_from : (log : List LLined) → IsStrictlyIncreasing (lines_of log) → Rises log
rises_from [] up = tt
rises_from (l ∷ rest) up = (later_lines l.line rest up, rises_from rest (rest_up l.line (lines_of rest) up))

pub walks_start : (log rest : List LLined) (ls : List Launched) (ws : List Record) (ns ms : List ℕ) → IsStrictlyIncreasing (lines_of log)
    → rest ≡ log → ls ≡ [] → ws ≡ [] → ns ≡ [] → ms ≡ [] → Walks log rest (expanded_as ls ws) ns ms
walks_start log rest ls ws ns ms up all no_ls no_ws no_ns no_ms =
    subst (λ (xs : List LLined). Walks log xs (expanded_as ls ws) ns ms) (sym all)
    (subst (λ (xs : List Launched). Walks log log (expanded_as xs ws) ns ms) (sym no_ls)
    (subst (λ (xs : List Record). Walks log log (expanded_as [] xs) ns ms) (sym no_ws)
    (subst (λ (xs : List ℕ). Walks log log not_expanded xs ms) (sym no_ns)
    (subst (λ (xs : List ℕ). Walks log log not_expanded [] xs) (sym no_ms)
    (walks_from log (rises_from log up))))))

-- There is a line for each launch, and more launches afterwards.
pub launches_grow : (log rest : List LLined) (e f : Expanded) (ns ms : List ℕ) (r : LRecord) (k : ℕ) → Walks log rest e ns ms
    → f ≡ with_launching e r → k ≡ length f.launches → length ns ≤ k
launches_grow log rest e f ns ms r k w step counted =
    let one = w.beside.launched in
    let two = ap (λ (x : Expanded). length x.launches) step ∙ length-append e.launches (launches_by r) in
    omega (arith, one, two, counted)

-- The fault of the log, where the first interference is known.
pub fault_told : (log : List LLined) (e : Expanded) (ns ms : List ℕ) (shown r : Option Fault) (o : Option ℕ) (ls : List TaskLaunch)
    (ws : List Record) → HasWalked log e ns ms shown → ls ≡ e.launches → ws ≡ e.written
    → IsLeast (BreaksAt (zip ns ls) (zip ms ws)) o → r ≡ first_fault o shown → launches_fault not_expanded log ≡ r
fault_told log e ns ms shown r o ls ws w launches written least told =
    w.fault o (subst (λ (xs : List TaskLaunch). IsLeast (BreaksAt (zip ns xs) (zip ms e.written)) o) launches
    (subst (λ (xs : List Record). IsLeast (BreaksAt (zip ns ls) (zip ms xs)) o) written least))
    ∙ sym told
