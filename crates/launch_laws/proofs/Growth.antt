-- What is declared stays declared as a log goes on, and where a record of the log stands.
use Rattle.std.proofs.Common.{◌≡◌, ℕ, zero, suc, ◌+◌, ◌==◌, Bool, true, inl, inr, List, [], ◌∷◌, ◌++◌, map, refl, sym, ap, ◌∙◌, subst, arith, Some, None, slice_get, fold, length, append_assoc, append-nil, Contains}
use Rattle.std.specs.List.{list_any, position_or_len}
use Rattle.std.specs.Option.{option_map_or}
use Rattle.std.proofs.lemmas.Bool.{cases_Bool}
use Rattle.std.proofs.lemmas.List.Sums.{fold-append}
use Rattle.std.proofs.lemmas.List.Folds.{list_any-append}
use Rattle.vocabulary.specs.Prelude.{Rect, Record, Lined, Item, lined, lined_from, Tables, Space, with_space, with_record, no_tables, tables_of, place_of, points_in, points_of, plane_points, rect_of, strip}
use Rattle.spy_grammar.specs.declared.record.Record.TheVariants as records
use Rattle.semantics.specs.Rules.{is_declared, space_id, item_id}
use Rattle.semantics.specs.Faults.{records_fault}
use Rattle.std.proofs.lemmas.List.Elements.{Contains-append_left}
use Rattle.list_lemmas.proofs.lemmas.Contained.{find_any, find_still}
use Rattle.list_lemmas.proofs.lemmas.Parts.{place_len}
use Rattle.log_laws.proofs.lemmas.Admitted.{Unbroken, unbroken}
use Rattle.list_lemmas.proofs.lemmas.Places.{still_at}

-- ---- the tables of a log that goes on

abbrev pub with_line : Tables → Lined → Tables
with_line t l = with_record t l.line l.rec

lined_more : (n : ℕ) (xs ys : List Record) → lined_from n (xs ++ ys) ≡ lined_from n xs ++ lined_from (n + length xs) ys
lined_more n [] ys = ap (λ m. lined_from m ys) (omega arith)
lined_more n (x ∷ xs) ys = ap (λ ls. record { line = n; rec = x } ∷ ls) (lined_more (n + 1) xs ys
    ∙ ap (λ m. lined_from (n + 1) xs ++ lined_from m ys) (omega arith))

pub tables_more : (xs ys : List Record) → tables_of (lined (xs ++ ys))
    ≡ fold with_line (tables_of (lined xs)) (lined_from (1 + length xs) ys)
tables_more xs ys = ap tables_of (lined_more 1 xs ys) ∙ fold-append with_line no_tables (lined xs) (lined_from (1 + length xs) ys)

stays_so : (P : Tables → Type 0) → ((t : Tables) (line : ℕ) (r : Record) → P t → P (with_record t line r)) → (t : Tables) (log : List Lined)
    → P t → P (fold with_line t log)
stays_so P step t [] h = h
stays_so P step t (l ∷ log) h = stays_so P step (with_line t l) log (step t l.line l.rec h)

-- What stays with each record stays to the end of a log.
pub stays : (P : Tables → Type 0) → ((t : Tables) (line : ℕ) (r : Record) → P t → P (with_record t line r)) → (xs ys : List Record)
    → P (tables_of (lined xs)) → P (tables_of (lined (xs ++ ys)))
stays P step xs ys h = subst P (sym (tables_more xs ys)) (stays_so P step (tables_of (lined xs)) (lined_from (1 + length xs) ys) h)

-- ---- what stays

-- An item.
pub item_stays : (i : Item) (t : Tables) (line : ℕ) (r : Record) → Contains t.items i → Contains (with_record t line r).items i
item_stays i t line (records.Task id) m = Contains-append_left t.items _ i m
item_stays i t line (records.Fill id tree space fields n) m = Contains-append_left t.items _ i m
item_stays i t line _ m = m

pub place_stays : (k : ℕ) (i : Item) (t : Tables) (line : ℕ) (r : Record) → slice_get t.items k ≡ Some i
    → slice_get (with_record t line r).items k ≡ Some i
place_stays k i t line (records.Task id) e = still_at t.items _ k i e
place_stays k i t line (records.Fill id tree space fields n) e = still_at t.items _ k i e
place_stays k i t line _ e = e

-- That some item has an id.
pub id_stays : (id : ℕ) (t : Tables) (line : ℕ) (r : Record) → is_declared t (item_id id) ≡ true
    → is_declared (with_record t line r) (item_id id) ≡ true
id_stays id t line (records.Task other) e = list_any-append (λ (i : Item). i.id == id) t.items _ ∙ rw e refl
id_stays id t line (records.Fill other tree space fields n) e = list_any-append (λ (i : Item). i.id == id) t.items _ ∙ rw e refl
id_stays id t line _ e = e

-- A space with its points.
abbrev pub HasPoints : ℕ → List ℕ → Tables → Type 0
HasPoints space points t = (is_declared t (space_id space) ≡ true) × (points_in t space ≡ points)

with_one : (space : ℕ) (points : List ℕ) (t : Tables) (id : ℕ) (more : List ℕ) (rects : List Rect) → HasPoints space points t
    → HasPoints space points (with_space t id more rects)
with_one space points t id more rects h =
    let found = find_any (λ (s : Space). s.id == space) t.spaces h.0 in (
      list_any-append (λ (s : Space). s.id == space) t.spaces _ ∙ rw h.0 refl,
      ap (λ o. option_map_or (λ (s : Space). s.points) o []) (find_still (λ (s : Space). s.id == space) t.spaces _ found.0 found.1
          ∙ sym found.1) ∙ h.1,
    )

pub points_stay : (space : ℕ) (points : List ℕ) (t : Tables) (line : ℕ) (r : Record) → HasPoints space points t
    → HasPoints space points (with_record t line r)
points_stay space points t line (records.Ispace id set) h = with_one space points t id (points_of set) (map strip set) h
points_stay space points t line (records.Plane id quads) h = with_one space points t id (plane_points quads) (map rect_of quads) h
points_stay space points t line _ h = h

-- ---- where a record stands

skipped : (log : List Record) (earlier more rest : List Lined) → records_fault log earlier (more ++ rest) ≡ None
    → records_fault log (earlier ++ more) rest ≡ None
skipped log earlier [] rest e = subst (λ ls. records_fault log ls rest ≡ None) (sym (append-nil earlier)) e
skipped log earlier (l ∷ more) rest e = subst (λ ls. records_fault log ls rest ≡ None) (append_assoc earlier (l ∷ []) more)
    (skipped log (earlier ++ l ∷ []) more rest (unbroken log earlier l (more ++ rest) e).1)

-- A record of a log without a broken rule breaks none after those before it.
pub unbroken_at : (log : List Record) (xs : List Record) (x : Record) (ys : List Record)
    → records_fault log [] (lined (xs ++ x ∷ ys)) ≡ None → Unbroken log (lined xs) x
unbroken_at log xs x ys e =
    (unbroken log (lined xs) (record { line = 1 + length xs; rec = x }) (lined_from (1 + length xs + 1) ys)
    (skipped log [] (lined xs) (lined_from (1 + length xs) (x ∷ ys))
    (subst (λ ls. records_fault log [] ls ≡ None) (lined_more 1 xs (x ∷ ys)) e))).0

-- ---- the place of an id

first_at : {X : Type 0} (p : X → Bool) (xs : List X) → list_any p xs ≡ true → (x : X) × (slice_get xs (position_or_len p xs) ≡ Some x)
    × (p x ≡ true)
first_at p [] e = absurd cc
first_at p (x ∷ xs) e = elim (cases_Bool (p x)) [
  | inl here ↦ (x, rw here refl, here)
  | inr not_here ↦
      let later = first_at p xs (rw not_here at e) in
      let one : 1 + position_or_len p xs ≡ suc (position_or_len p xs) = omega arith in
      (later.0, rw not_here (ap (slice_get (x ∷ xs)) one ∙ later.1), later.2)
]

-- The item of an id that is declared.
pub item_placed : (t : Tables) (id : ℕ) → is_declared t (item_id id) ≡ true → (i : Item)
    × (slice_get t.items (place_of t.items id) ≡ Some i) × ((i.id == id) ≡ true)
item_placed t id e =
    let first = first_at (λ (i : Item). i.id == id) t.items e in
    (first.0, ap (slice_get t.items) (place_len (λ (i : Item). i.id == id) t.items) ∙ first.1, first.2)
