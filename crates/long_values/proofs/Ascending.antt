-- In an admitted log the places that a task reads ascend, by requirement, point and field.
use Rattle.std.proofs.Common.{◌≡◌, ℕ, ◌<◌, inl, inr, Bool, true, List, [], AllPairs, refl, sym, ap, ◌∙◌, arith, map, filter, find, ◌==◌, Contains}
use Rattle.std.specs.List.{AllByRecursion}
use Rattle.std.proofs.lemmas.Bool.{eqb-true}
use Rattle.std.proofs.lemmas.Bool.Decides.{nat_tests}
use Rattle.std.proofs.lemmas.List.Kept.{AllPairs-filter}
use Rattle.vocabulary.specs.Prelude.{Record, Lined, Good, may_read, Place, Req, records_of, Tables, Space, with_record, tables_of, points_in, req_grid, reqs_of, comes_first, Command}
use Rattle.spy_grammar.specs.declared.record.Record.TheVariants as records
use Rattle.list_lemmas.proofs.lemmas.Contained.{each_more, member_map, found_at, Contains-nil}
use Rattle.list_lemmas.proofs.lemmas.Filtered.{of_filter}
use Rattle.list_lemmas.proofs.lemmas.Firsts.{cases_option}
use Rattle.list_lemmas.proofs.lemmas.Pairs.{AllPairs-map, AllPairs-so, AllPairs-flat, AllPairs-nil}
use Rattle.list_lemmas.proofs.lemmas.Ranges.{Rise}
use Rattle.log_laws.proofs.lemmas.Apart.{fields_rise, points_rise, plane_rises}
use Rattle.log_laws.proofs.lemmas.Consistent.{AreConsistent, FitTogether}
use Rattle.log_laws.proofs.lemmas.Admitted.{IsFaultless, by_records, consistent}
use Rattle.long_values.specs.LongSequential.{places_of, places_read}

record DoRise (t : Tables) : Type 0 where
  spaces : (s : Space) → Contains t.spaces s → Rise s.points
  fields : (r : Req) → Contains t.reqs r → Rise r.fields

with_good : (t : Tables) (line : ℕ) (r : Record) → Good r → DoRise t → DoRise (with_record t line r)
with_good t line (records.Ispace id set) good h =
    record { spaces = each_more _ t.spaces _ h.spaces (points_rise set good.1.0); fields = h.fields }
with_good t line (records.Plane id quads) good h =
    record { spaces = each_more _ t.spaces _ h.spaces (plane_rises quads good.1.0); fields = h.fields }
with_good t line (records.Req _ _ _ _ _ _) good h =
    record { spaces = h.spaces; fields = each_more _ t.reqs _ h.fields (fields_rise _ good.1.1.1.0) }
with_good t line _ good h = record { spaces = h.spaces; fields = h.fields }

points_in_rise : (t : Tables) (id : ℕ) → DoRise t → Rise (points_in t id)
points_in_rise t id h = elim (cases_option (find (λ (s : Space). s.id == id) t.spaces)) [
  | inl none ↦ rw none (AllPairs-nil (λ x y. x < y))
  | inr some ↦ rw some.1 (h.spaces some.0 (found_at (λ (s : Space). s.id == id) t.spaces some.0 some.1).0)
]

-- A requirement and a place, as numbers.
abbrev key : ℕ × Place → ℕ × ℕ × ℕ
key e = (e.0, e.1.point, e.1.field)

abbrev First : ℕ × Place → ℕ × Place → Type 0
First d e = comes_first (key d) (key e) ≡ true

by_number : (d e : ℕ × Place) → d.0 < e.0 → First d e
by_number d e lt = grind (arith, nat_tests)

by_point : (d e : ℕ × Place) → d.0 ≡ e.0 → d.1.point < e.1.point → First d e
by_point d e same lt = grind (arith, nat_tests)

by_field : (d e : ℕ × Place) → d.0 ≡ e.0 → d.1.point ≡ e.1.point → d.1.field < e.1.field → First d e
by_field d e same at lt = grind (arith, nat_tests)

-- Of two requirements of one item the later has the larger number.
abbrev Later : Req → Req → Type 0
Later q r = q.item ≡ r.item → q.number < r.number

-- One requirement's places ascend.
one_rises : (t : Tables) (r : Req) → DoRise t → Rise r.fields → AllPairs First (places_of t r)
one_rises t r h fields =
    let read_at : ℕ × ℕ → ℕ × Place = λ p. (r.number, record { tree = r.tree; point = p.0; field = p.1 }) in
    let row : ℕ → List (ℕ × ℕ) = λ x. map (λ f. (x, f)) r.fields in
    let Before : ℕ × ℕ → ℕ × ℕ → Type 0 = λ p q. First (read_at p) (read_at q) in
    let Less : ℕ → ℕ → Type 0 = λ x y. x < y in
    AllPairs-map First read_at (req_grid t r) (AllPairs-flat Before row (points_in t r.space)
    (λ x _. AllPairs-map Before (λ f. (x, f)) r.fields (AllPairs-so Less (λ f g. Before (x, f) (x, g)) r.fields
    (λ f g _ _ lt. by_field (read_at (x, f)) (read_at (x, g)) refl refl lt) fields))
    (AllPairs-so Less (λ x y. (p q : ℕ × ℕ) → Contains (row x) p → Contains (row y) q → Before p q) (points_in t r.space)
    (λ x y _ _ lt p q m n.
    let a = member_map (λ f. (x, f)) r.fields p m in
    let b = member_map (λ f. (y, f)) r.fields q n in
    by_point (read_at p) (read_at q) refl (omega (arith, lt, ap (λ (p : ℕ × ℕ). p.0) a.2, ap (λ (p : ℕ × ℕ). p.0) b.2)))
    (points_in_rise t r.space h)))

number_of : (t : Tables) (r : Req) (e : ℕ × Place) → Contains (places_of t r) e → e.0 ≡ r.number
number_of t r e m = ap (λ (e : ℕ × Place). e.0)
    (member_map (λ (p : ℕ × ℕ). (r.number, record { tree = r.tree; point = p.0; field = p.1 })) (req_grid t r) e m).2

all_rise : (t : Tables) (item : ℕ) → AreConsistent t → DoRise t → AllPairs First (places_read t item)
all_rise t item consistent h =
    let own : List Req = reqs_of t item in
    let reads : Req → Bool = λ (r : Req). may_read r.access in
    let up : AllPairs Later t.reqs = AllPairs-so (FitTogether t) Later t.reqs (λ q r _ _ fit same. (fit same).0) consistent.reqs in
    let kept : AllPairs Later (filter reads own) =
    AllPairs-filter Later reads own (AllPairs-filter Later (λ (r : Req). r.item == item) t.reqs up) in
    AllPairs-flat First (places_of t) (filter reads own)
    (λ r m. one_rises t r h (h.fields r (of_filter (λ (r : Req). r.item == item) t.reqs r (of_filter reads own r m).0).0))
    (AllPairs-so Later (λ q r. (d e : ℕ × Place) → Contains (places_of t q) d → Contains (places_of t r) e → First d e) (filter reads own)
    (λ q r m n up d e a b.
    let at = (of_filter (λ (r : Req). r.item == item) t.reqs q (of_filter reads own q m).0).1 in
    let there = (of_filter (λ (r : Req). r.item == item) t.reqs r (of_filter reads own r n).0).1 in
    by_number d e (omega (
      arith,
      number_of t q d a,
      number_of t r e b,
      up (eqb-true q.item item at ∙ sym (eqb-true r.item item there)),
    ))) kept)

pub places_rise : (command : Command) (log : List Lined) → AllByRecursion Good (records_of log) → IsFaultless command log → (item : ℕ)
    → AllPairs First (places_read (tables_of log) item)
places_rise command log good f item = all_rise (tables_of log) item (consistent command log f)
    (by_records Good DoRise (records_of log) (λ earlier l u g h. with_good (tables_of earlier) l.line l.rec g h) [] log good f.records
    (record { spaces = λ s m. absurd (Contains-nil m); fields = λ r m. absurd (Contains-nil m) }))
