-- The points of a space, declared or not, are in ascending order.
use Rattle.std.proofs.Common.{ℕ, inl, inr, ◌==◌, List, [], ◌∷◌, find, fold, Contains, ◌<◌}
use Rattle.std.specs.List.{AllByRecursion}
use Rattle.vocabulary.specs.Prelude.{Record, Lined, Good, records_of, Tables, Space, with_record, no_tables, tables_of, points_in}
use Rattle.spy_grammar.specs.declared.record.Record.TheVariants as records
use Rattle.list_lemmas.proofs.lemmas.Contained.{each_more, found_at, Contains-nil}
use Rattle.list_lemmas.proofs.lemmas.Firsts.{cases_option}
use Rattle.list_lemmas.proofs.lemmas.Pairs.{Apart, AllPairs-nil}
use Rattle.list_lemmas.proofs.lemmas.Ranges.{Rise, rise_apart}
use Rattle.log_laws.proofs.lemmas.Apart.{points_rise, plane_rises}
use Rattle.point_laws.specs.Alike.{HasPointsInOrder}

-- ---- the tables of a log whose records are good

abbrev SpacesRise : Tables → Type 0
SpacesRise t = (s : Space) → Contains t.spaces s → Rise s.points

with_good : (t : Tables) (line : ℕ) (r : Record) → Good r → SpacesRise t → SpacesRise (with_record t line r)
with_good t line (records.Ispace id set) good h = each_more _ t.spaces _ h (points_rise set good.1.0)
with_good t line (records.Plane id quads) good h = each_more _ t.spaces _ h (plane_rises quads good.1.0)
with_good t line _ good h = h

all_good : (t : Tables) (log : List Lined) → AllByRecursion Good (records_of log) → SpacesRise t
    → SpacesRise (fold (λ t (l : Lined). with_record t l.line l.rec) t log)
all_good t [] good h = h
all_good t (l ∷ log) good h = all_good (with_record t l.line l.rec) log good.1 (with_good t l.line l.rec good.0 h)

pub good_in_order : (log : List Lined) → AllByRecursion Good (records_of log) → HasPointsInOrder (tables_of log)
good_in_order log good s c = (all_good no_tables log good (λ s m. absurd (Contains-nil m)) s c)

-- ---- any tables with points in order

pub points_in_rise : (t : Tables) → HasPointsInOrder t → (id : ℕ) → Rise (points_in t id)
points_in_rise t order id = elim (cases_option (find (λ (s : Space). s.id == id) t.spaces)) [
  | inl none ↦ rw none (AllPairs-nil (λ x y. x < y))
  | inr some ↦ rw some.1 (order some.0 (found_at (λ (s : Space). s.id == id) t.spaces some.0 some.1).0)
]

pub points_in_apart : (t : Tables) → HasPointsInOrder t → (id : ℕ) → Apart (points_in t id)
points_in_apart t order id = rise_apart (points_in t id) (points_in_rise t order id)
