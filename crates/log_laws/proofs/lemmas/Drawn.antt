-- The spaces of a log whose records are good are of its rectangles.
use Rattle.std.proofs.Common.{◌≡◌, ℕ, ◌+◌, ◌≤◌, List, [], ◌∷◌, ◌++◌, map, fold, All, Contains, inl, inr, refl, sym, ◌∙◌, subst}
use Rattle.std.specs.List.{AllByRecursion, Any}
use Rattle.std.proofs.lemmas.List.{get_or_default}
use Rattle.std.proofs.lemmas.List.Elements.{All-append, All-nil, Contains-append_left, Contains-append_right, Contains-append_cases}
use Rattle.std.proofs.lemmas.List.Quantifiers.{Any-push}
use Rattle.point_set.specs.Rects.{AreRects, Holds, rect_at, rect_points}
use Rattle.point_set.proofs.lemmas.Columns.{of_has}
use Rattle.vocabulary.specs.Prelude.{Good, Lined, Record, Rect, Space, Tables, no_tables, points_of, rect_of, records_of, strip, tables_of, with_record, with_space}
use Rattle.spy_grammar.specs.declared.record.Record.TheVariants as records
use Rattle.semantics.proofs.lemmas.InOrder.{points_of_strips, rects_in_order, strips_in_order}
use Rattle.log_laws.specs.Drawn.{AreDrawn, HasAllOf, IsDrawnIn}
use Rattle.list_lemmas.proofs.lemmas.Contained.{each_more, Contains-nil}

abbrev HasPoint : Rect → Type 0
HasPoint r = (r.x0 ≤ r.x1) × (r.y0 ≤ r.y1)

-- Some space has all of the rectangle.
abbrev IsWithin : List Space → Rect → Type 0
IsWithin spaces r = Any (λ (s : Space). HasAllOf r s.points) spaces

abbrev Drawing : Tables → Type 0
Drawing t = All HasPoint t.rects × ((s : Space) → Contains t.spaces s → IsDrawnIn t.rects s.points) × ((x : Rect) → Contains t.rects x → IsWithin t.spaces x)

more_rects : (rects more : List Rect) (points : List ℕ) → IsDrawnIn rects points → IsDrawnIn (rects ++ more) points
more_rects rects more points h = record {
  parts = h.parts;
  are = h.are;
  listed = λ r c. Contains-append_left rects more r (h.listed r c);
  same = h.same;
}

more_spaces : (spaces : List Space) (s : Space) (r : Rect) → IsWithin spaces r → IsWithin (spaces ++ s ∷ []) r
more_spaces spaces s r h =
    let c = Contains-append_left spaces (s ∷ []) h.1 (h.0, h.2, h.3) in
    (c.0, h.1, c.1, c.2, h.4)

-- Rectangles have all points of each of them.
has_all : (rects : List Rect) (r : Rect) → Contains rects r → HasAllOf r (rect_points rects)
has_all rects r m x y holds =
    let c = m in
    let is : r ≡ rect_at rects c.0 = sym c.2 ∙ get_or_default rects c.0 r (record { x0 = 0; x1 = 0; y0 = 0; y1 = 0 }) c.1 in
    of_has rects x y (record { place = c.0; within = c.1; holds = subst (λ (s : Rect). Holds s x y) is holds })

with_one : (t : Tables) (id : ℕ) (points : List ℕ) (rects : List Rect) → AreRects rects → points ≡ rect_points rects → Drawing t
    → Drawing (with_space t id points rects)
with_one t id points rects are is h =
    let s : Space = record { id = id; points = points } in (
      All-append HasPoint t.rects rects h.0 are.0.some,
      each_more (λ (s : Space). IsDrawnIn (t.rects ++ rects) s.points) t.spaces s
          (λ s m. more_rects t.rects rects s.points (h.1 s m)) (record {
            parts = rects;
            are = are;
            listed = λ r c. Contains-append_right t.rects rects r c;
            same = is;
          }),
      λ r m. elim (Contains-append_cases t.rects rects r m) [
        | inl old ↦ more_spaces t.spaces s r (h.2 r old)
        | inr new ↦ Any-push (λ (s : Space). HasAllOf r s.points) t.spaces s (subst (HasAllOf r) (sym is) (has_all rects r new))
      ],
    )

with_good : (t : Tables) (line : ℕ) (r : Record) → Good r → Drawing t → Drawing (with_record t line r)
with_good t line (records.Ispace id set) good h =
    with_one t id (points_of set) (map strip set) (strips_in_order set good.1.0) (sym (points_of_strips set)) h
with_good t line (records.Plane id quads) good h = with_one t id _ (map rect_of quads) (rects_in_order quads good.1.0) refl h
with_good t line _ good h = h

all_good : (t : Tables) (log : List Lined) → AllByRecursion Good (records_of log) → Drawing t
    → Drawing (fold (λ t (l : Lined). with_record t l.line l.rec) t log)
all_good t [] good h = h
all_good t (l ∷ log) good h = all_good (with_record t l.line l.rec) log good.1 (with_good t l.line l.rec good.0 h)

pub drawn : (log : List Lined) → AllByRecursion Good (records_of log) → AreDrawn (tables_of log)
drawn log good =
    let all = all_good no_tables log good (All-nil HasPoint, λ s m. absurd (Contains-nil m), λ r m. absurd (Contains-nil m)) in record {
      some = all.0;
      spaces = λ s c. all.1 s c;
      within = λ r c. all.2 r c;
    }
