-- Rectangles of a log are whole cells of its grid, each of which begins at a point of its own.
use Rattle.std.proofs.Common.{◌≡◌, ℕ, ◌+◌, ◌*◌, ◌/◌, ◌%◌, ◌^◌, ◌<◌, ◌==◌, Bool, true, false, ◌||◌, cond, List, [], ◌∷◌, ◌++◌, filter, find, map, length, get_or, Contains, Option, Some, None, MatchOption, refl, sym, ap, ◌∙◌, subst, inl, inr, arith}
use Rattle.std.specs.Prelude.{⊤, option_map}
use Rattle.std.specs.Cmp.{both_ways}
use Rattle.std.specs.List.{list_any}
use Rattle.std.specs.Option.{option_map_or, option_or}
use Rattle.std.proofs.lemmas.Bool.{and_from, cases_Bool, false≢true}
use Rattle.std.proofs.lemmas.List.Elements.{Contains-get_or}
use Rattle.std.proofs.lemmas.Option.{none-some, same_Some}
use Rattle.std.proofs.lemmas.List.Folds.{Any-from_list_any, find-append, list_any-from_Any}
use Rattle.point_set.specs.declared.rect.Rect.{Rect}
use Rattle.point_set.specs.Rects.{AreSmall, Has, rect_at, rect_points}
use Rattle.point_set.proofs.lemmas.Columns.{of_has, to_has}
use Rattle.grid.specs.Corners.{corners_in, is_corner}
use Rattle.grid.specs.Cuts.{Cuts, IsInSpan, cuts, grid_of, x_ends, y_ends}
use Rattle.grid.proofs.lemmas.Cutting.{cuts_ascend, cuts_have, has_ends, has_span, undivided}
use Rattle.vocabulary.specs.Prelude.{Record, Space, Tables, is_in, points_in, points_of, rect_of, strip, with_record}
use Rattle.spy_grammar.specs.declared.record.Record.TheVariants as records
use Rattle.semantics.proofs.lemmas.InOrder.{points_of_strips}
use Rattle.log_tables.specs.Views.{Ascends}
use Rattle.log_tables.proofs.lemmas.Members.{has_in, in_has}
use Rattle.log_rules.specs.Cells.{AreCells, Cell, HasCells, InCell}
use Rattle.log_rules.specs.Own.{claim_points, is_claim_point}
use Rattle.log_rules.specs.Tallied.{AreListed}
use Rattle.log_rules.proofs.ListTests.{list_any-alike}
use Rattle.log_rules.proofs.Loading.{in_filter}

-- ---- Points as columns and rows.

column_of : (p : ℕ) → p ≡ p / 2 ^ 32 * 2 ^ 32 + p % 2 ^ 32
column_of p = omega arith

column_is : (x y : ℕ) → y < 2 ^ 32 → (x * 2 ^ 32 + y) / 2 ^ 32 ≡ x
column_is x y fits = omega arith

row_is : (x y : ℕ) → y < 2 ^ 32 → (x * 2 ^ 32 + y) % 2 ^ 32 ≡ y
row_is x y fits = omega arith

has_point : (rects : List Rect) (p : ℕ) → AreSmall rects → Contains (rect_points rects) p → Has rects (p / 2 ^ 32) (p % 2 ^ 32)
has_point rects p small c =
    let at = to_has rects p small c in
    let is = at.is in
    let fits = at.y_fits in
    let x : at.x ≡ p / 2 ^ 32 = omega (arith, is, fits) in
    let y : at.y ≡ p % 2 ^ 32 = omega (arith, is, fits) in
    subst (λ v. Has rects (p / 2 ^ 32) v) y (subst (λ z. Has rects z at.y) x at.has)

of_point : (rects : List Rect) (p : ℕ) → Has rects (p / 2 ^ 32) (p % 2 ^ 32) → Contains (rect_points rects) p
of_point rects p h = subst (Contains (rect_points rects)) (sym (column_of p)) (of_has rects (p / 2 ^ 32) (p % 2 ^ 32) h)

-- ---- Rectangles among those of the log.

abbrev none : Rect
none = record { x0 = 0; x1 = 0; y0 = 0; y1 = 0 }

abbrev listed : List Rect → List Rect → Type 0
listed all parts = (r : Rect) → Contains parts r → Contains all r

part_listed : (all parts : List Rect) (x y : ℕ) → listed all parts → (h : Has parts x y) → Contains all (rect_at parts h.place)
part_listed all parts x y among h = among (rect_at parts h.place) (Contains-get_or parts h.place none h.within)

moved : (all parts : List Rect) (k l p q : ℕ) → listed all parts → InCell all k l p → InCell all k l q
    → Has parts (p / 2 ^ 32) (p % 2 ^ 32) → Has parts (q / 2 ^ 32) (q % 2 ^ 32)
moved all parts k l p q among here there h =
    let same = undivided all (rect_at parts h.place) k l (p / 2 ^ 32) (p % 2 ^ 32) (q / 2 ^ 32) (q % 2 ^ 32)
    (part_listed all parts _ _ among h) here.column there.column here.row there.row in
    record { place = h.place; within = h.within; holds = same.0 h.holds }

in_cell : (all parts : List Rect) (p : ℕ) → listed all parts → Has parts (p / 2 ^ 32) (p % 2 ^ 32) → Cell all p
in_cell all parts p among h =
    let r : Rect = rect_at parts h.place in
    let ends = has_ends all r (part_listed all parts _ _ among h) in
    let holds = h.holds in
    let right : p / 2 ^ 32 < r.x1 + 1 = omega (arith, holds.right) in
    let high : p % 2 ^ 32 < r.y1 + 1 = omega (arith, holds.high) in
    let k = has_span (grid_of all).xs r.x0 (r.x1 + 1) (p / 2 ^ 32) (cuts_ascend (x_ends all)) ends.left ends.right holds.left right in
    let l = has_span (grid_of all).ys r.y0 (r.y1 + 1) (p % 2 ^ 32) (cuts_ascend (y_ends all)) ends.low ends.high holds.low high in
    (k.0, l.0, record { column = k.1; row = l.1 })

cells_of : (all parts : List Rect) → AreSmall parts → listed all parts → AreCells all (rect_points parts)
cells_of all parts small among =
    let points = rect_points parts in
    let go : (k l a b : ℕ) → InCell all k l a → InCell all k l b → is_in points a ≡ true → is_in points b ≡ true =
    λ k l a b from to e. in_has points b
    (of_point parts b (moved all parts k l a b among from to (has_point parts a small (has_in points a e)))) in
    record {
      cell = λ p e. in_cell all parts p among (has_point parts p small (has_in points p e));
      whole = λ k l p q here there. both_ways (is_in points p) (is_in points q) (go k l p q here there) (go k l q p there here);
    }

-- ---- One record more.

no_cells : (all : List Rect) → AreCells all []
no_cells all = record { cell = λ p e. absurd (false≢true e); whole = λ k l p q here there. refl }

abbrev points_at : Option Space → List ℕ
points_at o = option_map_or (λ (s : Space). s.points) o []

one_more : (all : List Rect) (spaces : List Space) (s : Space)
    → ((id : ℕ) → AreCells all (points_at (find (λ (x : Space). x.id == id) spaces))) → AreCells all s.points
    → (id : ℕ) → AreCells all (points_at (find (λ (x : Space). x.id == id) (spaces ++ s ∷ [])))
one_more all spaces s old new id =
    subst (λ (o : Option Space). AreCells all (points_at o)) (sym (find-append (λ (x : Space). x.id == id) spaces (s ∷ [])))
    (by (find (λ (x : Space). x.id == id) spaces) (s.id == id) (old id))
  where
    by : (o : Option Space) (b : Bool) → AreCells all (points_at o) → AreCells all (points_at (option_or o (cond b (Some s) None)))
    by (Some x) b h = h
    by None true h = new
    by None false h = no_cells all

pub HasCells-add : (all : Option (List Rect)) (t : Tables) (line : ℕ) (r : Record) → Ascends r → AreListed all r → HasCells all t
    → HasCells all (with_record t line r)
HasCells-add None t line r up among old = tt
HasCells-add (Some all) t line (records.Ispace id set) up among old =
    one_more all t.spaces (record { id = id; points = points_of set }) old
    (subst (AreCells all) (points_of_strips set) (cells_of all (map strip set) up.1 among))
HasCells-add (Some all) t line (records.Plane id quads) up among old =
    one_more all t.spaces _ old (cells_of all (map rect_of quads) up.1 among)
HasCells-add (Some all) t line _ up among old = old

-- ---- The point at which a cell begins.

abbrev first : List Rect → ℕ → ℕ → ℕ
first all k l = get_or (grid_of all).xs k 0 * 2 ^ 32 + get_or (grid_of all).ys l 0

first_in_cell : (all : List Rect) (k l p : ℕ) → InCell all k l p → InCell all k l (first all k l)
first_in_cell all k l p h =
    let x = get_or (grid_of all).xs k 0 in
    let y = get_or (grid_of all).ys l 0 in
    let fits : y < 2 ^ 32 = omega (arith, h.row.1) in
    record {
      column = subst (IsInSpan (grid_of all).xs k) (sym (column_is x y fits))
          (h.column.0, omega arith, omega (arith, h.column.1, h.column.2));
      row = subst (IsInSpan (grid_of all).ys l) (sym (row_is x y fits)) (h.row.0, omega arith, omega (arith, h.row.1, h.row.2));
    }

is_end : (ns : List ℕ) (k x n : ℕ) → IsInSpan (cuts ns) k x → n ≡ get_or (cuts ns) k 0 → is_in ns n ≡ true
is_end ns k x n in_span is =
    let within : k < length (cuts ns) = omega (arith, in_span.0) in
    in_has ns n (subst (Contains ns) (sym is) ((cuts_have ns (get_or (cuts ns) k 0)).0 (Contains-get_or (cuts ns) k 0 within)))

first_begins : (all : List Rect) (k l p : ℕ) → InCell all k l p → is_corner all (first all k l) ≡ true
first_begins all k l p h =
    let x = get_or (grid_of all).xs k 0 in
    let y = get_or (grid_of all).ys l 0 in
    let fits : y < 2 ^ 32 = omega (arith, h.row.1) in
    and_from (is_in (x_ends all) (first all k l / 2 ^ 32)) (is_in (y_ends all) (first all k l % 2 ^ 32))
    (is_end (x_ends all) k (p / 2 ^ 32) _ h.column (column_is x y fits)) (is_end (y_ends all) l (p % 2 ^ 32) _ h.row (row_is x y fits))

-- ---- Tests that do not divide a cell.

-- Of the points of a cell all pass a test, or none.
abbrev pub IsOfCells : Option (List Rect) → (ℕ → Bool) → Type 0
IsOfCells all f = MatchOption all ⊤ (λ rects. (k l p q : ℕ) → InCell rects k l p → InCell rects k l q → f p ≡ f q)

any_kept : (q f : ℕ → Bool) (ps : List ℕ) → list_any f (filter q ps) ≡ true → list_any f ps ≡ true
any_kept q f [] h = h
any_kept q f (p ∷ ps) h = elim (cases_Bool (q p)) [
  | inl stays ↦ elim (cases_Bool (f p)) [
    | inl here ↦ ap (λ b. b || list_any f ps) here
    | inr there ↦
        ap (λ b. b || list_any f ps) there
        ∙ any_kept q f ps (sym (ap (λ b. b || list_any f (filter q ps)) there)
        ∙ sym (ap (λ b. list_any f (cond b (p ∷ filter q ps) (filter q ps))) stays) ∙ h)
  ]
  | inr goes ↦
      let rest = any_kept q f ps (sym (ap (λ b. list_any f (cond b (p ∷ filter q ps) (filter q ps))) goes) ∙ h) in
      elim (cases_Bool (f p)) [ inl here ↦ ap (λ b. b || list_any f ps) here | inr there ↦ ap (λ b. b || list_any f ps) there ∙ rest ]
]

any_corner : (all : List Rect) (points : List ℕ) (f : ℕ → Bool) → AreCells all points → IsOfCells (Some all) f
    → list_any f points ≡ true → list_any f (corners_in all points) ≡ true
any_corner all points f cells same h =
    let found = Any-from_list_any f points h in
    let p = found.1 in
    let cell = cells.cell p (in_has points p (found.0, found.2, found.3)) in
    let k = cell.0 in
    let l = cell.1 in
    let begin = first all k l in
    let into = first_in_cell all k l p cell.2 in
    let has = cells.whole k l begin p into cell.2 ∙ in_has points p (found.0, found.2, found.3) in
    let kept = has_in (corners_in all points) begin (in_filter (is_corner all) points begin (first_begins all k l p cell.2) ∙ has) in
    list_any-from_Any f (corners_in all points) (kept.0, begin, kept.1, kept.2, same k l begin p into cell.2 ∙ found.4)

-- Some point passes exactly where one does at which claims are made.
pub any_claim_point : (all : Option (List Rect)) (t : Tables) (id : ℕ) (f : ℕ → Bool) → HasCells all t → IsOfCells all f
    → list_any f (points_in t id) ≡ list_any f (claim_points all (points_in t id))
any_claim_point None t id f cells same = refl
any_claim_point (Some all) t id f cells same =
    let points = points_in t id in
    both_ways (list_any f points) (list_any f (corners_in all points)) (any_corner all points f (cells id) same)
    (any_kept (is_corner all) f points)

any_filtered : (q f g : ℕ → Bool) (ps : List ℕ) → ((p : ℕ) → q p ≡ true → f p ≡ g p)
    → list_any f (filter q ps) ≡ list_any g (filter q ps)
any_filtered q f g [] same = refl
any_filtered q f g (p ∷ ps) same = elim (cases_Bool (q p)) [
  | inl stays ↦ rw (stays, same p stays, any_filtered q f g ps same) refl
  | inr goes ↦ rw goes (any_filtered q f g ps same)
]

-- Tests that agree at these points pass alike.
pub any_alike : (all : Option (List Rect)) (f g : ℕ → Bool) (ps : List ℕ) → ((p : ℕ) → is_claim_point all p ≡ true → f p ≡ g p)
    → list_any f (claim_points all ps) ≡ list_any g (claim_points all ps)
any_alike None f g ps same = list_any-alike f g ps (λ p. same p refl)
any_alike (Some all) f g ps same = any_filtered (is_corner all) f g ps same

-- A point at which claims are made is among those of some points if it is among these.
pub in_claim_points : (all : Option (List Rect)) (ps : List ℕ) (p : ℕ) → is_claim_point all p ≡ true
    → is_in (claim_points all ps) p ≡ is_in ps p
in_claim_points None ps p begins = refl
in_claim_points (Some all) ps p begins = in_filter (is_corner all) ps p begins

-- What code tells of the points of a space where it has a grid.
pub no_claim_points : (all : Option (List Rect)) → claim_points all [] ≡ []
no_claim_points None = refl
no_claim_points (Some all) = refl

pub corners_told : (all : Option (List Rect)) (o : Option Cuts) (grid : Cuts) (told have points : List ℕ) → o ≡ Some grid
    → o ≡ option_map grid_of all → have ≡ points → ((rects : List Rect) → grid ≡ grid_of rects → told ≡ corners_in rects have)
    → told ≡ claim_points all points
corners_told None o grid told have points some is same tells = absurd (none-some grid (sym is ∙ some))
corners_told (Some all) o grid told have points some is same tells =
    tells all (same_Some grid (grid_of all) (sym some ∙ is)) ∙ ap (corners_in all) same

-- Whether a space has a point does not divide a cell.
pub of_cells : (all : Option (List Rect)) (t : Tables) (id : ℕ) → HasCells all t → IsOfCells all (is_in (points_in t id))
of_cells None t id cells = tt
of_cells (Some all) t id cells = (cells id).whole

-- So do tests made of such tests.
pub any_of_cells : {X : Type 0} (all : Option (List Rect)) (f : X → ℕ → Bool) (xs : List X) → ((x : X) → IsOfCells all (f x))
    → IsOfCells all (λ p. list_any (λ x. f x p) xs)
any_of_cells None f xs same = tt
any_of_cells (Some all) f xs same = λ k l p q here there. list_any-alike (λ x. f x p) (λ x. f x q) xs (λ x. same x k l p q here there)

pub test_of_cells : (all : Option (List Rect)) (f : ℕ → Bool) (g : Bool → Bool) → IsOfCells all f → IsOfCells all (λ p. g (f p))
test_of_cells None f g same = tt
test_of_cells (Some all) f g same = λ k l p q here there. ap g (same k l p q here there)
