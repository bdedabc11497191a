-- Spaces are held against each other by the bits of their cells.
use Rattle.std.proofs.Common.{◌≡◌, ◌↔◌, ℕ, ◌+◌, ◌*◌, ◌==◌, Bool, true, false, ◌||◌, cond, List, [], ◌∷◌, ◌++◌, All, Contains, find, get_or, Option, Some, None, MatchOption, refl, sym, ap, ◌∙◌, subst, inl, inr, arith}
use Rattle.std.specs.Prelude.{⊤, option_map}
use Rattle.std.specs.List.{list_any}
use Rattle.std.specs.Option.{option_map_or}
use Rattle.std.proofs.lemmas.Bool.{cases_Bool, eq-eqb, eqb-true, false_from_ne_true, true≢false}
use Rattle.std.proofs.lemmas.List.Elements.{All-contains, Contains-get_or}
use Rattle.std.proofs.lemmas.List.Folds.{Any-from_list_any, list_any-from_Any}
use Rattle.std.proofs.lemmas.Option.{none-some, same_Some}
use Rattle.point_set.specs.declared.rect.Rect.{Rect}
use Rattle.point_set.specs.Rects.{AreSmall, rect_points}
use Rattle.grid.specs.Cuts.{Cuts, IsInSpan, grid_of, span_count}
use Rattle.cell_bits.specs.declared.cells.CellBits.{CellBits}
use Rattle.cell_bits.specs.Bits.{AreBitsOf, HasAll, HasNone, IsInCell, has_cell}
use Rattle.cell_bits.proofs.lemmas.Cells.{share_cell}
use Rattle.vocabulary.specs.Prelude.{Record, Space, Tables, is_in, is_within, meets, points_in, points_of, with_record}
use Rattle.spy_grammar.specs.declared.record.Record.TheVariants as records
use Rattle.semantics.specs.Rules.{is_declared, space_id}
use Rattle.semantics.proofs.lemmas.InOrder.{points_of_strips}
use Rattle.log_tables.specs.Views.{Ascends}
use Rattle.log_tables.proofs.lemmas.Members.{has_in, in_has}
use Rattle.log_rules.specs.Cells.{AreCells, Cell, HasCells}
use Rattle.log_rules.specs.Rows.{HasRows, IsNewRow, IsRow, bits_of, space_declared}
use Rattle.log_rules.specs.Tallied.{rects_in}
use Rattle.log_rules.specs.declared.cell_rows.CellRows.{CellRows}
use Rattle.log_rules.proofs.Growing.{grows}
use Rattle.log_rules.proofs.Members.{is_within-told}

-- ---- Two spaces of whole cells.

module _ (rects : List Rect) (ours theirs : List ℕ) (a b : CellBits) (our_cells : AreCells rects ours) (their_cells : AreCells rects theirs)
    (our_bits : AreBitsOf (grid_of rects) ours a) (their_bits : AreBitsOf (grid_of rects) theirs b) where
  abbrev number : ℕ → ℕ → ℕ
  number k l = k * span_count (grid_of rects).ys + l

  -- The cell of a point of ours, with its number.
  cell_at : (p : ℕ) (c : Cell rects p) → IsInCell (grid_of rects) (number c.0 c.1) p
  cell_at p c = record { k = c.0; l = c.1; column = c.2.column; row = c.2.row; number = refl }

  -- Of two points of one cell theirs has both or none.
  both : (n p q : ℕ) → IsInCell (grid_of rects) n p → IsInCell (grid_of rects) n q → is_in theirs p ≡ is_in theirs q
  both n p q here there =
      let same = share_cell (grid_of rects) n p q here there in
      their_cells.whole here.k here.l p q (record { column = here.column; row = here.row }) (record {
        column = subst (λ k. IsInSpan (grid_of rects).xs k _) same.0 there.column;
        row = subst (λ l. IsInSpan (grid_of rects).ys l _) same.1 there.row;
      })

  our_bit : (p : ℕ) → Contains ours p → (n : ℕ) × IsInCell (grid_of rects) n p × (has_cell a n ≡ true)
  our_bit p c =
      let cell = our_cells.cell p (in_has ours p c) in
      let n = number cell.0 cell.1 in
      (n, cell_at p cell, (our_bits n).1 (p, cell_at p cell, c))

  within_bits : HasAll b a ↔ All (Contains theirs) ours
  within_bits = (
    λ all k d lt.
        let p = get_or ours k d in
        let at = our_bit p (Contains-get_or ours k d lt) in
        let q = (their_bits at.0).0 (all at.0 at.2) in
        has_in theirs p (both at.0 p q.0 at.1 q.1 ∙ in_has theirs q.0 q.2),
    λ all n set.
        let p = (our_bits n).0 set in
        (their_bits n).1 (p.0, p.1, All-contains (Contains theirs) ours p.0 all p.2),
  )

  apart_bits : HasNone b a ↔ (meets ours theirs ≡ false)
  apart_bits = (
    λ none. false_from_ne_true (meets ours theirs) (λ e.
        let found = Any-from_list_any (is_in theirs) ours e in
        let p = found.1 in
        let at = our_bit p (found.0, found.2, found.3) in
        true≢false (sym ((their_bits at.0).1 (p, at.1, has_in theirs p found.4)) ∙ none at.0 at.2)),
    λ apart n set. false_from_ne_true (has_cell b n) (λ also.
        let p = (our_bits n).0 set in
        let q = (their_bits n).0 also in
        let in_both = both n p.0 q.0 p.1 q.1 ∙ in_has theirs q.0 q.2 in
        true≢false (sym (list_any-from_Any (is_in theirs) ours (p.2.0, p.0, p.2.1, p.2.2, in_both)) ∙ apart)),
  )

  pub within_told : (answer : Bool) → (answer ≡ true) ↔ HasAll b a → answer ≡ is_within ours theirs
  within_told answer told = is_within-told answer ours theirs (λ e. within_bits.0 (told.0 e), λ all. told.1 (within_bits.1 all))

  pub meets_told : (answer : Bool) → (answer ≡ false) ↔ HasNone b a → answer ≡ meets ours theirs
  meets_told answer told = same answer (meets ours theirs) (λ e. apart_bits.0 (told.0 e)) (λ e. told.1 (apart_bits.1 e))
    where
      same : (x y : Bool) → (x ≡ false → y ≡ false) → (y ≡ false → x ≡ false) → x ≡ y
      same true true f g = refl
      same true false f g = g refl
      same false y f g = sym (f refl)

-- ---- Two spaces of which bits are kept.

abbrev Known : Option (List Rect) → Tables → ℕ → CellBits → Type 0
Known all t id bits = MatchOption all ⊥ (λ rects. AreBitsOf (grid_of rects) (points_in t id) bits)

pub row_kept : (all : Option (List Rect)) (t : Tables) (rows : CellRows) (id : ℕ) (bits : CellBits) → HasRows all t rows
    → bits_of rows id ≡ Some bits → IsRow all t id bits
row_kept all t rows id bits has is = subst (λ (o : Option CellBits). MatchOption o ⊤ (IsRow all t id)) is (has id)

pub within_rows : (all : Option (List Rect)) (t : Tables) (ours theirs : ℕ) (a b : CellBits) (answer : Bool) → HasCells all t
    → IsRow all t ours a → IsRow all t theirs b → (answer ≡ true) ↔ HasAll b a → answer ≡ is_within (points_in t ours) (points_in t theirs)
within_rows None t ours theirs a b answer cells one other told = absurd one.1
within_rows (Some rects) t ours theirs a b answer cells one other told =
    within_told rects (points_in t ours) (points_in t theirs) a b (cells ours) (cells theirs) one.1 other.1 answer told

pub meets_rows : (all : Option (List Rect)) (t : Tables) (ours theirs : ℕ) (a b : CellBits) (answer : Bool) → HasCells all t
    → IsRow all t ours a → IsRow all t theirs b → (answer ≡ false) ↔ HasNone b a → answer ≡ meets (points_in t ours) (points_in t theirs)
meets_rows None t ours theirs a b answer cells one other told = absurd one.1
meets_rows (Some rects) t ours theirs a b answer cells one other told =
    meets_told rects (points_in t ours) (points_in t theirs) a b (cells ours) (cells theirs) one.1 other.1 answer told

-- ---- One record more.

-- What is kept stays so.
pub row_stays : (all : Option (List Rect)) (t : Tables) (line : ℕ) (r : Record) (id : ℕ) (o : Option CellBits)
    → MatchOption o ⊤ (IsRow all t id) → MatchOption o ⊤ (IsRow all (with_record t line r) id)
row_stays all t line r id None row = tt
row_stays None t line r id (Some bits) row = absurd row.1
row_stays (Some rects) t line r id (Some bits) row = let g = grows t line r in
    (g.declared id row.0, subst (λ (ps : List ℕ). AreBitsOf (grid_of rects) ps bits) (sym (g.points id row.0)) row.1)

pub rows_stay : (all : Option (List Rect)) (t : Tables) (line : ℕ) (r : Record) (rows : CellRows) → HasRows all t rows
    → HasRows all (with_record t line r) rows
rows_stay all t line r rows has id = row_stays all t line r id (bits_of rows id) (has id)

-- A space that was not declared has the points of the record that declares it.
last_found : (id : ℕ) (xs : List Space) (s : Space) → list_any (λ (x : Space). x.id == id) xs ≡ false → s.id ≡ id
    → find (λ (x : Space). x.id == id) (xs ++ s ∷ []) ≡ Some s
last_found id [] s none is = ap (λ b. cond b (Some s) None) (eq-eqb s.id id is)
last_found id (x ∷ xs) s none is = elim (cases_Bool (x.id == id)) [
  | inl hit ↦ absurd (true≢false (sym (ap (λ b. b || list_any (λ (y : Space). y.id == id) xs) hit) ∙ none))
  | inr miss ↦
      ap (λ b. cond b (Some x) (find (λ (y : Space). y.id == id) (xs ++ s ∷ []))) miss
      ∙ last_found id xs s (sym (ap (λ b. b || list_any (λ (y : Space). y.id == id) xs) miss) ∙ none) is
]

abbrev points_at : Option Space → List ℕ
points_at o = option_map_or (λ (s : Space). s.points) o []

new_space : (t u : Tables) (id : ℕ) (s : Space) → u.spaces ≡ t.spaces ++ s ∷ [] → is_declared t (space_id id) ≡ false → s.id ≡ id
    → (is_declared u (space_id id) ≡ true) × (points_in u id ≡ s.points)
new_space t u id s is none same =
    let found = ap (find (λ (x : Space). x.id == id)) is ∙ last_found id t.spaces s none same in
    (known u.spaces found, ap points_at found)
  where
    known : (xs : List Space) → find (λ (x : Space). x.id == id) xs ≡ Some s → list_any (λ (x : Space). x.id == id) xs ≡ true
    known [] e = absurd (none-some s e)
    known (x ∷ xs) e = elim (cases_Bool (x.id == id)) [
      | inl hit ↦ ap (λ b. b || list_any (λ (y : Space). y.id == id) xs) hit
      | inr miss ↦
          ap (λ b. b || list_any (λ (y : Space). y.id == id) xs) miss
          ∙ known xs (sym (ap (λ b. cond b (Some x) (find (λ (y : Space). y.id == id) xs)) miss) ∙ e)
    ]

declared_points : (t : Tables) (line : ℕ) (r : Record) (id : ℕ) → space_declared r ≡ Some id → is_declared t (space_id id) ≡ false
    → (is_declared (with_record t line r) (space_id id) ≡ true) × (points_in (with_record t line r) id ≡ rect_points (rects_in r))
declared_points t line (records.Ispace own set) id is none =
    let new = new_space t (with_record t line (records.Ispace own set)) id (record { id = own; points = points_of set }) refl none
    (same_Some own id is) in
    (new.0, new.1 ∙ sym (points_of_strips set))
declared_points t line (records.Plane own quads) id is none =
    new_space t (with_record t line (records.Plane own quads)) id _ refl none (same_Some own id is)
declared_points t line _ id is none = absurd (none-some id is)

pub row_new : (all : Option (List Rect)) (grid : Cuts) (t : Tables) (r : Record) (o : Option (ℕ × CellBits))
    → Some grid ≡ option_map grid_of all → ((rects : List Rect) → grid ≡ grid_of rects
    → MatchOption o ⊤ (λ f. (space_declared r ≡ Some f.0) × AreBitsOf grid (rect_points (rects_in r)) f.1))
    → MatchOption o ⊤ (λ f. IsNewRow all t r f.0 f.1)
row_new all grid t r None is told = tt
row_new None grid t r (Some f) is told = absurd (none-some grid (sym is))
row_new (Some rects) grid t r (Some f) is told = λ line none.
    let same = same_Some grid (grid_of rects) is in
    let facts = told rects same in
    let new = declared_points t line r f.0 facts.0 none in (
      new.0,
      subst (λ (ps : List ℕ). AreBitsOf (grid_of rects) ps f.1) (sym new.1)
          (subst (λ (g : Cuts). AreBitsOf g (rect_points (rects_in r)) f.1) same facts.1),
    )

-- The rectangles of a record fit.
pub small_rects : (r : Record) → Ascends r → AreSmall (rects_in r)
small_rects (records.Ispace id set) up = up.1
small_rects (records.Plane id quads) up = up.1
small_rects r up = λ k d lt. absurd (omega (arith, lt))

-- A row more.
pub rows_more : (all : Option (List Rect)) (t : Tables) (line : ℕ) (r : Record) (old new : CellRows) (id : ℕ) (bits : CellBits)
    → HasRows all t old → IsNewRow all t r id bits → is_declared t (space_id id) ≡ false
    → ((j : ℕ) → bits_of new j ≡ cond (id == j) (Some bits) (bits_of old j)) → HasRows all (with_record t line r) new
rows_more all t line r old new id bits has row none put j =
    subst (λ (o : Option CellBits). MatchOption o ⊤ (IsRow all (with_record t line r) j))
    (sym (put j)) (elim (cases_Bool (id == j)) [
      | inl hit ↦ subst (λ (o : Option CellBits). MatchOption o ⊤ (IsRow all (with_record t line r) j))
          (sym (ap (λ b. cond b (Some bits) (bits_of old j)) hit))
          (subst (λ (i : ℕ). IsRow all (with_record t line r) i bits) (eqb-true id j hit) (row line none))
      | inr miss ↦ subst (λ (o : Option CellBits). MatchOption o ⊤ (IsRow all (with_record t line r) j))
          (sym (ap (λ b. cond b (Some bits) (bits_of old j)) miss)) (row_stays all t line r j (bits_of old j) (has j))
    ])

-- A space is within itself.
pub within_itself : (ns : List ℕ) → true ≡ is_within ns ns
within_itself ns = is_within-told true ns ns (λ e k d lt. Contains-get_or ns k d lt, λ all. refl)
