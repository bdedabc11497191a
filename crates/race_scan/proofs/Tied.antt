-- Races of a log are the clashes of what is gathered of it.
use Rattle.std.proofs.Common.{◌≡◌, ◌≢◌, ℕ, ◌<◌, true, false, List, Some, None, Contains, Option, MatchOption, refl, sym, ap, ◌∙◌, subst, length, slice_index, unwrap_or, position, ◌==◌, All, get_or}
use Rattle.std.specs.List.{range_with_len}
use Rattle.std.proofs.lemmas.Bool.{true≢false, false_from_ne_true}
use Rattle.std.proofs.lemmas.List.{length-map, get_or_default}
use Rattle.vocabulary.specs.Prelude.{Cell, Move, Tables, graph_of, Before, Step, steps, Race, IsRaceFree, access}
use Rattle.semantics.specs.ReplayOrder.{replay_order}
use Rattle.semantics.specs.Shown.{IsShownRace, replay_place}
use Rattle.list_lemmas.proofs.lemmas.Contained.{member_flat, flat_member, map_member}
use Rattle.list_lemmas.proofs.lemmas.Ranges.{number_within, number_in}
use Rattle.log_laws.proofs.lemmas.StepLists.{steps_at, step_at}
use Rattle.reach_marks.specs.Reached.{Marks, AreMarksOf, before_in}
use Rattle.cell_races.specs.declared.access.Access.{Access}
use Rattle.cell_races.specs.declared.cell_accesses.CellAccess.{CellAccess}
use Rattle.cell_races.specs.declared.scan.FoundRace.{FoundRace}
use Rattle.cell_races.specs.Accesses.{meant}
use Rattle.cell_races.specs.CellAccesses.{cell_access}
use Rattle.cell_races.specs.Ranks.{rank_in}
use Rattle.cell_races.specs.Clashes.{Clash, IsFree, IsShown}
use Rattle.cell_races.proofs.lemmas.Noted.{noted, whole, both_meant}
use Rattle.inst_steps.specs.FieldMoves.{field_moves_at}
use Rattle.inst_steps.specs.Stepping.{moves_at}
use Rattle.inst_steps.proofs.lemmas.FieldMoves.{of_node}
use Rattle.point_laws.specs.Axes.{ByPoint, cell_to, move_to}
use Rattle.point_laws.proofs.lemmas.Accesses.{access_moved, both_touched, touched_point}
use Rattle.point_laws.proofs.lemmas.Raced.{is_step}
use Rattle.semantics.specs.Races as races
use Rattle.race_scan.specs.Gathered.{accesses_before, cell_accesses_before, field_accesses_before}
use Rattle.race_scan.specs.Placed.{ArePlaced}
use Rattle.race_scan.specs.Ends.{IsShownIn}
use Rattle.race_scan.proofs.Collected.{gathered, all_gathered}
use Rattle.race_scan.proofs.Placed.{at_place, place_is}

-- ---- steps

step_in : (t : Tables) (k : ℕ) (m : Move) → Contains (steps t) (record { node = k; move = m }) → (k < length t.nodes)
    × Contains (moves_at t k) m
step_in t k m c =
    let x : Step = record { node = k; move = m } in
    let at = member_flat (steps_at t) (range_with_len 0 (length t.nodes)) x c in
    let of = step_at t at.0 x at.2 in
    (subst (λ n. n < length t.nodes) (sym of.0) (number_within (length t.nodes) at.0 at.1), of.1)

in_steps : (t : Tables) (k : ℕ) (m : Move) → k < length t.nodes → Contains (moves_at t k) m
    → Contains (steps t) (record { node = k; move = m })
in_steps t k m lt h =
    (flat_member (steps_at t) (range_with_len 0 (length t.nodes)) k (record { node = k; move = m }) (number_in (length t.nodes) k lt)
    (map_member (λ m. record { node = k; move = m }) (moves_at t k) m h))

-- What a move of a node does at a cell is gathered at the place of the node.
access_gathered : (moves : ℕ → List Move) (order : List ℕ) (n : ℕ) → ((k : ℕ) → k < n → Contains order k) → (k : ℕ) (m : Move) (cell : Cell) (c : Access)
    → k < n → Contains (moves k) m → access m cell ≡ meant c
    → (p : ℕ) × (slice_index order p ≡ k) × Contains (accesses_before moves order (length order)) (cell_access p cell c)
access_gathered moves order n all k m cell c within is_move does =
    let p = at_place n order all k within in (
      p.0,
      p.2,
      (all_gathered moves order (length order) (cell_access p.0 cell c) (record {
        place = p.0;
        below = p.1;
        move = m;
        is_move = subst (λ k. Contains (moves k) m) (sym p.2) is_move;
        listed = whole p.0 m cell c does;
      })),
    )

-- ---- nodes that race, by the fields of instances alone

-- What two nodes that race at a cell do there.
record IsRacedAt (t : Tables) (a b : ℕ) (one other : Move) (cell : Cell) : Type 0 where
  one_in : Contains (field_moves_at t a) (move_to ByPoint 0 one)
  other_in : Contains (field_moves_at t b) (move_to ByPoint 0 other)
  one_does : access (move_to ByPoint 0 one) (cell_to ByPoint 0 cell) ≡ access one cell
  other_does : access (move_to ByPoint 0 other) (cell_to ByPoint 0 cell) ≡ access other cell

raced_at : (t : Tables) (a b : ℕ) (cell : Cell) → (r : Race t a b cell) → IsRacedAt t a b r.one r.other cell
raced_at t a b cell r =
    let ks = range_with_len 0 (length t.nodes) in
    let touched = both_touched (access r.one cell) (access r.other cell) r.conflict in
    let first = (is_step t ks (record { node = a; move = r.one }) r.one_in).stays in
    let second = (is_step t ks (record { node = b; move = r.other }) r.other_in).stays in
    record {
      one_in = of_node t a r.one (step_in t a r.one r.one_in).1;
      other_in = of_node t b r.other (step_in t b r.other r.other_in).1;
      one_does = access_moved ByPoint 0 r.one cell first (touched_point ByPoint r.one cell first touched.0);
      other_does = access_moved ByPoint 0 r.other cell second (touched_point ByPoint r.other cell second touched.1);
    }

module _ (t : Tables) (order : List ℕ) (marks : Marks) (replayed : order ≡ replay_order (graph_of t.nodes))
    (marked : AreMarksOf (graph_of t.nodes) marks)
    (at_graph : ArePlaced (length (graph_of t.nodes)) order marks) where
  abbrev cell_accesses : List CellAccess
  cell_accesses = cell_accesses_before t order (length order)

  many : length (graph_of t.nodes) ≡ length t.nodes
  many = length-map t.nodes _

  placed : ArePlaced (length t.nodes) order marks
  placed = subst (λ n. ArePlaced n order marks) many at_graph

  not_before : (a b : ℕ) → a < length t.nodes → b < length t.nodes → (Before (graph_of t.nodes) a b → ⊥) → before_in marks a b ≡ false
  not_before a b la lb none = false_from_ne_true (before_in marks a b) (λ e. none ((marked.exact a b (rw many la) (rw many lb)).0 e))

  none_before : (a b : ℕ) → a < length t.nodes → b < length t.nodes → before_in marks a b ≡ false → Before (graph_of t.nodes) a b → ⊥
  none_before a b la lb e before = true≢false (sym ((marked.exact a b (rw many la) (rw many lb)).1 before) ∙ e)

  -- Two nodes clash, if moves of theirs conflict at a cell and neither is before the other.
  clash_by : (moves : ℕ → List Move) (a b : ℕ) (cell : Cell) (one other : Move) → a ≢ b → a < length t.nodes → b < length t.nodes
      → Contains (moves a) one → Contains (moves b) other → races.conflicts (access one cell) (access other cell) ≡ true
      → (Before (graph_of t.nodes) a b → ⊥) → (Before (graph_of t.nodes) b a → ⊥)
      → Clash (before_in marks) order (accesses_before moves order (length order)) a b cell
  clash_by moves a b cell one other differ la lb one_in other_in conflict none_before none_after =
      let m = both_meant (access one cell) (access other cell) conflict in
      let x = access_gathered moves order (length t.nodes) placed.whole a one cell m.0 la one_in m.2 in
      let y = access_gathered moves order (length t.nodes) placed.whole b other cell m.1 lb other_in m.3 in
      record {
        differ = differ;
        one = cell_access x.0 cell m.0;
        other = cell_access y.0 cell m.1;
        one_in = x.2;
        other_in = y.2;
        one_at = refl;
        other_at = refl;
        one_by = x.1;
        other_by = y.1;
        conflict = m.4;
        not_before = not_before a b la lb none_before;
        not_after = not_before b a lb la none_after;
      }

  pub to_clash : (a b : ℕ) (cell : Cell) → Race t a b cell → Clash (before_in marks) order cell_accesses a b cell
  to_clash a b cell r =
      let first = step_in t a r.one r.one_in in
      let second = step_in t b r.other r.other_in in
      clash_by (moves_at t) a b cell r.one r.other r.differ first.0 second.0 first.1 second.1 r.conflict r.not_before r.not_after

  -- Where no two nodes would clash if each space that has points had point 0 alone, none race.
  pub free_by_fields : IsFree (before_in marks) order (field_accesses_before t order (length order)) → IsRaceFree t
  free_by_fields free a b cell r =
      let at = raced_at t a b cell r in
      free a b (cell_to ByPoint 0 cell) (clash_by (field_moves_at t) a b (cell_to ByPoint 0 cell) (move_to ByPoint 0 r.one) (move_to ByPoint 0 r.other)
      r.differ (step_in t a r.one r.one_in).0 (step_in t b r.other r.other_in).0 at.one_in at.other_in
      (rw (at.one_does, at.other_does) r.conflict) r.not_before r.not_after)

  -- What is gathered is what a step of its node does.
  step_of : (x : CellAccess) (k : ℕ) → Contains cell_accesses x → slice_index order x.place ≡ k
      → (m : Move) × (k < length t.nodes) × Contains (steps t) (record { node = k; move = m }) × (access m x.cell ≡ meant x.access)
  step_of x k c by =
      let g = gathered (moves_at t) order (length order) x c in
      let n = noted g.place g.move x g.listed in
      let is : slice_index order g.place ≡ k = ap (slice_index order) (sym n.0) ∙ by in
      let lt : k < length t.nodes = subst (λ k. k < length t.nodes) is (placed.within g.place 0 g.below) in
      (g.move, lt, in_steps t k g.move lt (subst (λ k. Contains (moves_at t k) g.move) is g.is_move), n.1)

  pub to_race : (a b : ℕ) (cell : Cell) → Clash (before_in marks) order cell_accesses a b cell → Race t a b cell
  to_race a b cell k =
      let one = step_of k.one a k.one_in k.one_by in
      let other = step_of k.other b k.other_in k.other_by in
      let does : access one.0 cell ≡ meant k.one.access = ap (access one.0) (sym k.one_at) ∙ one.3 in
      let other_does : access other.0 cell ≡ meant k.other.access = ap (access other.0) (sym k.other_at) ∙ other.3 in
      record {
        differ = k.differ;
        one = one.0;
        other = other.0;
        one_in = one.2;
        other_in = other.2;
        conflict = rw (does, other_does) k.conflict;
        not_before = none_before a b one.1 other.1 k.not_before;
        not_after = none_before b a other.1 one.1 k.not_after;
      }

  -- ---- places

  rank_is : (k : ℕ) → k < length t.nodes → replay_place t k ≡ rank_in marks k
  rank_is k lt = ap (λ ns. unwrap_or (position (λ n. n == k) ns) (length t.nodes)) (sym replayed)
      ∙ place_is (length t.nodes) order marks placed k (length t.nodes) lt

  nodes_of : (a b : ℕ) (cell : Cell) → Race t a b cell → (replay_place t a ≡ rank_in marks a) × (replay_place t b ≡ rank_in marks b)
  nodes_of a b cell r = (rank_is a (step_in t a r.one r.one_in).0, rank_is b (step_in t b r.other r.other_in).0)

  pub free_race : IsFree (before_in marks) order cell_accesses → IsRaceFree t
  free_race free a b cell r = free a b cell (to_clash a b cell r)

  pub shown_race : (s : FoundRace) → IsShown (before_in marks) (rank_in marks) order cell_accesses s → IsShownRace t s.a s.b s.cell
  shown_race s h =
      let race = to_race s.a s.b s.cell h.clash in
      let at = nodes_of s.a s.b s.cell race in
      record {
        race = race;
        in_order = rw (at.0, at.1) h.in_order;
        least_cell = λ c d other r. h.least_cell c d other (to_clash c d other r);
        first_later = λ c d r less. let n = nodes_of c d s.cell r in
            rw (at.1, n.1) (h.first_later c d (to_clash c d s.cell r) (rw (← n.0, ← n.1) less));
        first_earlier = λ c r less. let n = nodes_of c s.b s.cell r in
            rw (at.0, n.0) (h.first_earlier c (to_clash c s.b s.cell r) (rw (← n.0, ← at.1) less));
      }

  pub found_race : (o : Option FoundRace) → MatchOption o (IsFree (before_in marks) order cell_accesses)
      (IsShown (before_in marks) (rank_in marks) order cell_accesses) → MatchOption o (IsRaceFree t) (IsShownIn t)
  found_race None h = free_race h
  found_race (Some s) h = shown_race s h

-- Each access is at a place of the order.
pub places_within : (moves : ℕ → List Move) (order : List ℕ) (n : ℕ) → All (λ (x : CellAccess). x.place < n) (accesses_before moves order n)
places_within moves order n = all_places (accesses_before moves order n) (λ x m.
    let g = gathered moves order n x m in
    subst (λ p. p < n) (sym (noted g.place g.move x g.listed).0) g.below)
  where
    all_places : (xs : List CellAccess) → ((x : CellAccess) → Contains xs x → x.place < n) → All (λ (x : CellAccess). x.place < n) xs
    all_places xs h i d lt = h (get_or xs i d) (i, lt, get_or_default xs i (get_or xs i d) d lt)
