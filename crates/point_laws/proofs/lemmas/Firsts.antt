-- The first difference of a replay is at a first point.
use Rattle.std.proofs.Common.{◌≡◌, ◌≢◌, ℕ, ◌<◌, inl, inr, ◌⊎◌, Bool, true, false, cond, List, [], ◌∷◌, ◌++◌, filter, flat_map, refl, sym, ap, ap₂, ◌∙◌, arith, Option, None, slice_get, Contains, ◌==◌}
use Rattle.std.specs.Option.{option_or, option_map_or}
use Rattle.std.proofs.Math.Path.{fun_ext}
use Rattle.std.proofs.lemmas.Bool.{cases_Bool, true≢false}
use Rattle.std.proofs.lemmas.List.Elements.{filter-append}
use Rattle.list_lemmas.proofs.lemmas.Pairs.{AllPairs-rest, AllPairs-first}
use Rattle.vocabulary.specs.Prelude.{Priv, may_read, Cell, Move, Req, Op, Tables, place_of, is_in, points_in, reqs_of, req_grid, id_of, mapped_cell, reads_by, changes_by, at_cells, moves_of, steps_by, State, start, executed, is_read, wanted, Seen, req_at, difference, first_difference}
use Rattle.privilege.specs.declared.kinds.Priv.TheVariants as privileges
use Rattle.semantics.specs.declared.moves.Move.TheVariants as moves
use Rattle.semantics.specs.declared.tables.Op.TheVariants as operations
use Rattle.log_laws.proofs.lemmas.Members.{is_in_of, member_in}
use Rattle.log_laws.proofs.lemmas.StepLists.{steps_at}
use Rattle.log_laws.proofs.lemmas.OwnConflicts.{is_of, a_read, no_read}
use Rattle.point_laws.specs.Axes.{ByPoint}
use Rattle.point_laws.specs.Alike.{AreAlike, HasPointsInOrder, AreReadFirsts, cell_at, is_at}
use Rattle.point_laws.proofs.lemmas.Values.{in_both, wanted_alike}
use Rattle.point_laws.proofs.lemmas.Rows.{flat_grid, kept_parts}
use Rattle.point_laws.proofs.Moves.{steps_at_same, steps_at_stay}
use Rattle.point_laws.proofs.lemmas.TaskMoves.{at_along, reads_kept}
use Rattle.point_laws.proofs.lemmas.Effects.{Agree, Mirrors, executed_agree}
use Rattle.list_lemmas.proofs.lemmas.Contained.{member_map, both_none, Contains-here, Contains-later, Contains-cases}
use Rattle.list_lemmas.proofs.lemmas.Filtered.{of_filter}
use Rattle.list_lemmas.proofs.lemmas.Firsts.{cases_option}
use Rattle.list_lemmas.proofs.lemmas.Parts.{filter_map_of, filter_flat}
use Rattle.list_lemmas.proofs.lemmas.Ranges.{Rise}
use Rattle.point_laws.proofs.lemmas.Order.{points_in_rise, points_in_apart}
use Rattle.point_laws.proofs.lemmas.Differences.{first_of, first_flat, first_same, difference_append, seen, steps_of, run_difference, difference_agrees, changes_alone, seen_cond, still_none}
use Rattle.point_laws.proofs.lemmas.Mirrored.{same_mirrors, start_mirrors}

-- ---- the first answer of a list

none_so : {A B : Type 0} (d e : A → Option B) → ((x : A) → d x ≡ None → e x ≡ None) → (xs : List A) → first_of d xs ≡ None
    → first_of e xs ≡ None
none_so d e so [] h = refl
none_so d e so (x ∷ xs) h = let parts = both_none (d x) (first_of d xs) h in rw (so x parts.0) (none_so d e so xs parts.1)

-- Of ascending numbers those may be left out that answer only where an earlier one does.
module _ {B : Type 0} (keep : ℕ → Bool) (d : ℕ → Option B) (points : List ℕ)
    (early : (x : ℕ) → Contains points x → keep x ≡ false → (y : ℕ) × Contains points y × (y < x) × (d y ≡ None → d x ≡ None)) where
  rest_suffices : (rest : List ℕ) → Rise rest → ((x : ℕ) → Contains rest x → Contains points x)
      → ((y : ℕ) → Contains points y → (d y ≡ None) ⊎ Contains rest y)
      → first_of (λ x. cond (keep x) (d x) None) rest ≡ first_of d rest
  rest_suffices [] rise within before = refl
  rest_suffices (x ∷ xs) rise within before =
      let go : d x ≡ None → first_of (λ x. cond (keep x) (d x) None) xs ≡ first_of d xs =
      λ none. rest_suffices xs (AllPairs-rest (λ x y. x < y) x xs rise) (λ y m. within y (Contains-later xs m)) (λ y m. elim (before y m) [
        | inl e ↦ inl e
        | inr m ↦ elim (Contains-cases xs m) [ inl is ↦ inl (ap d is ∙ none) | inr later ↦ inr later ]
      ]) in
      elim (cases_Bool (keep x)) [
        | inl kept ↦ rw kept (elim (cases_option (d x)) [ inl none ↦ ap (option_or (d x)) (go none) | inr some ↦ rw some.1 refl ])
        | inr left ↦
            let e = early x (within x (Contains-here xs)) left in
            let none : d x ≡ None = elim (before e.0 e.1) [
              | inl none ↦ e.3 none
              | inr m ↦ elim (Contains-cases xs m) [
                | inl is ↦ absurd (omega (arith, is, e.2))
                | inr later ↦ absurd (omega (arith, AllPairs-first (λ x y. x < y) x xs rise e.0 later, e.2))
              ]
            ] in
            rw (left, none) (go none)
      ]

  pub firsts_suffice : Rise points → first_of (λ x. cond (keep x) (d x) None) points ≡ first_of d points
  firsts_suffice rise = rest_suffices points rise (λ x m. m) (λ y m. inr m)

-- ---- reads at alike points

flat_nil : {A B : Type 0} (f : A → List B) → ((x : A) → f x ≡ []) → (xs : List A) → flat_map f xs ≡ []
flat_nil f none [] = refl
flat_nil f none (x ∷ xs) = rw (none x) (flat_nil f none xs)

differs_alike : (t : Tables) (p q : ℕ) → AreAlike t p q → (s : State) → Mirrors ByPoint p q s s → (task number : ℕ) (c : Cell) → c.point ≡ p
    → difference t (moves.Read task number c) s ≡ None → difference t (moves.Read task number (cell_at q c)) s ≡ None
differs_alike t p q alike s mirrors task number c at =
    let item = place_of t.items task in
    let tree = option_map_or (λ (r : Req). r.tree) (req_at t item number) 0 in
    still_none t s task number c (cell_at q c) (mirrors c at)
    (ap (λ x. wanted t item (record { tree = tree; point = x; field = c.field })) at ∙ wanted_alike t p q alike item tree c.field)

module _ (t : Tables) (order : HasPointsInOrder t) (firsts : List ℕ) (are_firsts : AreReadFirsts t firsts) where
  -- States that hold the same at all alike points.
  abbrev Uniform : State → Type 0
  Uniform s = (p q : ℕ) → AreAlike t p q → Mirrors ByPoint p q s s

  one_seen : (task number : ℕ) (access : Priv) (s : State) → Uniform s → (p q : ℕ) → AreAlike t p q → (c : Cell) → c.point ≡ p
      → seen t s (reads_by task number access c) ≡ None → seen t s (reads_by task number access (cell_at q c)) ≡ None
  one_seen task number privileges.Ro s uniform p q alike c at e =
      rw (differs_alike t p q alike s (uniform p q alike) task number c at (both_none _ None e).0) refl
  one_seen task number privileges.Rw s uniform p q alike c at e =
      rw (differs_alike t p q alike s (uniform p q alike) task number c at (both_none _ None e).0) refl
  one_seen task number _ s uniform p q alike c at e = refl

  -- What is seen of the reads of a requirement that reads, at first points alone and at all points.
  read_seen : (task : ℕ) (s : State) → Uniform s → (r : Req) → Contains t.reqs r → may_read r.access ≡ true
      → seen t s (filter (at_along ByPoint firsts) (flat_map (λ x. reads_by task r.number r.access (mapped_cell t r x)) (req_grid t r)))
      ≡ seen t s (flat_map (λ x. reads_by task r.number r.access (mapped_cell t r x)) (req_grid t r))
  read_seen task s uniform r own read =
      let does : ℕ × ℕ → List Move = λ x. reads_by task r.number r.access (mapped_cell t r x) in
      let row : ℕ → List Move = λ x. flat_map (λ f. does (x, f)) r.fields in
      let points = points_in t r.space in
      let d : ℕ → Option Seen = λ x. seen t s (row x) in
      let by_field : (x : ℕ) → d x ≡ first_of (λ f. seen t s (does (x, f))) r.fields =
      λ x. first_flat (λ m. difference t m s) (λ f. does (x, f)) r.fields in
      let early : (x : ℕ) → Contains points x → is_in firsts x ≡ false → (y : ℕ) × Contains points y × (y < x) × (d y ≡ None → d x ≡ None) =
      λ x m left.
      let inside = is_in_of points x m in
      let h = are_firsts r own read x inside in
      let differ : h.first ≢ x = λ e. true≢false (sym h.listed ∙ ap (is_in firsts) e ∙ left) in (
        h.first,
        member_in points h.first (in_both t h.first x h.alike r.space ∙ inside),
        omega (arith, h.not_greater, differ),
        λ none. by_field x ∙ none_so (λ f. seen t s (does (h.first, f))) (λ f. seen t s (does (x, f)))
            (λ f. one_seen task r.number r.access s uniform h.first x h.alike (mapped_cell t r (h.first, f)) refl) r.fields
            (sym (by_field h.first) ∙ none),
      ) in
      let kept : (x : ℕ) → seen t s (filter (at_along ByPoint firsts) (row x)) ≡ cond (is_in firsts x) (d x) None = λ x.
      ap (seen t s) (kept_parts (at_along ByPoint firsts) (is_in firsts x) (λ f. does (x, f))
      (λ f. reads_kept ByPoint firsts task r.number r.access (mapped_cell t r (x, f))) r.fields)
      ∙ seen_cond t s (is_in firsts x) (row x) in
      ap (λ ms. seen t s (filter (at_along ByPoint firsts) ms)) (flat_grid does points r.fields)
      ∙ ap (seen t s) (filter_flat (at_along ByPoint firsts) row points)
      ∙ first_flat (λ m. difference t m s) (λ x. filter (at_along ByPoint firsts) (row x)) points
      ∙ ap (λ e. first_of e points) (fun_ext kept)
      ∙ firsts_suffice (is_in firsts) d points early (points_in_rise t order r.space)
      ∙ sym (first_flat (λ m. difference t m s) row points)
      ∙ ap (seen t s) (sym (flat_grid does points r.fields))

  -- The same of any requirement: one that does not read sees nothing.
  req_seen : (task : ℕ) (s : State) → Uniform s → (r : Req) → Contains t.reqs r
      → seen t s (filter (at_along ByPoint firsts) (flat_map (λ x. reads_by task r.number r.access (mapped_cell t r x)) (req_grid t r)))
      ≡ seen t s (flat_map (λ x. reads_by task r.number r.access (mapped_cell t r x)) (req_grid t r))
  req_seen task s uniform r own = elim (cases_Bool (may_read r.access)) [
    | inl read ↦ read_seen task s uniform r own read
    | inr not_read ↦
        let does : ℕ × ℕ → List Move = λ x. reads_by task r.number r.access (mapped_cell t r x) in
        let none : flat_map does (req_grid t r) ≡ [] = flat_nil does (λ x. rw not_read refl) (req_grid t r) in
        rw (none) refl
  ]

  abbrev reads : ℕ → List Req → List Move
  reads task rs = at_cells t (λ r c. reads_by task r.number r.access c) rs

  reqs_seen : (task : ℕ) (rs : List Req) → ((r : Req) → Contains rs r → Contains t.reqs r) → (s : State) → Uniform s
      → seen t s (filter (at_along ByPoint firsts) (reads task rs)) ≡ seen t s (reads task rs)
  reqs_seen task rs own s uniform =
      let does : Req → List Move = λ r. flat_map (λ x. reads_by task r.number r.access (mapped_cell t r x)) (req_grid t r) in
      ap (seen t s) (filter_flat (at_along ByPoint firsts) does rs)
      ∙ first_flat (λ m. difference t m s) (λ r. filter (at_along ByPoint firsts) (does r)) rs
      ∙ first_same (λ r. seen t s (filter (at_along ByPoint firsts) (does r))) (λ r. seen t s (does r)) rs (λ r m. req_seen task s uniform r (own r m))
      ∙ sym (first_flat (λ m. difference t m s) does rs)

  -- ---- node by node

  node_difference : (k : ℕ) (op : Op) (r s : State) → Agree ByPoint firsts r s → Uniform s
      → first_difference t (filter (is_at firsts) (steps_of k (moves_of t op))) r ≡ first_difference t (steps_of k (moves_of t op)) s
  node_difference k (operations.Run item) r s agree uniform =
      let task = id_of t item in
      let rs = reqs_of t item in
      let first = reads task rs in
      let then = at_cells t (λ r c. changes_by task r.number r.access c) rs in
      let are_reads : ((m : Move) → Contains first m → is_read m ≡ true) = λ m h. a_read task t rs m (is_of t rs _ m h) in
      let are_changes : ((m : Move) → Contains then m → is_read m ≡ false) = λ m h. no_read task t rs m (is_of t rs _ m h) in
      ap (λ xs. first_difference t xs r) (filter_map_of (is_at firsts) (λ m. record { node = k; move = m }) (first ++ then)
      ∙ ap (steps_of k) (filter-append (at_along ByPoint firsts) first then))
      ∙ run_difference t k (filter (at_along ByPoint firsts) first) (filter (at_along ByPoint firsts) then)
      (λ m h. are_reads m (of_filter (at_along ByPoint firsts) first m h).0)
      (λ m h. are_changes m (of_filter (at_along ByPoint firsts) then m h).0) r
      ∙ first_same (λ m. difference t m r) (λ m. difference t m s) (filter (at_along ByPoint firsts) first)
      (λ m h. difference_agrees ByPoint t firsts m r s (of_filter (at_along ByPoint firsts) first m h).1 agree)
      ∙ reqs_seen task rs (λ r m. (of_filter (λ (r : Req). r.item == item) t.reqs r m).0) s uniform
      ∙ sym (run_difference t k first then are_reads are_changes s)
  node_difference k operations.Merge r s agree uniform = refl
  node_difference k op r s agree uniform = changes_alone ByPoint t k firsts (moves_of t op) (λ m h. ap is_read (member_map _ _ m h).2) r s

  node_at : (k : ℕ) (r s : State) → Agree ByPoint firsts r s → Uniform s
      → first_difference t (filter (is_at firsts) (steps_at t k)) r ≡ first_difference t (steps_at t k) s
  node_at k r s agree uniform =
      elim (cases_option (slice_get t.nodes k)) [
        | inl none ↦ rw none refl
        | inr some ↦
            rw some.1 (node_difference k some.0.op r s agree uniform)
      ]

  pub differences : (nodes : List ℕ) (r s : State) → Agree ByPoint firsts r s → Uniform s
      → first_difference t (filter (is_at firsts) (steps_by t nodes)) r ≡ first_difference t (steps_by t nodes) s
  differences [] r s agree uniform = refl
  differences (k ∷ nodes) r s agree uniform =
      let here = steps_at t k in
      let later = steps_by t nodes in
      ap (λ xs. first_difference t xs r) (filter-append (is_at firsts) here later)
      ∙ difference_append t (filter (is_at firsts) here) (filter (is_at firsts) later) r
      ∙ ap₂ option_or (node_at k r s agree uniform) (differences nodes (executed (filter (is_at firsts) here) r) (executed here s)
      (executed_agree ByPoint firsts here (steps_at_stay t k) r s agree)
      (λ p q alike. same_mirrors ByPoint p q here (steps_at_stay t k) (steps_at_same t (points_in_apart t order) p q alike k) s s
      (uniform p q alike)))
      ∙ sym (difference_append t here later s)

  pub shown_at_first : (nodes : List ℕ) → first_difference t (filter (is_at firsts) (steps_by t nodes)) (start t)
      ≡ first_difference t (steps_by t nodes) (start t)
  shown_at_first nodes = differences nodes (start t) (start t) (λ c at. refl) (start_mirrors t)
