-- Tasks that interfere are run in serial order exactly where those are that do not agree at a first point.
use Rattle.std.proofs.Common.{◌≡◌, ℕ, ◌+◌, ◌-◌, ◌<◌, ◌≤◌, inl, inr, Bool, true, false, not, ◌&&◌, ◌==◌, List, [], ◌∷◌, refl, sym, ap, ◌∙◌, subst, arith, map, filter, length, Contains}
use Rattle.std.specs.List.{AllByRecursion, range_with_len}
use Rattle.std.proofs.lemmas.Bool.{cases_Bool, cases_lt, true≢false, not-true, and_parts, and_from, lt-ltb, le-ltb}
use Rattle.vocabulary.specs.Prelude.{Priv, Coherence, Kind, agree, both_atomic, kind_of, Place, Req, Tables, is_in, points_in, covers, kind_at, item_kind, item_places, is_free, strongest, pairs, graph_of}
use Rattle.privilege.specs.declared.kinds.Kind.TheVariants.{Free, Turn, Before}
use Rattle.semantics.specs.SerialOrder.{serial, serial_place, by_serial}
use Rattle.semantics.specs.Events as events
use Rattle.semantics.specs.Shown.{is_task_at, run_of, task_pairs, IsKept, AreKept}
use Rattle.point_laws.specs.Alike.{AreAlike, AreFirsts}
use Rattle.point_laws.proofs.lemmas.Values.{first_in, in_both}
use Rattle.log_laws.proofs.lemmas.Members.{is_in_of}
use Rattle.list_lemmas.proofs.lemmas.Contained.{member_flat, flat_member, member_map, map_member, Contains-nil, Contains-here, Contains-later, Contains-cases}
use Rattle.list_lemmas.proofs.lemmas.Filtered.{of_filter, in_filter}
use Rattle.list_lemmas.proofs.lemmas.Parts.{place_len}
use Rattle.list_lemmas.proofs.lemmas.Ranges.{number_between, number_in, number_from}
use Rattle.item_uses.proofs.lemmas.ItemKinds.{covers_tells, covers_so, item_place, kinds_at, kind_here, meets_here, req_kind}
use Rattle.item_uses.proofs.lemmas.LeastPlaces.{strongest_not_free}
use Rattle.order_laws.specs.Turns.{Meeting, AreInTurn, AreInTurnBut, AreKeptBut, ListsItems}
use Rattle.order_laws.proofs.lemmas.TaskUses.{task_within}
use Rattle.order_laws.proofs.Earlier.{place_in, place_same}

-- ---- kinds

agrees_free : (p : Priv) (c : Coherence) (q : Priv) (d : Coherence) → agree p q ≡ true → is_free (kind_of p c q d) ≡ true
agrees_free p c q d e = rw e refl

differ_not_free : (p : Priv) (c : Coherence) (q : Priv) (d : Coherence) → agree p q ≡ false → is_free (kind_of p c q d) ≡ false
differ_not_free p c q d e = elim (cases_Bool (both_atomic c d)) [ inl both ↦ rw (e, both) refl | inr not_both ↦ rw (e, not_both) refl ]

pub agree_turned : (p q : Priv) → agree p q ≡ agree q p
agree_turned p q = grind (arith)

some_not_free : (ks : List Kind) → is_free (strongest ks) ≡ false → (k : Kind) × Contains ks k × (is_free k ≡ false)
some_not_free [] e = absurd cc
some_not_free (Free ∷ ks) e = let r = some_not_free ks e in (r.0, Contains-later ks r.1, r.2)
some_not_free (Turn ∷ ks) e = (Turn, Contains-here ks, refl)
some_not_free (Before ∷ ks) e = (Before, Contains-here ks, refl)

-- Two items that interfere do not agree at some place.
pub meeting_of : (t : Tables) (a b : ℕ) → is_free (item_kind t a b) ≡ false → (p : Place) × Meeting t a b p
meeting_of t a b e =
    let k = some_not_free (map (kind_at t a b) (item_places t a)) e in
    let at = member_map (kind_at t a b) (item_places t a) k.0 k.1 in
    let here = some_not_free (kinds_at t a b at.0) (ap is_free (sym at.2) ∙ k.2) in
    let h = meets_here t a b at.0 here.0 here.1 in
    let not_free : is_free (req_kind t h.q h.r) ≡ false = ap is_free (sym h.is) ∙ here.2 in (
      at.0,
      record {
        q = h.q;
        r = h.r;
        of_a = h.of_a;
        of_b = h.of_b;
        at_a = covers_so t at.0 h.q h.q_covers;
        at_b = covers_so t at.0 h.r h.r_covers;
        differ = elim (cases_Bool (agree h.q.access h.r.access)) [
          | inl agrees ↦ absurd (true≢false (sym (agrees_free h.q.access h.q.coherence h.r.access h.r.coherence agrees) ∙ not_free))
          | inr differs ↦ differs
        ];
      },
    )

-- Two items that do not agree at a place interfere.
pub meeting_not_free : (t : Tables) (a b : ℕ) (p : Place) → Meeting t a b p → is_free (item_kind t a b) ≡ false
meeting_not_free t a b p m =
    let of_a = m.of_a in
    let of_b = m.of_b in
    let at_a = covers_tells t p m.q m.at_a in
    let at_b = covers_tells t p m.r m.at_b in
    let here = strongest_not_free (kinds_at t a b p) (req_kind t m.q m.r) (kind_here t a b p m.q m.r of_a of_b at_a at_b)
    (differ_not_free m.q.access m.q.coherence m.r.access m.r.coherence m.differ) in
    strongest_not_free (map (kind_at t a b) (item_places t a)) (kind_at t a b p)
    (map_member (kind_at t a b) (item_places t a) p (item_place t a p m.q of_a at_a)) here

pub meeting_turned : (t : Tables) (a b : ℕ) (p : Place) → Meeting t a b p → Meeting t b a p
meeting_turned t a b p m = record {
  q = m.r;
  r = m.q;
  of_a = m.of_b;
  of_b = m.of_a;
  at_a = m.at_b;
  at_b = m.at_a;
  differ =
      agree_turned m.r.access m.q.access ∙ m.differ;
}

-- ---- first points

abbrev moved : ℕ → Place → Place
moved x p = record { tree = p.tree; point = x; field = p.field }

covers_moved : (t : Tables) (x : ℕ) (p : Place) → AreAlike t x p.point → (r : Req) → covers t p r ≡ true → covers t (moved x p) r ≡ true
covers_moved t x p alike r e = ap (λ b. (r.tree == p.tree) && (b && is_in r.fields p.field)) (in_both t x p.point alike r.space) ∙ e

-- Items that do not agree at a place do not at a place of a first point.
pub meeting_first : (t : Tables) (firsts : List ℕ) → AreFirsts t firsts → (a b : ℕ) (p : Place) → Meeting t a b p → (q : Place)
    × (is_in firsts q.point ≡ true) × Meeting t a b q
meeting_first t firsts are_firsts a b p m =
    let c = covers_tells t p m.q m.at_a in
    let f = first_in t firsts are_firsts m.q.space p.point (is_in_of (points_in t m.q.space) p.point c.1) in (
      moved f.first p,
      f.listed,
      record {
        q = m.q;
        r = m.r;
        of_a = m.of_a;
        of_b = m.of_b;
        at_a = covers_moved t f.first p f.alike m.q m.at_a;
        at_b =
            covers_moved t f.first p f.alike m.r m.at_b;
        differ = m.differ;
      },
    )

-- ---- pairs of tasks

pub record OfTasks (t : Tables) (a b : ℕ) : Type 0 where
  pub order : a < b
  pub within : b < length t.items
  pub meets : is_free (item_kind t a b) ≡ false
  pub one : is_task_at t a ≡ true
  pub other : is_task_at t b ≡ true

abbrev pub both_tasks : Tables → ℕ × ℕ → Bool
both_tasks t p = is_task_at t p.0 && is_task_at t p.1

abbrev pub row : Tables → ℕ → List (ℕ × ℕ)
row t a = map (λ b. (a, b)) (filter (λ b. not (is_free (item_kind t a b))) (range_with_len (a + 1) (length t.items - (a + 1))))

pub of_tasks : (t : Tables) (p : ℕ × ℕ) → Contains (task_pairs t) p → OfTasks t p.0 p.1
of_tasks t p m =
    let k = of_filter (both_tasks t) (pairs t) p m in
    let at = member_flat (row t) (range_with_len 0 (length t.items)) p k.0 in
    let of = member_map (λ b. (at.0, b)) (filter (λ b. not (is_free (item_kind t at.0 b)))
    (range_with_len (at.0 + 1) (length t.items - (at.0 + 1)))) p at.2 in
    let f = of_filter (λ b. not (is_free (item_kind t at.0 b)))
    (range_with_len (at.0 + 1) (length t.items - (at.0 + 1))) of.0 of.1 in
    let n = number_between (at.0 + 1) (length t.items - (at.0 + 1)) of.0 f.0 in
    let tasks = and_parts (is_task_at t p.0) (is_task_at t p.1) k.1 in
    let first : p.0 ≡ at.0 = ap (λ (q : ℕ × ℕ). q.0) of.2 in
    let second : p.1 ≡ of.0 = ap (λ (q : ℕ × ℕ). q.1) of.2 in
    record {
      order = omega (arith, n.0, first, second);
      within = omega (arith, n.0, n.1, second);
      meets = subst (λ (q : ℕ × ℕ). is_free (item_kind t q.0 q.1) ≡ false) (sym of.2) (not-true (is_free (item_kind t at.0 of.0)) f.1);
      one = tasks.0;
      other = tasks.1;
    }

pub task_pair : (t : Tables) (a b : ℕ) → OfTasks t a b → Contains (task_pairs t) (a, b)
task_pair t a b h =
    let lt = h.order in
    let within = h.within in
    in_filter (both_tasks t) (pairs t) (a, b)
    (flat_member (row t) (range_with_len 0 (length t.items)) a (a, b) (number_in (length t.items) a (omega (arith, lt, within)))
    (map_member (λ c. (a, c)) (filter (λ b. not (is_free (item_kind t a b))) (range_with_len (a + 1) (length t.items - (a + 1)))) b
    (in_filter (λ b. not (is_free (item_kind t a b))) (range_with_len (a + 1) (length t.items - (a + 1))) b
    (number_from (a + 1) (length t.items - (a + 1)) b (omega (arith, lt)) (omega (arith, lt, within)))
    (ap not h.meets))))
    (and_from (is_task_at t a) (is_task_at t b) h.one h.other)

-- ---- recursions

pub all_members : {X : Type 0} (P : X → Type 0) (xs : List X) → ((x : X) → Contains xs x → P x) → AllByRecursion P xs
all_members P [] h = tt
all_members P (x ∷ xs) h = (h x (Contains-here xs), all_members P xs (λ y m. h y (Contains-later xs m)))

at_member : {X : Type 0} (P : X → Type 0) (xs : List X) → AllByRecursion P xs → (x : X) → Contains xs x → P x
at_member P [] h x m = absurd (Contains-nil m)
at_member P (y ∷ ys) h x m = elim (Contains-cases ys m) [
  | inl is ↦ subst P (sym is) h.0
  | inr later ↦ at_member P ys h.1 x later
]

-- ---- serial order

pub place_is : (t : Tables) (a : ℕ) → serial_place t a ≡ place_in (serial t) a
place_is t a = place_len (λ i. i == a) (serial t)

pub listed : (t : Tables) → ListsItems t → (a : ℕ) → a < length t.items → Contains (serial t) a
listed t lists a lt = (lists.items a).1 lt

turned : (t : Tables) (a b : ℕ) → serial_place t b < serial_place t a → by_serial t (a, b) ≡ (b, a)
turned t a b lt = rw (lt-ltb _ _ lt) refl

straight : (t : Tables) (a b : ℕ) → serial_place t a ≤ serial_place t b → by_serial t (a, b) ≡ (a, b)
straight t a b le = rw (le-ltb _ _ le) refl

abbrev Runs : Tables → ℕ × ℕ → Type 0
Runs t p = events.Before (graph_of t.nodes) (run_of t p.0) (run_of t p.1)

pub pair_kept : (t : Tables) (firsts : List ℕ) (out : ℕ → Bool) → AreFirsts t firsts → ListsItems t → AreInTurnBut t firsts out
    → (a b : ℕ) → OfTasks t a b → out a ≡ false → out b ≡ false → IsKept t (a, b)
pair_kept t firsts out are_firsts lists turn a b h a_free b_free =
    let at = meeting_of t a b h.meets in
    let f = meeting_first t firsts are_firsts a b at.0 at.1 in
    elim (cases_lt (serial_place t a) (serial_place t b)) [
      | inl less ↦ subst (Runs t) (sym (straight t a b (omega (arith, less)))) (turn a b f.0 f.1 h.one h.other f.2 less a_free b_free)
      | inr not_less ↦ elim (cases_lt (serial_place t b) (serial_place t a)) [
        | inl more ↦ subst (Runs t) (sym (turned t a b more))
            (turn b a f.0 f.1 h.other h.one (meeting_turned t a b f.0 f.2) more b_free a_free)
        | inr not_more ↦
            let order = h.order in
            let within = h.within in
            let same : place_in (serial t) a ≡ place_in (serial t) b =
            sym (place_is t a) ∙ (omega (arith, not_less, not_more) ∙ place_is t b) in
            let one : a ≡ b =
            place_same (serial t) a b (listed t lists a (omega (arith, order, within))) (listed t lists b within) same in
            absurd (omega (arith, order, one))
      ]
    ]

pub are_kept_but : (t : Tables) (firsts : List ℕ) (out : ℕ → Bool) → AreFirsts t firsts → ListsItems t → AreInTurnBut t firsts out
    → AreKeptBut t out
are_kept_but t firsts out are_firsts lists turn a b lt e =
    let p = and_parts (is_task_at t a && is_task_at t b) (not (is_free (item_kind t a b))) e in
    let q = and_parts (is_task_at t a) (is_task_at t b) p.0 in
    pair_kept t firsts out are_firsts lists turn a b (record {
      order = lt;
      within = task_within t b q.1;
      meets = not-true (is_free (item_kind t a b)) p.1;
      one = q.0;
      other = q.1;
    })

pub are_kept : (t : Tables) (firsts : List ℕ) → AreFirsts t firsts → ListsItems t → AreInTurn t firsts → AreKept t
are_kept t firsts are_firsts lists turn = all_members (IsKept t) (task_pairs t)
    (λ p m. pair_kept t firsts (λ _. false) are_firsts lists (λ a b q at one other m less _ _. turn a b q at one other m less) p.0 p.1
    (of_tasks t p m) refl refl)

pub are_in_turn : (t : Tables) (points : List ℕ) → AreKept t → AreInTurn t points
are_in_turn t points kept a b p listed one other m less = elim (cases_lt a b) [
  | inl first ↦
      let k = at_member (IsKept t) (task_pairs t) kept (a, b) (task_pair t a b
      (record { order = first; within = task_within t b other; meets = meeting_not_free t a b p m; one = one; other = other })) in
      subst (Runs t) (straight t a b (omega (arith, less))) k
  | inr not_first ↦ elim (cases_lt b a) [
    | inl last ↦
        let k = at_member (IsKept t) (task_pairs t) kept (b, a)
        (task_pair t b a (record {
          order = last;
          within = task_within t a one;
          meets =
              meeting_not_free t b a p (meeting_turned t a b p m);
          one = other;
          other = one;
        })) in
        subst (Runs t) (turned t b a less) k
    | inr not_last ↦
        let is : a ≡ b = omega (arith, not_first, not_last) in
        let same : serial_place t a ≡ serial_place t b = ap (serial_place t) is in
        absurd (omega (arith, less, same))
  ]
]
