-- The users that meet at some place are the tasks that interfere.
use Rattle.std.proofs.Common.{◌≡◌, ℕ, ◌+◌, ◌<◌, inl, inr, Bool, true, false, not, ◌&&◌, ◌||◌, ◌==◌, List, Contains, All, refl, sym, ap, ap₂, ◌∙◌, subst, arith, filter, length, slice_index}
use Rattle.std.specs.List.{list_any}
use Rattle.std.proofs.lemmas.Bool.{and_parts, and_from, eqb-true, eq-eqb, not-true}
use Rattle.std.proofs.lemmas.Bool.Decides.{nat_tests}
use Rattle.std.proofs.lemmas.List.Elements.{All-contains}
use Rattle.vocabulary.specs.Prelude.{Priv, Cell, Place, Req, Tables, agree, is_free, item_kind, is_in, uses_of, covers}
use Rattle.privilege.specs.declared.kinds.Priv.TheVariants.{Ro, Rw, Wd, Red}
use Rattle.semantics.specs.SerialOrder.{serial, serial_place}
use Rattle.semantics.specs.Shown.{is_task_at}
use Rattle.list_lemmas.proofs.lemmas.Contained.{all_contained, any_at, any_found}
use Rattle.list_lemmas.proofs.lemmas.Filtered.{in_filter}
use Rattle.list_lemmas.proofs.lemmas.Pairs.{AllPairs-cases}
use Rattle.cell_races.specs.declared.cell_accesses.CellAccess.{CellAccess}
use Rattle.cell_races.specs.CellAccesses.{cell_access}
use Rattle.order_laws.specs.Turns.{Meeting, ListsItems, AgreeWithThemselves, do_interfere}
use Rattle.order_laws.specs.TaskAccesses.{access_of}
use Rattle.order_laws.proofs.lemmas.TaskUses.{task_uses, own_req, task_within}
use Rattle.order_laws.proofs.lemmas.SerialPlaces.{item_at, serial_place_within}
use Rattle.task_order.specs.Gathered.{place_at, AreDoneBy}
use Rattle.pair_rows.specs.declared.users.User.{User}
use Rattle.pair_rows.specs.Meetings.{meets, met, met_at_some, HasOneClass, AreByClass, IsPlace}
use Rattle.task_order.specs.Users.{class_of, user_of, AreUsersOf, AreTaskPlaces}

-- ---- users that meet

both_ways : (b c : Bool) → (b ≡ true → c ≡ true) → (c ≡ true → b ≡ true) → b ≡ c
both_ways true c h k = sym (h refl)
both_ways false true h k = k refl
both_ways false false h k = refl

-- Two users of one of some places meet, and have these items.
record Met (places : List (List User)) (a b : ℕ) : Type 0 where
  pub users : List User
  pub place : Contains places users
  pub u : User
  pub v : User
  pub u_in : Contains users u
  pub v_in : Contains users v
  pub u_is : u.item ≡ a
  pub v_is : v.item ≡ b
  pub meet : meets u v ≡ true

found : (places : List (List User)) (a b : ℕ) → met_at_some places a b ≡ true → Met places a b
found places a b e =
    let users = any_found (λ users. met users users a b) places e in
    let u = any_found (λ (u : User). (u.item == a) && list_any (λ (v : User). (v.item == b) && meets u v) users.0) users.0 users.2 in
    let p = and_parts (u.0.item == a) (list_any (λ (v : User). (v.item == b) && meets u.0 v) users.0) u.2 in
    let v = any_found (λ (v : User). (v.item == b) && meets u.0 v) users.0 p.1 in
    let q = and_parts (v.0.item == b) (meets u.0 v.0) v.2 in
    record {
      users = users.0;
      place = users.1;
      u = u.0;
      v = v.0;
      u_in = u.1;
      v_in = v.1;
      u_is = eqb-true u.0.item a p.0;
      v_is = eqb-true v.0.item b q.0;
      meet = q.1;
    }

told : (places : List (List User)) (a b : ℕ) → Met places a b → met_at_some places a b ≡ true
told places a b m =
    let v = any_at (λ (v : User). (v.item == b) && meets m.u v) m.users m.v m.v_in
    (and_from (m.v.item == b) (meets m.u m.v) (eq-eqb m.v.item b m.v_is) m.meet) in
    any_at (λ users. met users users a b) places m.users m.place
    (any_at (λ (u : User). (u.item == a) && list_any (λ (v : User). (v.item == b) && meets u v) m.users) m.users m.u m.u_in
    (and_from (m.u.item == a) _ (eq-eqb m.u.item a m.u_is) v))

-- ---- classes

classes_tell : (u v : User) (p q : Priv) → u.class ≡ class_of (access_of p) → v.class ≡ class_of (access_of q)
    → meets u v ≡ not (agree p q)
classes_tell u v p q e f = ap₂ (λ c d. (c == 0) || not (c == d)) e f ∙ by p q
  where
    by : (p q : Priv) → ((class_of (access_of p) == 0) || not (class_of (access_of p) == class_of (access_of q))) ≡ not (agree p q)
    by Ro Ro = refl
    by Ro Rw = refl
    by Ro Wd = refl
    by Ro (Red m) = grind (arith, nat_tests)
    by Rw Ro = refl
    by Rw Rw = refl
    by Rw Wd = refl
    by Rw (Red m) = refl
    by Wd Ro = refl
    by Wd Rw = refl
    by Wd Wd = refl
    by Wd (Red m) = refl
    by (Red n) Ro = grind (arith, nat_tests)
    by (Red n) Rw = grind (arith, nat_tests)
    by (Red n) Wd = grind (arith, nat_tests)
    by (Red n) (Red m) = grind (arith, nat_tests)

agrees_class : (p q : Priv) → agree p q ≡ true → class_of (access_of p) ≡ class_of (access_of q)
agrees_class Ro Ro e = refl
agrees_class Ro Rw e = absurd cc
agrees_class Ro Wd e = absurd cc
agrees_class Ro (Red m) e = absurd cc
agrees_class Rw Ro e = absurd cc
agrees_class Rw Rw e = absurd cc
agrees_class Rw Wd e = absurd cc
agrees_class Rw (Red m) e = absurd cc
agrees_class Wd Ro e = absurd cc
agrees_class Wd Rw e = absurd cc
agrees_class Wd Wd e = absurd cc
agrees_class Wd (Red m) e = absurd cc
agrees_class (Red n) Ro e = absurd cc
agrees_class (Red n) Rw e = absurd cc
agrees_class (Red n) Wd e = absurd cc
agrees_class (Red n) (Red m) e = ap (λ k. k + 2) (eqb-true n m e)

-- ---- a task that uses a place

record Uses (t : Tables) (u : User) (p : Place) : Type 0 where
  pub r : Req
  pub task : is_task_at t u.item ≡ true
  pub of_item : Contains (uses_of t u.item) r
  pub at : covers t p r ≡ true
  pub class : u.class ≡ class_of (access_of r.access)

module _ (t : Tables) (lists : ListsItems t) (firsts : List ℕ) (cell_accesses : List CellAccess) (done : AreDoneBy t firsts t.reqs cell_accesses) where
  task_item : (r : Req) → is_task_at t r.item ≡ true → r.item < length t.items
  task_item r task = task_within t r.item task

  uses : (u : User) (x : CellAccess) → Contains cell_accesses x → u ≡ user_of (serial t) x → Uses t u (place_at x.cell)
  uses u x m is =
      let s = done.sound x m in
      let d = s.2 in
      let item : u.item ≡ s.0.item = ap (λ (u : User). u.item) is
      ∙ (ap (slice_index (serial t)) d.place ∙ item_at t lists s.0.item (task_item s.0 d.task)) in
      let task : is_task_at t u.item ≡ true = ap (is_task_at t) item ∙ d.task in
      record {
        r = s.0;
        task = task;
        of_item = subst (λ rs. Contains rs s.0) (sym (task_uses t u.item task))
            (in_filter (λ (r : Req). r.item == u.item) t.reqs s.0 s.1 (eq-eqb s.0.item u.item (sym item)));
        at = d.covered;
        class = ap (λ (u : User). u.class) is ∙ ap class_of d.access;
      }

  pub places_within : (x : CellAccess) → Contains cell_accesses x → x.place < length (serial t)
  places_within x m =
      let s = done.sound x m in
      let within = serial_place_within t lists s.0.item (task_item s.0 s.2.task) in
      let place = s.2.place in
      omega (arith, within, place)

  -- What the task does by this requirement is listed.
  cell_access_in : (a : ℕ) (p : Place) (r : Req) → is_task_at t a ≡ true → Contains (uses_of t a) r → covers t p r ≡ true
      → is_in firsts p.point ≡ true
      → Contains cell_accesses (cell_access (serial_place t a) (record { inst = p.tree; point = p.point; field = p.field }) (access_of r.access))
  cell_access_in a p r task m at listed =
      let own = own_req t a r task m in
      done.whole r (cell_access (serial_place t a) (record { inst = p.tree; point = p.point; field = p.field }) (access_of r.access))
      own.0
      (record {
        task = ap (is_task_at t) own.1 ∙ task;
        covered = at;
        listed = listed;
        place = ap (serial_place t) (sym own.1);
        access =
            refl;
      })

  module _ (own : AgreeWithThemselves t) (places : List (List User)) (are : AreUsersOf (serial t) cell_accesses places)
      (some : (a b : ℕ) (p : Place) → Meeting t a b p → is_free (item_kind t a b) ≡ false)
      (first : (a b : ℕ) → is_free (item_kind t a b) ≡ false → (p : Place) × (is_in firsts p.point ≡ true) × Meeting t a b p) where
    one_class : (users : List User) → Contains places users → HasOneClass users
    one_class users place u v um vm item =
        let s = are.sound users place u v um vm in
        let p = place_at s.x.cell in
        let one = uses u s.x s.x_in s.u_is in
        let other : Uses t v p = subst (λ c. Uses t v (place_at c)) (sym s.same) (uses v s.y s.y_in s.v_is) in
        let here = filter (covers t p) (uses_of t u.item) in
        let q_in = in_filter (covers t p) (uses_of t u.item) one.r one.of_item one.at in
        let r_in = in_filter (covers t p) (uses_of t u.item) other.r
        (subst (λ a. Contains (uses_of t a) other.r) (sym item) other.of_item) other.at in
        let agrees = λ (q : Req) (r : Req). agree q.access r.access ≡ true in
        one.class
        ∙ elim (AllPairs-cases agrees here (own u.item p one.task) one.r other.r q_in r_in) [
          | inl same ↦ ap (λ (r : Req). class_of (access_of r.access)) same
          | inr (inl agree) ↦ agrees_class one.r.access other.r.access agree
          | inr (inr agree) ↦ sym (agrees_class other.r.access one.r.access agree)
        ]
        ∙ sym other.class

    meet_sound : (a b : ℕ) → Met places a b → do_interfere t a b ≡ true
    meet_sound a b m =
        let s = are.sound m.users m.place m.u m.v m.u_in m.v_in in
        let p = place_at s.x.cell in
        let one : Uses t m.u p = uses m.u s.x s.x_in s.u_is in
        let other : Uses t m.v p = subst (λ c. Uses t m.v (place_at c)) (sym s.same) (uses m.v s.y s.y_in s.v_is) in
        let meeting : Meeting t m.u.item m.v.item p = record {
          q = one.r;
          r = other.r;
          of_a = one.of_item;
          of_b = other.of_item;
          at_a = one.at;
          at_b = other.at;
          differ = not-true (agree one.r.access other.r.access)
              (sym (classes_tell m.u m.v one.r.access other.r.access one.class other.class) ∙ m.meet);
        } in
        let so : do_interfere t m.u.item m.v.item ≡ true =
        and_from (is_task_at t m.u.item && is_task_at t m.v.item) _ (and_from (is_task_at t m.u.item) _ one.task other.task)
        (ap not (some m.u.item m.v.item p meeting)) in
        sym (ap₂ (do_interfere t) m.u_is m.v_is) ∙ so

    meet_whole : (a b : ℕ) → do_interfere t a b ≡ true → Met places a b
    meet_whole a b e =
        let parts = and_parts (is_task_at t a && is_task_at t b) (not (is_free (item_kind t a b))) e in
        let tasks = and_parts (is_task_at t a) (is_task_at t b) parts.0 in
        let f = first a b (not-true (is_free (item_kind t a b)) parts.1) in
        let p = f.0 in
        let m = f.2 in
        let cell : Cell = record { inst = p.tree; point = p.point; field = p.field } in
        let x : CellAccess = cell_access (serial_place t a) cell (access_of m.q.access) in
        let y : CellAccess = cell_access (serial_place t b) cell (access_of m.r.access) in
        let s = are.whole x y (cell_access_in a p m.q tasks.0 m.of_a m.at_a f.1) (cell_access_in b p m.r tasks.1 m.of_b m.at_b f.1) refl in
        record {
          users = s.users;
          place = s.place;
          u = user_of (serial t) x;
          v = user_of (serial t) y;
          u_in = s.one;
          v_in = s.other;
          u_is = item_at t lists a (task_within t a tasks.0);
          v_is = item_at t lists b (task_within t b tasks.1);
          meet = classes_tell (user_of (serial t) x) (user_of (serial t) y) m.q.access m.r.access refl refl ∙ ap not m.differ;
        }

    pub task_places : All AreByClass places → AreTaskPlaces t places
    task_places classes = record {
      each = all_contained IsPlace places (λ users m. record {
        once = one_class users m;
        classes =
            All-contains AreByClass places users classes m;
      });
      meet = λ a b. both_ways (met_at_some places a b) (do_interfere t a b) (λ e. meet_sound a b (found places a b e))
          (λ e. told places a b (meet_whole a b e));
    }
