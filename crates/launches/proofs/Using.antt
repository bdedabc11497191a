-- Interference among requirements is what breaks the rule.
use Rattle.std.proofs.Common.{◌≡◌, ◌≢◌, ℕ, ◌+◌, ◌<◌, ◌≤◌, ◌==◌, nat_lt, true, false, not, ◌&&◌, List, [], ◌∷◌, ◌++◌, Contains, find, fold, length, map, Option, Some, None, option_map, refl, sym, ap, subst, ◌∙◌, inl, inr, arith, append_assoc, append-nil, if◌then◌else◌}
use Rattle.std.specs.List.{cons_option, filter_map}
use Rattle.std.specs.Option.{option_map_or}
use Rattle.std.proofs.lemmas.Bool.{and_from, and_parts, cases_Bool, eq-eqb, eqb-false, eqb-true, false≢true, le-ltb, lt-ltb, ltb-false, ltb-true, ne_eqb, not-true, not_from_false}
use Rattle.std.proofs.lemmas.List.Elements.{Contains-append_right}
use Rattle.std.proofs.lemmas.Option.{none-some}
use Rattle.list_lemmas.proofs.lemmas.Firsts.{map_cases}
use Rattle.log_tables.proofs.lemmas.Members.{has_in, in_has}
use Rattle.launch_claims.specs.declared.requirement.LaunchTasks.{LaunchTasks}
use Rattle.launch_claims.specs.declared.requirement.Requirement.{Requirement}
use Rattle.launch_claims.specs.Interference.{Conflict, InterferesAt, IsKnownAt, IsLeast, IsTaskOf, ShareNumber}
use Rattle.launch_claims.proofs.lemmas.Least.{least_same}
use Rattle.vocabulary.specs.Prelude.{Priv, Coherence, agree, both_atomic, kind_of, is_free, PrivWord, Record, Lined, Tables, Space, meets, is_in, lined, lined_from, no_tables, points_in, points_of, plane_points, tables_of, with_record, privilege_of, coherence_of}
use Rattle.spy_grammar.specs.declared.record.Record.TheVariants as records
use Rattle.semantics.specs.Launches.{TaskLaunch, clash, is_launched}
use Rattle.launches.specs.Interfering.{BreaksAt, written_before}
use Rattle.launches.specs.Uses.{DeclaredSpace, Use, asked_by, space_by_record, tasks_by, use_seen}
use Rattle.launches.specs.Walks.{AreInOrder}
use Rattle.list_lemmas.proofs.lemmas.Contained.{member_filter_map, filter_map_member, map_member, member_map, any_at, any_found}

-- ---- the points that a space has at a line

abbrev space_row : Record → Option Space
space_row (records.Ispace id set) = Some (record { id = id; points = points_of set })
space_row (records.Plane id quads) = Some (record { id = id; points = plane_points quads })
space_row _ = None

row_more : (t : Tables) (n : ℕ) (r : Record) → (with_record t n r).spaces ≡ t.spaces ++ cons_option (space_row r) []
row_more t n (records.Ispace id set) = refl
row_more t n (records.Plane id quads) = refl
row_more t n _ = sym (append-nil t.spaces)

rows_joined : (xs : List Space) (o : Option Space) (ys : List Space) → (xs ++ cons_option o []) ++ ys ≡ xs ++ cons_option o ys
rows_joined xs None ys = ap (λ (zs : List Space). zs ++ ys) (append-nil xs)
rows_joined xs (Some x) ys = append_assoc xs (x ∷ []) ys

rows_from : (n : ℕ) (t : Tables) (rs : List Record)
    → (fold (λ (u : Tables) (l : Lined). with_record u l.line l.rec) t (lined_from n rs)).spaces ≡ t.spaces ++ filter_map space_row rs
rows_from n t [] = sym (append-nil t.spaces)
rows_from n t (r ∷ rs) =
    rows_from (n + 1) (with_record t n r) rs ∙ ap (λ (xs : List Space). xs ++ filter_map space_row rs) (row_more t n r)
    ∙ rows_joined t.spaces (space_row r) (filter_map space_row rs)

-- What is known of the points of a space by its declaration, at a line.
abbrev points_known : ℕ → Option DeclaredSpace → List ℕ
points_known n None = []
points_known n (Some d) = if nat_lt d.line n then d.points else []

abbrev points_found : List Space → ℕ → List ℕ
points_found spaces id = option_map_or (λ (s : Space). s.points) (find (λ (s : Space). s.id == id) spaces) []

none_written : (n : ℕ) (ws : List (ℕ × Record)) → ((w : ℕ × Record) → Contains ws w → n ≤ w.0) → written_before n ws ≡ []
none_written n [] h = refl
none_written n (w ∷ ws) h = rw (le-ltb w.0 n (h w (0, omega arith, refl)))
    (none_written n ws (λ v k. h v (Contains-append_right (w ∷ []) ws v k)))

-- A record that declares a space, before others in which it is known where the space is found.
found_space : (n id k other : ℕ) (points : List ℕ) (r : Record) (ws : List (ℕ × Record))
    → space_row r ≡ Some (record { id = other; points = points })
    → space_by_record (k, r) ≡ Some (record { id = other; points = points; line = k })
    → ((w : ℕ × Record) → Contains ws w → k ≤ w.0)
    → points_found (filter_map space_row (written_before n ws)) id
    ≡ points_known n (find (λ (d : DeclaredSpace). d.id == id) (filter_map space_by_record ws))
    → points_found (filter_map space_row (written_before n ((k, r) ∷ ws))) id
    ≡ points_known n (find (λ (d : DeclaredSpace). d.id == id) (filter_map space_by_record ((k, r) ∷ ws)))
found_space n id k other points r ws row declared order rest = elim (cases_Bool (nat_lt k n)) [
  | inl early ↦ elim (cases_Bool (other == id)) [
    | inl here ↦ rw (early, row, declared, here, early) refl
    | inr there ↦ rw (early, row, declared, there) rest
  ]
  | inr late ↦ elim (cases_Bool (other == id)) [
    | inl here ↦
        let none = none_written n ws (λ w h. let le = order w h in omega (arith, ltb-false k n late, le)) in
        rw (late, declared, here, late, none) refl
    | inr there ↦ rw (late, declared, there) rest
  ]
]

found_at : (n id : ℕ) (ws : List (ℕ × Record)) → AreInOrder ws
    → points_found (filter_map space_row (written_before n ws)) id
    ≡ points_known n (find (λ (d : DeclaredSpace). d.id == id) (filter_map space_by_record ws))
found_at n id [] order = refl
found_at n id ((k, records.Ispace other set) ∷ ws) order =
    found_space n id k other (points_of set) (records.Ispace other set) ws refl refl order.0 (found_at n id ws order.1)
found_at n id ((k, records.Plane other quads) ∷ ws) order =
    found_space n id k other (plane_points quads) (records.Plane other quads) ws refl refl order.0 (found_at n id ws order.1)
found_at n id ((k, _) ∷ ws) order = elim (cases_Bool (nat_lt k n)) [
  | inl early ↦ rw early (found_at n id ws order.1)
  | inr late ↦ rw late (found_at n id ws order.1)
]

points_at : (n id : ℕ) (ws : List (ℕ × Record)) → AreInOrder ws
    → points_in (tables_of (lined (written_before n ws))) id
    ≡ points_known n (find (λ (d : DeclaredSpace). d.id == id) (filter_map space_by_record ws))
points_at n id ws order = ap (λ (xs : List Space). points_found xs id) (rows_from 1 no_tables (written_before n ws))
    ∙ found_at n id ws order

-- ---- points and fields in common

known_at : (n : ℕ) (o : Option DeclaredSpace) (x : ℕ) → Contains (points_known n o) x → (d : DeclaredSpace) × (o ≡ Some d) × (d.line < n)
    × Contains d.points x
known_at n None x h = absurd (let lt = h.1 in omega (arith, lt))
known_at n (Some d) x h = elim (cases_Bool (nat_lt d.line n)) [
  | inl early ↦ (d, refl, ltb-true d.line n early, rw early at h)
  | inr late ↦ let none : Contains [] x = rw late at h in absurd (let lt = none.1 in omega (arith, lt))
]

known_from : (n : ℕ) (o : Option DeclaredSpace) (d : DeclaredSpace) (x : ℕ) → o ≡ Some d → d.line < n → Contains d.points x
    → Contains (points_known n o) x
known_from n o d x is lt h = subst (λ (p : Option DeclaredSpace). Contains (points_known n p) x) (sym is) (rw (lt-ltb d.line n lt) h)

meets_of : (xs ys : List ℕ) → meets xs ys ≡ true → ShareNumber xs ys
meets_of xs ys h = let r = any_found (is_in ys) xs h in (r.0, r.1, has_in ys r.0 r.2)

meets_from : (xs ys : List ℕ) → ShareNumber xs ys → meets xs ys ≡ true
meets_from xs ys h = any_at (is_in ys) xs h.0 h.1 (in_has ys h.0 h.2)

-- ---- when two requirements clash

free_where : (p q : Priv) (c d : Coherence) → is_free (kind_of p c q d) ≡ agree p q
free_where p q c d = elim (cases_Bool (agree p q)) [
  | inl a ↦ rw (a) refl
  | inr n ↦ elim (cases_Bool (both_atomic c d)) [ inl a ↦ rw (n, a) refl | inr m ↦ rw (n, m) refl ]
]

task_of : (l : ℕ × TaskLaunch) (id : ℕ) → is_launched l.1 id ≡ true → IsTaskOf (tasks_by l) id
task_of l id h = let p = and_parts (not (nat_lt id l.1.base)) _ h in
    (ltb-false id l.1.base (not-true _ p.0), ltb-true id (l.1.base + length l.1.colours) p.1)

task_from : (l : ℕ × TaskLaunch) (id : ℕ) → IsTaskOf (tasks_by l) id → is_launched l.1 id ≡ true
task_from l id h = and_from _ _ (not_from_false _ (le-ltb id l.1.base h.0)) (lt-ltb id (l.1.base + length l.1.colours) h.1)

-- Two requirements that clash in a launch at a line.
record Shared (n : ℕ) (l : ℕ × TaskLaunch) (u v : Use) : Type 0 where
  declared : u.declared < n
  also : v.declared < n
  ours : IsTaskOf (tasks_by l) u.task
  theirs : IsTaskOf (tasks_by l) v.task
  tasks : u.task ≢ v.task
  tree : u.tree ≡ v.tree
  fields : ShareNumber u.fields v.fields
  points : ShareNumber u.points v.points
  accesses : agree u.access v.access ≡ false

abbrev use_on : ℕ → ℕ → ℕ → List ℕ → PrivWord → DeclaredSpace → Use
use_on k task tree fields access s = record {
  task = task;
  tree = tree;
  points = s.points;
  fields = fields;
  access = privilege_of access;
  line =
      k;
  declared = s.line;
}

-- The points that tables have of each space.
abbrev HasPoints : ℕ → List DeclaredSpace → Tables → Type 0
HasPoints n ds t = (id : ℕ) → points_in t id ≡ points_known n (find (λ (d : DeclaredSpace). d.id == id) ds)

clash_shared : (n : ℕ) (ds : List DeclaredSpace) (t : Tables) (l : ℕ × TaskLaunch) → HasPoints n ds t → (x y : ℕ × Record)
    → clash t l.1 x.1 y.1 ≡ true
    → (u : Use) × (v : Use) × (asked_by ds x ≡ Some u) × (asked_by ds y ≡ Some v) × Shared n l u v
clash_shared n ds t l points (k, records.Req task tree space fields access atomic) (
  j,
  records.Req other its_tree its_space its_fields its_access its_atomic,
) h =
    let all = and_parts (is_launched l.1 task && (is_launched l.1 other && not (task == other))) _ h in
    let tasks = and_parts (is_launched l.1 task) _ all.0 in
    let apart = and_parts (is_launched l.1 other) _ tasks.1 in
    let trees = and_parts (tree == its_tree) _ all.1 in
    let meet = and_parts (meets fields its_fields) _ trees.1 in
    let place = and_parts (meets (points_in t space) (points_in t its_space)) _ meet.1 in
    let point = meets_of (points_in t space) (points_in t its_space) place.0 in
    let one = known_at n (find (λ (d : DeclaredSpace). d.id == space) ds) point.0
    (subst (λ (xs : List ℕ). Contains xs point.0) (points space) point.1) in
    let two = known_at n (find (λ (d : DeclaredSpace). d.id == its_space) ds) point.0
    (subst (λ (xs : List ℕ). Contains xs point.0) (points its_space) point.2) in (
      use_on k task tree fields access one.0,
      use_on j other its_tree its_fields its_access two.0,
      ap (option_map (use_on k task tree fields access)) one.1,
      ap (option_map (use_on j other its_tree its_fields its_access)) two.1,
      record {
        declared = one.2;
        also = two.2;
        ours = task_of l task tasks.0;
        theirs = task_of l other apart.0;
        tasks = eqb-false task other (not-true _ apart.1);
        tree = eqb-true tree its_tree trees.0;
        fields = meets_of fields its_fields meet.0;
        points = (point.0, one.3, two.3);
        accesses = sym (free_where (privilege_of access) (privilege_of its_access) (coherence_of atomic) (coherence_of its_atomic))
            ∙ not-true _ place.1;
      },
    )
clash_shared n ds t l points (k, records.Req task tree space fields access atomic) (j, _) h = absurd (false≢true h)
clash_shared n ds t l points (k, _) y h = absurd (false≢true h)

shared_clash : (n : ℕ) (ds : List DeclaredSpace) (t : Tables) (l : ℕ × TaskLaunch) → HasPoints n ds t → (x y : ℕ × Record) (u v : Use)
    → asked_by ds x ≡ Some u → asked_by ds y ≡ Some v → Shared n l u v → clash t l.1 x.1 y.1 ≡ true
shared_clash n ds t l points (k, records.Req task tree space fields access atomic) (
  j,
  records.Req other its_tree its_space its_fields its_access its_atomic,
) u v asks others shared =
    let one = map_cases (use_on k task tree fields access) (find (λ (d : DeclaredSpace). d.id == space) ds) u asks in
    let two = map_cases (use_on j other its_tree its_fields its_access) (find (λ (d : DeclaredSpace). d.id == its_space) ds) v others in
    let s : Shared n l (use_on k task tree fields access one.0) (use_on j other its_tree its_fields its_access two.0) =
    subst (λ (z : Use). Shared n l z (use_on j other its_tree its_fields its_access two.0)) (sym one.2)
    (subst (λ (z : Use). Shared n l u z) (sym two.2) shared) in
    let point = s.points in
    let here = subst (λ (xs : List ℕ). Contains xs point.0) (sym (points space))
    (known_from n (find (λ (d : DeclaredSpace). d.id == space) ds) one.0 point.0 one.1 s.declared point.1) in
    let there = subst (λ (xs : List ℕ). Contains xs point.0) (sym (points its_space))
    (known_from n (find (λ (d : DeclaredSpace). d.id == its_space) ds) two.0 point.0 two.1 s.also point.2) in
    and_from _ _ (and_from _ _ (task_from l task s.ours)
    (and_from _ _ (task_from l other s.theirs) (not_from_false _ (ne_eqb task other s.tasks))))
    (and_from _ _ (eq-eqb tree its_tree s.tree) (and_from _ _ (meets_from fields its_fields s.fields)
    (and_from _ _ (meets_from (points_in t space) (points_in t its_space) (point.0, here, there))
    (not_from_false _ (free_where (privilege_of access) (privilege_of its_access) (coherence_of atomic) (coherence_of its_atomic)
    ∙ s.accesses)))))
shared_clash n ds t l points (k, records.Req task tree space fields access atomic) (j, _) u v asks others shared =
    absurd (none-some v others)
shared_clash n ds t l points (k, _) y u v asks others shared = absurd (none-some u asks)

asked_line : (ds : List DeclaredSpace) (x : ℕ × Record) (u : Use) → asked_by ds x ≡ Some u → u.line ≡ x.0
asked_line ds (k, records.Req task tree space fields access atomic) u asks =
    let one = map_cases (use_on k task tree fields access) (find (λ (d : DeclaredSpace). d.id == space) ds) u asks in
    sym (ap (λ (z : Use). z.line) one.2)
asked_line ds (k, _) u asks = absurd (none-some u asks)

-- ---- all of them

breaks_from : {P : Type 0} (points : P → List ℕ) (ls : List (ℕ × TaskLaunch)) (ws : List (ℕ × Record))
    (reqs : List (Requirement P)) (n : ℕ) → AreInOrder ws
    → map (use_seen points) reqs ≡ filter_map (asked_by (filter_map space_by_record ws)) ws
    → InterferesAt points (map tasks_by ls) reqs n → BreaksAt ls ws n
breaks_from points ls ws reqs n order are h =
    let ds = filter_map space_by_record ws in
    let l = member_map tasks_by ls h.0 h.1 in
    let u = h.2.0 in
    let v = h.2.1 in
    let own = member_filter_map (asked_by ds) ws (use_seen points u)
    (subst (λ (xs : List Use). Contains xs (use_seen points u)) are (map_member (use_seen points) reqs u h.2.2.0)) in
    let other = member_filter_map (asked_by ds) ws (use_seen points v)
    (subst (λ (xs : List Use). Contains xs (use_seen points v)) are (map_member (use_seen points) reqs v h.2.3.0)) in
    let known : IsKnownAt (tasks_by l.0) n u v = subst (λ (x : LaunchTasks). IsKnownAt x n u v) l.2 h.2.4 in
    let conflict = h.2.5 in
    let here = asked_line ds own.0 (use_seen points u) own.2 in
    let there = asked_line ds other.0 (use_seen points v) other.2 in
    let asks = known.asks in
    let others = known.others in
    record {
      launch = l.0;
      own = own.0;
      other = other.0;
      launched = l.1;
      writes = own.1;
      has = other.1;
      earlier = known.launched;
      at = omega (arith, here, asks);
      until = omega (arith, there, others);
      clash = shared_clash n ds (tables_of (lined (written_before n ws))) l.0 (λ id. points_at n id ws order) own.0 other.0
          (use_seen points u) (use_seen points v) own.2 other.2 (record {
            declared = known.declared;
            also = known.others_declared;
            ours = subst (λ (x : LaunchTasks). IsTaskOf x u.task) l.2 h.2.2.1;
            theirs = subst (λ (x : LaunchTasks). IsTaskOf x v.task) l.2 h.2.3.1;
            tasks = conflict.tasks;
            tree = conflict.tree;
            fields = conflict.fields;
            points = conflict.points;
            accesses = conflict.accesses;
          });
    }

breaks_to : {P : Type 0} (points : P → List ℕ) (ls : List (ℕ × TaskLaunch)) (ws : List (ℕ × Record))
    (reqs : List (Requirement P)) (n : ℕ) → AreInOrder ws
    → map (use_seen points) reqs ≡ filter_map (asked_by (filter_map space_by_record ws)) ws
    → BreaksAt ls ws n → InterferesAt points (map tasks_by ls) reqs n
breaks_to points ls ws reqs n order are b =
    let ds = filter_map space_by_record ws in
    let r = clash_shared n ds (tables_of (lined (written_before n ws))) b.launch (λ id. points_at n id ws order) b.own b.other b.clash in
    let u = member_map (use_seen points) reqs r.0 (subst (λ (xs : List Use). Contains xs r.0) (sym are)
    (filter_map_member (asked_by ds) ws b.own r.0 b.writes r.2)) in
    let v = member_map (use_seen points) reqs r.1 (subst (λ (xs : List Use). Contains xs r.1) (sym are)
    (filter_map_member (asked_by ds) ws b.other r.1 b.has r.3)) in
    let s : Shared n b.launch (use_seen points u.0) (use_seen points v.0) =
    subst (λ (z : Use). Shared n b.launch z (use_seen points v.0)) u.2 (subst (λ (z : Use). Shared n b.launch r.0 z) v.2 r.4) in
    let here : u.0.record ≡ b.own.0 = ap (λ (z : Use). z.line) (sym u.2) ∙ asked_line ds b.own r.0 r.2 in
    let there : v.0.record ≡ b.other.0 = ap (λ (z : Use). z.line) (sym v.2) ∙ asked_line ds b.other r.1 r.3 in
    let at = b.at in
    let until = b.until in
    let known : IsKnownAt (tasks_by b.launch) n u.0 v.0 = record {
      launched = b.earlier;
      asks = omega (arith, here, at);
      declared = s.declared;
      others = omega (arith, there, until);
      others_declared = s.also;
    } in
    let conflict : Conflict points u.0 v.0 = record {
      tasks = s.tasks;
      tree = s.tree;
      fields = s.fields;
      points = s.points;
      accesses =
          s.accesses;
    } in
    (tasks_by b.launch, map_member tasks_by ls b.launch b.launched, (u.0, v.0, (u.1, s.ours), (v.1, s.theirs), known, conflict))

-- The first interference among requirements is the first that breaks the rule.
pub first_broken : {P : Type 0} (points : P → List ℕ) (ls : List (ℕ × TaskLaunch)) (ws : List (ℕ × Record)) (tasks : List LaunchTasks)
    (spaces : List DeclaredSpace) (reqs : List (Requirement P)) (o : Option ℕ) → AreInOrder ws
    → tasks ≡ map tasks_by ls → spaces ≡ filter_map space_by_record ws → map (use_seen points) reqs ≡ filter_map (asked_by spaces) ws
    → IsLeast (InterferesAt points tasks reqs) o → IsLeast (BreaksAt ls ws) o
first_broken points ls ws tasks spaces reqs o order are declared asked h =
    let all : map (use_seen points) reqs ≡ filter_map (asked_by (filter_map space_by_record ws)) ws =
    subst (λ (ds : List DeclaredSpace). map (use_seen points) reqs ≡ filter_map (asked_by ds) ws) declared asked in
    least_same (InterferesAt points (map tasks_by ls) reqs) (BreaksAt ls ws) (λ n. breaks_from points ls ws reqs n order all)
    (λ n. breaks_to points ls ws reqs n order all) o (subst (λ (ts : List LaunchTasks). IsLeast (InterferesAt points ts reqs) o) are h)
