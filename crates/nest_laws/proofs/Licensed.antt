-- What a child asks for is licensed by each group above it.
use Rattle.std.proofs.Common.{◌≡◌, ℕ, zero, suc, ◌==◌, ◌&&◌, true, false, not, inl, inr, List, [], ◌∷◌, filter, find, length, refl, sym, ap, ◌∙◌, subst, Option, Some, None, Contains}
use Rattle.std.proofs.lemmas.Bool.{cases_Bool, and_parts, or_cases, eq-eqb, eqb-true}
use Rattle.privilege.specs.declared.kinds.Priv.TheVariants.{Ro, Rw, Wd, Red}
use Rattle.privilege.specs.Allowed.{contains}
use Rattle.vocabulary.specs.Prelude.{Priv, Place, Req, Tables, place_of, is_in, points_in, covers, req_grid, reqs_of, least_of}
use Rattle.semantics.specs.declared.groups.Child.{Child}
use Rattle.semantics.specs.declared.groups.Group.{Group}
use Rattle.semantics.specs.declared.groups.GroupMember.{GroupMember}
use Rattle.semantics.specs.Nesting.{Nesting, parent_of, group_above, from_group, ancestors, is_below, privileges_of, licenses, children, reqs_of_child, req_places, unlicensed_place, first_given, unlicensed_child, shown_unlicensed}
use Rattle.log_laws.proofs.lemmas.Members.{member_in}
use Rattle.log_laws.proofs.lemmas.Apart.{grid_member}
use Rattle.std.proofs.lemmas.List.Elements.{Contains-append_left, Contains-append_right}
use Rattle.list_lemmas.proofs.lemmas.Contained.{both_none, unmapped_none, map_member, filter_map_member, any_at, any_found, found_at, Contains-nil, Contains-cases}
use Rattle.list_lemmas.proofs.lemmas.Filtered.{in_filter}
use Rattle.list_lemmas.proofs.lemmas.Firsts.{cases_option}

-- ---- privileges

pub contains_all : (p q r : Priv) → contains p q ≡ true → contains q r ≡ true → contains p r ≡ true
contains_all Rw q r first then = refl
contains_all Ro Ro r first then = then
contains_all Wd Wd r first then = then
contains_all (Red a) (Red b) (Red c) first then = eq-eqb a c (eqb-true a b first ∙ eqb-true b c then)
contains_all p q r first then = absurd cc

-- ---- what is given first

-- Where nothing is given, no element gives anything.
given_none : {X Y : Type 0} (f : X → Option Y) (xs : List X) → first_given f xs ≡ None → (x : X) → Contains xs x → f x ≡ None
given_none f [] none x m = absurd (Contains-nil m)
given_none f (y ∷ ys) none x m =
    let both = both_none (f y) (first_given f ys) none in
    elim (Contains-cases ys m) [ inl is ↦ ap f is ∙ both.0 | inr later ↦ given_none f ys both.1 x later ]

-- ---- places

pub place_of_req : (t : Tables) (r : Req) (p : Place) → covers t p r ≡ true → Contains (req_places t r) p
place_of_req t r p c =
    let parts = and_parts (r.tree == p.tree) (is_in (points_in t r.space) p.point && is_in r.fields p.field) c in
    let more = and_parts (is_in (points_in t r.space) p.point) (is_in r.fields p.field) parts.1 in
    let at : Contains (req_places t r) (record { tree = r.tree; point = p.point; field = p.field }) =
    map_member (λ (p : ℕ × ℕ). record { tree = r.tree; point = p.0; field = p.1 }) (req_grid t r) (p.point, p.field)
    (grid_member (points_in t r.space) r.fields p.point p.field (member_in (points_in t r.space) p.point more.0)
    (member_in r.fields p.field more.1)) in
    subst (λ tree. Contains (req_places t r) (record { tree = tree; point = p.point; field = p.field })) (eqb-true r.tree p.tree parts.0) at

none_least : (ps : List Place) → least_of ps ≡ None → (p : Place) → Contains ps p → ⊥
none_least [] none p m = absurd (Contains-nil m)
none_least (q ∷ ps) none p m = absurd cc

licensed_place : (t : Tables) (n : Nesting) (group : ℕ) (r : Req) → unlicensed_place t n group r ≡ None → (p : Place) → covers t p r ≡ true
    → licenses t n group p r.access ≡ true
licensed_place t n group r none p c = elim (cases_Bool (licenses t n group p r.access)) [
  | inl so ↦ so
  | inr other ↦ absurd (none_least (filter (λ p. not (licenses t n group p r.access)) (req_places t r)) none p
      (in_filter (λ p. not (licenses t n group p r.access)) (req_places t r) p (place_of_req t r p c) (ap not other)))
]

-- ---- children

module _ (t : Tables) (n : Nesting) (none : shown_unlicensed t n ≡ None) where
  pub child_licensed : (c : Child) → Contains (children n) c → (r : Req) → Contains (reqs_of_child t n c) r → (p : Place) → covers t p r ≡ true
      → licenses t n c.group p r.access ≡ true
  child_licensed c of r asks p here =
      let given = given_none (unlicensed_child t n) (children n) none c of in
      licensed_place t n c.group r (unmapped_none _ (unlicensed_place t n c.group r)
      (given_none _ (reqs_of_child t n c) given r asks)) p here

  -- What a group licenses the group above it does.
  parent_licenses : (h k : ℕ) → group_above n h ≡ Some k → (p : Place) (access : Priv) → licenses t n h p access ≡ true
      → licenses t n k p access ≡ true
  parent_licenses h k above p access so = elim (cases_option (find (λ (g : Group). g.id == h) n.groups)) [
    | inl no_group ↦ let bad : None ≡ Some k = rw no_group at above in absurd cc
    | inr group ↦
        let found = found_at (λ (g : Group). g.id == h) n.groups group.0 group.1 in
        let parent : parent_of group.0 ≡ Some k = rw group.1 at above in
        let child : Child = record { leaf = false; id = group.0.id; group = k } in
        let of : Contains (children n) child = Contains-append_left _ _ child (filter_map_member _ n.groups group.0 child found.0 (rw parent refl)) in
        let own = any_found (λ (q : Req). covers t p q && contains q.access access) (privileges_of n h) so in
        let fits = and_parts (covers t p own.0) (contains own.0.access access) own.2 in
        let higher = any_found (λ (q : Req). covers t p q && contains q.access own.0.access) (privileges_of n k)
        (child_licensed child of own.0 (subst (λ id. Contains (privileges_of n id) own.0)
        (sym (eqb-true group.0.id h found.1)) own.1) p fits.0) in
        let wide = and_parts (covers t p higher.0) (contains higher.0.access own.0.access) higher.2 in
        any_at (λ (q : Req). covers t p q && contains q.access access) (privileges_of n k) higher.0 higher.1
        (rw (wide.0, contains_all higher.0.access own.0.access access wide.1 fits.1) refl)
  ]

  -- So do all groups above it.
  all_license : (p : Place) (access : Priv) (k : ℕ) (group : Option ℕ) → ((h : ℕ) → group ≡ Some h → licenses t n h p access ≡ true)
      → (g : ℕ) → Contains (from_group n k group) g → licenses t n g p access ≡ true
  all_license p access zero group so g m = absurd (Contains-nil m)
  all_license p access (suc k) None so g m = absurd (Contains-nil m)
  all_license p access (suc k) (Some h) so g m = elim (Contains-cases (from_group n k (group_above n h)) m) [
    | inl is ↦ subst (λ g. licenses t n g p access ≡ true) (sym is) (so h refl)
    | inr above ↦ all_license p access k (group_above n h) (λ i up. parent_licenses h i up p access (so h refl)) g above
  ]

  pub member_licensed : (m : GroupMember) → Contains n.members m → (g : ℕ) → is_below n g m ≡ true → (r : Req)
      → Contains (reqs_of t (place_of t.items m.task)) r → (p : Place) → covers t p r ≡ true
      → licenses t n g p r.access ≡ true
  member_licensed m of g below r asks p here =
      let child : Child = record { leaf = true; id = m.task; group = m.group } in
      let own : licenses t n m.group p r.access ≡ true =
      child_licensed child (Contains-append_right _ _ child
      (map_member (λ (m : GroupMember). record { leaf = true; id = m.task; group = m.group }) n.members m of)) r asks p here in
      elim (or_cases (m.group == g) (is_in (ancestors n m.group) g) below) [
        | inl is ↦ subst (λ g. licenses t n g p r.access ≡ true) (eqb-true m.group g is) own
        | inr above ↦ all_license p r.access (length n.groups) (group_above n m.group)
            (λ h is. parent_licenses m.group h is p r.access own) g (member_in (ancestors n m.group) g above)
      ]
