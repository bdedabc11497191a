-- Where each child asks for no more than its group licenses, none is shown. The pairs of groups that are apart do not depend on which is named first.
use Rattle.std.proofs.Common.{◌≡◌, ℕ, ◌==◌, ◌||◌, Bool, true, false, not, List, [], ◌∷◌, filter, refl, sym, ap, subst, Option, None, Contains}
use Rattle.std.specs.Prelude.{option_map}
use Rattle.std.specs.List.{list_any}
use Rattle.std.proofs.lemmas.Bool.{and_parts, eq-eqb, eqb-true}
use Rattle.privilege.specs.declared.kinds.Priv.TheVariants.{Ro, Red}
use Rattle.privilege.specs.declared.kinds.Coherence.TheVariants.{Exclusive, Atomic}
use Rattle.vocabulary.specs.Prelude.{Priv, Coherence, agree, both_atomic, kind_of, Place, Req, Tables, is_in, points_in, meets, covers, req_grid, least_of}
use Rattle.semantics.specs.declared.groups.Child.{Child}
use Rattle.semantics.specs.Nesting.{Nesting, is_ancestor, privileges_of, licenses, children, reqs_of_child, req_places, first_given, unlicensed_child, shown_unlicensed, interfere, are_free, are_apart}
use Rattle.log_laws.proofs.lemmas.Members.{member_in, is_in_of, meets_of}
use Rattle.log_laws.proofs.lemmas.Apart.{member_grid}
use Rattle.list_lemmas.proofs.lemmas.Contained.{member_map, any_at, any_found, Contains-here, Contains-later}

-- ---- what is shown

none_given : {X Y : Type 0} (f : X → Option Y) (xs : List X) → ((x : X) → Contains xs x → f x ≡ None) → first_given f xs ≡ None
none_given f [] h = refl
none_given f (x ∷ xs) h = rw (h x (Contains-here xs)) (none_given f xs (λ y m. h y (Contains-later xs m)))

none_passes : {X : Type 0} (p : X → Bool) (xs : List X) → ((x : X) → Contains xs x → p x ≡ false) → filter p xs ≡ []
none_passes p [] h = refl
none_passes p (x ∷ xs) h = rw (h x (Contains-here xs)) (none_passes p xs (λ y m. h y (Contains-later xs m)))

covers_place : (t : Tables) (r : Req) (p : Place) → Contains (req_places t r) p → covers t p r ≡ true
covers_place t r p m =
    let at = member_map (λ (p : ℕ × ℕ). record { tree = r.tree; point = p.0; field = p.1 }) (req_grid t r) p m in
    let parts = member_grid (points_in t r.space) r.fields at.0 at.1 in
    subst (λ p. covers t p r ≡ true) (sym at.2) (rw (
      eq-eqb r.tree r.tree refl,
      is_in_of (points_in t r.space) at.0.0 parts.0,
      is_in_of r.fields at.0.1 parts.1,
    ) refl)

pub none_shown : (t : Tables) (n : Nesting) → ((c : Child) → Contains (children n) c → (r : Req) → Contains (reqs_of_child t n c) r
    → (p : Place) → covers t p r ≡ true → licenses t n c.group p r.access ≡ true)
    → shown_unlicensed t n ≡ None
none_shown t n h = none_given (unlicensed_child t n) (children n)
    (λ c of. none_given _ (reqs_of_child t n c) (λ r asks. ap (option_map _) (ap least_of
    (none_passes (λ p. not (licenses t n c.group p r.access)) (req_places t r) (λ p m. ap not (h c of r asks p (covers_place t r p m)))))))

-- ---- pairs

same_tests : (a b : Bool) → (a ≡ true → b ≡ true) → (b ≡ true → a ≡ true) → a ≡ b
same_tests true b there back = sym (there refl)
same_tests false true there back = back refl
same_tests false false there back = refl

agree_back : (p q : Priv) → agree p q ≡ true → agree q p ≡ true
agree_back Ro Ro e = refl
agree_back (Red a) (Red b) e = eq-eqb b a (sym (eqb-true a b e))
agree_back _ _ e = absurd cc

atomic_back : (c d : Coherence) → both_atomic c d ≡ both_atomic d c
atomic_back Atomic Atomic = refl
atomic_back Atomic Exclusive = refl
atomic_back Exclusive Atomic = refl
atomic_back Exclusive Exclusive = refl

kind_back : (p q : Priv) (c d : Coherence) → kind_of p c q d ≡ kind_of q d p c
kind_back p q c d = rw (same_tests (agree p q) (agree q p) (agree_back p q) (agree_back q p), atomic_back c d) refl

meets_back : (ns ms : List ℕ) → meets ns ms ≡ true → meets ms ns ≡ true
meets_back ns ms e = let k = any_found (is_in ms) ns e in meets_of ms ns k.0 (member_in ms k.0 k.2) k.1

interfere_back : (t : Tables) (q r : Req) → interfere t q r ≡ true → interfere t r q ≡ true
interfere_back t q r e =
    let tree = and_parts (q.tree == r.tree) _ e in
    let fields = and_parts (meets q.fields r.fields) _ tree.1 in
    let points = and_parts (meets (points_in t q.space) (points_in t r.space)) _ fields.1 in
    rw (
      eq-eqb r.tree q.tree (sym (eqb-true q.tree r.tree tree.0)),
      meets_back q.fields r.fields fields.0,
      meets_back (points_in t q.space) (points_in t r.space) points.0,
      kind_back r.access q.access r.coherence q.coherence,
    ) points.1

some_back : (t : Tables) (qs rs : List Req) → list_any (λ q. list_any (interfere t q) rs) qs ≡ true
    → list_any (λ r. list_any (interfere t r) qs) rs ≡ true
some_back t qs rs e =
    let q = any_found (λ q. list_any (interfere t q) rs) qs e in
    let r = any_found (interfere t q.0) rs q.2 in
    any_at (λ r. list_any (interfere t r) qs) rs r.0 r.1 (any_at (interfere t r.0) qs q.0 q.1 (interfere_back t q.0 r.0 r.2))

pub free_back : (t : Tables) (n : Nesting) (g h : ℕ) → are_free t n g h ≡ are_free t n h g
free_back t n g h = ap not (same_tests _ _ (some_back t (privileges_of n g) (privileges_of n h))
    (some_back t (privileges_of n h) (privileges_of n g)))

or_back : (a b : Bool) → (a || b) ≡ (b || a)
or_back true true = refl
or_back true false = refl
or_back false true = refl
or_back false false = refl

pub apart_back : (t : Tables) (n : Nesting) (g h : ℕ) → are_apart t n g h ≡ are_apart t n h g
apart_back t n g h = rw (or_back (is_ancestor n g h) (is_ancestor n h g), free_back t n g h) refl
