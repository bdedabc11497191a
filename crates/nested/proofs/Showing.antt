-- What is shown of children, by claims.
use Rattle.std.proofs.Common.{◌≡◌, ℕ, ◌+◌, ◌<◌, ◌≤◌, ◌==◌, Bool, true, false, ◌&&◌, not, inl, inr, List, [], ◌∷◌, ◌++◌, map, filter, drop, length, Option, Some, None, refl, sym, ap, ◌∙◌}
use Rattle.std.specs.Prelude.{option_map}
use Rattle.std.specs.List.{filter_map}
use Rattle.std.specs.Option.{option_or}
use mathlib.Core.Path.{fun_ext}
use Rattle.std.proofs.lemmas.Bool.{cases_Bool, false≢true, ne_eqb}
use Rattle.std.proofs.lemmas.List.{drop_all}
use Rattle.list_lemmas.proofs.lemmas.Places.{list_any_map}
use Rattle.privilege.specs.Allowed.{contains}
use Rattle.vocabulary.specs.Prelude.{Place, Priv, Req, Tables, least_of, reqs_of, place_of}
use Rattle.semantics.specs.declared.groups.Child.{Child}
use Rattle.semantics.specs.declared.groups.Group as groups
use Rattle.semantics.specs.declared.groups.GroupMember.{GroupMember}
use Rattle.semantics.specs.declared.groups.GroupReq.{GroupReq}
use Rattle.semantics.specs.declared.groups.Unlicensed.{Unlicensed}
use Rattle.semantics.specs.Nesting.{Nesting, as_req, parent_of, privileges_of, licenses, req_places, unlicensed_place, reqs_of_child, first_given, unlicensed_child, shown_unlicensed}
use Rattle.licences.specs.Claims.{Claimed, allows, refused, first_refused, holds}
use Rattle.nested.specs.Rows.{claim_of, row_in, shown_as, shown_group, shown_member}
use Rattle.list_lemmas.proofs.lemmas.Firsts.{or_assoc}

map_map : {X Y Z : Type 0} (f : Y → Z) (h : X → Y) (xs : List X) → map f (map h xs) ≡ map (λ x. f (h x)) xs
map_map f h [] = refl
map_map f h (x ∷ xs) = ap (λ ys. f (h x) ∷ ys) (map_map f h xs)

-- The claims of a group's privileges license what the group does.
pub row_is : (t : Tables) (n : Nesting) (group : ℕ) → row_in t n group ≡ map (claim_of t) (privileges_of n group)
row_is t n group = sym (map_map (claim_of t) as_req (filter (λ (q : GroupReq). q.group == group) n.privileges))

same_licence : (t : Tables) (n : Nesting) (group : ℕ) (p : Place) (access : Priv)
    → allows (row_in t n group) p access ≡ licenses t n group p access
same_licence t n group p access =
    ap (λ cs. allows cs p access) (row_is t n group)
    ∙ list_any_map (λ (c : Claimed). holds p c && contains c.access access) (claim_of t) (privileges_of n group)

same_place : (t : Tables) (n : Nesting) (group : ℕ) (r : Req) → refused (row_in t n group) (claim_of t r) ≡ unlicensed_place t n group r
same_place t n group r = ap (λ (test : Place → Bool). least_of (filter test (req_places t r)))
    (fun_ext (λ p. ap not (same_licence t n group p r.access)))

shown_or : (c : Child) (o p : Option (ℕ × Place)) → shown_as c (option_or o p) ≡ option_or (shown_as c o) (shown_as c p)
shown_or c None p = refl
shown_or c (Some x) p = refl

shown_one : (c : Child) (number : ℕ) (o : Option Place)
    → shown_as c (option_map (λ p. (number, p)) o) ≡ option_map (λ place. record { child = c; req = number; place = place }) o
shown_one c number None = refl
shown_one c number (Some p) = refl

all_shown : (t : Tables) (n : Nesting) (c : Child) (rs : List Req) → shown_as c (first_refused (row_in t n c.group) (map (claim_of t) rs))
    ≡ first_given (λ (r : Req). option_map (λ place. record { child = c; req = r.number; place = place })
    (unlicensed_place t n c.group r)) rs
all_shown t n c [] = refl
all_shown t n c (r ∷ rs) =
    shown_or c (option_map (λ p. (r.number, p)) (refused (row_in t n c.group) (claim_of t r)))
    (first_refused (row_in t n c.group) (map (claim_of t) rs))
    ∙ ap (λ o. option_or o (shown_as c (first_refused (row_in t n c.group) (map (claim_of t) rs))))
    (shown_one c r.number (refused (row_in t n c.group) (claim_of t r))
    ∙ ap (option_map (λ place. record { child = c; req = r.number; place = place })) (same_place t n c.group r))
    ∙ ap (option_or (option_map (λ place. record { child = c; req = r.number; place = place }) (unlicensed_place t n c.group r)))
    (all_shown t n c rs)

pub child_shown : (t : Tables) (n : Nesting) (c : Child) (own : List Claimed) → own ≡ map (claim_of t) (reqs_of_child t n c)
    → shown_as c (first_refused (row_in t n c.group) own) ≡ unlicensed_child t n c
child_shown t n c own is = ap (λ cs. shown_as c (first_refused (row_in t n c.group) cs)) is ∙ all_shown t n c (reqs_of_child t n c)

pub group_shown : (t : Tables) (n : Nesting) (g : groups.Group) → (g.parent == 0) ≡ false
    → shown_as (record { leaf = false; id = g.id; group = g.parent }) (first_refused (row_in t n g.parent) (row_in t n g.id))
    ≡ shown_group t n g
group_shown t n g other = child_shown t n (record { leaf = false; id = g.id; group = g.parent }) (row_in t n g.id) (row_is t n g.id)
    ∙ rw other refl

pub none_shown : (t : Tables) (n : Nesting) (g : groups.Group) → row_in t n g.id ≡ [] → (g.parent == 0) ≡ false → None ≡ shown_group t n g
none_shown t n g none other =
    sym (ap (λ own. shown_as (record { leaf = false; id = g.id; group = g.parent }) (first_refused (row_in t n g.parent) own)) none)
    ∙ group_shown t n g other

-- What the code finds.
pub group_told : (t : Tables) (n : Nesting) (g : groups.Group) (all own : List Claimed) (o : Option Unlicensed) → all ≡ row_in t n g.parent
    → own ≡ row_in t n g.id → (g.parent ≡ 0 → ⊥)
    → o ≡ shown_as (record { leaf = false; id = g.id; group = g.parent }) (first_refused all own) → o ≡ shown_group t n g
group_told t n g all own o all_is own_is some is =
    is ∙ ap (λ cs. shown_as (record { leaf = false; id = g.id; group = g.parent }) (first_refused cs own)) all_is
    ∙ ap (λ cs. shown_as (record { leaf = false; id = g.id; group = g.parent }) (first_refused (row_in t n g.parent) cs)) own_is
    ∙ group_shown t n g (ne_eqb g.parent 0 some)

pub none_told : (t : Tables) (n : Nesting) (g : groups.Group) → [] ≡ row_in t n g.id → (g.parent ≡ 0 → ⊥) → None ≡ shown_group t n g
none_told t n g none some = none_shown t n g (sym none) (ne_eqb g.parent 0 some)

pub member_told : (t : Tables) (n : Nesting) (m : GroupMember) (all own : List Claimed) (o : Option Unlicensed) → all ≡ row_in t n m.group
    → own ≡ map (claim_of t) (reqs_of t (place_of t.items m.task))
    → o ≡ shown_as (record { leaf = true; id = m.task; group = m.group }) (first_refused all own) → o ≡ shown_member t n m
member_told t n m all own o all_is own_is is =
    is ∙ ap (λ cs. shown_as (record { leaf = true; id = m.task; group = m.group }) (first_refused cs own)) all_is
    ∙ child_shown t n (record { leaf = true; id = m.task; group = m.group }) own own_is

-- ---- along the children

pub given_none : {X Y : Type 0} (f : X → Option Y) (xs : List X) (i : ℕ) → length xs ≤ i → first_given f xs ≡ first_given f (drop i xs)
    → None ≡ first_given f xs
given_none f xs i le e = sym (e ∙ ap (first_given f) (drop_all i xs le))

given_append : {X Y : Type 0} (f : X → Option Y) (xs ys : List X)
    → first_given f (xs ++ ys) ≡ option_or (first_given f xs) (first_given f ys)
given_append f [] ys = refl
given_append f (x ∷ xs) ys = ap (option_or (f x)) (given_append f xs ys) ∙ sym (or_assoc (f x) (first_given f xs) (first_given f ys))

given_groups : (t : Tables) (n : Nesting) (gs : List groups.Group)
    → first_given (unlicensed_child t n) (filter_map
    (λ (g : groups.Group). option_map (λ parent. record { leaf = false; id = g.id; group = parent }) (parent_of g)) gs)
    ≡ first_given (shown_group t n) gs
given_groups t n [] = refl
given_groups t n (g ∷ gs) =
    elim (cases_Bool (g.parent == 0)) [
      | inl none ↦ rw none (given_groups t n gs)
      | inr some ↦
          rw some (ap (option_or (shown_member_like g)) (given_groups t n gs))
    ]
  where
    shown_member_like : groups.Group → Option Unlicensed
    shown_member_like g = unlicensed_child t n (record { leaf = false; id = g.id; group = g.parent })

given_members : (t : Tables) (n : Nesting) (ms : List GroupMember)
    → first_given (unlicensed_child t n) (map (λ (m : GroupMember). record { leaf = true; id = m.task; group = m.group }) ms)
    ≡ first_given (shown_member t n) ms
given_members t n [] = refl
given_members t n (m ∷ ms) = ap (option_or (shown_member t n m)) (given_members t n ms)

pub all_children : (t : Tables) (n : Nesting) → shown_unlicensed t n
    ≡ option_or (first_given (shown_group t n) n.groups) (first_given (shown_member t n) n.members)
all_children t n =
    given_append (unlicensed_child t n) (filter_map
    (λ (g : groups.Group). option_map (λ parent. record { leaf = false; id = g.id; group = parent }) (parent_of g)) n.groups)
    (map (λ (m : GroupMember). record { leaf = true; id = m.task; group = m.group }) n.members)
    ∙ ap (λ o. option_or o (first_given (unlicensed_child t n)
    (map (λ (m : GroupMember). record { leaf = true; id = m.task; group = m.group }) n.members))) (given_groups t n n.groups)
    ∙ ap (option_or (first_given (shown_group t n) n.groups)) (given_members t n n.members)
