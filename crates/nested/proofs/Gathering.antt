-- Rows of claims, one after the other, and the row of a group.
use Rattle.std.proofs.Common.{◌≡◌, ℕ, ◌+◌, ◌<◌, ◌==◌, Bool, true, false, inl, inr, List, [], ◌∷◌, ◌++◌, map, filter, take, length, get_or, slice_get, Option, Some, None, is_some, option_map, refl, sym, ap, ◌∙◌, subst, All}
use Rattle.std.specs.List.{list_all, position_from}
use Rattle.std.proofs.lemmas.Bool.{cases_Bool, and_parts, false≢true, eqb-true}
use Rattle.std.proofs.lemmas.List.{take_more}
use Rattle.std.proofs.lemmas.List.Elements.{All-map}
use Rattle.std.specs.Borrow.{Bor}
use Rattle.std.specs.Option.{option_copied, option_map_or}
use Rattle.std.proofs.lemmas.Option.{slice_get-map, none-some, same_Some}
use Rattle.group_pairs.proofs.lemmas.Places.{place_found}
use Rattle.list_lemmas.proofs.lemmas.Places.{is_some-position}
use Rattle.vocabulary.specs.Prelude.{Req, Tables, points_in}
use Rattle.semantics.specs.declared.groups.Group as groups
use Rattle.semantics.specs.declared.groups.GroupReq.{GroupReq}
use Rattle.semantics.specs.Nesting.{Nesting, as_req, is_group}
use Rattle.licences.specs.Claims.{AreOfSpaces, Claimed}
use Rattle.nested.specs.Rows.{AreNamed, claim_of, own_by, row_in, rows_in}

-- ---- what passes a test, one element more

filter_push : {X : Type 0} (p : X → Bool) (xs : List X) (x : X) → p x ≡ true → filter p (xs ++ x ∷ []) ≡ filter p xs ++ x ∷ []
filter_push p [] x e = rw e refl
filter_push p (y ∷ xs) x e =
    elim (cases_Bool (p y)) [ inl hit ↦ rw hit (ap (λ ys. y ∷ ys) (filter_push p xs x e)) | inr miss ↦ rw miss (filter_push p xs x e) ]

filter_left : {X : Type 0} (p : X → Bool) (xs : List X) (x : X) → p x ≡ false → filter p (xs ++ x ∷ []) ≡ filter p xs
filter_left p [] x e = rw e refl
filter_left p (y ∷ xs) x e =
    elim (cases_Bool (p y)) [ inl hit ↦ rw hit (ap (λ ys. y ∷ ys) (filter_left p xs x e)) | inr miss ↦ rw miss (filter_left p xs x e) ]

map_push : {X Y : Type 0} (f : X → Y) (xs : List X) (x : X) → map f (xs ++ x ∷ []) ≡ map f xs ++ f x ∷ []
map_push f [] x = refl
map_push f (y ∷ xs) x = ap (λ ys. f y ∷ ys) (map_push f xs x)

pub kept_more : {X Y : Type 0} (f : X → Y) (p : X → Bool) (xs : List X) (i : ℕ) (x : X) (now next : List Y) → i < length xs
    → x ≡ get_or xs i x → p x ≡ true → now ≡ map f (filter p (take i xs)) → next ≡ now ++ f x ∷ []
    → next ≡ map f (filter p (take (i + 1) xs))
kept_more f p xs i x now next lt is hit so_far more =
    let step : take (i + 1) xs ≡ take i xs ++ x ∷ [] = take_more xs i x lt ∙ ap (λ y. take i xs ++ y ∷ []) (sym is) in
    more ∙ ap (λ ys. ys ++ f x ∷ []) so_far ∙ sym (ap (λ ys. map f (filter p ys)) step ∙ ap (map f) (filter_push p (take i xs) x hit)
    ∙ map_push f (filter p (take i xs)) x)

pub left_more : {X Y : Type 0} (f : X → Y) (p : X → Bool) (xs : List X) (i : ℕ) (x : X) (now : List Y) → i < length xs → x ≡ get_or xs i x
    → p x ≡ false → now ≡ map f (filter p (take i xs)) → now ≡ map f (filter p (take (i + 1) xs))
left_more f p xs i x now lt is miss so_far =
    let step : take (i + 1) xs ≡ take i xs ++ x ∷ [] = take_more xs i x lt ∙ ap (λ y. take i xs ++ y ∷ []) (sym is) in
    so_far ∙ sym (ap (λ ys. map f (filter p ys)) step ∙ ap (map f) (filter_left p (take i xs) x miss))

-- ---- the row of a group

pub row_found : (t : Tables) (n : Nesting) (id k : ℕ) → position_from (λ (g : groups.Group). g.id == id) 0 n.groups ≡ Some k
    → slice_get (rows_in t n) k ≡ Some (row_in t n id)
row_found t n id k at =
    let found = place_found (λ (g : groups.Group). g.id == id) n.groups k at in
    slice_get-map (λ (g : groups.Group). row_in t n g.id) n.groups k ∙ ap (option_map (λ (g : groups.Group). row_in t n g.id)) found.1
    ∙ ap (λ m. Some (row_in t n m)) (eqb-true found.0.id id found.2)

none_of : (n : Nesting) (id : ℕ) (qs : List GroupReq) → is_group n id ≡ false → list_all (λ (q : GroupReq). is_group n q.group) qs ≡ true
    → filter (λ (q : GroupReq). q.group == id) qs ≡ []
none_of n id [] none all = refl
none_of n id (q ∷ qs) none all =
    let parts = and_parts (is_group n q.group) (list_all (λ (q : GroupReq). is_group n q.group) qs) all in
    elim (cases_Bool (q.group == id)) [
      | inl same ↦ absurd (false≢true (sym none ∙ subst (λ k. is_group n k ≡ true) (eqb-true q.group id same) parts.0))
      | inr other ↦ rw other (none_of n id qs none parts.1)
    ]

pub row_none : (t : Tables) (n : Nesting) (id : ℕ) → position_from (λ (g : groups.Group). g.id == id) 0 n.groups ≡ None → AreNamed n
    → row_in t n id ≡ []
row_none t n id at named = ap (map (λ (q : GroupReq). claim_of t (as_req q)))
    (none_of n id n.privileges (sym (is_some-position (λ (g : groups.Group). g.id == id) 0 n.groups) ∙ ap is_some at) named)

pub seen_row : {X : Type 0} (o : Option (Bor X)) (x d : X) → option_copied o ≡ Some x → option_map_or (λ (r : Bor X). r.now) o d ≡ x
seen_row None x d e = absurd (none-some x e)
seen_row (Some r) x d e = same_Some r.now x e

-- ---- claims to one space

-- Each claim is to the points of its space.
abbrev AreIn : Tables → List Claimed → Type 0
AreIn t cs = All (λ (c : Claimed). c.points ≡ points_in t c.space) cs

pub spaces_alike : (t : Tables) (cs ds : List Claimed) → AreIn t cs → AreIn t ds → All (AreOfSpaces cs) ds
spaces_alike t cs ds a b = λ k d lt i e le same. a i e le ∙ ap (points_in t) same ∙ sym (b k d lt)

pub row_in_spaces : (t : Tables) (n : Nesting) (id : ℕ) (cs : List Claimed) → cs ≡ row_in t n id → AreIn t cs
row_in_spaces t n id cs is = subst (AreIn t) (sym is)
    (All-map (λ (c : Claimed). c.points ≡ points_in t c.space) (λ (q : GroupReq). claim_of t (as_req q))
    (filter (λ (q : GroupReq). q.group == id) n.privileges) (λ k d lt. refl))

pub own_in_spaces : (t : Tables) (rs : List Req) (item : ℕ) (cs : List Claimed) → cs ≡ own_by t rs item → AreIn t cs
own_in_spaces t rs item cs is = subst (AreIn t) (sym is)
    (All-map (λ (c : Claimed). c.points ≡ points_in t c.space) (claim_of t) (filter (λ (r : Req). r.item == item) rs) (λ k d lt. refl))
