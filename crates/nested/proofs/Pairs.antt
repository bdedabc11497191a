-- Groups as sides of pairs.
use Rattle.std.proofs.Common.{◌≡◌, ℕ, zero, suc, ◌+◌, ◌-◌, ◌<◌, Bool, not, ◌&&◌, ◌||◌, inl, inr, List, [], ◌∷◌, ◌++◌, All, filter, map, take, length, get_or, count_by, Some, None, refl, sym, ap, ap₂, ◌∙◌, subst, arith, append-nil}
use Rattle.std.proofs.lemmas.List.{take_more, map-append, append_assoc}
use Rattle.std.proofs.lemmas.Bool.{cases_Bool}
use Rattle.std.proofs.lemmas.List.Elements.{All-map}
use Rattle.std.proofs.lemmas.List.Sums.{length-filter}
use Rattle.vocabulary.specs.Prelude.{Tables, is_in, points_in}
use Rattle.semantics.specs.declared.groups.Group as groups
use Rattle.semantics.specs.Nesting as nesting
use Rattle.semantics.specs.Nesting.{Nesting, ancestors, are_apart, from_group, group_above}
use Rattle.licences.specs.Claims.{Claimed}
use Rattle.group_pairs.specs.Sides.{Sided}
use Rattle.group_pairs.specs.Sides as sides
use Rattle.nested.specs.Rows.{row_in, rows_in}
use Rattle.nested.specs.Sides.{side_at, sides_in}
use Rattle.nested.proofs.Freeing.{free_told}
use Rattle.nested.proofs.Gathering.{row_in_spaces}

-- ---- ancestors, one by one

pub no_more : (n : Nesting) (k : ℕ) (all : List ℕ) → all ++ from_group n k None ≡ all
no_more n zero all = append-nil all
no_more n (suc k) all = append-nil all

pub one_up : (n : Nesting) (k id : ℕ) (all : List ℕ) → 0 < k
    → all ++ from_group n k (Some id) ≡ (all ++ id ∷ []) ++ from_group n (k - 1) (group_above n id)
one_up n zero id all lt = absurd (omega (arith, lt))
one_up n (suc k) id all lt =
    let less : k ≡ suc k - 1 = omega arith in
    ap (λ (j : ℕ). all ++ id ∷ from_group n j (group_above n id)) less
    ∙ sym (append_assoc all (id ∷ []) (from_group n (suc k - 1) (group_above n id)))

-- ---- sides

abbrev side_in : Tables → Nesting → groups.Group → Sided
side_in t n g = side_at n g.id (row_in t n g.id)

row_at_place : (t : Tables) (n : Nesting) (gs : List groups.Group) (k : ℕ) (g : groups.Group) (d : List Claimed) → k < length gs
    → get_or (map (λ (g : groups.Group). row_in t n g.id) gs) k d ≡ row_in t n (get_or gs k g).id
row_at_place t n [] k g d lt = absurd (omega (arith, lt))
row_at_place t n (h ∷ gs) zero g d lt = refl
row_at_place t n (h ∷ gs) (suc k) g d lt = row_at_place t n gs k g d (omega (arith, lt))

pub one_side : (t : Tables) (n : Nesting) (k : ℕ) (gs : List groups.Group) (d : groups.Group) (side : Sided) (row : List Claimed)
    (rows : List (List Claimed)) (now next : List Sided) → gs ≡ n.groups → k < length gs → rows ≡ rows_in t n → row ≡ get_or rows k row
    → now ≡ map (side_in t n) (take k n.groups) → next ≡ now ++ side ∷ [] → side ≡ side_at n (get_or gs k d).id row
    → next ≡ map (side_in t n) (take (k + 1) n.groups)
one_side t n k gs d side row rows now next all lt rows_are row_is so_far more is =
    let lt_own : k < length n.groups = subst (λ (hs : List groups.Group). k < length hs) all lt in
    let own : row ≡ row_in t n (get_or n.groups k d).id =
    row_is ∙ ap (λ (rs : List (List Claimed)). get_or rs k row) rows_are ∙ row_at_place t n n.groups k d row lt_own in
    let here : side ≡ side_in t n (get_or n.groups k d) =
    is ∙ ap (λ (hs : List groups.Group). side_at n (get_or hs k d).id row) all ∙ ap (side_at n (get_or n.groups k d).id) own in
    more ∙ ap (λ (ss : List Sided). ss ++ side ∷ []) so_far ∙ ap (λ s. map (side_in t n) (take k n.groups) ++ s ∷ []) here
    ∙ sym (ap (map (side_in t n)) (take_more n.groups k d lt_own) ∙ map-append (side_in t n) (take k n.groups) (get_or n.groups k d ∷ []))

-- ---- pairs

apart_is : (t : Tables) (n : Nesting) (g h : groups.Group) → sides.are_apart (side_in t n g) (side_in t n h) ≡ are_apart t n g.id h.id
apart_is t n g h = ap (λ b. not (is_in (ancestors n h.id) g.id || is_in (ancestors n g.id) h.id) && b)
    (free_told t n g.id h.id (not (sides.clash (row_in t n g.id) (row_in t n h.id))) (row_in t n g.id) (row_in t n h.id) refl refl refl)

as_many : {X Y : Type 0} (p : Y → Bool) (q : X → Bool) (f : X → Y) → ((x : X) → p (f x) ≡ q x) → (xs : List X)
    → length (filter p (map f xs)) ≡ length (filter q xs)
as_many p q f h [] = refl
as_many p q f h (x ∷ xs) =
    elim (cases_Bool (q x)) [
      | inl hit ↦ rw (h x ∙ hit, hit) (ap (λ n. suc n) (as_many p q f h xs))
      | inr miss ↦
          rw (h x ∙ miss, miss) (as_many p q f h xs)
    ]

count_is : (t : Tables) (n : Nesting) (g : groups.Group) (hs : List groups.Group)
    → count_by (sides.are_apart (side_in t n g)) (map (side_in t n) hs) ≡ count_by (λ (h : groups.Group). are_apart t n g.id h.id) hs
count_is t n g hs =
    sym (length-filter (sides.are_apart (side_in t n g)) (map (side_in t n) hs))
    ∙ as_many (sides.are_apart (side_in t n g)) (λ (h : groups.Group). are_apart t n g.id h.id) (side_in t n) (apart_is t n g) hs
    ∙ length-filter (λ (h : groups.Group). are_apart t n g.id h.id) hs

pairs_are : (t : Tables) (n : Nesting) (gs : List groups.Group) → sides.pairs_apart (map (side_in t n) gs) ≡ nesting.pairs_apart t n gs
pairs_are t n [] = refl
pairs_are t n (g ∷ gs) = ap₂ (λ a b. a + b) (count_is t n g gs) (pairs_are t n gs)

pub pairs_told : (t : Tables) (n : Nesting) (ss : List Sided) → ss ≡ sides_in t n → sides.pairs_apart ss ≡ nesting.free_pairs t n
pairs_told t n ss is = ap sides.pairs_apart is ∙ pairs_are t n n.groups

pub sides_in_spaces : (t : Tables) (n : Nesting) (ss : List Sided) → ss ≡ sides_in t n
    → All (λ (s : Sided). All (λ (c : Claimed). c.points ≡ points_in t c.space) s.claims) ss
sides_in_spaces t n ss is = subst (All (λ (s : Sided). All (λ (c : Claimed). c.points ≡ points_in t c.space) s.claims)) (sym is)
    (All-map (λ (s : Sided). All (λ (c : Claimed). c.points ≡ points_in t c.space) s.claims) (side_in t n) n.groups
    (λ k g lt. row_in_spaces t n (get_or n.groups k g).id _ refl))
