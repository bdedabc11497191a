-- Values as terms: what a place got last, and what reductions have added to it since.
use Rattle.std.specs.Prelude.{◌≡◌, ◌≢◌, ℕ, ◌+◌, ◌<◌, ◌≤◌, ◌^◌, Bool, true, false, ◌&&◌, ◌||◌, ◌==◌, nat_lt, if◌then◌else◌, List, [], ◌∷◌, Option, option_map, slice_get}
use Rattle.std.specs.List.{AllByRecursion}
use Rattle.std.specs.Cmp.Lexicographic.{pointwise}
use Rattle.value_terms.specs.declared.terms.Base.{Base}
use Rattle.value_terms.specs.declared.terms.Base.TheVariants.{Raw, Init, Ident, Const, Out}
use Rattle.value_terms.specs.declared.terms.Contribution.{Contribution}
use Rattle.value_terms.specs.declared.bag.Group.{Group}

-- Whether two contributions are the same.
unfoldable pub same_contribution : Contribution → Contribution → Bool
same_contribution c d = c.task == d.task && c.req == d.req

-- Whether a contribution comes before another: by task, and then by requirement.
unfoldable pub comes_before : Contribution → Contribution → Bool
comes_before c d = nat_lt c.task d.task || (c.task == d.task && nat_lt c.req d.req)

-- A bag is a list of contributions, each with its count.
abbrev pub Bag : Type 0
Bag = List (Contribution × ℕ)

-- How often a bag holds a contribution.
unfoldable pub count_in : Contribution → Bag → ℕ
count_in c [] = 0
count_in c (e ∷ bag) = (if same_contribution c e.0 then e.1 else 0) + count_in c bag

-- A bag with `n` more of a contribution, at its place in the order.
unfoldable pub counted : Contribution → ℕ → Bag → Bag
counted c n [] = (c, n) ∷ []
counted c n (e ∷ bag) =
    if same_contribution c e.0 then (e.0, e.1 + n) ∷ bag
    else if comes_before c e.0 then (c, n) ∷ e ∷ bag
    else e ∷ counted c n bag

-- A bag with the counts of another added.
unfoldable pub joined : Bag → Bag → Bag
joined a [] = a
joined a (e ∷ b) = joined (counted e.0 e.1 a) b

-- A value: a base, and the groups that were added to it, the oldest first. A group is an operator with the
-- bag of what was added by it.
pub record Value : Type 0 where
  pub base : Base
  pub groups : List Group

-- The operator and the bag of the group at a place, from 0, or none past the last.
abbrev pub group_at : Value → ℕ → Option (ℕ × Bag)
group_at v k = option_map (λ g. (g.op, g.bag)) (slice_get v.groups k)

-- The value of a base and groups.
abbrev pub value_of : Base → List Group → Value
value_of base groups = record { base = base; groups = groups }

-- A base to which nothing was added.
abbrev pub plain : Base → Value
plain base = value_of base []

-- Whether a base is raw.
abbrev pub is_raw : Base → Bool
is_raw Raw = true
is_raw _ = false

-- A new group with the counts of a bag, in order whatever order they come in.
abbrev pub group_of : ℕ → Bag → Group
group_of op bag = record { op = op; bag = joined [] bag }

-- Groups with a bag more: its counts are added to the last group where that has the operator, and else a
-- group is appended.
unfoldable pub extended : ℕ → Bag → List Group → List Group
extended op bag [] = group_of op bag ∷ []
extended op bag (g ∷ []) = if g.op == op then record g { bag = joined g.bag bag } ∷ []
    else g ∷ group_of op bag ∷ []
extended op bag (g ∷ h ∷ groups) = g ∷ extended op bag (h ∷ groups)

-- Whether the last group has an operator.
abbrev pub last_has : ℕ → List Group → Bool
last_has op [] = false
last_has op (g ∷ []) = g.op == op
last_has op (g ∷ h ∷ groups) = last_has op (h ∷ groups)

-- A value with a bag added by an operator: an empty bag changes nothing, and a raw value stays as it is.
unfoldable pub add : ℕ → Bag → Value → Value
add op [] v = v
add op (e ∷ bag) v = if is_raw v.base then v else record v { groups = extended op (e ∷ bag) v.groups }

-- A value with one contribution added.
abbrev pub add_one : ℕ → Contribution → Value → Value
add_one op c v = add op ((c, 1) ∷ []) v

-- A value with the entries of a bag added by an operator, one after another.
abbrev pub with_bag : ℕ → Bag → Value → Value
with_bag op [] v = v
with_bag op (e ∷ bag) v = with_bag op bag (add op (e ∷ []) v)

-- A value with the entries of groups added, one after another.
abbrev pub with_groups : List Group → Value → Value
with_groups [] v = v
with_groups (g ∷ groups) v = with_groups groups (with_bag g.op g.bag v)

-- The value `w` with a base and groups folded in: only the identity, alone or with one group of the operator,
-- does not make it raw.
abbrev pub fold_parts : Value → ℕ → Base → List Group → Value
fold_parts w op Ident [] = w
fold_parts w op Ident (g ∷ []) = if g.op == op then add op g.bag w else plain Raw
fold_parts w op _ _ = plain Raw

-- The value `w` with the value `v` folded in by an operator.
unfoldable pub fold_in : Value → ℕ → Value → Value
fold_in w op v = fold_parts w op v.base v.groups

-- Each count is at least 1.
abbrev pub CountsEach : Bag → Type 0
CountsEach bag = AllByRecursion (λ e. 1 ≤ e.1) bag

-- Each contribution comes before all that follow it.
abbrev pub Ascends : Bag → Type 0
Ascends [] = Unit {0}
Ascends (e ∷ bag) = AllByRecursion (λ f. comes_before e.0 f.0 ≡ true) bag × Ascends bag

-- A bag is well formed where its contributions ascend and each is counted.
pub record IsWellFormedBag (bag : Bag) : Type 0 where
  pub counts : CountsEach bag
  pub ascends : Ascends bag

-- Neighbouring groups have different operators.
abbrev pub NeighboursDiffer : List Group → Type 0
NeighboursDiffer [] = Unit {0}
NeighboursDiffer (g ∷ []) = Unit {0}
NeighboursDiffer (g ∷ h ∷ groups) = (g.op ≢ h.op) × NeighboursDiffer (h ∷ groups)

-- A value is well formed: no raw value has groups, and its groups hold something, are in order and could not
-- be fewer.
pub record IsWellFormed (v : Value) : Type 0 where
  pub raw_is_plain : v.base ≡ Raw → v.groups ≡ []
  pub no_bag_is_empty : AllByRecursion (λ g. g.bag ≢ []) v.groups
  pub bags : AllByRecursion (λ g. IsWellFormedBag g.bag) v.groups
  pub neighbours_differ : NeighboursDiffer v.groups

-- The sum of the counts of a bag.
abbrev pub total : Bag → ℕ
total [] = 0
total (e ∷ bag) = e.1 + total bag

-- The sum of the counts of all groups.
abbrev pub weight_in : List Group → ℕ
weight_in [] = 0
weight_in (g ∷ groups) = total g.bag + weight_in groups

-- The weight of a value: the sum of all its counts.
abbrev pub weight_of : Value → ℕ
weight_of v = weight_in v.groups

-- The number of a base is one of 32 bits.
abbrev pub IsSmallBase : Base → Type 0
IsSmallBase (Const n) = n < 2 ^ 32
IsSmallBase (Out t) = t < 2 ^ 32
IsSmallBase _ = Unit {0}

-- So are those of a contribution, with whatever count.
abbrev pub IsSmallEntry : Contribution × ℕ → Type 0
IsSmallEntry e = (e.0.task < 2 ^ 32) × (e.0.req < 2 ^ 32)

-- So are the operator of a group and the numbers in its bag.
abbrev pub IsSmallGroup : Group → Type 0
IsSmallGroup g = (g.op < 2 ^ 32) × AllByRecursion IsSmallEntry g.bag

-- A value that the program holds: well formed, its ids numbers of 32 bits, and all its counts together one of
-- 64.
pub record IsHeld (v : Value) : Type 0 where
  pub well_formed : IsWellFormed v
  pub small_base : IsSmallBase v.base
  pub small_groups : AllByRecursion IsSmallGroup v.groups
  pub weight : weight_of v < 2 ^ 64

-- Whether two bases are the same.
abbrev pub same_base : Base → Base → Bool
same_base Raw Raw = true
same_base Init Init = true
same_base Ident Ident = true
same_base (Const n) (Const m) = n == m
same_base (Out t) (Out u) = t == u
same_base _ _ = false

-- Whether two bags have the same contributions with the same counts.
abbrev pub same_bag : Bag → Bag → Bool
same_bag a b = pointwise (λ e f. same_contribution e.0 f.0 && e.1 == f.1) a b

-- Whether two lists of groups have the same operators, with the same counts.
abbrev pub same_groups : List Group → List Group → Bool
same_groups gs hs = pointwise (λ g h. g.op == h.op && same_bag g.bag h.bag) gs hs

-- Whether two values have the same base, operators and counts.
unfoldable pub same_value : Value → Value → Bool
same_value v w = same_base v.base w.base && same_groups v.groups w.groups
