-- What the last group of a value takes, and the weights of groups.
use Rattle.std.proofs.Common.{◌≡◌, ℕ, zero, suc, ◌+◌, ◌-◌, ◌<◌, ◌≤◌, Bool, true, false, List, [], ◌∷◌, ◌++◌, ◌==◌, length, get_or, set, refl, ap, sym, ◌∙◌, arith}
use Rattle.std.proofs.lemmas.Bool.Decides.{nat_tests}
use Rattle.value_terms.specs.declared.bag.Group.{Group}
use Rattle.value_terms.specs.declared.terms.Contribution.{Contribution}
use Rattle.value_terms.specs.Values.{Bag, counted, joined, total, weight_in, group_of, extended, last_has}
use Rattle.value_terms.proofs.lemmas.Order.{compared}
use Rattle.value_terms.proofs.lemmas.Counting.{counts}

last_at : (op : ℕ) (groups : List Group) (d : Group) → 1 ≤ length groups
    → last_has op groups ≡ ((get_or groups (length groups - 1) d).op == op)
last_at op [] d some = absurd (omega arith)
last_at op (g ∷ []) d some = refl
last_at op (g ∷ h ∷ groups) d some =
    let place : length (g ∷ h ∷ groups) - 1 ≡ suc (length (h ∷ groups) - 1) = omega arith in
    rw place (last_at op (h ∷ groups) d (omega arith))

pub last_read : (op : ℕ) (groups : List Group) (x : Group) → 1 ≤ length groups → x ≡ get_or groups (length groups - 1) x
    → (x.op == op) ≡ last_has op groups
last_read op groups x some read = ap (λ (g : Group). g.op == op) read ∙ sym (last_at op groups x some)

pub last_there : (op : ℕ) (groups : List Group) → last_has op groups ≡ true → 1 ≤ length groups
last_there op [] h = cc h
last_there op (g ∷ groups) h = omega arith

extended_at : (op : ℕ) (bag : Bag) (groups : List Group) (d : Group) → last_has op groups ≡ true
    → extended op bag groups ≡ set groups (length groups - 1)
    (record { op = (get_or groups (length groups - 1) d).op; bag = joined (get_or groups (length groups - 1) d).bag bag })
unfolding extended
extended_at op bag [] d h = cc h
extended_at op bag (g ∷ []) d h = rw h
extended_at op bag (g ∷ h ∷ groups) d is =
    let place : length (g ∷ h ∷ groups) - 1 ≡ suc (length (h ∷ groups) - 1) = omega arith in
    rw place (ap (λ (gs : List Group). g ∷ gs) (extended_at op bag (h ∷ groups) d is))

-- What is added by the operator of the last group is counted there.
pub extended_last : (op : ℕ) (bag : Bag) (groups : List Group) (place : ℕ) (x : Group) (new : Bag) → last_has op groups ≡ true
    → place ≡ length groups → x ≡ get_or groups (place - 1) x → new ≡ joined x.bag bag
    → set groups (place - 1) (record { op = x.op; bag = new }) ≡ extended op bag groups
extended_last op bag groups place x new is at read counted_is =
    let read_at : x ≡ get_or groups (length groups - 1) x = rw (← at) read in
    rw (counted_is, at) (ap (λ (g : Group). set groups (length groups - 1) (record { op = g.op; bag = joined g.bag bag })) read_at
    ∙ sym (extended_at op bag groups x is))

pub joined_one : (bag : Bag) (c : Contribution) (n : ℕ) → joined bag ((c, n) ∷ []) ≡ counted c n bag
unfolding joined
joined_one bag c n = refl

-- Else a group is appended.
extended_more : (op : ℕ) (bag : Bag) (groups : List Group) → last_has op groups ≡ false
    → extended op bag groups ≡ groups ++ group_of op bag ∷ []
unfolding extended
extended_more op bag [] h = refl
extended_more op bag (g ∷ []) h = rw h
extended_more op bag (g ∷ h ∷ groups) is = ap (λ (gs : List Group). g ∷ gs) (extended_more op bag (h ∷ groups) is)

pub appended : (op : ℕ) (bag new : Bag) (groups : List Group) → last_has op groups ≡ false → new ≡ joined [] bag
    → groups ++ record { op = op; bag = new } ∷ [] ≡ extended op bag groups
appended op bag new groups is told = rw told (sym (extended_more op bag groups is))

-- ---- weights

total_counted : (c : Contribution) (n : ℕ) (bag : Bag) → total (counted c n bag) ≡ total bag + n
total_counted c n [] = grind (arith, counts)
total_counted c n (e ∷ bag) = grind (arith, counts, compared c e.0, total_counted c n bag)

pub total_joined : (a b : Bag) → total (joined a b) ≡ total a + total b
unfolding joined
total_joined a [] = omega arith
total_joined a (e ∷ b) = omega (arith, total_joined (counted e.0 e.1 a) b, total_counted e.0 e.1 a)

pub weight_extended : (op : ℕ) (bag : Bag) (groups : List Group) → weight_in (extended op bag groups) ≡ weight_in groups + total bag
unfolding extended
weight_extended op bag [] = omega (arith, total_joined [] bag)
weight_extended op bag (g ∷ []) = grind (arith, nat_tests, total_joined [] bag, total_joined g.bag bag)
weight_extended op bag (g ∷ h ∷ groups) = omega (arith, weight_extended op bag (h ∷ groups))

bag_within : (groups : List Group) (k : ℕ) (d : Group) → k < length groups → total (get_or groups k d).bag ≤ weight_in groups
bag_within [] k d lt = absurd (omega arith)
bag_within (g ∷ groups) zero d lt = omega arith
bag_within (g ∷ groups) (suc k) d lt = omega (arith, bag_within groups k d (omega arith))

-- No bag weighs more than all.
pub read_bag_within : (groups : List Group) (k : ℕ) (x : Group) → k < length groups → x ≡ get_or groups k x → total x.bag ≤ weight_in groups
read_bag_within groups k x lt read = omega (arith, bag_within groups k x lt, ap (λ (g : Group). total g.bag) read)

-- What a test of the last group says of the groups that it saw.
pub told : (op : ℕ) (seen groups : List Group) (result is : Bool) → seen ≡ groups → result ≡ last_has op seen → result ≡ is
    → last_has op groups ≡ is
told op seen groups result is same tells says = ap (last_has op) (sym same) ∙ sym tells ∙ says
