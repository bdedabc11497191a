-- Changes by one operator may change places.
use Rattle.std.proofs.Common.{◌≡◌, ℕ, inl, inr, Bool, true, false, List, [], ◌∷◌, ◌==◌, if◌then◌else◌, refl, ap, sym, ◌∙◌, arith}
use Rattle.std.proofs.lemmas.Bool.Decides.{eqb_tells, nat_tests}
use Rattle.value_terms.specs.declared.terms.Base.{Base}
use Rattle.value_terms.specs.declared.terms.Base.TheVariants.{Raw, Ident}
use Rattle.value_terms.specs.declared.bag.Group.{Group}
use Rattle.value_terms.specs.Values.{Bag, Value, extended, add, plain, fold_parts, fold_in}
use Rattle.value_terms.proofs.lemmas.Counting.{joined_joined}

-- A group that others follow stays.
pub extended_later : (op : ℕ) (a b : Bag) (g h : Group) (groups : List Group)
    → extended op a (g ∷ extended op b (h ∷ groups)) ≡ g ∷ extended op a (extended op b (h ∷ groups))
unfolding extended
extended_later op a b g h [] = elim (eqb_tells h.op op) [ inl is ↦ rw is.0 | inr is ↦ rw is.0 ]
extended_later op a b g h (k ∷ groups) = refl

extended_extended : (op : ℕ) (a b : Bag) (groups : List Group) → extended op a (extended op b groups) ≡ extended op b (extended op a groups)
unfolding extended
extended_extended op a b [] = grind (arith, nat_tests, joined_joined [] a b)
extended_extended op a b (g ∷ []) = grind (arith, nat_tests, joined_joined [] a b, joined_joined g.bag a b)
extended_extended op a b (g ∷ h ∷ groups) =
    extended_later op a b g h groups ∙ ap (λ gs. g ∷ gs) (extended_extended op a b (h ∷ groups)) ∙ sym (extended_later op b a g h groups)

pub add_add : (op : ℕ) (a b : Bag) (v : Value) → add op a (add op b v) ≡ add op b (add op a v)
unfolding add
add_add op [] b v = refl
add_add op (e ∷ a) [] v = refl
add_add op (e ∷ a) (f ∷ b) v = grind (arith, extended_extended op (e ∷ a) (f ∷ b) v.groups)

pub add_raw : (op : ℕ) (a : Bag) → add op a (plain Raw) ≡ plain Raw
unfolding add
add_raw op [] = refl
add_raw op (e ∷ a) = refl

-- A change of values that adds one bag by an operator, or makes every value raw.
data Change (op : ℕ) (change : Value → Value) : Type 0 where
  adds : (bag : Bag) → ((w : Value) → change w ≡ add op bag w) → Change op change
  spoils : ((w : Value) → change w ≡ plain Raw) → Change op change

if_operator : (op : ℕ) (bag : Bag) (is : Bool) → Change op (λ w. if is then add op bag w else plain Raw)
if_operator op bag true = adds bag (λ w. refl)
if_operator op bag false = spoils (λ w. refl)

fold_by : (op : ℕ) (base : Base) (groups : List Group) → Change op (λ w. fold_parts w op base groups)
unfolding add
fold_by op Ident [] = adds [] (λ w. refl)
fold_by op Ident (g ∷ []) = if_operator op g.bag (g.op == op)
fold_by op base groups = spoils (λ w. refl)

-- A fold is such a change.
fold_change : (op : ℕ) (v : Value) → Change op (λ w. fold_in w op v)
unfolding fold_in
fold_change op v = fold_by op v.base v.groups

-- Two such changes may change places.
changes_commute : (op : ℕ) (f g : Value → Value) → Change op f → Change op g → (w : Value) → f (g w) ≡ g (f w)
changes_commute op f g (adds a x) (adds b y) w = grind (arith, x, y, add_add op a b w)
changes_commute op f g (adds a x) (spoils y) w = grind (arith, x, y, add_raw op a)
changes_commute op f g (spoils x) (adds b y) w = grind (arith, x, y, add_raw op b)
changes_commute op f g (spoils x) (spoils y) w = x (g w) ∙ sym (y (f w))

raw_under : (op : ℕ) (f : Value → Value) → Change op f → f (plain Raw) ≡ plain Raw
raw_under op f (adds bag h) = h (plain Raw) ∙ add_raw op bag
raw_under op f (spoils h) = h (plain Raw)

pub fold_raw : (op : ℕ) (v : Value) → fold_in (plain Raw) op v ≡ plain Raw
fold_raw op v = raw_under op (λ w. fold_in w op v) (fold_change op v)

pub add_fold : (op : ℕ) (a : Bag) (w v : Value) → add op a (fold_in w op v) ≡ fold_in (add op a w) op v
add_fold op a w v = changes_commute op (add op a) (λ u. fold_in u op v) (adds a (λ w. refl)) (fold_change op v) w

pub fold_fold : (op : ℕ) (w u v : Value) → fold_in (fold_in w op u) op v ≡ fold_in (fold_in w op v) op u
fold_fold op w u v = changes_commute op (λ x. fold_in x op v) (λ x. fold_in x op u) (fold_change op v) (fold_change op u) w
