-- What counting, adding and folding keep.
use Rattle.std.proofs.Common.{◌≡◌, ◌≢◌, ℕ, ◌≤◌, inl, inr, Bool, true, false, List, [], ◌∷◌, if◌then◌else◌, refl, ◌∙◌, zero-add, arith}
use Rattle.std.specs.List.{AllByRecursion}
use Rattle.std.proofs.lemmas.Bool.Decides.{eqb_tells}
use Rattle.value_terms.specs.declared.terms.Base.{Base}
use Rattle.value_terms.specs.declared.terms.Base.TheVariants.{Raw, Ident}
use Rattle.value_terms.specs.declared.terms.Contribution.{Contribution}
use Rattle.value_terms.specs.declared.bag.Group.{Group}
use Rattle.value_terms.specs.Values.{Bag, Value, comes_before, count_in, counted, joined, group_of, extended, is_raw, plain, add, fold_parts, fold_in, CountsEach, IsWellFormedBag, NeighboursDiffer, IsWellFormed}
use Rattle.value_terms.proofs.lemmas.Order.{compared}
use Rattle.value_terms.proofs.lemmas.Counting.{counts, counted_none, counted_same, counted_here, counted_later, all_after, rest_of, count_joined, equal_by_counts}

counted_after : (d c : Contribution) (n : ℕ) (bag : Bag) → comes_before d c ≡ true → AllByRecursion (λ f. comes_before d f.0 ≡ true) bag
    → AllByRecursion (λ f. comes_before d f.0 ≡ true) (counted c n bag)
counted_after d c n [] below h = rw counted_none (below, tt)
counted_after d c n (e ∷ bag) below h = elim (compared c e.0) [
  | inl s ↦ rw (counted_same c n e bag s.same) h
  | inr (inl b) ↦ rw (counted_here c n e bag b.differ b.before) (below, h)
  | inr (inr b) ↦ rw (counted_later c n e bag b.differ_too b.not_after) (h.0, counted_after d c n bag below h.1)
]

counted_bag : (c : Contribution) (n : ℕ) (bag : Bag) → 1 ≤ n → IsWellFormedBag bag → IsWellFormedBag (counted c n bag)
counted_bag c n [] some h = rw counted_none (record { counts = (some, tt); ascends = (tt, tt) })
counted_bag c n (e ∷ bag) some h = elim (compared c e.0) [
  | inl s ↦ rw (counted_same c n e bag s.same) (record { counts = (omega arith, h.counts.1); ascends = h.ascends })
  | inr (inl b) ↦ rw (counted_here c n e bag b.differ b.before)
      (record { counts = (some, h.counts); ascends = ((b.before, all_after c e.0 bag b.before h.ascends.0), h.ascends) })
  | inr (inr b) ↦
      let rest = counted_bag c n bag some (rest_of h) in
      rw (counted_later c n e bag b.differ_too b.not_after)
      (record { counts = (h.counts.0, rest.counts); ascends = (counted_after e.0 c n bag b.before h.ascends.0, rest.ascends) })
]

joined_bag : (a b : Bag) → IsWellFormedBag a → CountsEach b → IsWellFormedBag (joined a b)
unfolding joined
joined_bag a [] h counts = h
joined_bag a (e ∷ b) h counts = joined_bag (counted e.0 e.1 a) b (counted_bag e.0 e.1 a counts.0 h) counts.1

no_bag : IsWellFormedBag []
no_bag = record { counts = tt; ascends = tt }

-- A bag counted anew is itself.
pub joined_anew : (bag : Bag) → IsWellFormedBag bag → joined [] bag ≡ bag
unfolding count_in
joined_anew bag h = equal_by_counts (joined [] bag) bag (joined_bag [] bag no_bag h.counts) h (λ c. count_joined c [] bag
    ∙ zero-add (count_in c bag))

counted_some : (c : Contribution) (n : ℕ) (bag : Bag) → counted c n bag ≢ []
counted_some c n [] = λ h. grind (arith, counts)
counted_some c n (e ∷ bag) = λ h. grind (arith, counts, compared c e.0)

joined_some : (a b : Bag) → a ≢ [] → joined a b ≢ []
unfolding joined
joined_some a [] h = h
joined_some a (e ∷ b) h = joined_some (counted e.0 e.1 a) b (counted_some e.0 e.1 a)

-- What holds of a new group, and stays when a bag is counted in, holds of all groups.
pub extended_all : (P : Group → Type 0) (op : ℕ) (bag : Bag) (groups : List Group) → P (group_of op bag)
    → ((g : Group) → P g → P (record g { bag = joined g.bag bag })) → AllByRecursion P groups → AllByRecursion P (extended op bag groups)
unfolding extended
extended_all P op bag [] new more h = (new, tt)
extended_all P op bag (g ∷ []) new more h =
    elim (eqb_tells g.op op) [ inl is ↦ rw is.0 (more g h.0, tt) | inr is ↦ rw is.0 (h.0, (new, tt)) ]
extended_all P op bag (g ∷ h ∷ groups) new more hs = (hs.0, extended_all P op bag (h ∷ groups) new more hs.1)

extended_neighbours_differ : (op : ℕ) (bag : Bag) (groups : List Group) → NeighboursDiffer groups
    → NeighboursDiffer (extended op bag groups)
unfolding extended
extended_neighbours_differ op bag [] h = tt
extended_neighbours_differ op bag (g ∷ []) h = elim (eqb_tells g.op op) [ inl is ↦ rw is.0 tt | inr is ↦ rw is.0 (is.1, tt) ]
extended_neighbours_differ op bag (g ∷ h ∷ []) hs =
    elim (eqb_tells h.op op) [ inl is ↦ rw is.0 (hs.0, tt) | inr is ↦ rw is.0 (hs.0, (is.1, tt)) ]
extended_neighbours_differ op bag (g ∷ h ∷ k ∷ groups) hs = (hs.0, extended_neighbours_differ op bag (h ∷ k ∷ groups) hs.1)

pub plain_well_formed : (base : Base) → IsWellFormed (plain base)
plain_well_formed base = record { raw_is_plain = λ _. refl; no_bag_is_empty = tt; bags = tt; neighbours_differ = tt }

pub add_well_formed : (op : ℕ) (bag : Bag) (v : Value) → CountsEach bag → IsWellFormed v → IsWellFormed (add op bag v)
unfolding add joined
add_well_formed op [] v counts h = h
add_well_formed op (e ∷ bag) v counts h = added (is_raw v.base) refl where
  added : (is : Bool) → is_raw v.base ≡ is → IsWellFormed (if is then v else record v { groups = extended op (e ∷ bag) v.groups })
  added true is = h
  added false is = record {
    raw_is_plain = λ raw. cc;
    no_bag_is_empty = extended_all (λ g. g.bag ≢ []) op (e ∷ bag) v.groups (joined_some (counted e.0 e.1 []) bag (counted_some e.0 e.1 []))
        (λ g some. joined_some g.bag (e ∷ bag) some) h.no_bag_is_empty;
    bags = extended_all (λ g. IsWellFormedBag g.bag) op (e ∷ bag) v.groups (joined_bag [] (e ∷ bag) no_bag counts)
        (λ g is. joined_bag g.bag (e ∷ bag) is counts) h.bags;
    neighbours_differ = extended_neighbours_differ op (e ∷ bag) v.groups h.neighbours_differ;
  }

fold_parts_well_formed : (w : Value) (op : ℕ) (base : Base) (groups : List Group) → IsWellFormed w
    → AllByRecursion (λ g. IsWellFormedBag g.bag) groups → IsWellFormed (fold_parts w op base groups)
fold_parts_well_formed w op Ident [] h bags = h
fold_parts_well_formed w op Ident (g ∷ []) h bags =
    elim (eqb_tells g.op op) [ inl is ↦ rw is.0 (add_well_formed op g.bag w bags.0.counts h) | inr is ↦ rw is.0 (plain_well_formed Raw) ]
fold_parts_well_formed w op base groups h bags = plain_well_formed Raw

pub fold_well_formed : (w : Value) (op : ℕ) (v : Value) → IsWellFormed w → IsWellFormed v → IsWellFormed (fold_in w op v)
unfolding fold_in
fold_well_formed w op v h k = fold_parts_well_formed w op v.base v.groups h k.bags
