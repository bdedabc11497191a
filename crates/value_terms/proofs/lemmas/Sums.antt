-- Values as sums, and their weights.
use Rattle.std.proofs.Common.{◌≡◌, ◌≢◌, ℕ, ◌+◌, ◌≤◌, inl, inr, Bool, true, false, List, [], ◌∷◌, ◌++◌, ◌==◌, refl, ap, sym, ◌∙◌, arith, append_assoc, append-nil}
use Rattle.std.specs.List.{AllByRecursion}
use Rattle.std.proofs.lemmas.Bool.{eq-eqb, ne_eqb}
use Rattle.std.proofs.lemmas.Bool.Decides.{eqb_tells}
use Rattle.value_terms.specs.declared.bag.Group.{Group}
use Rattle.value_terms.specs.declared.terms.Base.{Base}
use Rattle.value_terms.specs.declared.terms.Base.TheVariants.{Raw, Init, Ident, Const, Out}
use Rattle.value_terms.specs.declared.terms.Contribution.{Contribution}
use Rattle.value_terms.specs.Values.{Bag, Value, joined, total, weight_in, weight_of, extended, last_has, is_raw, plain, value_of, add, fold_parts, fold_in, with_bag, with_groups, IsWellFormedBag, NeighboursDiffer, IsWellFormed}
use Rattle.value_terms.proofs.lemmas.Changes.{extended_later}
use Rattle.value_terms.proofs.lemmas.Grouping.{appended, weight_extended}
use Rattle.value_terms.proofs.Held.{added_told}
use Rattle.value_terms.proofs.Placing.{joined_none}

-- ---- adding one after another

one_and_more : (op : ℕ) (e : Contribution × ℕ) (bag : Bag) (groups : List Group)
    → extended op bag (extended op (e ∷ []) groups) ≡ extended op (e ∷ bag) groups
unfolding extended joined
one_and_more op e bag [] = rw (eq-eqb op op refl)
one_and_more op e bag (g ∷ []) = elim (eqb_tells g.op op) [ inl is ↦ rw (is.0, is.0) | inr is ↦ rw (is.0, eq-eqb op op refl) ]
one_and_more op e bag (g ∷ h ∷ groups) = extended_later op bag (e ∷ []) g h groups
    ∙ ap (λ (gs : List Group). g ∷ gs) (one_and_more op e bag (h ∷ groups))

one_more : (op : ℕ) (e : Contribution × ℕ) (bag : Bag) (v : Value) → add op bag (add op (e ∷ []) v) ≡ add op (e ∷ bag) v
unfolding add
one_more op e [] v = refl
one_more op e (f ∷ bag) v = by_raw (is_raw v.base) refl where
  by_raw : (is : Bool) → is_raw v.base ≡ is → add op (f ∷ bag) (add op (e ∷ []) v) ≡ add op (e ∷ f ∷ bag) v
  by_raw true raw = rw (raw, raw)
  by_raw false other = rw (other, other) (ap (λ (gs : List Group). record v { groups = gs }) (one_and_more op e (f ∷ bag) v.groups))

pub bag_sums : (op : ℕ) (bag : Bag) (v : Value) → with_bag op bag v ≡ add op bag v
unfolding add
bag_sums op [] v = refl
bag_sums op (e ∷ bag) v = bag_sums op bag (add op (e ∷ []) v) ∙ one_more op e bag v

-- ---- values as sums

last_of_more : (op : ℕ) (groups : List Group) (g : Group) → last_has op (groups ++ g ∷ []) ≡ (g.op == op)
last_of_more op [] g = refl
last_of_more op (h ∷ []) g = refl
last_of_more op (h ∷ k ∷ groups) g = last_of_more op (k ∷ groups) g

-- The last of some groups has not the operator of the first of others.
abbrev StartsAnew : List Group → List Group → Type 0
StartsAnew front [] = Unit {0}
StartsAnew front (g ∷ groups) = last_has g.op front ≡ false

starts_anew : (front : List Group) (g : Group) (groups : List Group) → NeighboursDiffer (g ∷ groups) → StartsAnew (front ++ g ∷ []) groups
starts_anew front g [] differ = tt
starts_anew front g (h ∷ groups) differ = last_of_more h.op front g ∙ ne_eqb g.op h.op differ.0

others_differ : (g : Group) (groups : List Group) → NeighboursDiffer (g ∷ groups) → NeighboursDiffer groups
others_differ g [] differ = tt
others_differ g (h ∷ groups) differ = differ.1

groups_sum : (base : Base) (front groups : List Group) → is_raw base ≡ false → StartsAnew front groups → NeighboursDiffer groups
    → AllByRecursion (λ g. g.bag ≢ []) groups → AllByRecursion (λ g. IsWellFormedBag g.bag) groups
    → with_groups groups (value_of base front) ≡ value_of base (front ++ groups)
groups_sum base front [] other anew differ some bags = ap (value_of base) (sym (append-nil front))
groups_sum base front (g ∷ groups) other anew differ some bags =
    let new = appended g.op g.bag g.bag front anew (sym (joined_none g.bag bags.0.ascends)) in
    let one = bag_sums g.op g.bag (value_of base front)
    ∙ sym (added_told g.op g.bag base front (front ++ g ∷ []) (value_of base front) refl other some.0 new) in
    ap (with_groups groups) one ∙ groups_sum base (front ++ g ∷ []) groups other (starts_anew front g groups differ)
    (others_differ g groups differ) some.1 bags.1 ∙ ap (value_of base) (append_assoc front (g ∷ []) groups)

pub value_sums : (v : Value) → IsWellFormed v → with_groups v.groups (plain v.base) ≡ v
value_sums v h = by_raw (is_raw v.base) refl where
  raw_is : (base : Base) → is_raw base ≡ true → base ≡ Raw
  raw_is Raw is = refl
  raw_is Init is = cc is
  raw_is Ident is = cc is
  raw_is (Const n) is = cc is
  raw_is (Out t) is = cc is

  by_raw : (is : Bool) → is_raw v.base ≡ is → with_groups v.groups (plain v.base) ≡ v
  by_raw true raw = let none = h.raw_is_plain (raw_is v.base raw) in
      ap (λ (gs : List Group). with_groups gs (plain v.base)) none ∙ ap (value_of v.base) (sym none)
  by_raw false other = groups_sum v.base [] v.groups other (first_anew v.groups) h.neighbours_differ h.no_bag_is_empty h.bags where
    first_anew : (groups : List Group) → StartsAnew [] groups
    first_anew [] = tt
    first_anew (g ∷ groups) = refl

-- ---- weights

pub weight_added : (op : ℕ) (bag : Bag) (v : Value) → weight_of (add op bag v) ≤ weight_of v + total bag
unfolding add
weight_added op [] v = omega arith
weight_added op (e ∷ bag) v = by_raw (is_raw v.base) refl where
  by_raw : (is : Bool) → is_raw v.base ≡ is → weight_of (add op (e ∷ bag) v) ≤ weight_of v + total (e ∷ bag)
  by_raw true raw = rw raw (omega arith)
  by_raw false other = rw other (omega (arith, weight_extended op (e ∷ bag) v.groups))

weight_parts : (w : Value) (op : ℕ) (base : Base) (groups : List Group)
    → weight_of (fold_parts w op base groups) ≤ weight_of w + weight_in groups
weight_parts w op Ident [] = omega arith
weight_parts w op Ident (g ∷ []) =
    elim (eqb_tells g.op op) [ inl is ↦ rw is.0 (omega (arith, weight_added op g.bag w)) | inr is ↦ rw is.0 (omega arith) ]
weight_parts w op base groups = omega arith

pub weight_folded : (w : Value) (op : ℕ) (v : Value) → weight_of (fold_in w op v) ≤ weight_of w + weight_of v
unfolding fold_in
weight_folded w op v = weight_parts w op v.base v.groups
