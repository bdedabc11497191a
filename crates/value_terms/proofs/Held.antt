-- What the program holds stays so.
use Rattle.std.proofs.Common.{◌≡◌, ◌≢◌, ℕ, ◌+◌, ◌<◌, ◌≤◌, ◌^◌, inl, inr, true, false, List, [], ◌∷◌, ◌==◌, length, get_or, refl, ap, subst, ◌∙◌, arith}
use Rattle.std.proofs.lemmas.Bool.{eq-eqb, ne_eqb}
use Rattle.std.specs.List.{AllByRecursion}
use Rattle.value_terms.specs.declared.bag.Group.{Group}
use Rattle.value_terms.specs.declared.terms.Base.{Base}
use Rattle.value_terms.specs.declared.terms.Base.TheVariants.{Raw, Ident}
use Rattle.value_terms.specs.declared.terms.Contribution.{Contribution}
use Rattle.value_terms.specs.Values.{Bag, Value, counted, joined, total, weight_of, weight_in, extended, add, plain, value_of, fold_in, is_raw, CountsEach, IsWellFormedBag, IsSmallEntry, IsSmallGroup, IsHeld}
use Rattle.value_terms.proofs.lemmas.Order.{compared}
use Rattle.value_terms.proofs.lemmas.Counting.{counted_none, counted_same, counted_here, counted_later}
use Rattle.value_terms.proofs.lemmas.WellFormed.{add_well_formed, extended_all}
use Rattle.value_terms.proofs.lemmas.Grouping.{weight_extended}

counted_small : (c : Contribution) (n : ℕ) (bag : Bag) → IsSmallEntry (c, n) → AllByRecursion IsSmallEntry bag
    → AllByRecursion IsSmallEntry (counted c n bag)
counted_small c n [] new h = rw counted_none (new, tt)
counted_small c n (e ∷ bag) new h = elim (compared c e.0) [
  | inl s ↦ rw (counted_same c n e bag s.same) h
  | inr (inl b) ↦ rw (counted_here c n e bag b.differ b.before) (new, h)
  | inr (inr b) ↦ rw (counted_later c n e bag b.differ_too b.not_after) (h.0, counted_small c n bag new h.1)
]

joined_small : (a b : Bag) → AllByRecursion IsSmallEntry a → AllByRecursion IsSmallEntry b → AllByRecursion IsSmallEntry (joined a b)
unfolding joined
joined_small a [] h g = h
joined_small a (e ∷ b) h g = joined_small (counted e.0 e.1 a) b (counted_small e.0 e.1 a g.0 h) g.1

pub extended_held : (op : ℕ) (bag : Bag) (v : Value) → is_raw v.base ≡ false → bag ≢ [] → op < 2 ^ 32 → AllByRecursion IsSmallEntry bag
    → CountsEach bag → weight_of v + total bag < 2 ^ 64 → IsHeld v → IsHeld (record v { groups = extended op bag v.groups })
unfolding add
extended_held op [] v other some small_op small counts fits h = absurd (some refl)
extended_held op (e ∷ bag) v other some small_op small counts fits h = record {
  well_formed = rw other at (add_well_formed op (e ∷ bag) v counts h.well_formed);
  small_base = h.small_base;
  small_groups = extended_all IsSmallGroup op (e ∷ bag) v.groups (small_op, joined_small [] (e ∷ bag) tt small)
      (λ g s. (s.0, joined_small g.bag (e ∷ bag) s.1 small)) h.small_groups;
  weight = omega (arith, weight_extended op (e ∷ bag) v.groups);
}

-- A bag was added to the groups.
pub added_told : (op : ℕ) (bag : Bag) (base : Base) (groups new : List Group) (now : Value) → value_of base groups ≡ now
    → is_raw base ≡ false → bag ≢ [] → new ≡ extended op bag groups → value_of base new ≡ add op bag now
unfolding add
added_told op [] base groups new now is other some told = absurd (some refl)
added_told op (e ∷ bag) base groups new now is other some told = rw (← is, other, told) refl

pub raw_stays : (op : ℕ) (bag : Bag) (base : Base) (groups : List Group) (now : Value) → value_of base groups ≡ now → is_raw base ≡ true
    → now ≡ add op bag now
unfolding add
raw_stays op [] base groups now is raw = refl
raw_stays op (e ∷ bag) base groups now is raw = rw (← is, raw) refl

-- The invariant of the fields after it.
pub added_held : (op : ℕ) (bag : Bag) (base : Base) (groups new : List Group) (weight n : ℕ) → IsHeld (value_of base groups)
    × (weight ≡ weight_in groups) → is_raw base ≡ false → bag ≢ [] → op < 2 ^ 32 → AllByRecursion IsSmallEntry bag → CountsEach bag
    → n ≡ total bag → weight + n < 2 ^ 64 → new ≡ extended op bag groups → IsHeld (value_of base new) × (weight + n ≡ weight_in new)
added_held op bag base groups new weight n h other some small_op small counts all fits told =
    rw told (
      extended_held op bag (value_of base groups) other some small_op small counts (omega (arith, h.1)) h.0,
      omega (arith, h.1, weight_extended op bag groups),
    )

-- ---- folding

-- A value with one group, as it is held.
pub record IsHeldGroup (op : ℕ) (bag : Bag) (v : Value) : Type 0 where
  pub some : bag ≢ []
  pub well_formed : IsWellFormedBag bag
  pub small : AllByRecursion IsSmallEntry bag
  pub weight : weight_of v ≡ total bag

pub one_group : (op : ℕ) (bag : Bag) (v : Value) → IsHeld v → v ≡ value_of Ident (record { op = op; bag = bag } ∷ []) → IsHeldGroup op bag v
one_group op bag v h is =
    let held = subst IsHeld is h in
    record {
      some = held.well_formed.no_bag_is_empty.0;
      well_formed = held.well_formed.bags.0;
      small = held.small_groups.0.1;
      weight =
          ap weight_of is ∙ omega arith;
    }

pub nothing_folded : (op : ℕ) (w v : Value) → v ≡ plain Ident → w ≡ fold_in w op v
unfolding fold_in
nothing_folded op w v is = rw is refl

pub group_folded : (op : ℕ) (bag : Bag) (w v : Value) → v ≡ value_of Ident (record { op = op; bag = bag } ∷ [])
    → add op bag w ≡ fold_in w op v
unfolding fold_in
group_folded op bag w v is = let same : (op == op) ≡ true = eq-eqb op op refl in rw (is, same) refl

pub other_base_spoils : (op : ℕ) (base : Base) (groups : List Group) (v : Value) → value_of base groups ≡ v → (base ≡ Ident → ⊥)
    → (w : Value) → fold_in w op v ≡ plain Raw
unfolding fold_in
other_base_spoils op Ident groups v is other w = absurd (other refl)
other_base_spoils op base groups v is other w = rw (← is) refl

pub other_group_spoils : (op : ℕ) (base : Base) (groups seen : List Group) (v : Value) (x : Group) → value_of base groups ≡ v → base ≡ Ident
    → seen ≡ groups → length seen ≡ 1 → x ≡ get_or seen 0 x → x.op ≢ op → (w : Value) → fold_in w op v ≡ plain Raw
unfolding fold_in
other_group_spoils op base groups [] v x is ident same one read other w = absurd (omega arith)
other_group_spoils op base groups (g ∷ []) v x is ident same one read other w =
    let g_other : (g.op == op) ≡ false = ne_eqb g.op op (λ e. other (ap (λ (y : Group). y.op) read ∙ e)) in
    rw (← is, ident, ← same, g_other) refl
other_group_spoils op base groups (g ∷ h ∷ seen) v x is ident same one read other w = absurd (omega arith)

pub more_groups_spoil : (op : ℕ) (base : Base) (groups seen : List Group) (v : Value) → value_of base groups ≡ v → base ≡ Ident
    → seen ≡ groups → 2 ≤ length seen → (w : Value) → fold_in w op v ≡ plain Raw
unfolding fold_in
more_groups_spoil op base groups [] v is ident same many w = absurd (omega arith)
more_groups_spoil op base groups (g ∷ []) v is ident same many w = absurd (omega arith)
more_groups_spoil op base groups (g ∷ h ∷ seen) v is ident same many w = rw (← is, ident, ← same) refl
