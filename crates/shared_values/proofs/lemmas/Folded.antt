-- What folding in does, by the base and the groups that were read.
use Rattle.std.proofs.Common.{◌≡◌, ◌≢◌, ℕ, ◌+◌, ◌-◌, ◌<◌, ◌≤◌, ◌^◌, take, drop, true, false, List, [], ◌∷◌, ◌==◌, length, get_or, refl, ap, subst, sym, ◌∙◌, arith}
use Rattle.std.proofs.lemmas.List.{take_rest}
use Rattle.std.proofs.lemmas.Bool.{eq-eqb, ne_eqb}
use Rattle.value_terms.specs.declared.bag.Group.{Group}
use Rattle.value_terms.specs.declared.terms.Base.{Base}
use Rattle.value_terms.specs.declared.terms.Base.TheVariants.{Raw, Ident}
use Rattle.value_terms.specs.declared.terms.Contribution.{Contribution}
use Rattle.value_terms.specs.Values.{Bag, Value, add, plain, value_of, fold_in, with_bag, weight_of, total, CountsEach, IsHeld}
use Rattle.value_terms.proofs.lemmas.Sums.{bag_sums, weight_added}
use Rattle.shared_values.specs.Arenas.{value_at, Keeps}
use Rattle.shared_values.proofs.lemmas.Building.{keeps_trans, keeps_refl}

-- A value with one group, as it is held.
pub record IsGroup (op : ℕ) (bag : Bag) (v : Value) : Type 0 where
  pub counts : CountsEach bag
  pub weight : weight_of v ≡ total bag

pub one_group : (op : ℕ) (bag : Bag) (v : Value) → IsHeld v → v ≡ value_of Ident (record { op = op; bag = bag } ∷ []) → IsGroup op bag v
one_group op bag v h is =
    let held = subst IsHeld is h in
    record { counts = held.well_formed.bags.0.counts; weight = ap weight_of is ∙ omega arith }

pub nothing_folded : (op : ℕ) (w v : Value) → v ≡ plain Ident → w ≡ fold_in w op v
unfolding fold_in
nothing_folded op w v is = rw is refl

pub group_folded : (op : ℕ) (bag : Bag) (w v : Value) → v ≡ value_of Ident (record { op = op; bag = bag } ∷ [])
    → add op bag w ≡ fold_in w op v
unfolding fold_in
group_folded op bag w v is = let same : (op == op) ≡ true = eq-eqb op op refl in rw (is, same) refl

pub other_base_spoils : (op : ℕ) (base : Base) (groups : List Group) (v : Value) → value_of base groups ≡ v → (base ≡ Ident → ⊥)
    → (w : Value) → fold_in w op v ≡ plain Raw
unfolding fold_in
other_base_spoils op Ident groups v is other w = absurd (other refl)
other_base_spoils op base groups v is other w = rw (← is) refl

pub other_group_spoils : (op : ℕ) (base : Base) (groups seen : List Group) (v : Value) (x : Group) → value_of base groups ≡ v
    → base ≡ Ident → seen ≡ groups → length seen ≡ 1 → x ≡ get_or seen 0 x → x.op ≢ op → (w : Value) → fold_in w op v ≡ plain Raw
unfolding fold_in
other_group_spoils op base groups [] v x is ident same one read other w = absurd (omega arith)
other_group_spoils op base groups (g ∷ []) v x is ident same one read other w =
    let g_other : (g.op == op) ≡ false = ne_eqb g.op op (λ e. other (ap (λ (y : Group). y.op) read ∙ e)) in
    rw (← is, ident, ← same, g_other) refl
other_group_spoils op base groups (g ∷ h ∷ seen) v x is ident same one read other w = absurd (omega arith)

pub more_groups_spoil : (op : ℕ) (base : Base) (groups seen : List Group) (v : Value) → value_of base groups ≡ v → base ≡ Ident
    → seen ≡ groups → 2 ≤ length seen → (w : Value) → fold_in w op v ≡ plain Raw
unfolding fold_in
more_groups_spoil op base groups [] v is ident same many w = absurd (omega arith)
more_groups_spoil op base groups (g ∷ []) v is ident same many w = absurd (omega arith)
more_groups_spoil op base groups (g ∷ h ∷ seen) v is ident same many w = rw (← is, ident, ← same) refl

-- ---- entries one after another

-- What is left to add to the value at a number.
pub record IsLeft (old now : List Value) (op at : ℕ) (rest : Bag) (whole : Value) : Type 0 where
  pub known : at < length now
  pub is : with_bag op rest (value_at now at) ≡ whole
  pub counts : CountsEach rest
  pub fits : weight_of (value_at now at) + total rest < 2 ^ 64
  pub kept : Keeps old now

pub left_first : (values : List Value) (op id : ℕ) (entries : Bag) → id < length values → CountsEach entries
    → weight_of (value_at values id) + total entries < 2 ^ 64 → IsLeft values values op id entries (add op entries (value_at values id))
left_first values op id entries known counts fits = record {
  known = known;
  is = bag_sums op entries
      (value_at values id);
  counts = counts;
  fits = fits;
  kept = keeps_refl values;
}

pub left_next : (old now next : List Value) (op at new : ℕ) (e : Contribution × ℕ) (rest : Bag) (whole : Value)
    → IsLeft old now op at (e ∷ rest) whole → new < length next → value_at next new ≡ add op (e ∷ []) (value_at now at)
    → Keeps now next → IsLeft old next op new rest whole
left_next old now next op at new e rest whole h known told kept =
    let w = weight_added op (e ∷ []) (value_at now at) in
    let m = ap weight_of told in
    record {
      known = known;
      is = ap (with_bag op rest) told ∙ h.is;
      counts = h.counts.1;
      fits = omega (arith, w, m, h.fits);
      kept = keeps_trans old now next h.kept kept;
    }

pub left_on : (old now next : List Value) (op at new : ℕ) (seen : Bag) (d : Contribution × ℕ) (whole : Value)
    → IsLeft old now op at seen whole → 1 ≤ length seen → new < length next
    → value_at next new ≡ add op (((get_or seen 0 d).0, (get_or seen 0 d).1) ∷ []) (value_at now at) → Keeps now next
    → IsLeft old next op new (take (length seen - 1) (drop 1 seen)) whole
left_on old now next op at new [] d whole h some known told kept = absurd (omega (arith, some))
left_on old now next op at new (e ∷ rest) d whole h some known told kept =
    subst (λ (bag : Bag). IsLeft old next op new bag whole) (sym (take_rest (e ∷ rest) 1))
    (left_next old now next op at new e rest whole h known told kept)

pub folded : (op : ℕ) (bag : Bag) (w v from new : Value) → from ≡ v → from ≡ value_of Ident (record { op = op; bag = bag } ∷ [])
    → new ≡ add op bag w → new ≡ fold_in w op v
folded op bag w v from new same is told = told ∙ group_folded op bag w from is ∙ ap (fold_in w op) same

pub not_folded : (op : ℕ) (w v from : Value) → from ≡ v → from ≡ plain Ident → w ≡ fold_in w op v
not_folded op w v from same is = nothing_folded op w from is ∙ ap (fold_in w op) same
