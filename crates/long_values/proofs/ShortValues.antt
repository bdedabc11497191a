-- Dropping what was read turns changes of long values into changes of values.
use Rattle.std.proofs.Common.{◌≡◌, ℕ, ◌+◌, inl, inr, false, ◌&&◌, ◌==◌, List, [], ◌∷◌, refl, sym, ap, ◌∙◌, arith, subst}
use Rattle.std.proofs.lemmas.Bool.{cond_both, and_parts, eqb-true}
use Rattle.std.proofs.lemmas.Bool.Decides.{eqb_tells, nat_tests}
use Rattle.vocabulary.specs.Prelude.{Base, Contribution, Group, Bag, Value, counted, joined, comes_before, extended, add, add_one, plain, fold_parts, fold_in}
use Rattle.value_terms.specs.declared.terms.Base.TheVariants.{Raw, Ident}
use Rattle.value_terms.proofs.lemmas.Order.{compared}
use Rattle.value_terms.proofs.lemmas.Counting.{counts, pair_path, joined_counted}
use Rattle.value_terms.proofs.lemmas.Changes.{add_add, add_raw, extended_later}
use Rattle.value_terms.proofs.lemmas.Grouping.{joined_one}
use Rattle.long_values.specs.LongValues.{Long, raw, ident, added, Readings, add_long, fold_long, short}

pub short_add : (op : ℕ) (c : Contribution) (reads : Readings) (v : Long) → short (add_long op c reads v) ≡ add_one op c (short v)
unfolding add_long
short_add op c reads raw = sym (add_raw op _)
short_add op c reads (added o d others v) = cond_both ((o == op) && comes_before c d) (added o d others (add_long op c reads v))
    (added op c reads (added o d others v))
    (λ w. short w ≡ add_one op c (add_one o d (short v)))
    (λ e. let is = eqb-true o op (and_parts (o == op) (comes_before c d) e).0 in
    ap (add_one o d) (short_add op c reads v) ∙ subst (λ k. add_one k d (add_one op c (short v)) ≡ add_one op c (add_one k d (short v)))
    (sym is) (add_add op _ _ (short v)))
    (λ _. refl)
short_add op c reads _ = refl

-- ---- folding in a value with one contribution more

counted_sum : (c : Contribution) (n m : ℕ) (bag : Bag) → counted c n (counted c m bag) ≡ counted c (m + n) bag
counted_sum c n m [] = grind (arith, counts, pair_path, compared c c)
counted_sum c n m (e ∷ bag) = grind (arith, counts, pair_path, compared c c, compared c e.0, counted_sum c n m bag)

pub joined_more : (a b : Bag) (c : Contribution) (n : ℕ) → joined a (counted c n b) ≡ counted c n (joined a b)
unfolding joined
joined_more a [] c n = grind (arith, counts)
joined_more a (e ∷ b) c n = grind (
  arith,
  counts,
  compared c e.0,
  joined_counted a (e ∷ b) c n,
  joined_counted (counted e.0 e.1 a) b c n,
  counted_sum c n e.1 a,
  joined_more (counted e.0 e.1 a) b c n,
)

extended_more : (op : ℕ) (c : Contribution) (bag : Bag) (groups : List Group)
    → extended op (counted c 1 bag) groups ≡ extended op ((c, 1) ∷ []) (extended op bag groups)
unfolding extended
extended_more op c bag [] = grind (arith, nat_tests, joined_one, joined_more [] bag c 1)
extended_more op c bag (g ∷ []) = grind (arith, nat_tests, joined_one, joined_more [] bag c 1, joined_more g.bag bag c 1)
extended_more op c bag (g ∷ h ∷ groups) = ap (λ gs. g ∷ gs) (extended_more op c bag (h ∷ groups))
    ∙ sym (extended_later op ((c, 1) ∷ []) bag g h groups)

add_more : (op : ℕ) (c : Contribution) (bag : Bag) (v : Value) → add op (counted c 1 bag) v ≡ add_one op c (add op bag v)
unfolding add
add_more op c [] v = grind (arith, counts)
add_more op c (e ∷ bag) v = grind (arith, counts, compared c e.0, extended_more op c (e ∷ bag) v.groups)

-- What is added to the value that is folded in is added to what comes of it, if it is added by the operator of the fold, and else makes it raw.
fold_more : (w : Value) (op : ℕ) (c : Contribution) (base : Base) (groups : List Group)
    → fold_in w op (add_one op c (record { base = base; groups = groups })) ≡ add_one op c (fold_parts w op base groups)
unfolding add extended fold_in
fold_more w op c Ident [] = grind (arith, nat_tests, joined_one, counts)
fold_more w op c Ident (g ∷ []) = grind (arith, nat_tests, joined_one, add_more op c g.bag w, add_raw op ((c, 1) ∷ []))
fold_more w op c Ident (g ∷ h ∷ []) = elim (eqb_tells h.op op) [ inl is ↦ rw is.0 refl | inr is ↦ rw is.0 refl ]
fold_more w op c Ident (g ∷ h ∷ k ∷ groups) = refl
fold_more w op c _ groups = refl

fold_other : (w : Value) (op o : ℕ) (c : Contribution) (base : Base) (groups : List Group) → (o == op) ≡ false
    → fold_in w op (add_one o c (record { base = base; groups = groups })) ≡ plain Raw
unfolding add extended fold_in
fold_other w op o c Ident [] e = rw e refl
fold_other w op o c Ident (g ∷ []) e = elim (eqb_tells g.op o) [ inl is ↦ rw (is.0, is.1, e) refl | inr is ↦ rw is.0 refl ]
fold_other w op o c Ident (g ∷ h ∷ []) e = elim (eqb_tells h.op o) [ inl is ↦ rw is.0 refl | inr is ↦ rw is.0 refl ]
fold_other w op o c Ident (g ∷ h ∷ k ∷ groups) e = refl
fold_other w op o c _ groups e = refl

pub short_fold : (w : Long) (op : ℕ) (v : Long) → short (fold_long w op v) ≡ fold_in (short w) op (short v)
unfolding fold_in fold_long
short_fold w op ident = refl
short_fold w op (added o c reads v) = cond_both (o == op) (add_long op c reads (fold_long w op v)) raw
    (λ u. short u ≡ fold_in (short w) op (add_one o c (short v)))
    (λ e. let is = eqb-true o op e in
    short_add op c reads (fold_long w op v) ∙ ap (add_one op c) (short_fold w op v)
    ∙ sym (fold_more (short w) op c (short v).base (short v).groups) ∙ ap (λ k. fold_in (short w) op (add_one k c (short v))) (sym is))
    (λ e. sym (fold_other (short w) op o c (short v).base (short v).groups e))
short_fold w op _ = refl
