-- A value becomes a long one when each task is given the list that it carries. The changes of values become those of long values.
use Rattle.std.proofs.Common.{◌≡◌, ◌≢◌, ℕ, zero, suc, ◌+◌, ◌≤◌, inl, inr, true, false, ◌&&◌, ◌==◌, List, [], ◌∷◌, refl, sym, ap, ap₂, ◌∙◌, arith, subst}
use Rattle.std.specs.List.{AllByRecursion}
use Rattle.std.proofs.lemmas.Bool.{cond_both, and_parts, eqb-true, eq-eqb, false_from_ne_true}
use Rattle.std.proofs.lemmas.Bool.Decides.{eqb_tells, nat_tests}
use Rattle.vocabulary.specs.Prelude.{Base, Contribution, Group, Bag, Value, comes_before, counted, joined, extended, add, add_one, fold_parts, fold_in, CountsEach, IsWellFormedBag, NeighboursDiffer, IsWellFormed}
use Rattle.value_terms.specs.declared.terms.Base.TheVariants as bases
use Rattle.value_terms.proofs.lemmas.Order.{Below, compared, before_trans, below}
use Rattle.value_terms.proofs.lemmas.Counting.{counts}
use Rattle.long_values.specs.LongValues.{Long, raw, init, ident, const, out, added, Readings, add_long, fold_long}

-- ---- adding one contribution

goes_below : (op o : ℕ) (c d : Contribution) (reads others : Readings) (v : Long) → (o == op) ≡ true → comes_before c d ≡ true
    → add_long op c reads (added o d others v) ≡ added o d others (add_long op c reads v)
unfolding add_long
goes_below op o c d reads others v e f = rw (e, f) refl

goes_on_other : (op o : ℕ) (c d : Contribution) (reads others : Readings) (v : Long) → (o == op) ≡ false
    → add_long op c reads (added o d others v) ≡ added op c reads (added o d others v)
unfolding add_long
goes_on_other op o c d reads others v e = rw e refl

goes_on : (op o : ℕ) (c d : Contribution) (reads others : Readings) (v : Long) → comes_before c d ≡ false
    → add_long op c reads (added o d others v) ≡ added op c reads (added o d others v)
unfolding add_long
goes_on op o c d reads others v e = elim (eqb_tells o op) [ inl is ↦ rw (is.0, e) refl | inr is ↦ rw is.0 refl ]

ruleset goes = (goes_below, goes_on_other, goes_on)

-- Of two contributions by one operator the later may be added first.
sunk : (op : ℕ) (c d : Contribution) (reads others : Readings) → Below c d → (v : Long)
    → add_long op c reads (add_long op d others v) ≡ add_long op d others (add_long op c reads v)
unfolding add_long
sunk op c d reads others b raw = refl
sunk op c d reads others b (added o e more v) =
    grind (arith, goes, nat_tests, b.before, b.not_after, before_trans c d e, sunk op c d reads others b v)
sunk op c d reads others b _ = rw (eq-eqb op op refl, b.before, b.not_after) refl

pub either_first : (op : ℕ) (c d : Contribution) (reads others : Readings) → (c ≡ d → reads ≡ others) → (v : Long)
    → add_long op c reads (add_long op d others v) ≡ add_long op d others (add_long op c reads v)
either_first op c d reads others one v = elim (compared c d) [
  | inl same ↦ ap₂ (λ x r. add_long op x r (add_long op d others v)) same.equal (one same.equal)
      ∙ sym (ap₂ (λ x r. add_long op d others (add_long op x r v)) same.equal (one same.equal))
  | inr (inl lower) ↦ sunk op c d reads others lower v
  | inr (inr lower) ↦ sym (sunk op d c others reads lower v)
]

-- ---- folding in a long value with one contribution more

fold_added : (w : Long) (op : ℕ) (c : Contribution) (reads : Readings) (v : Long)
    → fold_long w op (added op c reads v) ≡ add_long op c reads (fold_long w op v)
unfolding fold_long
fold_added w op c reads v = rw (eq-eqb op op refl) refl

fold_same : (w : Long) (op : ℕ) (c : Contribution) (reads : Readings) (v : Long)
    → fold_long w op (add_long op c reads v) ≡ add_long op c reads (fold_long w op v)
unfolding fold_long add_long
fold_same w op c reads raw = refl
fold_same w op c reads (added o d others v) = cond_both ((o == op) && comes_before c d) (added o d others (add_long op c reads v))
    (added op c reads (added o d others v)) (λ u. fold_long w op u ≡ add_long op c reads (fold_long w op (added o d others v)))
    (λ e. let both = and_parts (o == op) (comes_before c d) e in
    rw both.0 (ap (add_long op d others) (fold_same w op c reads v) ∙ sym (sunk op c d reads others (below c d both.1) (fold_long w op v))))
    (λ e. fold_added w op c reads (added o d others v))
fold_same w op c reads _ = rw (eq-eqb op op refl) refl

fold_unlike : (w : Long) (op o : ℕ) (c : Contribution) (reads : Readings) (v : Long) → (o == op) ≡ false
    → fold_long w op (add_long o c reads v) ≡ raw
unfolding fold_long add_long
fold_unlike w op o c reads raw e = refl
fold_unlike w op o c reads (added p d others v) e =
    cond_both ((p == o) && comes_before c d) (added p d others (add_long o c reads v)) (added o c reads (added p d others v))
    (λ u. fold_long w op u ≡ raw)
    (λ f. rw (ap (λ k. k == op) (eqb-true p o (and_parts (p == o) (comes_before c d) f).0) ∙ e) refl)
    (λ f. rw e refl)
fold_unlike w op o c reads _ e = rw e refl

-- What makes everything raw still does when a contribution is added to it.
fold_still : (w : Long) (op o : ℕ) (c : Contribution) (reads : Readings) (v : Long) → fold_long w op v ≡ raw
    → fold_long w op (add_long o c reads v) ≡ raw
unfolding add_long
fold_still w op o c reads v e = elim (eqb_tells o op) [
  | inl is ↦ subst (λ k. fold_long w op (add_long k c reads v) ≡ raw) (sym is.1) (fold_same w op c reads v ∙ ap (add_long op c reads) e)
  | inr is ↦ fold_unlike w op o c reads v is.0
]

-- ---- so many times

abbrev pub times : ℕ → (Long → Long) → Long → Long
times zero f v = v
times (suc n) f v = f (times n f v)

times_past : (n : ℕ) (f g : Long → Long) → ((v : Long) → g (f v) ≡ f (g v)) → (v : Long) → g (times n f v) ≡ times n f (g v)
times_past zero f g h v = refl
times_past (suc n) f g h v = h (times n f v) ∙ ap f (times_past n f g h v)

times_sum : (n m : ℕ) (f : Long → Long) (v : Long) → times (m + n) f v ≡ times n f (times m f v)
times_sum zero m f v = ap (λ k. times k f v) (omega arith)
times_sum (suc n) m f v = ap (λ k. times k f v) (let e : m + suc n ≡ suc (m + n) = omega arith in e) ∙ ap f (times_sum n m f v)

-- ---- lifting

module _ (carries : ℕ → Readings) where
  abbrev lift_base : Base → Long
  lift_base bases.Raw = raw
  lift_base bases.Init = init
  lift_base bases.Ident = ident
  lift_base (bases.Const n) = const n
  lift_base (bases.Out task) = out task (carries task)

  abbrev pub lift_one : ℕ → Contribution → Long → Long
  lift_one op c v = add_long op c (carries c.task) v

  abbrev lift_bag : ℕ → Bag → Long → Long
  lift_bag op [] v = v
  lift_bag op (e ∷ bag) v = lift_bag op bag (times e.1 (lift_one op e.0) v)

  abbrev lift_groups : List Group → Long → Long
  lift_groups [] v = v
  lift_groups (g ∷ groups) v = lift_groups groups (lift_bag g.op g.bag v)

  -- The long value of a value.
  abbrev pub lift : Value → Long
  lift v = lift_groups v.groups (lift_base v.base)

  one_past : (op : ℕ) (c d : Contribution) (v : Long) → lift_one op c (lift_one op d v) ≡ lift_one op d (lift_one op c v)
  one_past op c d v = either_first op c d (carries c.task) (carries d.task) (λ e. ap (λ (c : Contribution). carries c.task) e) v

  bag_past : (op : ℕ) (c : Contribution) (n : ℕ) (bag : Bag) (v : Long)
      → times n (lift_one op c) (lift_bag op bag v) ≡ lift_bag op bag (times n (lift_one op c) v)
  bag_past op c n [] v = refl
  bag_past op c n (e ∷ bag) v = bag_past op c n bag (times e.1 (lift_one op e.0) v)
      ∙ ap (lift_bag op bag) (times_past e.1 (lift_one op e.0) (times n (lift_one op c))
      (λ u. sym (times_past n (lift_one op c) (lift_one op e.0) (one_past op e.0 c) u)) v)

  lift_counted : (op : ℕ) (c : Contribution) (n : ℕ) (bag : Bag) (v : Long)
      → lift_bag op (counted c n bag) v ≡ times n (lift_one op c) (lift_bag op bag v)
  unfolding counted
  lift_counted op c n [] v = refl
  lift_counted op c n (e ∷ bag) v = elim (compared c e.0) [
    | inl same ↦ rw same.same (ap (lift_bag op bag) (times_sum n e.1 (lift_one op e.0) v
        ∙ ap (λ k. times n (lift_one op k) (times e.1 (lift_one op e.0) v)) (sym same.equal)) ∙ sym (bag_past op c n bag _))
    | inr (inl lower) ↦ rw (lower.differ, lower.before) (sym (bag_past op c n (e ∷ bag) v))
    | inr (inr higher) ↦ rw (higher.differ_too, higher.not_after) (lift_counted op c n bag (times e.1 (lift_one op e.0) v))
  ]

  lift_joined : (op : ℕ) (a b : Bag) (v : Long) → lift_bag op (joined a b) v ≡ lift_bag op b (lift_bag op a v)
  unfolding joined
  lift_joined op a [] v = refl
  lift_joined op a (e ∷ b) v = lift_joined op (counted e.0 e.1 a) b v ∙ ap (lift_bag op b) (lift_counted op e.0 e.1 a v)

  lift_extended : (op : ℕ) (bag : Bag) (groups : List Group) (v : Long)
      → lift_groups (extended op bag groups) v ≡ lift_bag op bag (lift_groups groups v)
  unfolding extended
  lift_extended op bag [] v = lift_joined op [] bag v
  lift_extended op bag (g ∷ []) v = elim (eqb_tells g.op op) [
    | inl is ↦ rw is.0 (lift_joined g.op g.bag bag v ∙ ap (λ k. lift_bag k bag (lift_bag g.op g.bag v)) is.1)
    | inr is ↦ rw is.0 (lift_joined op [] bag (lift_bag g.op g.bag v))
  ]
  lift_extended op bag (g ∷ h ∷ groups) v = lift_extended op bag (h ∷ groups) (lift_bag g.op g.bag v)

  -- Nothing makes a raw value another.
  raw_times : (n op : ℕ) (c : Contribution) → times n (lift_one op c) raw ≡ raw
  unfolding add_long
  raw_times zero op c = refl
  raw_times (suc n) op c = ap (lift_one op c) (raw_times n op c)

  raw_bag : (op : ℕ) (bag : Bag) → lift_bag op bag raw ≡ raw
  raw_bag op [] = refl
  raw_bag op (e ∷ bag) = ap (lift_bag op bag) (raw_times e.1 op e.0) ∙ raw_bag op bag

  raw_groups : (groups : List Group) → lift_groups groups raw ≡ raw
  raw_groups [] = refl
  raw_groups (g ∷ groups) = ap (lift_groups groups) (raw_bag g.op g.bag) ∙ raw_groups groups

  add_parts : (op : ℕ) (bag : Bag) (base : Base) (groups : List Group)
      → lift (add op bag (record { base = base; groups = groups })) ≡ lift_bag op bag (lift (record { base = base; groups = groups }))
  unfolding add
  add_parts op [] base groups = refl
  add_parts op (e ∷ bag) bases.Raw groups = raw_groups groups ∙ sym (ap (lift_bag op (e ∷ bag)) (raw_groups groups) ∙ raw_bag op (e ∷ bag))
  add_parts op (e ∷ bag) base groups = lift_extended op (e ∷ bag) groups (lift_base base)

  lift_add : (op : ℕ) (bag : Bag) (v : Value) → lift (add op bag v) ≡ lift_bag op bag (lift v)
  lift_add op bag v = add_parts op bag v.base v.groups

  pub lift_add_one : (op : ℕ) (c : Contribution) (v : Value) → lift (add_one op c v) ≡ add_long op c (carries c.task) (lift v)
  lift_add_one op c v = lift_add op ((c, 1) ∷ []) v

  -- ---- folds

  fold_bag : (w : Long) (op : ℕ) (bag : Bag) (v : Long) → fold_long w op (lift_bag op bag v) ≡ lift_bag op bag (fold_long w op v)
  fold_bag w op [] v = refl
  fold_bag w op (e ∷ bag) v = fold_bag w op bag (times e.1 (lift_one op e.0) v)
      ∙ ap (lift_bag op bag) (times_past e.1 (lift_one op e.0) (fold_long w op) (λ u. fold_same w op e.0 _ u) v)

  still_times : (w : Long) (op o n : ℕ) (c : Contribution) (v : Long) → fold_long w op v ≡ raw
      → fold_long w op (times n (lift_one o c) v) ≡ raw
  still_times w op o zero c v e = e
  still_times w op o (suc n) c v e = fold_still w op o c _ _ (still_times w op o n c v e)

  still_bag : (w : Long) (op o : ℕ) (bag : Bag) (v : Long) → fold_long w op v ≡ raw → fold_long w op (lift_bag o bag v) ≡ raw
  still_bag w op o [] v e = e
  still_bag w op o (f ∷ bag) v e = still_bag w op o bag _ (still_times w op o f.1 f.0 v e)

  still_groups : (w : Long) (op : ℕ) (groups : List Group) (v : Long) → fold_long w op v ≡ raw → fold_long w op (lift_groups groups v) ≡ raw
  still_groups w op [] v e = e
  still_groups w op (g ∷ groups) v e = still_groups w op groups _ (still_bag w op g.op g.bag v e)

  -- A bag that holds something, and was added by another operator, makes the fold raw.
  spoiled_times : (w : Long) (op o n : ℕ) (c : Contribution) (v : Long) → (o == op) ≡ false → 1 ≤ n
      → fold_long w op (times n (lift_one o c) v) ≡ raw
  spoiled_times w op o zero c v e few = absurd (omega (arith, few))
  spoiled_times w op o (suc n) c v e few = fold_unlike w op o c _ _ e

  spoiled_bag : (w : Long) (op o : ℕ) (bag : Bag) (v : Long) → (o == op) ≡ false → bag ≢ [] → CountsEach bag
      → fold_long w op (lift_bag o bag v) ≡ raw
  spoiled_bag w op o [] v e some counts = absurd (some refl)
  spoiled_bag w op o (f ∷ bag) v e some counts = still_bag w op o bag _ (spoiled_times w op o f.1 f.0 v e counts.0)

  fold_groups : (w : Value) (op : ℕ) (base : Base) (groups : List Group) → AllByRecursion (λ g. g.bag ≢ []) groups
      → AllByRecursion (λ g. IsWellFormedBag g.bag) groups → NeighboursDiffer groups
      → lift (fold_parts w op base groups) ≡ fold_long (lift w) op (lift_groups groups (lift_base base))
  unfolding fold_long
  fold_groups w op bases.Ident [] some bags differ = refl
  fold_groups w op bases.Ident (g ∷ []) some bags differ = elim (eqb_tells g.op op) [
    | inl is ↦ rw is.0 (lift_add op g.bag w ∙ sym (ap (λ k. fold_long (lift w) op (lift_bag k g.bag ident)) is.1
        ∙ fold_bag (lift w) op g.bag ident))
    | inr is ↦ rw is.0 (sym (spoiled_bag (lift w) op g.op g.bag ident is.0 some.0 bags.0.counts))
  ]
  fold_groups w op bases.Ident (g ∷ h ∷ groups) some bags differ = sym (elim (eqb_tells g.op op) [
    | inl is ↦ still_groups (lift w) op groups _
        (spoiled_bag (lift w) op h.op h.bag _ (false_from_ne_true (h.op == op)
        (λ e. differ.0 (is.1 ∙ sym (eqb-true h.op op e)))) some.1.0 bags.1.0.counts)
    | inr is ↦ still_groups (lift w) op (h ∷ groups) _ (spoiled_bag (lift w) op g.op g.bag ident is.0 some.0 bags.0.counts)
  ])
  fold_groups w op base groups some bags differ = sym (still_groups (lift w) op groups (lift_base base) refl)

  pub lift_fold : (w : Value) (op : ℕ) (v : Value) → IsWellFormed v → lift (fold_in w op v) ≡ fold_long (lift w) op (lift v)
  unfolding fold_in
  lift_fold w op v h = fold_groups w op v.base v.groups h.no_bag_is_empty h.bags h.neighbours_differ
