-- In whatever order entries are added by one operator, the value is the same.
use Rattle.std.proofs.Common.{◌≡◌, ℕ, zero, suc, ◌<◌, List, [], ◌∷◌, ◌++◌, length, get_or, set, refl, ap, sym, subst, ◌∙◌, ◌&&◌, ◌==◌, arith}
use Rattle.std.specs.Bool.{Decides}
use Rattle.std.specs.List.Sorted.{IsPermutation}
use Rattle.std.proofs.lemmas.Bool.Decides.{Decides-and, Decides-like, Decides-eqb}
use Rattle.std.proofs.lemmas.List.Sorted.{IsPermutation-keeps, IsPermutation-sym, IsPermutation-trans}
use Rattle.std.proofs.lemmas.List.Edits.{swap_is}
use Rattle.value_terms.specs.Values.{Value}
use Rattle.value_terms.proofs.lemmas.Changes.{add_add}
use Rattle.shared_values.specs.declared.node.Step.{Step}
use Rattle.shared_values.specs.declared.node.Entry.{Entry}
use Rattle.shared_values.specs.declared.suffix.Sums.{Sums}
use Rattle.shared_values.specs.Arenas.{value_at}
use Rattle.shared_values.specs.Summing.{entry_of, summed_one, summed, IsStepBy, AreSums}

pub summed_last : (op : ℕ) (es : List Entry) (e : Entry) (v : Value) → summed op (es ++ e ∷ []) v ≡ summed op es (summed_one op e v)
summed_last op [] e v = refl
summed_last op (f ∷ es) e v = ap (summed_one op f) (summed_last op es e v)

one_one : (op : ℕ) (e f : Entry) (v : Value) → summed_one op e (summed_one op f v) ≡ summed_one op f (summed_one op e v)
one_one op e f v = add_add op ((record { task = e.task; req = e.req }, e.n) ∷ []) ((record { task = f.task; req = f.req }, f.n) ∷ []) v

-- An entry takes the place of another, which comes in front.
in_front : (op : ℕ) (es : List Entry) (i : ℕ) (e d : Entry) (v : Value) → i < length es
    → summed_one op (get_or es i d) (summed op (set es i e) v) ≡ summed_one op e (summed op es v)
in_front op [] i e d v lt = absurd (omega (arith, lt))
in_front op (f ∷ es) zero e d v lt = one_one op f e (summed op es v)
in_front op (f ∷ es) (suc i) e d v lt =
    one_one op (get_or es i d) f (summed op (set es i e) v)
    ∙ ap (summed_one op f) (in_front op es i e d v (omega (arith, lt)))
    ∙ one_one op f e (summed op es v)

exchanged : (op : ℕ) (es : List Entry) (i j : ℕ) (d : Entry) (v : Value) → i < length es → j < length es
    → summed op (set (set es i (get_or es j d)) j (get_or es i d)) v ≡ summed op es v
exchanged op [] i j d v lt mt = absurd (omega (arith, lt))
exchanged op (f ∷ es) zero zero d v lt mt = refl
exchanged op (f ∷ es) zero (suc j) d v lt mt = in_front op es j f d v (omega (arith, mt))
exchanged op (f ∷ es) (suc i) zero d v lt mt = in_front op es i f d v (omega (arith, lt))
exchanged op (f ∷ es) (suc i) (suc j) d v lt mt = ap (summed_one op f) (exchanged op es i j d v (omega (arith, lt)) (omega (arith, mt)))

pub summed_permuted : (op : ℕ) (es fs : List Entry) (v : Value) → IsPermutation es fs → summed op fs v ≡ summed op es v
summed_permuted op es fs v moved =
    let d : Entry = record { task = 0; req = 0; n = 0 } in
    IsPermutation-keeps es (λ (gs : List Entry). summed op gs v ≡ summed op es v) refl
    (λ l i j lt mt h. ap (λ (gs : List Entry). summed op gs v) (sym (swap_is l i j d lt mt)) ∙ exchanged op l i j d v lt mt
    ∙ h) fs moved

pub entry_decides : (a b : Entry) → Decides (a.task == b.task && (a.req == b.req && a.n == b.n)) (a ≡ b)
entry_decides a b =
    Decides-like (a.task == b.task && (a.req == b.req && a.n == b.n))
    (λ (p : (a.task ≡ b.task) × ((a.req ≡ b.req) × (a.n ≡ b.n))). λ i. record { task = p.0 i; req = p.1.0 i; n = p.1.1 i })
    (λ (e : a ≡ b). (ap (λ (x : Entry). x.task) e, (ap (λ (x : Entry). x.req) e, ap (λ (x : Entry). x.n) e)))
    (Decides-and (a.task == b.task) (a.req == b.req && a.n == b.n) (Decides-eqb a.task b.task)
    (Decides-and (a.req == b.req) (a.n == b.n) (Decides-eqb a.req b.req) (Decides-eqb a.n b.n)))

-- One way goes on.
pub gathers : (values : List Value) (op x : ℕ) (s : Step) (es new : List Entry) (e : Entry) (w : Value) → IsStepBy values op x s
    → e ≡ entry_of s → new ≡ es ++ e ∷ [] → summed op es (value_at values x) ≡ w → summed op new (value_at values s.before) ≡ w
gathers values op x s es new e w h is told before =
    ap (λ (fs : List Entry). summed op fs (value_at values s.before)) (told ∙ ap (λ (f : Entry). es ++ f ∷ []) is)
    ∙ summed_last op es (entry_of s) (value_at values s.before)
    ∙ ap (summed op es) (sym h.is) ∙ before

pub same_told : (values : List Value) (op a b : ℕ) (s : Sums) → AreSums values op a b s → IsPermutation s.one.items s.other.items
    → value_at values a ≡ value_at values b
same_told values op a b s h moved = sym h.one ∙ sym (summed_permuted op s.one.items s.other.items (value_at values s.at) moved) ∙ h.other

pub both_sorted : (xs ys us vs : List Entry) → IsPermutation xs us → IsPermutation ys vs → us ≡ vs → IsPermutation xs ys
both_sorted xs ys us vs h g e = IsPermutation-trans xs vs ys (subst (IsPermutation xs) e h) (IsPermutation-sym ys vs g)
