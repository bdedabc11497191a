-- Maps from cells, and the entries of a table of numbers of cells.
use Rattle.std.proofs.Common.{◌≡◌, ℕ, ◌<◌, length, Bool, ◌&&◌, nat_eq, true, false, cond, is_some, List, [], ◌∷◌, Option, Some, None, refl, sym, ap, ap₂, ◌∙◌, subst, inl, inr}
use Rattle.std.specs.Ordering.{nat_cmp, is_eq, ordering_then}
use Rattle.std.specs.declared.cmp.Ordering.{Ordering}
use Rattle.std.specs.declared.cmp.Ordering.TheVariants.{Less, Equal, Greater}
use Rattle.std.proofs.lemmas.Bool.{false≢true, cases_Bool, eq-eqb, eqb-true}
use Rattle.std.specs.Cmp.{IsTotalOrder, eq_by_cmp_equiv, nat_cmp_total, nat_cmp_is, tied_then}
use Rattle.std.proofs.lemmas.Cmp.{on_total, then_total}
use Rattle.std.proofs.lemmas.Map.Lookups.{CmpEqualImpliesEq, exact_pairs, exact_unsigned}
use Rattle.std.specs.FinMap.{find, get, contains_key, from_entries, insert, get-from_entries, get-insert, same_map}
use Rattle.std.specs.BTreeMap.{is_at}
use Rattle.std.specs.Map.{lookup}
use Rattle.vocabulary.specs.Prelude.{Value, Cell}
use Rattle.std.specs.Prelude.{option_map, IfSome, IsSome}
use Rattle.shared_values.specs.Arenas.{value_at, Keeps}
use Rattle.inst_steps.specs.Stores.{cell_cmp, Contents, Held, valued, held, same_key, AreKnown}

-- Cells that compare alike are one.
pub exact_cells : CmpEqualImpliesEq cell_cmp
exact_cells a b h = ap (λ (p : ℕ × (ℕ × ℕ)). record { inst = p.0; point = p.1.0; field = p.1.1 })
    (exact_pairs nat_cmp _ exact_unsigned (exact_pairs nat_cmp nat_cmp exact_unsigned exact_unsigned) (a.inst, (a.point, a.field)) (
      b.inst,
      (b.point, b.field),
    ) h)

pub cells_total : IsTotalOrder cell_cmp
cells_total = then_total (on_total (λ (c : Cell). c.inst) nat_cmp_total)
    (then_total (on_total (λ (c : Cell). c.point) nat_cmp_total) (on_total (λ (c : Cell). c.field) nat_cmp_total))

is_equal : (r : Ordering) → is_eq r ≡ true → r ≡ Equal
is_equal Less e = absurd (false≢true e)
is_equal Equal e = refl
is_equal Greater e = absurd (false≢true e)

numbers_tie : (a b : ℕ) → is_eq (nat_cmp a b) ≡ nat_eq a b
numbers_tie a b = elim (cases_Bool (nat_eq a b)) [
  | inl same ↦ ap is_eq (sym (nat_cmp_is a b Equal (eqb-true a b same))) ∙ sym same
  | inr differ ↦ elim (cases_Bool (is_eq (nat_cmp a b))) [
    | inl tie ↦ absurd (false≢true (sym differ ∙ eq-eqb a b (exact_unsigned a b (is_equal (nat_cmp a b) tie))))
    | inr apart ↦ apart ∙ sym differ
  ]
]

cells_tie : (c q : Cell) → is_at (cell_cmp c) q ≡ same_key c q
cells_tie c q =
    sym (tied_then (nat_cmp c.inst q.inst) (ordering_then (nat_cmp c.point q.point) (nat_cmp c.field q.field)))
    ∙ ap₂ (λ a b. a && b) (numbers_tie c.inst q.inst) (sym (tied_then (nat_cmp c.point q.point) (nat_cmp c.field q.field))
    ∙ ap₂ (λ a b. a && b) (numbers_tie c.point q.point) (numbers_tie c.field q.field))

-- The map that the entries of a table make.
abbrev pub map_of : List (Cell × Value) → Contents
map_of es = from_entries {R = cell_cmp} es

find_same : (es : List (Cell × Value)) (c : Cell) → find cell_cmp c es ≡ lookup (same_key c) es
find_same [] c = refl
find_same (e ∷ es) c = ap₂ (λ b o. cond b (Some e.1) o) (cells_tie c e.0) (find_same es c)

get_same : (es : List (Cell × Value)) (c : Cell) → get (map_of es) c ≡ lookup (same_key c) es
get_same es c = get-from_entries cells_total es c ∙ find_same es c

-- What a map has, after one value is put into it.
pub get_put : (m : Contents) (c : Cell) (v : Value) (q : Cell) → get (insert m c v) q ≡ cond (same_key q c) (Some v) (get m q)
get_put m c v q = get-insert cells_total m c v q ∙ ap (λ b. cond b (Some v) (get m q)) (cells_tie q c)

-- ---- a table of numbers, and the map that it is seen as

lookup_valued : (values : List Value) (ns : List (Cell × ℕ)) (c : Cell)
    → lookup (same_key c) (valued values ns) ≡ option_map (value_at values) (lookup (same_key c) ns)
lookup_valued values [] c = refl
lookup_valued values (e ∷ ns) c = ap (cond (same_key c e.0) (Some (value_at values e.1))) (lookup_valued values ns c)
    ∙ out (same_key c e.0) e.1 (lookup (same_key c) ns)
  where
    out : (b : Bool) (n : ℕ) (o : Option ℕ)
        → cond b (Some (value_at values n)) (option_map (value_at values) o) ≡ option_map (value_at values) (cond b (Some n) o)
    out true n o = refl
    out false n o = refl

get_valued : (values : List Value) (ns : List (Cell × ℕ)) (c : Cell)
    → get (map_of (valued values ns)) c ≡ option_map (value_at values) (lookup (same_key c) ns)
get_valued values ns c = get_same (valued values ns) c ∙ lookup_valued values ns c

-- One cell has the number n, and the others have what they had.
abbrev pub IsPut : List (Cell × ℕ) → List (Cell × ℕ) → Cell → ℕ → Type 0
IsPut ns fs c n = (q : Cell) → lookup (same_key q) fs ≡ cond (same_key c q) (Some n) (lookup (same_key q) ns)

put_map : (values : List Value) (ns fs : List (Cell × ℕ)) (c : Cell) (n : ℕ) → IsPut ns fs c n
    → map_of (valued values fs) ≡ insert (map_of (valued values ns)) c (value_at values n)
put_map values ns fs c n is = same_map cells_total exact_cells _ _ (λ q.
    get_valued values fs q ∙ ap (option_map (value_at values)) (is q) ∙ out (same_key c q) (lookup (same_key q) ns)
    ∙ ap (λ b. cond b (Some (value_at values n)) (option_map (value_at values) (lookup (same_key q) ns)))
    (sym (cells_tie c q) ∙ (eq_by_cmp_equiv cells_total).symm c q)
    ∙ sym (get-insert cells_total (map_of (valued values ns)) c (value_at values n) q
    ∙ ap (cond (is_at (cell_cmp q) c) (Some (value_at values n))) (get_valued values ns q)))
  where
    out : (b : Bool) (o : Option ℕ)
        → option_map (value_at values) (cond b (Some n) o) ≡ cond b (Some (value_at values n)) (option_map (value_at values) o)
    out true o = refl
    out false o = refl

still_valued : (values new : List Value) (o : Option ℕ) → Keeps values new → IfSome o (λ n. n < length values)
    → option_map (value_at new) o ≡ option_map (value_at values) o
still_valued values new None kept known = refl
still_valued values new (Some n) kept known = ap (λ v. Some v) (kept.same n known)

-- A store, as it is kept and as it is seen.
module _ (values : List Value) (ns : List (Cell × ℕ)) (h : Held) (view : held values ns ≡ h) where
  pub got : (c : Cell) (o : Option ℕ) → o ≡ lookup (same_key c) ns → option_map (value_at h.values) o ≡ get h.cells c
  got c o is = subst (λ (h : Held). option_map (value_at h.values) o ≡ get h.cells c) view
      (ap (option_map (value_at values)) is ∙ sym (get_valued values ns c))

  pub number_known : AreKnown values ns → (c : Cell) (o : Option ℕ) → o ≡ lookup (same_key c) ns → IfSome o (λ n. n < length h.values)
  number_known known c o is = subst (λ (h : Held). IfSome o (λ n. n < length h.values)) view
      (subst (λ (o : Option ℕ). IfSome o (λ n. n < length values)) (sym is) (known c))

  pub put_at : (fs : List (Cell × ℕ)) (c : Cell) (n : ℕ) → IsPut ns fs c n
      → (held values fs).cells ≡ insert h.cells c (value_at h.values n)
  put_at fs c n is = subst (λ (h : Held). map_of (valued values fs) ≡ insert h.cells c (value_at h.values n)) view
      (put_map values ns fs c n is)

  pub put_known : AreKnown values ns → (fs : List (Cell × ℕ)) (c : Cell) (n : ℕ) → n < length h.values → IsPut ns fs c n
      → AreKnown values fs
  put_known known fs c n below is q =
      let lt : n < length values = subst (λ (h : Held). n < length h.values) (sym view) below in
      subst (λ (o : Option ℕ). IfSome o (λ n. n < length values)) (sym (is q)) (out (same_key c q) (lookup (same_key q) ns) lt (known q))
    where
      out : (b : Bool) (o : Option ℕ) → n < length values → IfSome o (λ n. n < length values)
          → IfSome (cond b (Some n) o) (λ n. n < length values)
      out true o lt old = lt
      out false o lt old = old

  pub grown_cells : AreKnown values ns → (new : List Value) → Keeps values new → (held new ns).cells ≡ h.cells
  grown_cells known new kept = same_map cells_total exact_cells _ _ (λ c.
      get_valued new ns c ∙ still_valued values new (lookup (same_key c) ns) kept (known c) ∙ sym (get_valued values ns c))
      ∙ ap (λ (h : Held). h.cells) view

  there_too : (o : Option ℕ) → is_some (option_map (value_at values) o) ≡ is_some o
  there_too None = refl
  there_too (Some n) = refl

  pub is_there : (c : Cell) → contains_key h.cells c ≡ true → IsSome (lookup (same_key c) ns)
  is_there c there = sym (there_too (lookup (same_key c) ns)) ∙ ap is_some (sym (get_valued values ns c))
      ∙ ap (λ (h : Held). contains_key h.cells c) view ∙ there

  pub not_missing : {X : Type 0} (c : Cell) → lookup (same_key c) ns ≡ None → contains_key h.cells c ≡ true → X
  not_missing c none there = absurd (false≢true (ap is_some (sym none) ∙ is_there c there))
