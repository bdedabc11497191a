-- What a store holds at the start, as it is put into it.
use Rattle.std.proofs.Common.{◌≡◌, ℕ, ◌+◌, ◌<◌, ◌==◌, ◌&&◌, ◌||◌, nat_eq, Bool, true, false, cond, List, [], ◌∷◌, ◌++◌, take, length, get_or, Option, Some, None, refl, sym, ap, ap₂, ◌∙◌, inl, inr}
use Rattle.std.specs.List.{list_any}
use Rattle.std.specs.FinMap.{get, insert, empty, get-empty}
use Rattle.std.proofs.lemmas.Bool.{cases_Bool, eq-eqb, ne_eqb, eqb-true, true≢false}
use Rattle.std.proofs.lemmas.List.{take_more}
use Rattle.std.proofs.lemmas.List.Folds.{list_any-append}
use Rattle.std.proofs.Math.Bool.{and-false, or-false}
use Rattle.vocabulary.specs.Prelude.{InstKind, Base, Value, plain, Cell, Inst, Tables, is_in, points_in, inst_at, is_home, start}
use Rattle.value_terms.specs.declared.terms.Base.TheVariants.{Raw, Init}
use Rattle.list_lemmas.proofs.lemmas.Contained.{find_none}
use Rattle.log_tables.proofs.lemmas.Members.{eq_turned}
use Rattle.inst_steps.specs.Stores.{Contents, HoldsMore, IsStart, base_of, is_at_point, is_at_points, is_of, is_of_some}
use Rattle.inst_steps.proofs.lemmas.StoreMaps.{get_put}

-- ---- tests

same_turned : (a b : ℕ) → nat_eq a b ≡ (b == a)
same_turned a b = elim (cases_Bool (nat_eq a b)) [
  | inl same ↦ same ∙ sym (eq-eqb b a (sym (eqb-true a b same)))
  | inr differ ↦ differ ∙ sym (ne_eqb b a (λ e. true≢false (sym (eq-eqb a b (sym e)) ∙ differ)))
]

-- A choice within a choice.
join : {X : Type 0} (a b d e : Bool) (x y : X) → cond (a && (b && e)) x (cond (a && (b && d)) x y) ≡ cond (a && (b && (d || e))) x y
join false b d e x y = refl
join true false d e x y = refl
join true true false e x y = refl
join true true true false x y = refl
join true true true true x y = refl

join_front : {X : Type 0} (a w v f : Bool) (x y : X) → cond (a && (w && f)) x (cond (a && (v && f)) x y) ≡ cond (a && ((v || w) && f)) x y
join_front false w v f x y = refl
join_front true false false f x y = refl
join_front true false true f x y = refl
join_front true true false false x y = refl
join_front true true false true x y = refl
join_front true true true false x y = refl
join_front true true true true x y = refl

-- ---- one field more, one point more

one_in : {X : Type 0} (p : X → Bool) (xs : List X) (x : X) → list_any p (xs ++ x ∷ []) ≡ (list_any p xs || p x)
one_in p xs x = list_any-append p xs (x ∷ []) ∙ ap (λ b. list_any p xs || b) (or-false (p x))

pub more_field : (inst point : ℕ) (fields : List ℕ) (i d : ℕ) (v w : Value) (m n o : Contents) → i < length fields → w ≡ v
    → HoldsMore (is_at_point inst point (take i fields)) (λ c. v) m n
    → o ≡ insert n (record { inst = inst; point = point; field = get_or fields i d }) w
    → HoldsMore (is_at_point inst point (take (i + 1) fields)) (λ c. v) m o
more_field inst point fields i d v w m n o lt same so_far is c =
    let f = get_or fields i d in
    let cell : Cell = record { inst = inst; point = point; field = f } in
    ap (λ m. get m c) (is ∙ ap (insert n cell) same) ∙ get_put n cell v c
    ∙ ap₂ (λ e rest. cond ((c.inst == inst) && ((c.point == point) && e)) (Some v) rest) (same_turned c.field f) (so_far c)
    ∙ join (c.inst == inst) (c.point == point) (is_in (take i fields) c.field) (f == c.field) (Some v) (get m c)
    ∙ ap (λ e. cond ((c.inst == inst) && ((c.point == point) && e)) (Some v) (get m c))
    (sym (one_in (λ m. m == c.field) (take i fields) f) ∙ ap (λ fs. is_in fs c.field) (sym (take_more fields i d lt)))

-- Where the fields at a point are held, the rest of the points is left.
pub more_points : (inst x : ℕ) (xs fields : List ℕ) (v : Value) (mid new : Contents) (all : Cell → Option Value)
    → ((c : Cell) → cond (is_at_points inst (is_in (x ∷ xs)) fields c) (Some v) (get mid c) ≡ all c)
    → HoldsMore (is_at_point inst x fields) (λ c. v) mid new
    → (c : Cell) → cond (is_at_points inst (is_in xs) fields c) (Some v) (get new c) ≡ all c
more_points inst x xs fields v mid new all before here c =
    ap (cond (is_at_points inst (is_in xs) fields c) (Some v)) (here c)
    ∙ join_front (c.inst == inst) (is_in xs c.point) (c.point == x) (is_in fields c.field) (Some v) (get mid c)
    ∙ ap (λ e. cond ((c.inst == inst) && ((e || is_in xs c.point) && is_in fields c.field)) (Some v) (get mid c))
    (eq_turned c.point x)
    ∙ before c

-- ---- one instance more

held_value : (k : InstKind) (h : Bool) (y : Option Value)
    → cond h (Some (plain (base_of k))) y ≡ cond h (Some (cond (is_home k && h) (plain Init) (plain Raw))) y
held_value k h y = by (is_home k) h
  where
    by : (a h : Bool) → cond h (Some (plain (cond a Init Raw))) y ≡ cond h (Some (cond (a && h) (plain Init) (plain Raw))) y
    by false false = refl
    by true false = refl
    by false true = refl
    by true true = refl

pub one_inst : (t : Tables) (id : ℕ) (i : Inst) (m n : Contents) → inst_at t id ≡ Some i
    → HoldsMore (is_at_points id (is_in (points_in t i.space)) i.fields) (λ c. plain (base_of i.kind)) m n
    → HoldsMore (is_of t id) (start t) m n
one_inst t id i m n found held c = elim (cases_Bool (c.inst == id)) [
  | inl own ↦
      let here : inst_at t c.inst ≡ Some i = ap (inst_at t) (eqb-true c.inst id own) ∙ found in
      let has = is_in (points_in t i.space) c.point && is_in i.fields c.field in
      let before : get n c ≡ cond has (Some (plain (base_of i.kind))) (get m c) =
      held c ∙ ap (λ e. cond (e && has) (Some (plain (base_of i.kind))) (get m c)) own in
      rw (own, here) (before ∙ held_value i.kind has (get m c))
  | inr other ↦
      rw other (held c ∙ ap (λ e. cond (e && (is_in (points_in t i.space) c.point && is_in i.fields c.field))
      (Some (plain (base_of i.kind))) (get m c)) other)
]

pub no_points_held : (t : Tables) (id : ℕ) (i : Inst) (m n : Contents) → inst_at t id ≡ Some i → points_in t i.space ≡ [] → n ≡ m
    → HoldsMore (is_of t id) (start t) m n
no_points_held t id i m n found none same = one_inst t id i m n found
    (λ c. ap (λ (n : Contents). get n c) same
    ∙ sym (ap (λ points. cond ((c.inst == id) && (is_in points c.point && is_in i.fields c.field)) (Some (plain (base_of i.kind)))
    (get m c)) none
    ∙ ap (λ e. cond e (Some (plain (base_of i.kind))) (get m c)) (and-false (c.inst == id))))

-- ---- all instances

pub all_started : (t : Tables) (m n : Contents) → m ≡ empty → HoldsMore (is_of_some t t.insts) (start t) m n → IsStart t n
all_started t m n none held c =
    held c
    ∙ ap (cond (is_of_some t t.insts c) (Some (start t c))) (ap (λ m. get m c) none ∙ get-empty _ c)
    ∙ elim (cases_Bool (list_any (λ (i : Inst). i.id == c.inst) t.insts)) [
      | inl some ↦ rw some refl
      | inr missing ↦
          let here : inst_at t c.inst ≡ None = find_none (λ (i : Inst). i.id == c.inst) t.insts missing in
          rw (missing, here) refl
    ]

pub one_inst_by : (t : Tables) (id : ℕ) (i : Inst) (points fields : List ℕ) (b : Base) (v : Value) (m k n : Contents)
    → inst_at t id ≡ Some i
    → points_in t i.space ≡ points
    → fields ≡ i.fields → b ≡ base_of i.kind → v ≡ plain b → k ≡ m
    → HoldsMore (is_at_points id (is_in points) fields) (λ c. v) k n
    → HoldsMore (is_of t id) (start t) m n
one_inst_by t id i points fields b v m k n found at same based valued kept held =
    one_inst t id i m n found (λ c. held c
    ∙ ap₂ (λ fs v. cond (is_at_points id (is_in points) fs c) (Some v) (get k c)) same (valued ∙ ap plain based)
    ∙ ap₂ (λ ps (k : Contents). cond (is_at_points id (is_in ps) i.fields c) (Some (plain (base_of i.kind))) (get k c)) (sym at) kept)
