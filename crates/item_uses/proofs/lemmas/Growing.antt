-- What items ask for, as requirements come one after the other.
use Rattle.std.proofs.Common.{◌≡◌, ℕ, zero, suc, ◌+◌, ◌<◌, ◌==◌, inl, inr, true, false, List, [], ◌∷◌, ◌++◌, length, refl, sym, ap, ◌∙◌, arith, map, Option, Some, None, slice_get, get_or, take, Contains}
use Rattle.std.specs.List.{range_with_len}
use Rattle.std.proofs.Math.ListN.{set}
use Rattle.std.proofs.lemmas.Bool.{cases_Bool, eq-eqb, ne_eqb, eqb-true}
use Rattle.std.proofs.lemmas.List.{map-append, length-map, append-nil}
use Rattle.std.proofs.lemmas.List.Elements.{filter-append}
use Rattle.std.proofs.lemmas.List.FromFn.{length-range_with_len}
use Rattle.list_lemmas.proofs.lemmas.Contained.{Contains-here, Contains-later}
use Rattle.vocabulary.specs.Prelude.{Item, ItemBody, Req, Tables, uses_of, uses_of_item, reqs_of}
use Rattle.semantics.specs.declared.tables.ItemBody.TheVariants.{Task, Fill}
use Rattle.semantics.specs.Shown.{is_task_at}
use Rattle.list_lemmas.proofs.lemmas.Ranges.{number_between}
use Rattle.item_uses.specs.Usages.{Usage, usage_of, usages_of, usages, usages_at}
use Rattle.item_uses.specs.Gathered.{own_usages, with_usage}
use Rattle.list_lemmas.proofs.lemmas.Parts.{take_with}

-- ---- what items ask for, position by position

pub at_number : {X : Type 0} (f : ℕ → X) (k n i : ℕ) (d : X) → i < n → get_or (map f (range_with_len k n)) i d ≡ f (k + i)
at_number f k zero i d lt = absurd (omega (arith, lt))
at_number f k (suc n) zero d lt = ap f (omega arith)
at_number f k (suc n) (suc i) d lt = at_number f (k + 1) n i d (omega (arith, lt)) ∙ ap f (omega arith)

pub usages_length : (t : Tables) → length (usages t) ≡ length t.items
usages_length t = length-map (range_with_len 0 (length t.items)) (usages_of t) ∙ length-range_with_len 0 (length t.items)

pub usages_is : (t : Tables) (a : ℕ) → a < length t.items → usages_at (usages t) a ≡ usages_of t a
usages_is t a lt = at_number (usages_of t) 0 (length t.items) a [] lt ∙ ap (usages_of t) (omega arith)

-- ---- no requirements

abbrev pub with_reqs : Tables → List Req → Tables
with_reqs t rs = record t { reqs = rs }

map_each : {X Y : Type 0} (f : ℕ → Y) (g : X → Y) (xs : List X) (k : ℕ) → ((i : ℕ) (x : X) → slice_get xs i ≡ Some x → f (k + i) ≡ g x)
    → map f (range_with_len k (length xs)) ≡ map g xs
map_each f g [] k h = refl
map_each f g (x ∷ xs) k h =
    let here : k + 0 ≡ k = omega arith in
    ap (λ y. y ∷ map f (range_with_len (k + 1) (length xs))) (ap f (sym here) ∙ h 0 x refl)
    ∙ ap (λ ys. g x ∷ ys) (map_each f g xs (k + 1) (λ i y e. let there : k + 1 + i ≡ k + suc i = omega arith in ap f there ∙ h (suc i) y e))

own_is : (t : Tables) (i : ℕ) (it : Item) → (b : ItemBody) → it.body ≡ b
    → map (usage_of t) (uses_of_item (with_reqs t []) i it) ≡ own_usages t it
own_is t i it Task e = rw e refl
own_is t i it (Fill tree space fields n) e = rw e refl

pub usages_without_reqs : (t : Tables) → usages (with_reqs t []) ≡ map (own_usages t) t.items
usages_without_reqs t = map_each (usages_of (with_reqs t [])) (own_usages t) t.items 0 (λ i it e. let here : 0 + i ≡ i = omega arith in
    ap (usages_of (with_reqs t [])) here ∙ by i it e)
  where
    by : (i : ℕ) (it : Item) → slice_get t.items i ≡ Some it → usages_of (with_reqs t []) i ≡ own_usages t it
    by i it e = rw e (own_is t i it it.body refl)

-- ---- one requirement more

abbrev with_req : Tables → Req → Tables
with_req t r = with_reqs t (t.reqs ++ r ∷ [])

reqs_here : (t : Tables) (r : Req) (i : ℕ) → (r.item == i) ≡ true → reqs_of (with_req t r) i ≡ reqs_of t i ++ r ∷ []
reqs_here t r i e = filter-append (λ (r : Req). r.item == i) t.reqs (r ∷ []) ∙ rw e refl

reqs_other : (t : Tables) (r : Req) (i : ℕ) → (r.item == i) ≡ false → reqs_of (with_req t r) i ≡ reqs_of t i
reqs_other t r i e = filter-append (λ (r : Req). r.item == i) t.reqs (r ∷ []) ∙ rw e (append-nil (reqs_of t i))

item_other : (t : Tables) (r : Req) (i : ℕ) (it : Item) → (r.item == i) ≡ false → (b : ItemBody) → it.body ≡ b
    → uses_of_item (with_req t r) i it ≡ uses_of_item t i it
item_other t r i it e Task f = rw f (reqs_other t r i e)
item_other t r i it e (Fill tree space fields n) f = rw f refl

uses_other : (t : Tables) (r : Req) (i : ℕ) → (r.item == i) ≡ false → uses_of (with_req t r) i ≡ uses_of t i
uses_other t r i e = by (slice_get t.items i) refl
  where
    by : (o : Option Item) → slice_get t.items i ≡ o → uses_of (with_req t r) i ≡ uses_of t i
    by None f = rw f refl
    by (Some it) f = rw f (item_other t r i it e it.body refl)

-- A requirement counts at a task alone.
uses_of_no_task : (t : Tables) (r : Req) (i : ℕ) → is_task_at t i ≡ false → uses_of (with_req t r) i ≡ uses_of t i
uses_of_no_task t r i e = by (slice_get t.items i) refl
  where
    fill : (it : Item) → slice_get t.items i ≡ Some it → (b : ItemBody) → it.body ≡ b → uses_of (with_req t r) i ≡ uses_of t i
    fill it f Task g = absurd (let bad = rw (f, g) at e in cc)
    fill it f (Fill tree space fields n) g = rw (f, g) refl

    by : (o : Option Item) → slice_get t.items i ≡ o → uses_of (with_req t r) i ≡ uses_of t i
    by None f = rw f refl
    by (Some it) f = fill it f it.body refl

uses_of_task : (t : Tables) (r : Req) → is_task_at t r.item ≡ true → uses_of (with_req t r) r.item ≡ uses_of t r.item ++ r ∷ []
uses_of_task t r e = by (slice_get t.items r.item) refl
  where
    task : (it : Item) → slice_get t.items r.item ≡ Some it → (b : ItemBody) → it.body ≡ b
        → uses_of (with_req t r) r.item ≡ uses_of t r.item ++ r ∷ []
    task it f Task g = rw (f, g) (reqs_here t r r.item (eq-eqb r.item r.item refl))
    task it f (Fill tree space fields n) g = absurd (let bad = rw (f, g) at e in cc)

    by : (o : Option Item) → slice_get t.items r.item ≡ o → uses_of (with_req t r) r.item ≡ uses_of t r.item ++ r ∷ []
    by None f = absurd (let bad = rw f at e in cc)
    by (Some it) f = task it f it.body refl

task_within : (t : Tables) (i : ℕ) → is_task_at t i ≡ true → i < length t.items
task_within t i e = within t.items i (λ f. let bad = rw f at e in cc)
  where
    within : {X : Type 0} (xs : List X) (i : ℕ) → (slice_get xs i ≡ None → ⊥) → i < length xs
    within [] i h = absurd (h refl)
    within (x ∷ xs) zero h = omega arith
    within (x ∷ xs) (suc i) h = omega (arith, within xs i h)

map_same : {X : Type 0} (f g : ℕ → X) (ns : List ℕ) → ((j : ℕ) → Contains ns j → g j ≡ f j) → map g ns ≡ map f ns
map_same f g [] h = refl
map_same f g (n ∷ ns) h = ap (λ x. x ∷ map g ns) (h n (Contains-here ns))
    ∙ ap (λ xs. f n ∷ xs) (map_same f g ns (λ j m. h j (Contains-later ns m)))

map_set : {X : Type 0} (f g : ℕ → X) (k n i : ℕ) → i < n → ((j : ℕ) → (j ≡ k + i → ⊥) → g j ≡ f j)
    → map g (range_with_len k n) ≡ set (map f (range_with_len k n)) i (g (k + i))
map_set f g k zero i lt h = absurd (omega (arith, lt))
map_set f g k (suc n) zero lt h =
    let same : k ≡ k + 0 = omega arith in
    ap (λ xs. g k ∷ xs) (map_same f g (range_with_len (k + 1) n) (λ j m. h j (λ e. omega (arith, e, (number_between (k + 1) n j m).0))))
    ∙ ap (λ j. g j ∷ map f (range_with_len (k + 1) n)) same
map_set f g k (suc n) (suc i) lt h =
    let same : k + 1 + i ≡ k + suc i = omega arith in
    let other : (k ≡ k + suc i → ⊥) = λ e. omega (arith, e) in
    ap (λ x. x ∷ map g (range_with_len (k + 1) n)) (h k other)
    ∙ ap (λ xs. f k ∷ xs) (map_set f g (k + 1) n i (omega (arith, lt)) (λ j d. h j (λ e. d (e ∙ sym same)))
    ∙ ap (λ j. set (map f (range_with_len (k + 1) n)) i (g j)) same)

pub usages_with_req : (t : Tables) (r : Req) → usages (with_req t r) ≡ with_usage t (usages t) r.item (usage_of t r)
usages_with_req t r =
    elim (cases_Bool (is_task_at t r.item)) [
      | inl task ↦ rw task (at_task task)
      | inr other ↦
          rw other (map_same (usages_of t) (usages_of (with_req t r)) (range_with_len 0 (length t.items))
          (λ j m. ap (map (usage_of t)) (still other j)))
    ]
  where
    still : is_task_at t r.item ≡ false → (j : ℕ) → uses_of (with_req t r) j ≡ uses_of t j
    still other j = elim (cases_Bool (r.item == j)) [
      | inl same ↦ uses_of_no_task t r j (ap (is_task_at t) (sym (eqb-true r.item j same)) ∙ other)
      | inr not_same ↦ uses_other t r j not_same
    ]

    at_task : is_task_at t r.item ≡ true → usages (with_req t r) ≡ set (usages t) r.item (usages_at (usages t) r.item ++ usage_of t r ∷ [])
    at_task task =
        let at : 0 + r.item ≡ r.item = omega arith in
        map_set (usages_of t) (usages_of (with_req t r)) 0 (length t.items) r.item (task_within t r.item task)
        (λ j d. ap (map (usage_of t)) (uses_other t r j (ne_eqb r.item j (λ same. d (sym same ∙ sym at)))))
        ∙ ap (λ us. set (usages t) r.item us) (ap (usages_of (with_req t r)) at ∙ ap (map (usage_of t)) (uses_of_task t r task)
        ∙ map-append (usage_of t) (uses_of t r.item) (r ∷ [])
        ∙ ap (λ us. us ++ usage_of t r ∷ []) (sym (usages_is t r.item (task_within t r.item task))))

pub usages_step : (t : Tables) (us : List (List Usage)) (rs : List Req) (i : ℕ) (r : Req) → us ≡ usages (with_reqs t (take i rs))
    → i < length rs → r ≡ get_or rs i r
    → with_usage t us r.item (usage_of t r) ≡ usages (with_reqs t (take (i + 1) rs))
usages_step t us rs i r so_far lt is =
    ap (λ us. with_usage t us r.item (usage_of t r)) so_far ∙ sym (usages_with_req (with_reqs t (take i rs)) r)
    ∙ ap (λ qs. usages (with_reqs t qs)) (sym (take_with rs i r lt is))
