-- What items do, gathered in serial order.
use Rattle.std.proofs.Common.{◌≡◌, ℕ, zero, suc, ◌+◌, ◌<◌, ◌≤◌, ◌==◌, cond, List, [], ◌∷◌, ◌++◌, take, length, get_or, slice_get, All, Option, Some, None, Result, Ok, Err, OnOk, refl, sym, ap, subst, ◌∙◌, arith}
use Rattle.std.specs.Option.{option_map_or}
use Rattle.std.proofs.lemmas.List.Elements.{filter_map-append}
use Rattle.std.proofs.lemmas.Option.{slice_get-get_or, slice_get_past}
use Rattle.vocabulary.specs.Prelude.{Place, Item, ItemBody, Req, Tables, points_in, reqs_of, uses_of_item}
use Rattle.semantics.specs.declared.tables.ItemBody.TheVariants.{Task, Fill}
use Rattle.value_terms.specs.declared.terms.Base.TheVariants.{Const}
use Rattle.log_tables.specs.Ascending.{body_fields}
use Rattle.std.specs.List.Sorted.{IsStrictlyIncreasing}
use Rattle.std.proofs.lemmas.List.{append_assoc, take_more, append-nil}
use Rattle.std.proofs.Math.Bool.{and-false}
use Rattle.serial_exec.specs.declared.change.Action.{Action}
use Rattle.serial_exec.specs.declared.change.Action.TheVariants.{Put}
use Rattle.serial_exec.specs.declared.change.Change.{Change}
use Rattle.serial_exec.specs.Changes.{action_of, by_task, covered, use_changes, uses_changes, item_changes, items_changes}
use Rattle.serial_exec.specs.OwnReqs.{reqs_at}

-- A set without points covers nothing.
pub nothing-covered : (t : Tables) (space tree : ℕ) (fields : List ℕ) (c : Change) (old : List Change) (p : Place) → points_in t space ≡ []
    → old ≡ old ++ cond (covered tree (points_in t space) fields p) (c ∷ []) []
nothing-covered t space tree fields c old p none =
    sym (append-nil old)
    ∙ ap (λ b. old ++ cond b (c ∷ []) []) (sym (ap (λ points. covered tree points fields p) none ∙ and-false (tree == p.tree)))

-- ---- requirement by requirement

uses-append : (t : Tables) (position : ℕ) (act : Req → Option Action) (rs qs : List Req) (p : Place)
    → uses_changes t position act (rs ++ qs) p ≡ uses_changes t position act rs p ++ uses_changes t position act qs p
uses-append t position act [] qs p = refl
uses-append t position act (r ∷ rs) qs p = ap (λ xs. use_changes t position act r p ++ xs) (uses-append t position act rs qs p)
    ∙ sym (append_assoc (use_changes t position act r p) _ _)

next-reqs : (all : List Req) (own : List ℕ) (i k : ℕ) → i < length own → k ≡ get_or own i 0
    → reqs_at all (take (i + 1) own) ≡ reqs_at all (take i own) ++ reqs_at all (k ∷ [])
next-reqs all own i k lt is =
    ap (reqs_at all) (take_more own i 0 lt ∙ ap (λ j. take i own ++ j ∷ []) (sym is))
    ∙ filter_map-append (λ j. slice_get all j) (take i own) (k ∷ [])

pub uses-none : (t : Tables) (position : ℕ) (act : Req → Option Action) (all : List Req) (k : ℕ) (p : Place) (old : List Change)
    → slice_get all k ≡ None → old ≡ old ++ uses_changes t position act (reqs_at all (k ∷ [])) p
uses-none t position act all k p old at = rw at (sym (append-nil old))

pub uses-more : (t : Tables) (position : ℕ) (act : Req → Option Action) (all : List Req) (own : List ℕ) (i k : ℕ) (p : Place)
    (old mid new : List Change)
    → i < length own → k ≡ get_or own i 0
    → mid ≡ old ++ uses_changes t position act (reqs_at all (take i own)) p → new ≡ mid ++ uses_changes t position act (reqs_at all (k ∷ [])) p
    → new ≡ old ++ uses_changes t position act (reqs_at all (take (i + 1) own)) p
uses-more t position act all own i k p old mid new lt is before after =
    after
    ∙ ap (λ xs. xs ++ uses_changes t position act (reqs_at all (k ∷ [])) p) before
    ∙ append_assoc old _ _
    ∙ ap (λ xs. old ++ xs) (sym (uses-append t position act (reqs_at all (take i own)) (reqs_at all (k ∷ [])) p))
    ∙ ap (λ rs. old ++ uses_changes t position act rs p) (sym (next-reqs all own i k lt is))

-- ---- item by item

pub item-of : (t : Tables) (position item : ℕ) (p : Place) (o : Option Item) → slice_get t.items item ≡ o
    → item_changes t position item p ≡ option_map_or (λ i. uses_changes t position (action_of i) (uses_of_item t item i) p) o []
item-of t position item p o at = rw at (by_option o)
  where
    by_option : (o : Option Item) → option_map_or
        (λ i. uses_changes t position (action_of i) (option_map_or (uses_of_item t item) o []) p) o []
        ≡ option_map_or (λ i. uses_changes t position (action_of i) (uses_of_item t item i) p) o []
    by_option None = refl
    by_option (Some i) = refl

items-append : (t : Tables) (position : ℕ) (xs : List ℕ) (item : ℕ) (p : Place)
    → items_changes t position (xs ++ item ∷ []) p ≡ items_changes t position xs p ++ item_changes t (position + length xs) item p
items-append t position [] item p = append-nil _ ∙ ap (λ m. item_changes t m item p) (let e : position ≡ position + 0 = omega arith in e)
items-append t position (x ∷ xs) item p =
    ap (λ cs. item_changes t position x p ++ cs) (items-append t (position + 1) xs item p)
    ∙ ap (λ m. item_changes t position x p ++ (items_changes t (position + 1) xs p ++ item_changes t m item p))
    (let e : (position + 1) + length xs ≡ position + suc (length xs) = omega arith in e)
    ∙ sym (append_assoc (item_changes t position x p) _ _)

pub items-more : (t : Tables) (order : List ℕ) (k item : ℕ) (p : Place) (mid new : List Change) → k < length order → item ≡ get_or order k 0
    → mid ≡ items_changes t 0 (take k order) p → new ≡ mid ++ item_changes t k item p → new ≡ items_changes t 0 (take (k + 1) order) p
items-more t order k item p mid new lt is before after =
    after
    ∙ ap (λ xs. xs ++ item_changes t k item p) before
    ∙ ap (λ m. items_changes t 0 (take k order) p ++ item_changes t m item p) (let e : k ≡ 0 + length (take k order) = at_end order k lt in
    e)
    ∙ sym (items-append t 0 (take k order) item p)
    ∙ ap (λ xs. items_changes t 0 xs p) (ap (λ x. take k order ++ x ∷ []) is ∙ sym (take_more order k 0 lt))
  where
    at_end : (xs : List ℕ) (k : ℕ) → k < length xs → k ≡ 0 + length (take k xs)
    at_end [] k lt = absurd (omega (arith, lt))
    at_end (x ∷ xs) zero lt = refl
    at_end (x ∷ xs) (suc k) lt = let e : k ≡ 0 + length (take k xs) = at_end xs k (omega (arith, lt)) in omega (arith, e)

pub no-item : (t : Tables) (position item : ℕ) (p : Place) (old : List Change) → slice_get t.items item ≡ None
    → old ≡ old ++ item_changes t position item p
no-item t position item p old at = sym (append-nil old) ∙ ap (λ xs. old ++ xs) (sym (item-of t position item p None at))

pub task-item : (t : Tables) (position item : ℕ) (p : Place) (i : Item) (rs : List Req) → slice_get t.items item ≡ Some i → i.body ≡ Task
    → rs ≡ reqs_of t item
    → uses_changes t position (by_task i.id) rs p ≡ item_changes t position item p
task-item t position item p i rs at is own = ap (λ qs. uses_changes t position (by_task i.id) qs p) own
    ∙ sym (item-of t position item p (Some i) at ∙ by_body i.id i.line i.body is)
  where
    by_body : (id line : ℕ) (body : ItemBody) → body ≡ Task
        → (let i : Item = record { id = id; line = line; body = body } in uses_changes t position (action_of i) (uses_of_item t item i) p)
        ≡ uses_changes t position (by_task id) (reqs_of t item) p
    by_body id line Task e = refl
    by_body id line (Fill tree space fields n) e = absurd cc

pub fill-item : (t : Tables) (position item : ℕ) (p : Place) (i : Item) (tree space : ℕ) (fields : List ℕ) (n : ℕ)
    → slice_get t.items item ≡ Some i → i.body ≡ Fill tree space fields n
    → cond (covered tree (points_in t space) fields p) ((let c : Change = record { position = position; action = Put (Const n) } in c) ∷ []) []
    ≡ item_changes t position item p
fill-item t position item p i tree space fields n at is = sym (item-of t position item p (Some i) at ∙ by_body i.id i.line i.body is)
  where
    by_body : (id line : ℕ) (body : ItemBody) → body ≡ Fill tree space fields n
        → (let i : Item = record { id = id; line = line; body = body } in uses_changes t position (action_of i) (uses_of_item t item i) p)
        ≡ cond (covered tree (points_in t space) fields p) (record { position = position; action = Put (Const n) } ∷ []) []
    by_body id line Task e = absurd cc
    by_body id line (Fill tree_ space_ fields_ n_) e =
        let same_tree : tree_ ≡ tree = cc in
        let same_space : space_ ≡ space = cc in
        let same_fields : fields_ ≡ fields = cc in
        let same_n : n_ ≡ n = cc in
        append-nil _ ∙ rw (same_tree, same_space, same_fields, same_n) refl

-- The fields of a fill ascend.
pub fill-fields : (its : List Item) (item : ℕ) (i : Item) (tree space : ℕ) (fields : List ℕ) (n : ℕ)
    → All (λ (i : Item). IsStrictlyIncreasing (body_fields i.body)) its → item < length its → i ≡ get_or its item i
    → i.body ≡ Fill tree space fields n → IsStrictlyIncreasing fields
fill-fields its item i tree space fields n all lt at is =
    subst (λ (b : ItemBody). IsStrictlyIncreasing (body_fields b)) is
    (subst (λ (j : Item). IsStrictlyIncreasing (body_fields j.body)) (sym at) (all item i lt))

-- What stands at a position.
pub item-here : (its items : List Item) (item : ℕ) (i : Item) → its ≡ items → item < length its → i ≡ get_or its item i
    → slice_get items item ≡ Some i
item-here its items item i same lt at = ap (λ xs. slice_get xs item) (sym same) ∙ slice_get-get_or its item i lt ∙ ap (λ z. Some z) (sym at)

pub item-past : (its items : List Item) (item : ℕ) → its ≡ items → length its ≤ item → slice_get items item ≡ None
item-past its items item same le = ap (λ xs. slice_get xs item) (sym same) ∙ slice_get_past its item le

-- What holds of an answer that is no error.
pub on_ok : {T E P Q : Type 0} (r : Result T E) → (P → Q) → OnOk r P → OnOk r Q
on_ok (Ok x) f p = f p
on_ok (Err e) f p = p
