-- Items, one after the other, are their changes, one after the other.
use Rattle.std.proofs.Common.{◌≡◌, ℕ, zero, suc, ◌+◌, ◌<◌, ◌≤◌, nat_lt, Bool, true, false, cond, List, [], ◌∷◌, ◌++◌, take, Option, Some, None, slice_get, All, refl, sym, ap, ◌∙◌, inl, inr, arith}
use Rattle.std.specs.Option.{option_map_or}
use Rattle.std.proofs.lemmas.Bool.{cases_Bool}
use Rattle.std.proofs.lemmas.Bool.Decides.{nat_tests}
use Rattle.vocabulary.specs.Prelude.{Priv, Value, Place, Item, ItemBody, Req, Tables, covers, uses_of, changed, acted, after_uses, after_items}
use Rattle.privilege.specs.declared.kinds.Priv.TheVariants.{Ro, Rw, Wd, Red}
use Rattle.semantics.specs.declared.tables.ItemBody.TheVariants.{Task, Fill}
use Rattle.serial_exec.specs.declared.change.Action.{Action}
use Rattle.serial_exec.specs.declared.change.Change.{Change}
use Rattle.serial_exec.specs.Changes.{task_action, action_of, change_of, uses_changes, item_changes, items_changes, after_changes, before}
use Rattle.std.specs.List.{AllByRecursion}

pub after-append : (xs ys : List Change) (v : Value) → after_changes (xs ++ ys) v ≡ after_changes ys (after_changes xs v)
after-append [] ys v = refl
after-append (x ∷ xs) ys v = after-append xs ys _

-- ---- what is done

acted-changes : (position task number : ℕ) (access : Priv) (v : Value)
    → acted task number access v ≡ after_changes (change_of position (task_action task number access)) v
acted-changes position task number Ro v = refl
acted-changes position task number Rw v = refl
acted-changes position task number Wd v = refl
acted-changes position task number (Red op) v = refl

changed-changes : (position id line : ℕ) (body : ItemBody) (r : Req) (v : Value)
    → changed (record { id = id; line = line; body = body }) r v
    ≡ after_changes (change_of position (action_of (record { id = id; line = line; body = body }) r)) v
changed-changes position id line Task r v = acted-changes position id r.number r.access v
changed-changes position id line (Fill tree space fields n) r v = refl

use-changes : (covered : Bool) (position : ℕ) (i : Item) (r : Req) (v : Value)
    → cond covered (changed i r v) v ≡ after_changes (cond covered (change_of position (action_of i r)) []) v
use-changes true position i r v = changed-changes position i.id i.line i.body r v
use-changes false position i r v = refl

uses-changes : (t : Tables) (position : ℕ) (i : Item) (rs : List Req) (p : Place) (v : Value)
    → after_uses t i rs p v ≡ after_changes (uses_changes t position (action_of i) rs p) v
uses-changes t position i [] p v = refl
uses-changes t position i (r ∷ rs) p v =
    uses-changes t position i rs p _
    ∙ ap (after_changes (uses_changes t position (action_of i) rs p)) (use-changes (covers t p r) position i r v)
    ∙ sym (after-append (cond (covers t p r) (change_of position (action_of i r)) []) (uses_changes t position (action_of i) rs p) v)

item-changes : (t : Tables) (position : ℕ) (us : List Req) (p : Place) (v : Value) (o : Option Item)
    → option_map_or (λ i. after_uses t i us p v) o v ≡ after_changes (option_map_or (λ i. uses_changes t position (action_of i) us p) o []) v
item-changes t position us p v None = refl
item-changes t position us p v (Some i) = uses-changes t position i us p v

pub items-changes : (t : Tables) (position : ℕ) (items : List ℕ) (p : Place) (v : Value)
    → after_items t items p v ≡ after_changes (items_changes t position items p) v
items-changes t position [] p v = refl
items-changes t position (item ∷ items) p v =
    items-changes t (position + 1) items p _
    ∙ ap (after_changes (items_changes t (position + 1) items p)) (item-changes t position (uses_of t item) p v (slice_get t.items item))
    ∙ sym (after-append (item_changes t position item p) (items_changes t (position + 1) items p) v)

-- ---- when it is done

-- The position of each change has a property.
abbrev pub AllPositions : (ℕ → Type 0) → List Change → Type 0
AllPositions P cs = AllByRecursion (λ c. P c.position) cs

all-append : (P : ℕ → Type 0) (xs ys : List Change) → AllPositions P xs → AllPositions P ys → AllPositions P (xs ++ ys)
all-append P [] ys all more = more
all-append P (x ∷ xs) ys all more = (all.0, all-append P xs ys all.1 more)

all-change : (P : ℕ → Type 0) (position : ℕ) (covered : Bool) (o : Option Action) → P position → AllPositions P (cond covered (change_of position o) [])
all-change P position true None h = tt
all-change P position true (Some a) h = (h, tt)
all-change P position false o h = tt

all-uses : (P : ℕ → Type 0) (t : Tables) (position : ℕ) (i : Item) (rs : List Req) (p : Place) → P position
    → AllPositions P (uses_changes t position (action_of i) rs p)
all-uses P t position i [] p h = tt
all-uses P t position i (r ∷ rs) p h = all-append P _ _ (all-change P position (covers t p r) (action_of i r) h)
    (all-uses P t position i rs p h)

all-item-at : (P : ℕ → Type 0) (t : Tables) (position : ℕ) (us : List Req) (p : Place) (o : Option Item) → P position
    → AllPositions P (option_map_or (λ i. uses_changes t position (action_of i) us p) o [])
all-item-at P t position us p None h = tt
all-item-at P t position us p (Some i) h = all-uses P t position i us p h

all-item : (P : ℕ → Type 0) (t : Tables) (position item : ℕ) (p : Place) → P position → AllPositions P (item_changes t position item p)
all-item P t position item p h = all-item-at P t position (uses_of t item) p (slice_get t.items item) h

all-items : (low : ℕ) (t : Tables) (position : ℕ) (items : List ℕ) (p : Place) → low ≤ position
    → AllPositions (λ m. low ≤ m) (items_changes t position items p)
all-items low t position [] p h = tt
all-items low t position (item ∷ items) p h = all-append (λ m. low ≤ m) _ _ (all-item (λ m. low ≤ m) t position item p h)
    (all-items low t (position + 1) items p (omega arith))

before-append : (n : ℕ) (xs ys : List Change) → before n (xs ++ ys) ≡ before n xs ++ before n ys
before-append n [] ys = refl
before-append n (x ∷ xs) ys = elim (cases_Bool (nat_lt x.position n)) [
  | inl early ↦ rw early (ap (λ zs. x ∷ zs) (before-append n xs ys))
  | inr late ↦ rw late (before-append n xs ys)
]

before-all : (n : ℕ) (xs : List Change) → AllPositions (λ m. m < n) xs → before n xs ≡ xs
before-all n [] all = refl
before-all n (x ∷ xs) all =
    let lt : nat_lt x.position n ≡ true = let h : x.position < n = all.0 in grind (arith, nat_tests) in
    rw lt (ap (λ zs. x ∷ zs) (before-all n xs all.1))

before-none : (n : ℕ) (xs : List Change) → AllPositions (λ m. n ≤ m) xs → before n xs ≡ []
before-none n [] all = refl
before-none n (x ∷ xs) all =
    let le : nat_lt x.position n ≡ false = let h : n ≤ x.position = all.0 in grind (arith, nat_tests) in
    rw le (before-none n xs all.1)

-- The changes before an item are those of the items before it.
pub before-items : (t : Tables) (position n : ℕ) (items : List ℕ) (p : Place)
    → before (position + n) (items_changes t position items p) ≡ items_changes t position (take n items) p
before-items t position zero items p = before-none (position + 0) (items_changes t position items p)
    (all-items (position + 0) t position items p (omega arith))
before-items t position (suc n) [] p = refl
before-items t position (suc n) (item ∷ items) p =
    let here : before (position + suc n) (item_changes t position item p) ≡ item_changes t position item p =
    before-all (position + suc n) _ (all-item (λ m. m < position + suc n) t position item p (omega arith)) in
    let same : position + suc n ≡ (position + 1) + n = omega arith in
    before-append (position + suc n) (item_changes t position item p) (items_changes t (position + 1) items p)
    ∙ ap (λ xs. xs ++ before (position + suc n) (items_changes t (position + 1) items p)) here
    ∙ ap (λ m. item_changes t position item p ++ before m (items_changes t (position + 1) items p)) same
    ∙ ap (λ xs. item_changes t position item p ++ xs) (before-items t (position + 1) n items p)

-- ---- in order

-- AllPositions change is of a position that is no later than that of all after it.
abbrev pub Rises : List Change → Type 0
Rises [] = Unit {0}
Rises (c ∷ cs) = All (λ d. c.position ≤ d.position) cs × Rises cs

all-from : (low : ℕ) (cs : List Change) → AllPositions (λ m. low ≤ m) cs → All (λ d. low ≤ d.position) cs
all-from low [] all k d lt = absurd (omega (arith, lt))
all-from low (c ∷ cs) all zero d lt = all.0
all-from low (c ∷ cs) all (suc k) d lt = all-from low cs all.1 k d (omega (arith, lt))

-- What is all of one position comes before what is later.
rises-append : (m : ℕ) (xs ys : List Change) → AllPositions (λ n. n ≡ m) xs → AllPositions (λ n. m ≤ n) ys → Rises ys → Rises (xs ++ ys)
rises-append m [] ys here later up = up
rises-append m (x ∷ xs) ys here later up = (
  all-from x.position (xs ++ ys) (all-append (λ n. x.position ≤ n) xs ys (still xs here.1) (behind ys later)),
  rises-append m xs ys here.1 later up,
)
  where
    still : (xs : List Change) → AllPositions (λ n. n ≡ m) xs → AllPositions (λ n. x.position ≤ n) xs
    still [] all = tt
    still (z ∷ zs) all = (omega (arith, here.0, all.0), still zs all.1)

    behind : (ys : List Change) → AllPositions (λ n. m ≤ n) ys → AllPositions (λ n. x.position ≤ n) ys
    behind [] all = tt
    behind (z ∷ zs) all = (omega (arith, here.0, all.0), behind zs all.1)

pub items-rise : (t : Tables) (position : ℕ) (items : List ℕ) (p : Place) → Rises (items_changes t position items p)
items-rise t position [] p = tt
items-rise t position (item ∷ items) p = rises-append position (item_changes t position item p) (items_changes t (position + 1) items p)
    (all-item (λ n. n ≡ position) t position item p refl) (all-items position t (position + 1) items p (omega arith))
    (items-rise t (position + 1) items p)
