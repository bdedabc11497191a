-- What is kept of places is what sequential execution wants.
use Rattle.std.proofs.Common.{◌≡◌, ℕ, zero, suc, ◌+◌, ◌-◌, ◌<◌, ◌≤◌, Bool, true, false, cond, List, [], ◌∷◌, map, take, drop, filter, length, get_or, refl, sym, ap, subst, ◌∙◌, inl, inr, arith, zero-add}
use Rattle.std.specs.List.{AllWithin}
use Rattle.std.specs.List.Sorted.{IsNonDecreasingBy}
use Rattle.std.specs.Map.{lookup}
use Rattle.std.specs.Option.{option_map_or, unwrap_or}
use Rattle.std.proofs.lemmas.Bool.{cases_Bool}
use Rattle.vocabulary.specs.Prelude.{Base, Value, plain, Place, Tables, same_place}
use Rattle.value_terms.specs.declared.terms.Base.TheVariants.{Init}
use Rattle.serial_exec.specs.declared.change.Action.TheVariants.{Put}
use Rattle.semantics.specs.SerialOrder.{serial, serial_place}
use Rattle.logs.specs.Listing.{ArePlacesIn}
use Rattle.serial_exec.specs.declared.change.Change.{Change}
use Rattle.serial_exec.specs.declared.place_lists.PlaceLists.{PlaceLists}
use Rattle.serial_exec.specs.Changes.{after_changes, acted_by, before, items_changes}
use Rattle.point_laws.specs.Cut.{cut}
use Rattle.point_laws.proofs.lemmas.Cuts.{wanted_cut}
use Rattle.serial_exec.specs.Histories.{listed}
use Rattle.serial_exec.specs.Kept.{Kept, kept, changes_in, AreInOrder, AreVersionsAt, AreVersionsOf}
use Rattle.serial_exec.proofs.Changing.{before-items, items-changes, Rises, items-rise}

lookup-mapped : {V : Type 0} (items : V → List Change) (test : Place → Bool) (es : List (Place × V))
    → unwrap_or (lookup test (map (λ e. (e.0, items e.1)) es)) [] ≡ option_map_or items (lookup test es) []
lookup-mapped items test [] = refl
lookup-mapped items test (e ∷ es) = elim (cases_Bool (test e.0)) [
  | inl here ↦ rw here refl
  | inr other ↦ rw other (lookup-mapped items test es)
]

pub kept-changes : (positions : List ℕ) (h : PlaceLists Change) (p : Place) → changes_in (kept positions h) p ≡ listed h p
kept-changes positions h p = lookup-mapped (λ v. v.items) (same_place p) h.lists.entries

-- ---- in order

rises-at : (cs : List Change) → Rises cs → (i j : ℕ) (d : Change) → i ≤ j → j < length cs → (get_or cs i d).position ≤ (get_or cs j d).position
rises-at [] up i j d le lt = absurd (omega (arith, lt))
rises-at (c ∷ cs) up zero zero d le lt = omega arith
rises-at (c ∷ cs) up zero (suc j) d le lt = up.0 j d (omega (arith, lt))
rises-at (c ∷ cs) up (suc i) zero d le lt = absurd (omega (arith, le))
rises-at (c ∷ cs) up (suc i) (suc j) d le lt = rises-at cs up.1 i j d (omega (arith, le)) (omega (arith, lt))

pub kept-in_order : (t : Tables) (positions : List ℕ) (h : PlaceLists Change) → ((p : Place) → listed h p ≡ items_changes t 0 (serial t) p)
    → AreInOrder (kept positions h)
kept-in_order t positions h are p = subst (λ cs. IsNonDecreasingBy (λ c. c.position) cs) (sym (kept-changes positions h p ∙ are p))
    (rises-at (items_changes t 0 (serial t) p) (items-rise t 0 (serial t) p))

-- ---- what is wanted

pub versions-of : (t : Tables) (positions : List ℕ) (h : PlaceLists Change) → ArePlacesIn (serial t) (length t.items) positions
    → ((p : Place) → listed h p ≡ items_changes t 0 (serial t) p) → AreVersionsOf t (kept positions h)
versions-of t positions h places are = record {
  each = places.each;
  value = λ item p lt.
      let position : get_or positions item 0 ≡ serial_place t item = places.place item lt in
      ap (λ cs. after_changes (before (get_or positions item 0) cs) (plain Init)) (kept-changes positions h p ∙ are p)
      ∙ ap (λ m. after_changes (before m (items_changes t 0 (serial t) p)) (plain Init)) (position ∙ sym (zero-add (serial_place t item)))
      ∙ ap (λ cs. after_changes cs (plain Init)) (before-items t 0 (serial_place t item) (serial t) p)
      ∙ sym (items-changes t 0 (take (serial_place t item) (serial t)) p (plain Init));
}

-- Those of tables that are cut to some points are those of the whole at these points.
pub versions_at : (points : List ℕ) (t : Tables) (k : Kept) → AreVersionsOf (cut points t) k → AreVersionsAt points t k
versions_at points t k h = record { each = h.each; value = λ item p lt at. h.value item p lt ∙ wanted_cut points t item p at }

-- ---- looking up

pub taken-parted : {X : Type 0} (test : X → Bool) (cs : List X) (n : ℕ) → AllWithin (λ c. test c ≡ true) cs 0 n
    → AllWithin (λ c. test c ≡ false) cs n (length cs) → take n cs ≡ filter test cs
taken-parted test [] zero early late = refl
taken-parted test [] (suc n) early late = refl
taken-parted test (c ∷ cs) zero early late =
    let no_more : filter test (c ∷ cs) ≡ filter test cs =
    ap (λ b. cond b (c ∷ filter test cs) (filter test cs)) (late 0 c (omega arith) (omega arith)) in
    taken-parted test cs zero (λ k d from below. absurd (omega (arith, below)))
    (λ k d from below. late (suc k) d (omega arith) (omega (arith, below))) ∙ sym no_more
taken-parted test (c ∷ cs) (suc n) early late =
    let one_more : filter test (c ∷ cs) ≡ c ∷ filter test cs =
    ap (λ b. cond b (c ∷ filter test cs) (filter test cs)) (early 0 c (omega arith) (omega arith)) in
    ap (λ ds. c ∷ ds) (taken-parted test cs n (λ k d from below. early (suc k) d (omega arith) (omega (arith, below)))
    (λ k d from below. late (suc k) d (omega (arith, from)) (omega (arith, below)))) ∙ sym one_more

-- ---- the latest

pub after-split : (cs : List Change) (k : ℕ) (d : Change) (v : Value) → k < length cs
    → after_changes cs v ≡ after_changes (drop (k + 1) cs) (acted_by (get_or cs k d).action (after_changes (take k cs) v))
after-split [] k d v lt = absurd (omega (arith, lt))
after-split (c ∷ cs) zero d v lt = refl
after-split (c ∷ cs) (suc k) d v lt = after-split cs k d (acted_by c.action v) (omega (arith, lt))
    ∙ ap (λ n. after_changes (drop n (c ∷ cs)) (acted_by (get_or cs k d).action (after_changes (take k cs) (acted_by c.action v))))
    (let e : suc (k + 1) ≡ suc k + 1 = omega arith in e)

pub put-latest : (cs : List Change) (n : ℕ) (d : Change) (base : Base) (v : Value) → 0 < n → n ≤ length cs
    → (get_or cs (n - 1) d).action ≡ Put base → after_changes cs v ≡ after_changes (drop n cs) (plain base)
put-latest cs n d base v some le is =
    after-split cs (n - 1) d v (omega (arith, some, le))
    ∙ ap (λ m. after_changes (drop m cs) (acted_by (get_or cs (n - 1) d).action (after_changes (take (n - 1) cs) v)))
    (let e : (n - 1) + 1 ≡ n = omega (arith, some) in e)
    ∙ ap (λ a. after_changes (drop n cs) (acted_by a (after_changes (take (n - 1) cs) v))) is
