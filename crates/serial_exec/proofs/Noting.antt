-- One change more at some places.
use Rattle.std.proofs.Common.{◌≡◌, ℕ, suc, ◌+◌, ◌<◌, ◌==◌, Bool, true, false, ◌&&◌, ◌||◌, cond, List, [], ◌∷◌, ◌++◌, take, length, get_or, Option, Some, refl, sym, ap, ◌∙◌, inl, inr, arith}
use Rattle.std.specs.Option.{option_map_or}
use Rattle.std.specs.List.{AllPairs}
use Rattle.std.specs.List.Sorted.{IsStrictlyIncreasing}
use Rattle.std.proofs.lemmas.Bool.{cases_Bool, eqb-true, false_from_ne_true, true≢false}
use Rattle.std.proofs.lemmas.Bool.Decides.{nat_tests}
use Rattle.std.proofs.lemmas.Grind.{common_steps}
use Rattle.std.proofs.lemmas.List.Folds.{list_any_more}
use Rattle.std.proofs.lemmas.List.Kept.{AllPairs-from_increasing}
use Rattle.std.proofs.lemmas.List.{append_assoc, append-nil}
use Rattle.vocabulary.specs.Prelude.{Place, is_in, same_place}
use Rattle.semantics.proofs.lemmas.SamePlaces.{same_place-true}
use Rattle.log_tables.proofs.lemmas.Members.{has_in}
use Rattle.serial_exec.specs.declared.change.Change.{Change}
use Rattle.serial_exec.specs.Changes.{covered}

-- A list more at a place.
pub list-put : {V X : Type 0} (items : V → List X) (old : Place → Option V) (new : Option V) (key k : Place) (list : V) (c : X)
    → new ≡ cond (same_place key k) (Some list) (old k)
    → items list ≡ option_map_or items (old key) [] ++ c ∷ []
    → option_map_or items new [] ≡ option_map_or items (old k) [] ++ cond (same_place key k) (c ∷ []) []
list-put items old new key k list c is longer =
    elim (cases_Bool (same_place key k)) [
      | inl same ↦
          ap (λ o. option_map_or items o []) (is ∙ ap (λ b. cond b (Some list) (old k)) same)
          ∙ longer
          ∙ ap (λ j. option_map_or items (old j) [] ++ c ∷ []) (same_place-true key k same)
          ∙ sym (ap (λ b. option_map_or items (old k) [] ++ cond b (c ∷ []) []) same)
      | inr other ↦
          ap (λ o. option_map_or items o []) (is ∙ ap (λ b. cond b (Some list) (old k)) other)
          ∙ sym (append-nil (option_map_or items (old k) []))
          ∙ sym (ap (λ b. option_map_or items (old k) [] ++ cond b (c ∷ []) []) other)
    ]

-- ---- field by field

one_more : {X : Type 0} (c : X) (t p a f : Bool) → (a ≡ true → f ≡ false)
    → cond (t && ((p || false) && a)) (c ∷ []) [] ++ cond (t && (p && f)) (c ∷ []) [] ≡ cond (t && ((p || false) && (a || f))) (c ∷ []) []
one_more c false p a f h = refl
one_more c true false a f h = refl
one_more c true true false f h = refl
one_more c true true true false h = refl
one_more c true true true true h = absurd (true≢false (h refl))

not_again : (fields : List ℕ) (i f : ℕ) → IsStrictlyIncreasing fields → i < length fields → is_in (take i fields) f ≡ true
    → (get_or fields i 0 == f) ≡ false
not_again fields i f up lt h =
    let at = has_in (take i fields) f h in
    let k = at.0 in
    let below : k < length (take i fields) = at.1 in
    let is : get_or (take i fields) k f ≡ f = at.2 in
    let before : k < i = grind (arith, common_steps, below) in
    let same : get_or fields k f ≡ f = grind (arith, common_steps, is, before) in
    let less : get_or fields k f < get_or fields i f = AllPairs-from_increasing fields up k i f before lt in
    let default : get_or fields i f ≡ get_or fields i 0 = grind (arith, common_steps, lt) in
    grind (arith, nat_tests, same, less, default)

pub field-noted : (c : Change) (old mid new : List Change) (tree point field : ℕ) (fields : List ℕ) (i : ℕ) (p : Place)
    → IsStrictlyIncreasing fields → i < length fields → field ≡ get_or fields i 0
    → mid ≡ old ++ cond (covered tree (point ∷ []) (take i fields) p) (c ∷ []) []
    → new ≡ mid ++ cond (same_place (record { tree = tree; point = point; field = field }) p) (c ∷ []) []
    → new ≡ old ++ cond (covered tree (point ∷ []) (take (i + 1) fields) p) (c ∷ []) []
field-noted c old mid new tree point field fields i p up lt is before after =
    after
    ∙ ap (λ xs. xs ++ cond ((tree == p.tree) && ((point == p.point) && (field == p.field))) (c ∷ []) []) before
    ∙ append_assoc old _ _
    ∙ ap (λ f. old ++ (cond (covered tree (point ∷ []) (take i fields) p) (c ∷ []) []
    ++ cond ((tree == p.tree) && ((point == p.point) && (f == p.field))) (c ∷ []) [])) is
    ∙ ap (λ xs. old ++ xs) (one_more c (tree == p.tree) (point == p.point) (is_in (take i fields) p.field) (get_or fields i 0 == p.field)
    (not_again fields i p.field up lt))
    ∙ ap (λ b. old ++ cond ((tree == p.tree) && (((point == p.point) || false) && b)) (c ∷ []) [])
    (sym (list_any_more (λ m. m == p.field) fields i 0 lt))

-- ---- point by point

one_point : {X : Type 0} (c : X) (t e h f : Bool) → (e ≡ true → h ≡ false)
    → cond (t && ((e || false) && f)) (c ∷ []) [] ++ cond (t && (h && f)) (c ∷ []) [] ≡ cond (t && ((e || h) && f)) (c ∷ []) []
one_point c false e h f apart = refl
one_point c true false h f apart = refl
one_point c true true false f apart = append-nil _
one_point c true true true f apart = absurd (true≢false (apart refl))

-- A number that is below all others is none of them.
not_behind : (x q : ℕ) (xs : List ℕ) → AllPairs (λ a b. a < b) (x ∷ xs) → (x == q) ≡ true → is_in xs q ≡ false
not_behind x q xs up same = false_from_ne_true (is_in xs q) (λ e.
    let c = has_in xs q e in
    let less : x < get_or xs c.0 q = up 0 (suc c.0) q (omega arith) (omega (arith, c.1)) in
    omega (arith, less, c.2, eqb-true x q same))

-- Where a point is noted, the rest is left.
pub point-noted : (c : Change) (all mid new : List Change) (tree x : ℕ) (xs fields : List ℕ) (p : Place) → AllPairs (λ a b. a < b) (x ∷ xs)
    → mid ++ cond (covered tree (x ∷ xs) fields p) (c ∷ []) [] ≡ all → new ≡ mid ++ cond (covered tree (x ∷ []) fields p) (c ∷ []) []
    → new ++ cond (covered tree xs fields p) (c ∷ []) [] ≡ all
point-noted c all mid new tree x xs fields p up before after =
    ap (λ cs. cs ++ cond (covered tree xs fields p) (c ∷ []) []) after
    ∙ append_assoc mid _ _
    ∙ ap (λ cs. mid ++ cs) (one_point c (tree == p.tree) (x == p.point) (is_in xs p.point) (is_in fields p.field)
    (not_behind x p.point xs up))
    ∙ before
