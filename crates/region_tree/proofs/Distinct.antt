-- Keys of which no two are alike.
use Rattle.std.proofs.Common.{◌≡◌, ◌≢◌, ℕ, zero, suc, ◌+◌, ◌<◌, ◌≤◌, Bool, true, false, not, List, [], ◌∷◌, length, map, get_or, Option, Some, AllPairs, Bor, refl, sym, ap, subst, ◌∙◌, inl, inr, arith, slice_get, nat_eq, IsTrue, MatchBool, ◌↔◌, None, eq-eqb, ◌==◌, ◌&&◌}
use Rattle.std.specs.Fn.{Shared}
use Rattle.std.specs.List.{position_from}
use Rattle.std.specs.Option.{option_eq, option_map}
use Rattle.std.specs.Cmp.Derive.{both_true}
use Rattle.log_tables.specs.declared.entries.Step.{Step}
use Rattle.std.proofs.lemmas.Bool.{cases_Bool, cases_eq, eqb-true, and_parts}
use Rattle.region_tree.specs.Firsts.{AllFirst, SomeLater}
use Rattle.list_lemmas.proofs.lemmas.Firsts.{seen_back}
use Rattle.std.proofs.lemmas.Option.{none-some, same_Some, slice_get-get_or, slice_get-map, get_or_from_slice_get, slice_get_within}

-- the element at this place is the first that is like it.
abbrev pub IsFirstAt : {X : Type 0} → (X → X → Bool) → List X → ℕ → Type 0
IsFirstAt {X} same xs i = (x : X) → slice_get xs i ≡ Some x → position_from (same x) 0 xs ≡ Some i

-- the first place of what passes: no element before it does
none_before : {X : Type 0} (p : X → Bool) (k i j : ℕ) (d : X) (xs : List X) → position_from p k xs ≡ Some i → k + j < i
    → p (get_or xs j d) ≡ false
none_before p k i j d [] e lt = absurd (none-some i e)
none_before p k i zero d (x ∷ xs) e lt =
    elim (cases_Bool (p x)) [ inl hit ↦ let here : k ≡ i = same_Some k i (rw hit at e) in absurd (omega arith) | inr miss ↦ miss ]
none_before p k i (suc j) d (x ∷ xs) e lt =
    elim (cases_Bool (p x)) [
      | inl hit ↦ let here : k ≡ i = same_Some k i (rw hit at e) in absurd (omega arith)
      | inr miss ↦ none_before p (k + 1) i j d xs (rw miss at e) (omega arith)
    ]

-- an element that passes stands at the first place or after it
pub found_by : {X : Type 0} (p : X → Bool) (k i : ℕ) (x : X) (xs : List X) → slice_get xs i ≡ Some x → p x ≡ true → (j : ℕ) × (y : X)
    × (j ≤ i) × (position_from p k xs ≡ Some (k + j)) × (slice_get xs j ≡ Some y) × (p y ≡ true)
found_by p k i x [] at e = absurd (none-some x at)
found_by p k zero x (y ∷ ys) at e =
    let here : y ≡ x = same_Some y x at in
    let hit : p y ≡ true = ap p here ∙ e in
    let z : k + 0 ≡ k = omega arith in
    (0, y, omega arith, rw (hit, z) refl, refl, hit)
found_by p k (suc i) x (y ∷ ys) at e =
    elim (cases_Bool (p y)) [
      | inl hit ↦ let z : k + 0 ≡ k = omega arith in (0, y, omega arith, rw (hit, z) refl, refl, hit)
      | inr miss ↦
          let h = found_by p (k + 1) i x ys at e in
          let z : k + 1 + h.0 ≡ k + suc h.0 = omega arith in
          (suc h.0, h.1, omega (arith, h.2), rw (miss, ← z) h.3, h.4, h.5)
    ]

-- where each element is the first that is like it, no two are alike
pub all_apart : {X : Type 0} (same : X → X → Bool) (R : X → X → Type 0) (xs : List X) → ((x y : X) → same y x ≡ false → R x y)
    → ((k : ℕ) → k < length xs → IsFirstAt same xs k) → AllPairs R xs
all_apart {X} same R xs apart first i j d lt lt' =
    let at = slice_get-get_or xs j d lt' in
    apart (get_or xs i d) (get_or xs j d) (none_before (same (get_or xs j d)) 0 j i d xs (first j lt' (get_or xs j d) at) (omega arith))

-- the other way round
pub first_from_apart : {X : Type 0} (same : X → X → Bool) (R : X → X → Type 0) (xs : List X) (i : ℕ)
    → ((x y : X) → same y x ≡ true → R x y → ⊥) → ((x : X) → same x x ≡ true) → AllPairs R xs → IsFirstAt same xs i
first_from_apart {X} same R xs i clash itself pairs x at =
    let h = found_by (same x) 0 i x xs at (itself x) in
    let z : 0 + h.0 ≡ h.0 = omega arith in
    elim (cases_eq h.0 i) [
      | inl e ↦ h.3 ∙ ap (λ n. Some n) (z ∙ e)
      | inr ne ↦
          let lt : h.0 < i = omega (arith, h.2) in
          let one : get_or xs h.0 x ≡ h.1 = get_or_from_slice_get xs h.0 h.1 x h.4 in
          let two : get_or xs i x ≡ x = get_or_from_slice_get xs i x x at in
          absurd (clash h.1 x h.5 (rw (one, two) at (pairs h.0 i x lt (slice_get_within xs i x at))))
    ]

-- what `!=` tells of an optional number
pub same_told : (o : Option ℕ) (i : ℕ) (ne : Bool) → ne ≡ not (option_eq nat_eq o (Some i)) → ne ≡ false → o ≡ Some i
same_told (Some j) i ne is off =
    elim (cases_Bool (nat_eq j i)) [
      | inl hit ↦ ap (λ n. Some n) (eqb-true j i hit)
      | inr miss ↦ absurd (let f : ⊥ = let e : false ≡ true = sym off ∙ is ∙ ap not miss in cc in f)
    ]
same_told None i ne is off = absurd (let f : ⊥ = let e : false ≡ true = sym off ∙ is in cc in f)

pub other_told : (o : Option ℕ) (i : ℕ) (ne : Bool) → ne ≡ not (option_eq nat_eq o (Some i)) → ne ≡ true → o ≢ Some i
other_told o i ne is on same =
    let no : ⊥ = let e : true ≡ false = sym on ∙ is ∙ ap (λ p. not (option_eq nat_eq p (Some i))) same ∙ ap not (eq-eqb i i refl) in cc in
    no

-- whether no two elements have one key, as the first places of their keys tell; the elements are items as they are seen
pub distinct_told : {T X K F : Type 0} (g : Shared F (Bor T × Unit {0}) (Option ℕ)) (f : F) (show : T → X) (key : X → K) (same : K → K
    → Bool) → ((a b : K) → same a b ≡ true ↔ a ≡ b) → (items : List T) (xs : List X) (r : Bool) → map show items ≡ xs
    → ((p : Bor T) (o : Option ℕ) → g.post f (p, tt) o → o ≡ position_from (λ x. same (key x) (key (show p.now))) 0 xs)
    → MatchBool r (AllFirst g f items) (SomeLater g f items) → IsTrue r ↔ AllPairs (λ x y. key x ≢ key y) xs
distinct_told {T} {X} g f show key same is items xs true seen finds told = (
  λ _. all_apart (λ x y. same (key y) (key x)) (λ x y. key x ≢ key y) xs
      (λ x y e one. let no : ⊥ = let t : true ≡ false = sym ((is (key x) (key y)).1 one) ∙ e in cc in no)
      (λ k lt x at.
      let h = seen_back show items k x (ap (λ (ys : List X). slice_get ys k) seen ∙ at) in
      let t = told k h.0 h.1 in
      let e : show t.shown.now ≡ x = ap show t.shows ∙ h.2 in
      subst (λ (y : X). position_from (λ z. same (key z) (key y)) 0 xs ≡ Some k) e (sym (finds t.shown (Some k) t.says.met))),
  λ _. refl,
)
distinct_told {T} {X} g f show key same is items xs false seen finds told = (
  λ no. absurd (let e : ⊥ = cc in e),
  λ pairs.
      let t = told.4 in
      let at : slice_get xs told.0 ≡ Some (show t.shown.now) =
      ap (λ (ys : List X). slice_get ys told.0) (sym seen) ∙ slice_get-map show items told.0 ∙ ap (option_map show) told.3
      ∙ ap (λ (y : T). Some (show y)) (sym t.shows) in
      let first = first_from_apart (λ x y. same (key y) (key x)) (λ x y. key x ≢ key y) xs told.0
      (λ x y e ne. ne ((is (key x) (key y)).0 e)) (λ x. (is (key x) (key x)).1 refl) pairs in
      absurd (told.5 (finds t.shown told.2 t.says.met ∙ first (show t.shown.now) at)),
)

-- numbers are one where `==` says so, and steps where it does of both their numbers
pub ids_told : (a b : ℕ) → (a == b) ≡ true ↔ a ≡ b
ids_told a b = (eqb-true a b, eq-eqb a b)

pub steps_told : (a b : Step) → ((a.part == b.part) && (a.colour == b.colour)) ≡ true ↔ a ≡ b
steps_told a b = (
  λ e.
      let h = and_parts (a.part == b.part) (a.colour == b.colour) e in
      let part = eqb-true a.part b.part h.0 in
      let colour = eqb-true a.colour b.colour h.1 in
      λ i. record { part = part i; colour = colour i },
  λ e. both_true (eq-eqb a.part b.part (ap (λ (s : Step). s.part) e)) (eq-eqb a.colour b.colour (ap (λ (s : Step). s.colour) e)),
)
