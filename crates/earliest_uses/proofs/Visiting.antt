-- One use more of some places, place by place.
use Rattle.std.proofs.Common.{◌≡◌, ℕ, ◌≤◌, ◌-◌, ◌^◌, ◌||◌, inl, inr, Bool, true, false, List, [], ◌∷◌, ◌++◌, cond, refl, sym, ap, ◌∙◌, subst, arith, Option, Some, ◌==◌, ◌⊎◌}
use Rattle.std.specs.HashMap.{get}
use Rattle.std.specs.Option.{option_map_or}
use Rattle.std.proofs.lemmas.Bool.{cases_Bool, true≢false, eq-eqb, eqb-true, and_from}
use Rattle.vocabulary.specs.Prelude.{Place, is_in, same_place}
use Rattle.semantics.proofs.lemmas.SamePlaces.{same_place-true}
use Rattle.earliest_uses.specs.declared.serial_use.SerialUse.{SerialUse}
use Rattle.earliest_uses.specs.declared.place_uses.PlaceUses.{PlaceUses}
use Rattle.earliest_uses.specs.declared.uses.EarliestUses.{EarliestUses}
use Rattle.earliest_uses.specs.Earlier.{IsNoted, bound}
use Rattle.earliest_uses.specs.Visits.{IsOver, IsVisit, bound_at}

-- ---- one place

same_as_itself : (p : Place) → same_place p p ≡ true
same_as_itself p = and_from (p.tree == p.tree) _ (eq-eqb p.tree p.tree refl)
    (and_from (p.point == p.point) (p.field == p.field) (eq-eqb p.point p.point refl) (eq-eqb p.field p.field refl))

abbrev bound_in : Option PlaceUses → SerialUse → ℕ
bound_in o u = option_map_or (λ (s : PlaceUses). bound s u) o (2 ^ 64 - 1)

pub visited : (old new : EarliestUses) (at : Place) (one : SerialUse) (uses : PlaceUses) (earliest : ℕ)
    → ((p : Place) → get same_place new.places p ≡ cond (same_place at p) (Some uses) (get same_place old.places p))
    → ((u : SerialUse) → bound uses u ≤ bound_at old at u) → IsNoted (bound uses) one
    → earliest ≤ bound_at old at one → IsVisit old new (λ p. p ≡ at) one earliest
visited old new at one uses earliest is lower noted bounds = record {
  lower = λ p u. elim (cases_Bool (same_place at p)) [
    | inl same ↦
        let here : bound_at new p u ≡ bound uses u = ap (λ o. bound_in o u) (is p ∙ ap (λ b. cond b (Some uses) (get same_place old.places p)) same) in
        let there : bound_at old at u ≡ bound_at old p u = ap (λ q. bound_at old q u) (same_place-true at p same) in
        let less = lower u in
        omega (arith, here, there, less)
    | inr other ↦
        let here : bound_at new p u ≡ bound_at old p u = ap (λ o. bound_in o u) (is p ∙ ap (λ b. cond b (Some uses) (get same_place old.places p)) other) in
        omega (arith, here)
  ];
  noted = λ p e u before.
      let here : bound_at new p u ≡ bound uses u = ap (λ q. bound_at new q u) e
      ∙ ap (λ o. bound_in o u) (is at ∙ ap (λ b. cond b (Some uses) (get same_place old.places at)) (same_as_itself at)) in
      let less = noted u before in
      omega (arith, here, less);
  bounds = λ p e. subst (λ q. earliest ≤ bound_at old q one) (sym e) bounds;
}

-- ---- some places and some more

pub visited_none : (uses : EarliestUses) (At : Place → Type 0) (one : SerialUse) (earliest : ℕ) → ((p : Place) → At p → ⊥)
    → IsVisit uses uses At one earliest
visited_none uses At one earliest none = record {
  lower = λ p u. omega arith;
  noted = λ p at. absurd (none p at);
  bounds = λ p at. absurd (none p at);
}

pub visited_more : (old mid new : EarliestUses) (There Here At : Place → Type 0) (one : SerialUse) (there here earliest : ℕ)
    → earliest ≤ there → earliest ≤ here
    → IsVisit old mid There one there → IsVisit mid new Here one here → ((p : Place) → At p → There p ⊎ Here p)
    → IsVisit old new At one earliest
visited_more old mid new There Here At one there here earliest before_there before_here first then parts = record {
  lower = λ p u. let a = first.lower p u in let b = then.lower p u in omega (arith, a, b);
  noted = λ p at u before. elim (parts p at) [
    | inl early ↦ let a = first.noted p early u before in let b = then.lower p u in omega (arith, a, b)
    | inr late ↦ then.noted p late u before
  ];
  bounds = λ p at. elim (parts p at) [
    | inl early ↦ let a = first.bounds p early in omega (arith, a, before_there)
    | inr late ↦ let a = then.bounds p late in let b = first.lower p one in omega (arith, a, b, before_here)
  ];
}

-- ---- field by field

of_parts : (s t p q f g : ℕ) → s ≡ t → p ≡ q → f ≡ g
    → (let x : Place = record { tree = s; point = p; field = f } in x) ≡ record { tree = t; point = q; field = g }
of_parts s t p q f g a b c = cc

at_place : (p : Place) (tree point field : ℕ) → p.tree ≡ tree → p.point ≡ point → p.field ≡ field
    → p ≡ record { tree = tree; point = point; field = field }
at_place p tree point field a b c = of_parts p.tree tree p.point point p.field field a b c

either : (a b : Bool) → (a || b) ≡ true → (a ≡ true) ⊎ (b ≡ true)
either true b e = inl refl
either false b e = inr e

in_parts : (xs ys : List ℕ) (n : ℕ) → is_in (xs ++ ys) n ≡ true → (is_in xs n ≡ true) ⊎ (is_in ys n ≡ true)
in_parts [] ys n e = inr e
in_parts (x ∷ xs) ys n e = elim (either (x == n) (is_in (xs ++ ys) n) e) [
  | inl here ↦ inl (ap (λ b. b || is_in xs n) here)
  | inr later ↦ elim (in_parts xs ys n later) [
    | inl one ↦ inl (elim (cases_Bool (x == n)) [ inl hit ↦ ap (λ b. b || is_in xs n) hit | inr miss ↦ ap (λ b. b || is_in xs n) miss ∙ one ])
    | inr other ↦ inr other
  ]
]

only_one : (x n : ℕ) → is_in (x ∷ []) n ≡ true → n ≡ x
only_one x n e = elim (either (x == n) false e) [ inl here ↦ sym (eqb-true x n here) | inr never ↦ absurd (true≢false (sym never)) ]

pub no_field : (tree point : ℕ) (p : Place) → IsOver tree (point ∷ []) [] p → ⊥
no_field tree point p over = true≢false (sym over.at_field)

pub fields_more : (tree point : ℕ) (before : List ℕ) (field : ℕ) (p : Place) → IsOver tree (point ∷ []) (before ++ field ∷ []) p
    → IsOver tree (point ∷ []) before p ⊎ (p ≡ record { tree = tree; point = point; field = field })
fields_more tree point before field p over = elim (in_parts before (field ∷ []) p.field over.at_field) [
  | inl early ↦ inl (record { in_tree = over.in_tree; at_point = over.at_point; at_field = early })
  | inr here ↦ inr (at_place p tree point field over.in_tree (only_one point p.point over.at_point) (only_one field p.field here))
]

-- ---- point by point

abbrev pub IsBehind : ℕ → List ℕ → List ℕ → List ℕ → Place → Type 0
IsBehind tree points fields rest p = IsOver tree points fields p × (is_in rest p.point ≡ false)

pub none_behind : (tree : ℕ) (points fields : List ℕ) (p : Place) → IsBehind tree points fields points p → ⊥
none_behind tree points fields p (over, left) = true≢false (sym over.at_point ∙ left)

pub behind_more : (tree : ℕ) (points fields rest : List ℕ) (point : ℕ) (p : Place) → IsBehind tree points fields rest p
    → IsBehind tree points fields (point ∷ rest) p ⊎ IsOver tree (point ∷ []) fields p
behind_more tree points fields rest point p (over, left) = elim (cases_Bool (point == p.point)) [
  | inl here ↦ inr (record {
    in_tree = over.in_tree;
    at_point = ap (λ b. b || false) here;
    at_field = over.at_field;
  })
  | inr other ↦ inl (over, ap (λ b. b || is_in rest p.point) other ∙ left)
]

-- Where no point is left, the use was noted at all of them.
pub visited_all : (old new : EarliestUses) (tree : ℕ) (points fields rest : List ℕ) (one : SerialUse) (earliest : ℕ)
    → IsVisit old new (λ p. IsOver tree points fields p × (is_in rest p.point ≡ false)) one earliest → rest ≡ []
    → IsVisit old new (IsOver tree points fields) one earliest
visited_all old new tree points fields rest one earliest h none = record {
  lower = h.lower;
  noted = λ p over. h.noted p (over, ap (λ ps. is_in ps p.point) none);
  bounds = λ p over. h.bounds p (over, ap (λ ps. is_in ps p.point) none);
}
