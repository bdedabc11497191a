-- The scan of claims, from the last one back.
use Rattle.std.proofs.Common.{◌≡◌, ℕ, ◌+◌, ◌<◌, ◌≤◌, min, inl, inr, true, false, List, filter, length, get_or, sym, ap, ◌∙◌, subst, arith, []}
use Rattle.std.specs.List.Sorted.{IsNonDecreasingBy}
use Rattle.std.proofs.lemmas.Bool.{cases_eq, cases_lt, true≢false}
use Rattle.vocabulary.specs.Prelude.{Place, Tables, is_in, points_in}
use Rattle.log_laws.proofs.lemmas.Members.{member_in, is_in_of}
use Rattle.earliest_uses.specs.declared.uses.EarliestUses.{EarliestUses}
use Rattle.earliest_uses.specs.Earlier.{IsNoted}
use Rattle.earliest_uses.specs.Visits.{IsOver, IsVisit, bound_at}
use Rattle.serial_scan.specs.declared.claims.Claim.{Claim}
use Rattle.serial_scan.specs.Scanned.{AreClearBefore, IsAtFirst, IsClear}
use Rattle.list_lemmas.proofs.lemmas.Filtered.{in_filter}

-- ---- the places of a claim

pub over_first : (t : Tables) (firsts points : List ℕ) (c : Claim) (p : Place) → points_in t c.space ≡ points → IsAtFirst t firsts c p
    → IsOver c.tree (filter (is_in firsts) points) c.fields.now p
over_first t firsts points c p is at = record {
  in_tree = at.in_tree;
  at_point = is_in_of (filter (is_in firsts) points) p.point
      (in_filter (is_in firsts) points p.point (member_in points p.point (ap (λ ps. is_in ps p.point) (sym is) ∙ at.at_point)) at.listed);
  at_field = at.at_field;
}

never_first : (t : Tables) (firsts : List ℕ) (c : Claim) (p : Place) → points_in t c.space ≡ [] → IsAtFirst t firsts c p → ⊥
never_first t firsts c p none at = true≢false (sym at.at_point ∙ ap (λ ps. is_in ps p.point) none)

pub unvisited_first : (t : Tables) (firsts : List ℕ) (c : Claim) (uses : EarliestUses) (earliest : ℕ) → points_in t c.space ≡ []
    → IsVisit uses uses (IsAtFirst t firsts c) c.one earliest
unvisited_first t firsts c uses earliest none = record {
  lower = λ p u. omega arith;
  noted = λ p at. absurd (never_first t firsts c p none at);
  bounds = λ p at. absurd (never_first t firsts c p none at);
}

-- A visit of the listed points of a space is one of the places of a claim.
pub visited_first : (t : Tables) (firsts points : List ℕ) (c : Claim) (old new : EarliestUses) (earliest : ℕ)
    → points_in t c.space ≡ points → IsVisit old new (IsOver c.tree (filter (is_in firsts) points) c.fields.now) c.one earliest
    → IsVisit old new (IsAtFirst t firsts c) c.one earliest
visited_first t firsts points c old new earliest is h = record {
  lower = h.lower;
  noted = λ p at. h.noted p (over_first t firsts points c p is at);
  bounds = λ p at. h.bounds p (over_first t firsts points c p is at);
}

-- ---- claim by claim

module _ (t : Tables) (firsts : List ℕ) (claims : List Claim) where
  -- The uses take account of the claims from a position on, and those of them whose items are before one are clear.
  pub record ScannedFrom (k : ℕ) (uses : EarliestUses) (first : ℕ) : Type 0 where
    pub noted : (i : ℕ) (d : Claim) → k ≤ i → i < length claims → get_or claims i d ≡ d → (p : Place) → IsAtFirst t firsts d p
        → IsNoted (bound_at uses p) d.one
    pub clear : (i : ℕ) (c : Claim) → k ≤ i → i < length claims → get_or claims i c ≡ c → c.item < first
        → IsClear t firsts claims c

  pub scanned_none : (k : ℕ) (uses : EarliestUses) (first : ℕ) → length claims ≤ k → ScannedFrom k uses first
  scanned_none k uses first all = record {
    noted = λ i d from lt. absurd (omega (arith, all, from, lt));
    clear = λ i c from lt. absurd (omega (arith, all, from, lt));
  }

  pub scanned_all : (uses : EarliestUses) (first : ℕ) → ScannedFrom 0 uses first → AreClearBefore t firsts claims first
  scanned_all uses first h c m = h.clear m.0 c (omega arith) m.1 m.2

  module _ (order : IsNonDecreasingBy (λ (c : Claim). c.item) claims) (k : ℕ) (within : k < length claims) (c : Claim)
      (here : (d : Claim) → get_or claims k d ≡ c) (old new : EarliestUses) (first : ℕ) (later : ScannedFrom (k + 1) old first) where
    noted_more : (earliest : ℕ) → IsVisit old new (IsAtFirst t firsts c) c.one earliest → (i : ℕ) (d : Claim) → k ≤ i → i < length claims
        → get_or claims i d ≡ d → (p : Place) → IsAtFirst t firsts d p → IsNoted (bound_at new p) d.one
    noted_more earliest visit i d from lt is p at u before = elim (cases_eq i k) [
      | inl e ↦
          let same : d ≡ c = sym is ∙ (ap (λ j. get_or claims j d) e ∙ here d) in
          subst (λ (d : Claim). IsNoted (bound_at new p) d.one) (sym same)
          (visit.noted p (subst (λ d. IsAtFirst t firsts d p) same at)) u before
      | inr ne ↦
          let less = later.noted i d (omega (arith, from, ne)) lt is p at u before in
          let lower = visit.lower p u in
          omega (arith, less, lower)
    ]

    -- A claim that is not behind what was there is clear of later ones.
    clear_here : (earliest : ℕ) → IsVisit old new (IsAtFirst t firsts c) c.one earliest → c.one.position ≤ earliest → IsClear t firsts claims c
    clear_here earliest visit ahead p at d m less at_d before = elim (cases_lt k m.0) [
      | inl behind ↦
          let a = later.noted m.0 d (omega (arith, behind)) m.1 m.2 p at_d c.one before in
          let b = visit.bounds p at in
          omega (arith, a, b, ahead)
      | inr not_behind ↦
          let le = order m.0 k d (omega (arith, not_behind)) within in
          let one : (get_or claims m.0 d).item ≡ d.item = ap (λ (d : Claim). d.item) m.2 in
          let other : (get_or claims k d).item ≡ c.item = ap (λ (d : Claim). d.item) (here d) in
          absurd (omega (arith, less, le, one, other))
    ]

    pub scanned_late : (earliest : ℕ) → IsVisit old new (IsAtFirst t firsts c) c.one earliest → ScannedFrom k new (min c.item first)
    scanned_late earliest visit = record {
      noted = noted_more earliest visit;
      clear = λ i d from lt is before. elim (cases_eq i k) [
        | inl e ↦
            let same : d ≡ c = sym is ∙ (ap (λ j. get_or claims j d) e ∙ here d) in
            let item : d.item ≡ c.item = ap (λ (d : Claim). d.item) same in
            absurd (omega (arith, before, item))
        | inr ne ↦ later.clear i d (omega (arith, from, ne)) lt is (omega (arith, before))
      ];
    }

    pub scanned_clear : (earliest : ℕ) → IsVisit old new (IsAtFirst t firsts c) c.one earliest → c.one.position ≤ earliest
        → ScannedFrom k new first
    scanned_clear earliest visit ahead = record {
      noted = noted_more earliest visit;
      clear = λ i d from lt is before. elim (cases_eq i k) [
        | inl e ↦
            let same : d ≡ c = sym is ∙ (ap (λ j. get_or claims j d) e ∙ here d) in
            subst (IsClear t firsts claims) (sym same) (clear_here earliest visit ahead)
        | inr ne ↦ later.clear i d (omega (arith, from, ne)) lt is before
      ];
    }
