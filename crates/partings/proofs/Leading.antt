-- The first places of numbers, one place more.
use Rattle.std.proofs.Common.{◌≡◌, ◌≢◌, ℕ, zero, suc, ◌+◌, ◌<◌, ◌⊎◌, inl, inr, Bool, true, false, List, [], ◌∷◌, ◌++◌, length, replicate, get_or, set, Contains, if◌then◌else◌, refl, sym, ap, ◌∙◌, arith}
use Rattle.std.specs.List.Sorted.{IsStrictlyIncreasing}
use Rattle.std.proofs.lemmas.Bool.{cases_Bool, cases_eq, true≢false}
use Rattle.std.proofs.Math.Seq.{get_or-append_seam}
use Rattle.std.proofs.lemmas.List.{length-append, get_or_append_left, get_or-set_same, get_or-set_other}
use Rattle.std.proofs.lemmas.List.Elements.{Contains-get_or, Contains-append_cases, Contains-append_left, Contains-append_right}
use Rattle.std.proofs.lemmas.List.Kept.{AllPairs-from_increasing}
use Rattle.partings.specs.Parted.{AreLeads, HasLead, IsLead}
use Rattle.list_lemmas.proofs.lemmas.Contained.{only, Contains-here}

-- What is known of the places before `end`.
pub record AreLeadsSoFar (end : ℕ) (numbers points : List ℕ) (seen : List Bool) (leads : List ℕ) : Type 0 where
  pub leads_are : AreLeads end numbers points leads
  pub marked : (i : ℕ) → i < end → get_or seen (get_or numbers i 0) false ≡ true
  pub told : (n : ℕ) → get_or seen n false ≡ true → (i : ℕ) × (i < end) × (get_or numbers i 0 ≡ n)
  pub ascend : IsStrictlyIncreasing leads

increasing_more : (ns : List ℕ) (n : ℕ) → IsStrictlyIncreasing ns → ((m : ℕ) → Contains ns m → m < n) → IsStrictlyIncreasing (ns ++ n ∷ [])
increasing_more ns n h below k within = step (cases_eq (k + 1) (length ns))
  where
    len : length (ns ++ n ∷ []) ≡ length ns + 1
    len = length-append ns (n ∷ [])

    step : (k + 1 ≡ length ns) ⊎ (k + 1 ≢ length ns) → get_or (ns ++ n ∷ []) k 0 < get_or (ns ++ n ∷ []) (k + 1) 0
    step (inl last) =
        let old = get_or_append_left ns (n ∷ []) 0 k (omega (arith, last)) in
        let new = get_or-append_seam ns n [] 0 in
        let lt = below (get_or ns k 0) (Contains-get_or ns k 0 (omega (arith, last))) in
        let at : get_or (ns ++ n ∷ []) (k + 1) 0 ≡ n = ap (λ i. get_or (ns ++ n ∷ []) i 0) (omega (arith, last)) ∙ new in
        omega (arith, old, lt, at)
    step (inr inner) =
        let one = get_or_append_left ns (n ∷ []) 0 k (omega (arith, within, len, inner)) in
        let next = get_or_append_left ns (n ∷ []) 0 (k + 1) (omega (arith, within, len, inner)) in
        let lt = h k (omega (arith, within, len, inner)) in
        omega (arith, one, next, lt)

longer_lead : (numbers points leads : List ℕ) (p place : ℕ) → HasLead numbers points leads place → HasLead numbers points (leads ++ p ∷ []) place
longer_lead numbers points leads p place h = record {
  lead = h.lead;
  not_later = h.not_later;
  same = h.same;
  listed = Contains-append_left leads (p ∷ []) (get_or points h.lead 0) h.listed;
}

-- Before the first place.
pub none_yet : (numbers points : List ℕ) (end : ℕ) → AreLeadsSoFar 0 numbers points (replicate end false) []
none_yet numbers points end = record {
  leads_are = record { listed = λ k lt. absurd (omega (arith, lt)); leading = λ p c. absurd (omega (arith, c.1)) };
  marked = λ i lt. absurd (omega (arith, lt));
  told = λ n e. absurd (true≢false (sym e ∙ unseen end n));
  ascend = λ k lt. absurd (omega (arith, lt));
}
  where
    unseen : (end n : ℕ) → get_or (replicate end false) n false ≡ false
    unseen zero n = refl
    unseen (suc end) zero = refl
    unseen (suc end) (suc n) = unseen end n

module _ (end : ℕ) (numbers points : List ℕ) (seen : List Bool) (leads : List ℕ) (so : AreLeadsSoFar end numbers points seen leads)
    (ascend : IsStrictlyIncreasing points) (within : end < length points) (fits : get_or numbers end 0 < length seen) where
  abbrev number : ℕ
  number = get_or numbers end 0

  abbrev point : ℕ
  point = get_or points end 0

  abbrev seen_now : List Bool
  seen_now = set seen number true

  marked : (i : ℕ) → i < end + 1 → get_or seen_now (get_or numbers i 0) false ≡ true
  marked i lt = elim (cases_eq (get_or numbers i 0) number) [
    | inl here ↦ ap (λ n. get_or seen_now n false) here ∙ get_or-set_same seen number true false fits
    | inr other ↦
        get_or-set_other seen number (get_or numbers i 0) true false other
        ∙ so.marked i (elim (cases_eq i end) [ inl last ↦ absurd (other (ap (λ k. get_or numbers k 0) last)) | inr earlier ↦ omega (arith, lt, earlier) ])
  ]

  told : (n : ℕ) → get_or seen_now n false ≡ true → (i : ℕ) × (i < end + 1) × (get_or numbers i 0 ≡ n)
  told n e = elim (cases_eq n number) [
    | inl here ↦ (end, omega arith, sym here)
    | inr other ↦ let t = so.told n (sym (get_or-set_other seen number n true false other) ∙ e) in (t.0, omega (arith, t.1), t.2)
  ]

  later : (p : ℕ) → IsLead end numbers points p → IsLead (end + 1) numbers points p
  later p h = record { place = h.place; within = omega (arith, h.within); point = h.point; first = h.first }

  -- The number was seen.
  again : get_or seen number false ≡ true → AreLeadsSoFar (end + 1) numbers points seen_now leads
  again was = record {
    leads_are = record { listed = λ k lt. at k lt (cases_eq k end); leading = λ p c. later p (so.leads_are.leading p c) };
    marked = marked;
    told = told;
    ascend = so.ascend;
  }
    where
      at : (k : ℕ) → k < end + 1 → (k ≡ end) ⊎ (k ≢ end) → HasLead numbers points leads k
      at k lt (inr earlier) = so.leads_are.listed k (omega (arith, lt, earlier))
      at k lt (inl last) =
          let t = so.told number was in
          let h = so.leads_are.listed t.0 t.1 in
          record { lead = h.lead; not_later = omega (arith, h.not_later, t.1, last); same = h.same ∙ (t.2 ∙ ap (λ k. get_or numbers k 0) (sym last)); listed = h.listed }

  -- It was not, so the value leads.
  anew : get_or seen number false ≡ false → AreLeadsSoFar (end + 1) numbers points seen_now (leads ++ point ∷ [])
  anew was = record {
    leads_are = record { listed = λ k lt. at k lt (cases_eq k end); leading = leading };
    marked = marked;
    told = told;
    ascend = ascending;
  }
    where
      at : (k : ℕ) → k < end + 1 → (k ≡ end) ⊎ (k ≢ end) → HasLead numbers points (leads ++ point ∷ []) k
      at k lt (inr earlier) = longer_lead numbers points leads point k (so.leads_are.listed k (omega (arith, lt, earlier)))
      at k lt (inl last) = record {
        lead = end;
        not_later = omega (arith, last);
        same = ap (λ k. get_or numbers k 0) (sym last);
        listed = Contains-append_right leads (point ∷ []) point (Contains-here []);
      }

      leading : (p : ℕ) → Contains (leads ++ point ∷ []) p → IsLead (end + 1) numbers points p
      leading p c = elim (Contains-append_cases leads (point ∷ []) p c) [
        | inl old ↦ later p (so.leads_are.leading p old)
        | inr last ↦
            record {
              place = end;
              within = omega arith;
              point = sym (only last);
              first = λ k lt same. true≢false (sym (so.marked k lt) ∙ (ap (λ n. get_or seen n false) same ∙ was));
            }
      ]

      less : (p : ℕ) → Contains leads p → p < point
      less p c =
          let h = so.leads_are.leading p c in
          let lt = AllPairs-from_increasing points ascend h.place end 0 h.within within in
          omega (arith, lt, h.point)

      ascending : IsStrictlyIncreasing (leads ++ point ∷ [])
      ascending = increasing_more leads point so.ascend less

  pub leads_more : AreLeadsSoFar (end + 1) numbers points seen_now (if get_or seen number false then leads else leads ++ point ∷ [])
  leads_more = elim (cases_Bool (get_or seen number false)) [ inl was ↦ rw was (again was) | inr was ↦ rw was (anew was) ]
