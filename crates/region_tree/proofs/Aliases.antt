-- Points along paths.
use Rattle.std.proofs.Common.{◌≡◌, ℕ, zero, suc, ◌+◌, ◌-◌, List, [], ◌∷◌, length, get_or, Contains, Some, None, IsTrue, slice_get, subst, sym, ap, ◌∙◌, inl, inr, arith}
use Rattle.std.specs.Option.{option_map_or}
use Rattle.std.proofs.lemmas.Bool.{cases_order}
use Rattle.std.proofs.lemmas.Option.{none-some, same_Some, slice_get_within, get_or_from_slice_get}
use Rattle.point_set.specs.Least.{IsLeastCommon}
use Rattle.point_set.proofs.lemmas.Ahead.{in_or_not}
use Rattle.vocabulary.specs.Prelude.{Sub}
use Rattle.log_tables.specs.declared.entries.Step.{Step}
use Rattle.log_tables.specs.Regions.{Regions, step_of, is_at, child_of, whole_of, space_points}
use Rattle.region_tree.specs.Shape.{IsForest}
use Rattle.region_tree.specs.Faults.{points_cut, is_disjoint, IsFaulty}
use Rattle.region_tree.specs.Paths.{Way, Leads, IsPath}
use Rattle.region_tree.proofs.Distinct.{found_by, steps_told}
use Rattle.list_lemmas.proofs.lemmas.Firsts.{find_place, at_contains}

-- a subspace has only points of the space that is cut
step_within : (d : Regions) → ((i : ℕ) → ¬ IsFaulty d i) → (s : Sub) (from p : ℕ) → Contains d.subs s → whole_of d s.part ≡ Some from
    → Contains (space_points d s.space) p → Contains (space_points d from) p
step_within d faultless s from p has whole there =
    let cut : points_cut d s.part ≡ space_points d from = ap (λ o. option_map_or (space_points d) o []) whole in
    elim (in_or_not (points_cut d s.part) p) [
      | inl found ↦ subst (λ ps. Contains ps p) cut found
      | inr missed ↦ absurd (faultless has.0 (inl (p, (s, at_contains d.subs s has, there, missed))))
    ]

leads_within : (d : Regions) → ((i : ℕ) → ¬ IsFaulty d i) → (from : ℕ) (steps : List Step) (to p : ℕ) → Leads d from steps to
    → Contains (space_points d to) p → Contains (space_points d from) p
leads_within d faultless from [] to p leads there = subst (λ space. Contains (space_points d space) p) (sym leads) there
leads_within d faultless from (step ∷ steps) to p leads there =
    step_within d faultless leads.0 from p leads.1 leads.3 (leads_within d faultless leads.0.space steps to p leads.4 there)

-- below each step of its path a space has only points of the subspace there
pub passes : (d : Regions) → ((i : ℕ) → ¬ IsFaulty d i) → (from : ℕ) (steps : List Step) (to k : ℕ) (x : Step) → Leads d from steps to
    → slice_get steps k ≡ Some x → (s : Sub) × Contains d.subs s × (step_of s ≡ x)
    × ((p : ℕ) → Contains (space_points d to) p → Contains (space_points d s.space) p)
passes d faultless from [] to k x leads at = absurd (none-some x at)
passes d faultless from (step ∷ steps) to zero x leads at =
    (leads.0, leads.1, leads.2 ∙ same_Some step x at, λ p there. leads_within d faultless leads.0.space steps to p leads.4 there)
passes d faultless from (step ∷ steps) to (suc k) x leads at = passes d faultless leads.0.space steps to k x leads.4 at

-- two subspaces of one disjoint partition share no point
clash : (d : Regions) → ((i : ℕ) → ¬ IsFaulty d i) → (s t : Sub) (p : ℕ) → Contains d.subs s → Contains d.subs t
    → (step_of s ≡ step_of t → ⊥) → s.part ≡ t.part → IsTrue (is_disjoint d s.part) → Contains (space_points d s.space) p
    → Contains (space_points d t.space) p → ⊥
clash d faultless s t p has_s has_t apart same disjoint in_s in_t =
    let at_s = at_contains d.subs s has_s in
    let at_t = at_contains d.subs t has_t in
    elim (cases_order has_s.0 has_t.0) [
      | inl e ↦ apart (ap step_of (same_Some s t (sym at_s ∙ ap (slice_get d.subs) e ∙ at_t)))
      | inr other ↦ elim other [
        | inl before ↦ faultless has_t.0 (inr (
          has_s.0,
          (p, (t, s, before, at_t, at_s, (sym same, subst (λ part. IsTrue (is_disjoint d part)) same disjoint, in_t, in_s))),
        ))
        | inr behind ↦ faultless has_s.0 (inr (has_t.0, (p, (s, t, behind, at_s, at_t, (same, disjoint, in_s, in_t)))))
      ]
    ]

pub none_shared : (d : Regions) → ((i : ℕ) → ¬ IsFaulty d i) → (a b : Way) (s t : ℕ) (x y : Step) → IsPath d a s → IsPath d b t
    → Contains a.steps x → Contains b.steps y → (x ≡ y → ⊥) → x.part ≡ y.part → IsTrue (is_disjoint d x.part)
    → IsLeastCommon (space_points d s) (space_points d t) None
none_shared d faultless a b s t x y path_a path_b has_x has_y apart same disjoint p h =
    let u = passes d faultless a.top a.steps s has_x.0 x path_a.2 (at_contains a.steps x has_x) in
    let v = passes d faultless b.top b.steps t has_y.0 y path_b.2 (at_contains b.steps y has_y) in
    let part_u : u.0.part ≡ x.part = ap (λ (z : Step). z.part) u.2 in
    let part_v : v.0.part ≡ y.part = ap (λ (z : Step). z.part) v.2 in
    clash d faultless u.0 v.0 p u.1 v.1 (λ e. apart (sym u.2 ∙ e ∙ v.2)) (part_u ∙ same ∙ sym part_v)
    (subst (λ k. IsTrue (is_disjoint d k)) (sym part_u) disjoint) (u.3 p h.0) (v.3 p h.1)

-- no two subspaces have one step
one_sub : (d : Regions) → IsForest d → (i j : ℕ) (s t : Sub) → slice_get d.subs i ≡ Some s → slice_get d.subs j ≡ Some t
    → step_of s ≡ step_of t → s ≡ t
one_sub d forest i j s t at_s at_t same =
    elim (cases_order i j) [
      | inl e ↦ same_Some s t (sym at_s ∙ ap (slice_get d.subs) e ∙ at_t)
      | inr other ↦ elim other [
        | inl before ↦
            let one : get_or d.subs i s ≡ s = get_or_from_slice_get d.subs i s s at_s in
            let two : get_or d.subs j s ≡ t = get_or_from_slice_get d.subs j t s at_t in
            absurd (forest.steps i j s before (slice_get_within d.subs j t at_t) (ap step_of one ∙ same ∙ ap step_of (sym two)))
        | inr behind ↦
            let one : get_or d.subs i s ≡ s = get_or_from_slice_get d.subs i s s at_s in
            let two : get_or d.subs j s ≡ t = get_or_from_slice_get d.subs j t s at_t in
            absurd (forest.steps j i s behind (slice_get_within d.subs i s at_s) (ap step_of two ∙ sym same ∙ ap step_of (sym one)))
      ]
    ]

child_found : (d : Regions) → IsForest d → (s : Sub) (step : Step) → Contains d.subs s → step_of s ≡ step → child_of d step ≡ Some s
child_found d forest s step has is =
    let at = at_contains d.subs s has in
    let h = found_by (is_at step) 0 has.0 s d.subs at ((steps_told (step_of s) step).1 is) in
    let z : 0 + h.0 ≡ h.0 = omega arith in
    let same : step_of h.1 ≡ step_of s = (steps_told (step_of h.1) step).0 h.5 ∙ sym is in
    find_place (is_at step) h.0 d.subs (h.3 ∙ ap (λ n. Some n) z) ∙ h.4 ∙ ap (λ t. Some t) (one_sub d forest h.0 has.0 h.1 s h.4 at same)

-- the last step leads to the space
last_leads : (d : Regions) (from : ℕ) (steps : List Step) (to : ℕ) (x : Step) → slice_get steps (length steps - 1) ≡ Some x
    → Leads d from steps to → (s : Sub) × Contains d.subs s × (step_of s ≡ x) × (s.space ≡ to)
last_leads d from [] to x at leads = absurd (none-some x at)
last_leads d from (step ∷ []) to x at leads = (leads.0, leads.1, leads.2 ∙ same_Some step x at, leads.4)
last_leads d from (step ∷ next ∷ rest) to x at leads =
    let z : length (step ∷ next ∷ rest) - 1 ≡ suc (length (next ∷ rest) - 1) = omega arith in
    last_leads d leads.0.space (next ∷ rest) to x (sym (ap (slice_get (step ∷ next ∷ rest)) z) ∙ at) leads.4

pub end_found : (d : Regions) → IsForest d → (way : Way) (space : ℕ) (x : Step) → Some x ≡ slice_get way.steps (length way.steps - 1)
    → IsPath d way space → (s : Sub) × (child_of d x ≡ Some s) × (s.space ≡ space)
end_found d forest way space x at path =
    let h = last_leads d way.top way.steps space x (sym at) path.2 in
    (h.0, child_found d forest h.0 x h.1 h.2, h.3)
