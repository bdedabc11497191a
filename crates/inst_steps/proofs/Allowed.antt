-- The requirements that actions name allow their moves, and are those that the moves name.
use Rattle.std.proofs.Common.{◌≡◌, ℕ, ◌+◌, ◌==◌, ◌&&◌, inl, inr, map, Option, Some, None, option_map, unwrap_or, slice_get, refl, sym, ap, ap₂, ◌∙◌, subst, Contains}
use Rattle.std.specs.Prelude.{IfSome}
use Rattle.std.specs.List.{AllByRecursion}
use Rattle.std.specs.Option.{option_and_then}
use Rattle.std.proofs.lemmas.Bool.{and_parts, eqb-true}
use Rattle.std.proofs.lemmas.Iterator.Adapters.{position_from-zero}
use Rattle.std.proofs.lemmas.Option.{none-some, slice_get-get_or}
use Rattle.vocabulary.specs.Prelude.{Priv, Req, Op, Tables, points_in, reqs_of, grid, req_at, cell_in, id_of, mapped}
use Rattle.privilege.specs.declared.kinds.Priv.TheVariants as privileges
use Rattle.semantics.specs.declared.tables.Op.TheVariants as operations
use Rattle.std.proofs.lemmas.List.Elements.{Contains-append_cases, recursion_from_All}
use Rattle.list_lemmas.proofs.lemmas.Contained.{found_at, member_flat, member_map, only, all_contained, Contains-nil}
use Rattle.list_lemmas.proofs.lemmas.Filtered.{of_filter}
use Rattle.list_lemmas.proofs.lemmas.Firsts.{find_by_place, cases_option}
use Rattle.inst_steps.specs.declared.act.Act.{Act}
use Rattle.inst_steps.specs.declared.act.Act.TheVariants as acts
use Rattle.inst_steps.specs.declared.act.Action.{Action}
use Rattle.inst_steps.specs.Acting.{IsBy, IsMappedTo, IsOfTask, IsOwn, HasNumber}
use Rattle.inst_steps.specs.Stepping.{AreNumbered, rest_actions}
use Rattle.inst_steps.specs.Sweeps.{Pass, action_at, actions_of_pass, cell_of, changing, own_place, pass_for, passes_of, reading}
use Rattle.inst_steps.specs.Viewing.{HasPrivilege}

module _ (t : Tables) where
  -- An action is by the requirement that its move names, which allows it.
  abbrev IsFit : Action → Type 0
  IsFit a = IsBy t a × IsOwn t a

  -- So is what an act does at each point and field.
  abbrev Suits : Act → Type 0
  Suits act = (p : ℕ × ℕ) → IsFit (action_at t act p)

  has : (r : Req) (req : ℕ) (a : Priv) → slice_get t.reqs req ≡ Some r → r.access ≡ a → HasPrivilege t req a
  has r req a at e = ap (option_map (λ (r : Req). r.access)) at ∙ ap (λ a. Some a) e

  mapped_to : (r : Req) (req : ℕ) → slice_get t.reqs req ≡ Some r → (p : ℕ × ℕ) → IsMappedTo t req (cell_of t r.item r.number p)
  mapped_to r req at p = ap (λ o. cell_in (unwrap_or (option_and_then (λ (r : Req). mapped t r p.1) o) 0) p) at

  of_task : (task : ℕ) (r : Req) (req : ℕ) → slice_get t.reqs req ≡ Some r → id_of t r.item ≡ task → IsOfTask t req task
  of_task task r req at e = ap (option_map (λ (r : Req). id_of t r.item)) at ∙ ap (λ n. Some n) e

  numbered_so : (r : Req) (req : ℕ) → slice_get t.reqs req ≡ Some r → HasNumber t req r.number
  numbered_so r req at = ap (option_map (λ (r : Req). r.number)) at

  -- ---- a requirement that is found by its item and number stands at the place of these

  own : (r : Req) → req_at t r.item r.number ≡ Some r → (k : ℕ) × (own_place t r ≡ Some k) × (slice_get t.reqs k ≡ Some r)
  own r found =
      let test = λ (q : Req). (q.item == r.item) && (q.number == r.number) in
      let same = find_by_place test t.reqs (own_place t r) (position_from-zero test t.reqs) ∙ found in
      elim (cases_option (own_place t r)) [
        | inl none ↦ absurd (none-some r (sym (ap (option_and_then (slice_get t.reqs)) none) ∙ same))
        | inr some ↦ (some.0, some.1, sym (ap (option_and_then (slice_get t.reqs)) some.1) ∙ same)
      ]

  read_suits : (task : ℕ) (r : Req) → id_of t r.item ≡ task → req_at t r.item r.number ≡ Some r → (a : Priv) → r.access ≡ a
      → IfSome (reading t task r) Suits
  read_suits task r own_task found privileges.Ro e =
      let o = own r found in
      rw e (λ p. subst (λ q. IsFit (action_at t (acts.Read task r.item r.number q) p)) (sym o.1)
      ((inl (has r o.0 privileges.Ro o.2 e), mapped_to r o.0 o.2 p), (of_task task r o.0 o.2 own_task, numbered_so r o.0 o.2)))
  read_suits task r own_task found privileges.Rw e =
      let o = own r found in
      rw e (λ p. subst (λ q. IsFit (action_at t (acts.Read task r.item r.number q) p)) (sym o.1)
      ((inr (has r o.0 privileges.Rw o.2 e), mapped_to r o.0 o.2 p), (of_task task r o.0 o.2 own_task, numbered_so r o.0 o.2)))
  read_suits task r own_task found privileges.Wd e = rw e tt
  read_suits task r own_task found (privileges.Red op) e = rw e tt

  change_suits : (task : ℕ) (r : Req) → id_of t r.item ≡ task → req_at t r.item r.number ≡ Some r → (a : Priv) → r.access ≡ a
      → IfSome (changing t task r) Suits
  change_suits task r own_task found privileges.Ro e = rw e tt
  change_suits task r own_task found privileges.Rw e =
      let o = own r found in
      rw e (λ p. subst (λ q. IsFit (action_at t (acts.Write task r.item r.number q) p)) (sym o.1)
      ((inl (has r o.0 privileges.Rw o.2 e), mapped_to r o.0 o.2 p), of_task task r o.0 o.2 own_task))
  change_suits task r own_task found privileges.Wd e =
      let o = own r found in
      rw e (λ p. subst (λ q. IsFit (action_at t (acts.Write task r.item r.number q) p)) (sym o.1)
      ((inr (has r o.0 privileges.Wd o.2 e), mapped_to r o.0 o.2 p), of_task task r o.0 o.2 own_task))
  change_suits task r own_task found (privileges.Red op) e =
      let o = own r found in
      rw e (λ p. subst (λ q. IsFit (action_at t (acts.Reduce task r.item r.number q op) p)) (sym o.1)
      ((has r o.0 (privileges.Red op) o.2 e, mapped_to r o.0 o.2 p), (of_task task r o.0 o.2 own_task, numbered_so r o.0 o.2)))

  pass_suits : (r : Req) (o : Option Act) → IfSome o Suits → IfSome (pass_for r o) (λ (p : Pass). Suits p.act)
  pass_suits r None h = tt
  pass_suits r (Some act) h = h

  -- ---- the sweeps of an operation

  module _ (numbered : AreNumbered t) where
    found : (item : ℕ) (r : Req) → Contains (reqs_of t item) r → req_at t r.item r.number ≡ Some r
    found item r m =
        let c = m in
        let here : slice_get (reqs_of t item) c.0 ≡ Some r = slice_get-get_or (reqs_of t item) c.0 r c.1 ∙ ap (λ x. Some x) c.2 in
        let at = numbered.found item c.0 c.1 ∙ here in
        let both = and_parts (r.item == item) (r.number == c.0 + 1)
        (found_at (λ (q : Req). (q.item == item) && (q.number == c.0 + 1)) t.reqs r at).1 in
        ap₂ (λ i n. req_at t i n) (eqb-true r.item item both.0) (eqb-true r.number (c.0 + 1) both.1) ∙ at

    task_of : (item : ℕ) (r : Req) → Contains (reqs_of t item) r → id_of t r.item ≡ id_of t item
    task_of item r m = ap (id_of t) (eqb-true r.item item (of_filter (λ (r : Req). r.item == item) t.reqs r m).1)

    sweep_suits : (op : Op) (o : Option Pass) → Contains (passes_of t op) o → IfSome o (λ (p : Pass). Suits p.act)
    sweep_suits (operations.Run item) o m =
        let task = id_of t item in
        let reads : Req → Option Pass = λ r. pass_for r (reading t task r) in
        let changes : Req → Option Pass = λ r. pass_for r (changing t task r) in
        elim (Contains-append_cases (map reads (reqs_of t item)) (map changes (reqs_of t item)) o m) [
          | inl a ↦
              let r = member_map reads (reqs_of t item) o a in
              subst (λ o. IfSome o (λ (p : Pass). Suits p.act)) (sym r.2)
              (pass_suits r.0 (reading t task r.0) (read_suits task r.0 (task_of item r.0 r.1) (found item r.0 r.1) r.0.access refl))
          | inr b ↦
              let r = member_map changes (reqs_of t item) o b in
              subst (λ o. IfSome o (λ (p : Pass). Suits p.act)) (sym r.2)
              (pass_suits r.0 (changing t task r.0) (change_suits task r.0 (task_of item r.0 r.1) (found item r.0 r.1) r.0.access refl))
        ]
    sweep_suits (operations.Copy src dst space fields) o m =
        subst (λ o. IfSome o (λ (p : Pass). Suits p.act)) (sym (only m)) (λ p. (tt, tt))
    sweep_suits (operations.Put inst space fields n) o m = subst (λ o. IfSome o (λ (p : Pass). Suits p.act)) (sym (only m)) (λ p. (tt, tt))
    sweep_suits (operations.Reset inst space fields) o m = subst (λ o. IfSome o (λ (p : Pass). Suits p.act)) (sym (only m)) (λ p. (tt, tt))
    sweep_suits (operations.Fold src dst space fields) o m =
        subst (λ o. IfSome o (λ (p : Pass). Suits p.act)) (sym (only m)) (λ p. (tt, tt))
    sweep_suits operations.Merge o m = absurd (Contains-nil m)

    one_by : (o : Option Pass) → IfSome o (λ (p : Pass). Suits p.act) → (a : Action) → Contains (actions_of_pass t o) a → IsFit a
    one_by None h a m = absurd (Contains-nil m)
    one_by (Some p) h a m = let q = member_map (action_at t p.act) (grid (points_in t p.space) p.fields) a m in
        subst IsFit (sym q.2) (h q.0)

    each_fit : (op : Op) (a : Action) → Contains (rest_actions t op 0) a → IsFit a
    each_fit op a m = let o = member_flat (actions_of_pass t) (passes_of t op) a m in one_by o.0 (sweep_suits op o.0 o.1) a o.2

    pub all_by : (op : Op) → AllByRecursion (IsBy t) (rest_actions t op 0)
    all_by op = recursion_from_All (IsBy t) (rest_actions t op 0)
        (all_contained (IsBy t) (rest_actions t op 0) (λ a m. (each_fit op a m).0))

    pub all_own : (op : Op) → AllByRecursion (IsOwn t) (rest_actions t op 0)
    all_own op = recursion_from_All (IsOwn t) (rest_actions t op 0)
        (all_contained (IsOwn t) (rest_actions t op 0) (λ a m. (each_fit op a m).1))
