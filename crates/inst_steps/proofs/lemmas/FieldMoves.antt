-- What a node does is, at point 0, what it would do if each of its spaces that has points had that point alone.
use Rattle.std.proofs.Common.{◌≡◌, ℕ, inl, inr, List, [], ◌∷◌, map, Option, Some, None, slice_get, Contains, refl, sym, ap, ◌∙◌, subst}
use Rattle.vocabulary.specs.Prelude.{Move, Op, Tables, points_in, grid, moves_of}
use Rattle.log_laws.proofs.lemmas.Apart.{member_grid}
use Rattle.list_lemmas.proofs.lemmas.Contained.{member_flat, flat_member, member_map, map_member, Contains-here, Contains-nil}
use Rattle.list_lemmas.proofs.lemmas.Firsts.{cases_option}
use Rattle.point_laws.specs.Axes.{ByPoint, move_to}
use Rattle.point_set.specs.Least.{IsLeastOf}
use Rattle.inst_steps.specs.declared.act.Act.{Act}
use Rattle.inst_steps.specs.declared.act.Act.TheVariants as acts
use Rattle.inst_steps.specs.Sweeps.{Pass, move_at, moves_of_pass, passes_of}
use Rattle.inst_steps.specs.Stepping.{moves_at}
use Rattle.inst_steps.specs.FieldMoves.{field_moves, field_moves_at, field_moves_of, moves_in_fields}
use Rattle.inst_steps.proofs.Sweeping.{sweeps_are}

act_to : (t : Tables) (act : Act) (p : ℕ × ℕ) → move_to ByPoint 0 (move_at t act p) ≡ move_at t act (0, p.1)
act_to t (acts.Read task item number req) p = refl
act_to t (acts.Write task item number req) p = refl
act_to t (acts.Reduce task item number req op) p = refl
act_to t (acts.Copy src dst) p = refl
act_to t (acts.Put inst n) p = refl
act_to t (acts.Reset inst) p = refl
act_to t (acts.Fold op src dst) p = refl

pub with_none : (t : Tables) (p : Pass) (points : List ℕ) → IsLeastOf points None → moves_in_fields t p points ≡ []
with_none t p [] least = refl
with_none t p (x ∷ xs) least = absurd (least x (Contains-here xs))

pub with_some : (t : Tables) (p : Pass) (points : List ℕ) (x : ℕ) → Contains points x
    → moves_in_fields t p points ≡ map (λ f. move_at t p.act (0, f)) p.fields
with_some t p [] x has = absurd (Contains-nil has)
with_some t p (y ∷ ys) x has = refl

of_sweep : (t : Tables) (o : Option Pass) (m : Move) → Contains (moves_of_pass t o) m → Contains (field_moves_of t o) (move_to ByPoint 0 m)
of_sweep t None m h = absurd (Contains-nil h)
of_sweep t (Some p) m h =
    let at = member_map (move_at t p.act) (grid (points_in t p.space) p.fields) m h in
    let of = member_grid (points_in t p.space) p.fields at.0 at.1 in
    subst (Contains (field_moves_of t (Some p))) (sym (ap (move_to ByPoint 0) at.2 ∙ act_to t p.act at.0))
    (subst (λ ms. Contains ms (move_at t p.act (0, (at.0).1))) (sym (with_some t p (points_in t p.space) (at.0).0 of.0))
    (map_member (λ f. move_at t p.act (0, f)) p.fields (at.0).1 of.1))

of_op : (t : Tables) (op : Op) (m : Move) → Contains (moves_of t op) m → Contains (field_moves t op) (move_to ByPoint 0 m)
of_op t op m h =
    let at = member_flat (moves_of_pass t) (passes_of t op) m (subst (λ ms. Contains ms m) (sym (sweeps_are t op)) h) in
    flat_member (field_moves_of t) (passes_of t op) at.0 (move_to ByPoint 0 m) at.1 (of_sweep t at.0 m at.2)

pub of_node : (t : Tables) (node : ℕ) (m : Move) → Contains (moves_at t node) m → Contains (field_moves_at t node) (move_to ByPoint 0 m)
of_node t node m h = elim (cases_option (slice_get t.nodes node)) [
  | inl none ↦ absurd (Contains-nil (rw none at h))
  | inr some ↦ rw some.1 (of_op t some.0.op m (rw some.1 at h))
]
