-- Operations are their sweeps.
use Rattle.std.proofs.Common.{◌≡◌, ℕ, zero, suc, ◌+◌, ◌<◌, List, [], ◌∷◌, ◌++◌, map, flat_map, drop, length, get_or, Option, Some, None, unwrap_or, slice_get, refl, sym, ap, ap₂, ◌∙◌, arith}
use Rattle.std.specs.Option.{option_map_or}
use Rattle.std.proofs.Math.Path.{fun_ext}
use Rattle.std.proofs.lemmas.List.{drop_all, append-nil, map-append}
use Rattle.std.proofs.lemmas.List.Concat.{flat_map_single, flat_map-append}
use Rattle.vocabulary.specs.Prelude.{Priv, Move, Req, Op, Tables, points_in, reqs_of, grid, req_grid, id_of, operator_of, mapped_cell, reads_by, changes_by, moves_of, LogNode}
use Rattle.privilege.specs.declared.kinds.Priv.TheVariants as privileges
use Rattle.semantics.specs.declared.tables.Op.TheVariants as operations
use Rattle.point_laws.specs.Cut.{kept, cut_to}
use Rattle.point_laws.proofs.lemmas.Cuts.{points_cut_to}
use Rattle.inst_steps.specs.declared.act.Act.{Act}
use Rattle.inst_steps.specs.declared.act.Act.TheVariants as acts
use Rattle.inst_steps.specs.declared.act.Action.{Action}
use Rattle.inst_steps.specs.Acting.{steps_in}
use Rattle.inst_steps.specs.Sweeps.{Pass, pass, pass_at, action_at, move_at, own_place, pass_actions, pass_moves, actions_of_pass, moves_of_pass, reading, changing, pass_for, passes_of}
use Rattle.std.proofs.lemmas.Option.{slice_get-get_or}
use Rattle.std.specs.Prelude.{IfSome}
use Rattle.inst_steps.specs.declared.spot.Spot.{Spot}
use Rattle.inst_steps.specs.Stepping.{rest_actions, spots_left, spot_grid, spot_actions}

-- ---- the sweeps of an operation make its moves

none_of : {X Y : Type 0} (xs : List X) → ◌≡◌ {A = List Y} (flat_map (λ x. []) xs) []
none_of [] = refl
none_of (x ∷ xs) = none_of xs

reads_are : (t : Tables) (task : ℕ) (r : Req) → (a : Priv) → r.access ≡ a
    → flat_map (λ p. reads_by task r.number r.access (mapped_cell t r p)) (req_grid t r) ≡ moves_of_pass t (pass_for r (reading t task r))
reads_are t task r privileges.Ro e = rw e (flat_map_single (move_at t (acts.Read task r.item r.number (own_place t r))) (req_grid t r))
reads_are t task r privileges.Rw e = rw e (flat_map_single (move_at t (acts.Read task r.item r.number (own_place t r))) (req_grid t r))
reads_are t task r privileges.Wd e = rw e (none_of (req_grid t r))
reads_are t task r (privileges.Red op) e = rw e (none_of (req_grid t r))

changes_are : (t : Tables) (task : ℕ) (r : Req) → (a : Priv) → r.access ≡ a
    → flat_map (λ p. changes_by task r.number r.access (mapped_cell t r p)) (req_grid t r)
    ≡ moves_of_pass t (pass_for r (changing t task r))
changes_are t task r privileges.Ro e = rw e (none_of (req_grid t r))
changes_are t task r privileges.Rw e = rw e (flat_map_single (move_at t (acts.Write task r.item r.number (own_place t r))) (req_grid t r))
changes_are t task r privileges.Wd e = rw e (flat_map_single (move_at t (acts.Write task r.item r.number (own_place t r))) (req_grid t r))
changes_are t task r (privileges.Red op) e = rw e
    (flat_map_single (move_at t (acts.Reduce task r.item r.number (own_place t r) op)) (req_grid t r))

flat_of_map : {X Y Z : Type 0} (g : Y → List Z) (f : X → Y) (h : X → List Z) → ((x : X) → h x ≡ g (f x)) → (xs : List X)
    → flat_map h xs ≡ flat_map g (map f xs)
flat_of_map g f h e [] = refl
flat_of_map g f h e (x ∷ xs) = ap₂ (λ a b. a ++ b) (e x) (flat_of_map g f h e xs)

only_one : {X Y : Type 0} (g : X → List Y) (x : X) → flat_map g (x ∷ []) ≡ g x
only_one g x = append-nil (g x)

pub sweeps_are : (t : Tables) (op : Op) → flat_map (moves_of_pass t) (passes_of t op) ≡ moves_of t op
sweeps_are t (operations.Run item) =
    let task = id_of t item in
    let reads = map (λ r. pass_for r (reading t task r)) (reqs_of t item) in
    let changes = map (λ r. pass_for r (changing t task r)) (reqs_of t item) in
    flat_map-append (moves_of_pass t) reads changes
    ∙ sym (ap₂ (λ a b. a ++ b) (flat_of_map (moves_of_pass t) (λ r. pass_for r (reading t task r)) _ (λ r. reads_are t task r r.access refl)
    (reqs_of t item))
    (flat_of_map (moves_of_pass t) (λ r. pass_for r (changing t task r)) _ (λ r. changes_are t task r r.access refl) (reqs_of t item)))
sweeps_are t (operations.Copy src dst space fields) = only_one (moves_of_pass t) (Some (pass (acts.Copy src dst) space fields))
sweeps_are t (operations.Put inst space fields n) = only_one (moves_of_pass t) (Some (pass (acts.Put inst n) space fields))
sweeps_are t (operations.Reset inst space fields) = only_one (moves_of_pass t) (Some (pass (acts.Reset inst) space fields))
sweeps_are t (operations.Fold src dst space fields) =
    only_one (moves_of_pass t) (Some (pass (acts.Fold (operator_of t src) src dst) space fields))
sweeps_are t operations.Merge = refl

-- ---- cut tables

pub passes_cut : (listed : Option (List ℕ)) (t : Tables) (op : Op) → passes_of (cut_to listed t) op ≡ passes_of t op
passes_cut listed t (operations.Run item) = refl
passes_cut listed t (operations.Copy src dst space fields) = refl
passes_cut listed t (operations.Put inst space fields n) = refl
passes_cut listed t (operations.Reset inst space fields) = refl
passes_cut listed t (operations.Fold src dst space fields) = refl
passes_cut listed t operations.Merge = refl

act_cut : (listed : Option (List ℕ)) (t : Tables) (a : Act) (p : ℕ × ℕ) → move_at (cut_to listed t) a p ≡ move_at t a p
act_cut listed t (acts.Read task item number req) p = refl
act_cut listed t (acts.Write task item number req) p = refl
act_cut listed t (acts.Reduce task item number req op) p = refl
act_cut listed t (acts.Copy src dst) p = refl
act_cut listed t (acts.Put inst n) p = refl
act_cut listed t (acts.Reset inst) p = refl
act_cut listed t (acts.Fold op src dst) p = refl

pub pass_cut : (listed : Option (List ℕ)) (t : Tables) (p : Pass)
    → pass_moves (cut_to listed t) p ≡ map (move_at t p.act) (grid (kept listed (points_in t p.space)) p.fields)
pass_cut listed t p =
    ap (λ (f : ℕ × ℕ → Move). map f (grid (points_in (cut_to listed t) p.space) p.fields)) (fun_ext (act_cut listed t p.act))
    ∙ ap (λ points. map (move_at t p.act) (grid points p.fields)) (points_cut_to listed t p.space)

-- ---- the moves of actions

steps_at : (t : Tables) (a : Act) (ps : List (ℕ × ℕ)) → steps_in (map (action_at t a) ps) ≡ map (move_at t a) ps
steps_at t a [] = refl
steps_at t a (p ∷ ps) = ap (λ ms. move_at t a p ∷ ms) (steps_at t a ps)

pass_steps : (t : Tables) (o : Option Pass) → steps_in (actions_of_pass t o) ≡ moves_of_pass t o
pass_steps t None = refl
pass_steps t (Some p) = steps_at t p.act (grid (points_in t p.space) p.fields)

passes_steps : (t : Tables) (ps : List (Option Pass)) → steps_in (flat_map (actions_of_pass t) ps) ≡ flat_map (moves_of_pass t) ps
passes_steps t [] = refl
passes_steps t (o ∷ ps) = map-append (λ (a : Action). a.step) (actions_of_pass t o) (flat_map (actions_of_pass t) ps)
    ∙ ap₂ (λ xs ys. xs ++ ys) (pass_steps t o) (passes_steps t ps)

pub all_steps : (t : Tables) (op : Op) → steps_in (rest_actions t op 0) ≡ moves_of t op
all_steps t op = passes_steps t (passes_of t op) ∙ sweeps_are t op

-- ---- one sweep on

pub at_place : {X Y : Type 0} (g : Option X → List Y) → g None ≡ [] → (ps : List (Option X)) (k : ℕ)
    → flat_map g (drop k ps) ≡ g (unwrap_or (slice_get ps k) None) ++ flat_map g (drop (k + 1) ps)
at_place g none [] zero = sym (ap₂ (λ xs ys. xs ++ flat_map g ys) none (drop_all (zero + 1) [] (omega arith)))
at_place g none [] (suc k) = sym (ap₂ (λ xs ys. xs ++ flat_map g ys) none (drop_all (suc k + 1) [] (omega arith)))
at_place g none (p ∷ ps) zero = refl
at_place g none (p ∷ ps) (suc k) = at_place g none ps k
    ∙ ap (λ n. g (unwrap_or (slice_get ps k) None) ++ flat_map g (drop n (p ∷ ps))) (let e : suc (k + 1) ≡ suc k + 1 = omega arith in e)

pub one_sweep : (t : Tables) (op : Op) (k : ℕ)
    → rest_actions t op k ≡ actions_of_pass t (pass_at (passes_of t op) k) ++ rest_actions t op (k + 1)
one_sweep t op k = at_place (actions_of_pass t) refl (passes_of t op) k

-- ---- where a sweep stands

pub no_points : (t : Tables) (p : Pass) → points_in t p.space ≡ [] → pass_actions t p ≡ []
no_points t p none = ap (λ points. map (action_at t p.act) (grid points p.fields)) none

module _ {S : Type 0} (points : S → List ℕ) (t : Tables) where
  pub spot_actions_are : (act : Act) (o : Option (Spot S)) → IfSome o (λ (s : Spot S). s.act ≡ act)
      → spot_actions points t o ≡ map (action_at t act) (spots_left points o)
  spot_actions_are act None h = refl
  spot_actions_are act (Some s) h = ap (λ a. map (action_at t a) (spot_grid points s)) h

-- ---- the moves of a node

pub node_moves : {X : Type 0} (does : Op → List X) (t : Tables) (nodes : List LogNode) (node : ℕ) (d : LogNode) → nodes ≡ t.nodes
    → node < length t.nodes
    → does (get_or nodes node d).op ≡ option_map_or (λ (n : LogNode). does n.op) (slice_get t.nodes node) []
node_moves does t nodes node d same lt =
    ap (λ ns. does (get_or ns node d).op) same
    ∙ sym (ap (λ (o : Option LogNode). option_map_or (λ (n : LogNode). does n.op) o []) (slice_get-get_or t.nodes node d lt))
