-- Each record of a stencil log has a spelling.
use Rattle.std.proofs.Common.{ℕ, ◌+◌, ◌-◌, ◌*◌, ◌==◌, ◌<◌, ◌≤◌, Bool, true, false, List, [], ◌∷◌, ◌++◌, arith}
use Rattle.std.specs.Prelude.{nat_lt, if◌then◌else◌}
use Rattle.std.specs.List.{AllByRecursion}
use Rattle.spy_words.specs.Classes.{IsNumberFrom}
use Rattle.spy_grammar.specs.Spelling.{Good}
use Rattle.spy_grammar.specs.declared.record.Record.TheVariants.{End}
use Rattle.log_gen.specs.Numbers.{right_event, left_event, update_event, stencil_event}
use Rattle.log_gen.specs.Waits.{listed, copy_from_left, copy_from_right, copy_to_left, copy_to_right, stencil_waits, update_waits, right_waits, left_waits}
use Rattle.log_gen.specs.Stencil.{for_each, one, head, piece_space, halo_space, boundary_spaces, tree, instance, fill, put, stencil_run, update_run, copies, step, spaces, instances, stencil}
use Rattle.log_gen.proofs.Each.{joined, each_good}
use Rattle.log_gen.proofs.Numbered.{tasks_are_few, events_are_few}

-- ---- what is declared

head_good : (n : ℕ) → n ≤ 500 → AllByRecursion Good (head n)
head_good n few = grind arith

piece_good : (i : ℕ) → i < 500 → AllByRecursion Good (piece_space i)
piece_good i lt = grind arith

halo_good : (n i : ℕ) → n ≤ 500 → i < n → AllByRecursion Good (halo_space n i)
halo_good n i few lt = grind arith

boundary_good : (n j : ℕ) → n ≤ 500 → j < n - 1 → AllByRecursion Good (boundary_spaces n j)
boundary_good n j few lt = grind arith

tree_good : AllByRecursion Good tree
tree_good = grind arith

instance_good : (n i : ℕ) → n ≤ 500 → i < n → AllByRecursion Good (instance n i)
instance_good n i few lt = grind arith

fill_good : AllByRecursion Good fill
fill_good = grind arith

put_good : (n i : ℕ) → n ≤ 500 → i < n → AllByRecursion Good (put n i)
put_good n i few lt = grind arith

-- ---- what operations wait on

abbrev Events : List ℕ → Type 0
Events waits = AllByRecursion (IsNumberFrom 1) waits

chosen : (there : Bool) (xs ys : List ℕ) → Events xs → Events ys → Events (if there then xs else ys)
chosen true xs ys p q = p
chosen false xs ys p q = q

listed_good : (there : Bool) (event : ℕ) → IsNumberFrom 1 event → Events (listed there event)
listed_good true event good = (good, tt)
listed_good false event good = tt

both_good : (xs ys : List ℕ) → Events xs → Events ys → Events (xs ++ ys)
both_good [] ys p q = q
both_good (x ∷ xs) ys p q = (p.0, both_good xs ys p.1 q)

stencil_good : (n s i : ℕ) → n ≤ 500 → s < 10 → i < n → IsNumberFrom 1 (stencil_event n s i)
stencil_good n s i few early lt = let e = events_are_few n s few early in grind (arith, e)

update_good : (n s i : ℕ) → n ≤ 500 → s < 10 → i < n → IsNumberFrom 1 (update_event n s i)
update_good n s i few early lt = let e = events_are_few n s few early in grind (arith, e)

right_good : (n s j : ℕ) → n ≤ 500 → s < 10 → j < n → IsNumberFrom 1 (right_event n s j)
right_good n s j few early lt = let e = events_are_few n s few early in grind (arith, e)

left_good : (n s j : ℕ) → n ≤ 500 → s < 10 → j < n → IsNumberFrom 1 (left_event n s j)
left_good n s j few early lt = let e = events_are_few n s few early in grind (arith, e)

stencil_waits_good : (n s i : ℕ) → n ≤ 500 → s < 10 → i < n → Events (stencil_waits n s i)
stencil_waits_good n s i few early lt =
    let earlier : s - 1 < 10 = omega (arith, early) in
    chosen (s == 0) _ _ ((omega arith, omega (arith, few, lt)), tt) (
      update_good n (s - 1) i few earlier lt,
      both_good (copy_from_left n (s - 1) i) (copy_from_right n (s - 1) i)
          (listed_good (nat_lt 0 i) _ (right_good n (s - 1) (i - 1) few earlier (omega (arith, lt))))
          (listed_good (nat_lt i (n - 1)) _ (left_good n (s - 1) i few earlier lt)),
    )

update_waits_good : (n s i : ℕ) → n ≤ 500 → s < 10 → i < n → Events (update_waits n s i)
update_waits_good n s i few early lt =
    let earlier : s - 1 < 10 = omega (arith, early) in
    let own = stencil_good n s i few early lt in
    chosen (s == 0) _ _ (own, tt) (
      own,
      both_good (copy_to_left n (s - 1) i) (copy_to_right n (s - 1) i)
          (listed_good (nat_lt 0 i) _ (left_good n (s - 1) (i - 1) few earlier (omega (arith, lt))))
          (listed_good (nat_lt i (n - 1)) _ (right_good n (s - 1) i few earlier lt)),
    )

right_waits_good : (n s j : ℕ) → n ≤ 500 → s < 10 → j < n - 1 → Events (right_waits n s j)
right_waits_good n s j few early lt =
    (update_good n s j few early (omega (arith, lt)), (stencil_good n s (j + 1) few early (omega (arith, lt)), tt))

left_waits_good : (n s j : ℕ) → n ≤ 500 → s < 10 → j < n - 1 → Events (left_waits n s j)
left_waits_good n s j few early lt =
    (update_good n s (j + 1) few early (omega (arith, lt)), (stencil_good n s j few early (omega (arith, lt)), tt))

-- ---- steps

stencil_run_good : (n s i : ℕ) → n ≤ 500 → s < 10 → i < n → AllByRecursion Good (stencil_run n s i)
stencil_run_good n s i few early lt =
    let t = tasks_are_few n s few early in
    let e = stencil_good n s i few early lt in
    let w = stencil_waits_good n s i few early lt in
    grind (arith, t, e, w)

update_run_good : (n s i : ℕ) → n ≤ 500 → s < 10 → i < n → AllByRecursion Good (update_run n s i)
update_run_good n s i few early lt =
    let t = tasks_are_few n s few early in
    let e = update_good n s i few early lt in
    let w = update_waits_good n s i few early lt in
    grind (arith, t, e, w)

copies_good : (n s j : ℕ) → n ≤ 500 → s < 10 → j < n - 1 → AllByRecursion Good (copies n s j)
copies_good n s j few early lt =
    let inside : j < n = omega (arith, lt) in
    let r = right_good n s j few early inside in
    let l = left_good n s j few early inside in
    let v = right_waits_good n s j few early lt in
    let w = left_waits_good n s j few early lt in
    grind (arith, r, l, v, w)

step_good : (n s : ℕ) → n ≤ 500 → s < 10 → AllByRecursion Good (step n s)
step_good n s few early =
    let a = each_good n (stencil_run n s) (λ i lt. stencil_run_good n s i few early lt) in
    let b = each_good n (update_run n s) (λ i lt. update_run_good n s i few early lt) in
    let c = each_good (n - 1) (copies n s) (λ j lt. copies_good n s j few early lt) in
    let ab = joined (for_each n (stencil_run n s)) _ a b in
    joined (for_each n (stencil_run n s) ++ for_each n (update_run n s)) _ ab c

-- ---- the log

spaces_good : (n : ℕ) → n ≤ 500 → AllByRecursion Good (spaces n)
spaces_good n few =
    let a = each_good n piece_space (λ i lt. piece_good i (omega (arith, few, lt))) in
    let b = each_good n (halo_space n) (λ i lt. halo_good n i few lt) in
    let c = each_good (n - 1) (boundary_spaces n) (λ j lt. boundary_good n j few lt) in
    let ha = joined (head n) _ (head_good n few) a in
    let hab = joined (head n ++ for_each n piece_space) _ ha b in
    joined (head n ++ for_each n piece_space ++ for_each n (halo_space n)) _ hab c

instances_good : (n : ℕ) → n ≤ 500 → AllByRecursion Good (instances n)
instances_good n few =
    let a = each_good n (instance n) (λ i lt. instance_good n i few lt) in
    let b = each_good n (put n) (λ i lt. put_good n i few lt) in
    let ta = joined tree _ tree_good a in
    let taf = joined (tree ++ for_each n (instance n)) fill ta fill_good in
    joined (tree ++ for_each n (instance n) ++ fill) _ taf b

pub log_good : (n : ℕ) → n ≤ 500 → AllByRecursion Good (stencil n)
unfolding stencil
log_good n few =
    let s = each_good 10 (step n) (λ s lt. step_good n s few lt) in
    let si = joined (spaces n) (instances n) (spaces_good n few) (instances_good n few) in
    let all = joined (spaces n ++ instances n) (for_each 10 (step n)) si s in
    joined (spaces n ++ instances n ++ for_each 10 (step n)) (one (End (148 * n - 16))) all ((omega arith, omega (arith, few)), tt)
