-- How many records a stencil log has.
use Rattle.std.proofs.Common.{◌≡◌, ℕ, ◌+◌, ◌-◌, ◌*◌, ◌≤◌, ◌++◌, length, refl, arith}
use Rattle.std.proofs.lemmas.List.{length-append}
use Rattle.spy_grammar.specs.declared.record.Record.TheVariants.{End}
use Rattle.log_gen.specs.Stencil.{for_each, one, head, piece_space, halo_space, boundary_spaces, tree, instance, fill, put, stencil_run, update_run, copies, step, spaces, instances, stencil}
use Rattle.log_gen.proofs.Each.{each_length}

step_length : (n s : ℕ) → 1 ≤ n → length (step n s) ≡ 14 * n - 2
step_length n s some =
    let a = each_length n 6 (stencil_run n s) (λ i. refl) in
    let b = each_length n 6 (update_run n s) (λ i. refl) in
    let c = each_length (n - 1) 2 (copies n s) (λ j. refl) in
    let ab = length-append (for_each n (stencil_run n s)) (for_each n (update_run n s)) in
    let all = length-append (for_each n (stencil_run n s) ++ for_each n (update_run n s)) (for_each (n - 1) (copies n s)) in
    omega (arith, some, a, b, c, ab, all)

spaces_length : (n : ℕ) → 1 ≤ n → length (spaces n) ≡ 6 * n + 2
spaces_length n some =
    let a = each_length n 2 piece_space (λ i. refl) in
    let b = each_length n 2 (halo_space n) (λ i. refl) in
    let c = each_length (n - 1) 2 (boundary_spaces n) (λ j. refl) in
    let ha = length-append (head n) (for_each n piece_space) in
    let hab = length-append (head n ++ for_each n piece_space) (for_each n (halo_space n)) in
    let all = length-append (head n ++ for_each n piece_space ++ for_each n (halo_space n)) (for_each (n - 1) (boundary_spaces n)) in
    omega (arith, some, a, b, c, ha, hab, all)

instances_length : (n : ℕ) → length (instances n) ≡ 2 * n + 3
instances_length n =
    let a = each_length n 1 (instance n) (λ i. refl) in
    let b = each_length n 1 (put n) (λ i. refl) in
    let ta = length-append tree (for_each n (instance n)) in
    let taf = length-append (tree ++ for_each n (instance n)) fill in
    let all = length-append (tree ++ for_each n (instance n) ++ fill) (for_each n (put n)) in
    omega (arith, a, b, ta, taf, all)

pub log_length : (n : ℕ) → 1 ≤ n → length (stencil n) ≡ 148 * n - 14
unfolding stencil
log_length n some =
    let a = spaces_length n some in
    let b = instances_length n in
    let c = each_length 10 (14 * n - 2) (step n) (λ s. step_length n s some) in
    let ab = length-append (spaces n) (instances n) in
    let abc = length-append (spaces n ++ instances n) (for_each 10 (step n)) in
    let all = length-append (spaces n ++ instances n ++ for_each 10 (step n)) (one (End (148 * n - 16))) in
    omega (arith, some, a, b, c, ab, abc, all)
