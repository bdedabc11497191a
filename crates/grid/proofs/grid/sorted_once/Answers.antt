use Rattle.std.proofs.Common.{◌≡◌, nat_eq, sym, subst, ◌∙◌}
use Rattle.std.specs.List.{dedup}
use Rattle.std.proofs.lemmas.List.Filters.{dedup_is}
use Rattle.std.proofs.lemmas.List.Kept.{Contains-dedup_nat, Contains-from_dedup}
use Rattle.std.proofs.lemmas.List.Sorted.{Contains-permutation, IsPermutation-sym}
use Rattle.std.proofs.lemmas.Map.Keys.{IsStrictlyIncreasing-dedup}
use Rattle.grid.specs.Cuts.{AreCuts, cuts}
use Rattle.grid.proofs.lemmas.Cutting.{are_cuts, are_small}
use Rattle.grid.proofs.grid.sorted_once.Goals as goal

pub returns : goal.returns
returns c =
    let ends = c.args.ends.now.items in
    let sorted = c.sort_unstable.new.self.items in
    let perm = c.sort_unstable.ensures.permutation in
    let is : c.dedup.new.self.items ≡ cuts c.args.ends.now.items = dedup_is nat_eq sorted c.dedup.new.self.items c.dedup.ensures.filtered
    ∙ are_cuts ends (dedup nat_eq sorted) (IsStrictlyIncreasing-dedup sorted c.sort_unstable.ensures.sorted) (λ n. (
      λ h. Contains-permutation sorted ends n (IsPermutation-sym ends sorted perm) (Contains-from_dedup nat_eq sorted n h),
      λ h. Contains-dedup_nat sorted n (Contains-permutation ends sorted n perm h),
    )) in
    record { sorted = is; cuts = subst AreCuts (sym is) (are_small ends c.requires.small) }
