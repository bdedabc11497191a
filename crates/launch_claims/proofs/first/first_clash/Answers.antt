use Rattle.std.proofs.Common.{◌≤◌, List, Contains, sym, subst}
use Rattle.std.specs.List.Sorted.{IsPermutation}
use Rattle.launch_claims.specs.declared.claim.Claim.{Claim}
use Rattle.launch_claims.specs.Reaches.{AreInOrder, IsFirstUpTo}
use Rattle.launch_claims.proofs.Passing.{first_found, none_found}
use Rattle.launch_claims.proofs.first.first_clash.Goals as goal

pub first_up_to-requires : goal.first_up_to-requires
first_up_to-requires c = subst AreInOrder (sym c.as_slice-2.ensures.value) c.sort.ensures.order

pub returns-clause-found : goal.returns-clause-found
returns-clause-found c =
    let sorted = c.sort.new.claims.items in
    let most = c.highest_record-highest.result in
    let o = c.first_up_to.result in
    let perm = subst (λ (xs : List Claim). IsPermutation xs sorted) c.in_ok-sorted.ensures.items c.sort.ensures.claims in
    let found = subst (λ (xs : List Claim). IsFirstUpTo xs most o) c.as_slice-2.ensures.value c.first_up_to.ensures in
    first_found c.args.claims.now sorted most o perm found

pub returns-clause-none : goal.returns-clause-none
returns-clause-none c =
    let sorted = c.sort.new.claims.items in
    let most = c.highest_record-highest.result in
    let o = c.first_up_to.result in
    let perm = subst (λ (xs : List Claim). IsPermutation xs sorted) c.in_ok-sorted.ensures.items c.sort.ensures.claims in
    let found = subst (λ (xs : List Claim). IsFirstUpTo xs most o) c.as_slice-2.ensures.value c.first_up_to.ensures in
    let above = subst (λ (xs : List Claim). (x : Claim) → Contains xs x
    → x.record ≤ most) c.as_slice.ensures.value c.highest_record-highest.ensures in
    none_found c.args.claims.now sorted most o perm above found
