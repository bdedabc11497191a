use Rattle.std.proofs.Common.{arith, ◌≡◌, ◌+◌, ℕ, true, List, [], get_or, length, subst, inl, inr}
use Rattle.std.proofs.lemmas.Bool.{cases_lt}
use Rattle.std.proofs.lemmas.List.{length_push}
use Rattle.reach_marks.specs.Blocks.{block_in, is_full_block}
use Rattle.reach_marks.specs.Columns.{AreStored, columns_in}
use Rattle.reach_marks.proofs.Columned.{fronts_more}
use Rattle.reach_marks.proofs.rows.with_front.Goals as goal

pub invariant_of-result : goal.invariant_of-result
invariant_of-result c =
    let columns = c.args.rows.columns.items in
    let pool = c.args.rows.pool.items in
    let fronts = c.args.rows.fronts.items in
    let n = length fronts in
    let front = c.whole_front-front.result in
    let count : c.len-count.result ≡ n = omega arith in
    let full = λ (cs : List (List ℕ)) (m k : ℕ). is_full_block (block_in k (get_or (columns_in pool cs) k []) m) ≡ true in
    rw (c.in_ok-push.ensures.items, length_push fronts front) (
      subst (λ m. AreStored pool c.open_column.new.columns.items (m + 1)) count (c.in_ok-open_column.ensures.stored pool c.requires.tags),
      rw (c.in_ok-open_column.ensures.same pool (n + 1)) (fronts_more (columns_in pool columns) fronts front c.requires.fronts
          (λ k lt. elim (cases_lt k c.args.from) [
            | inl before ↦ c.requires.whole k before
            | inr ge ↦ subst (λ m. full columns m k) count
                (subst (λ cs. full cs c.len-count.result k) c.as_slice.ensures.value (c.whole_front-front.ensures k ge lt pool))
          ])),
    )

pub returns : goal.returns
returns c = rw (c.in_ok-push.ensures.items, length_push c.args.rows.fronts.items c.whole_front-front.result)
    (c.in_ok-open_column.ensures.same c.args.rows.pool.items (length c.args.rows.fronts.items + 1))
