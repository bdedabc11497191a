use Rattle.std.proofs.Common.{sym, ◌∙◌}
use Rattle.std.proofs.lemmas.Bool.{both_ways, false≢true}
use Rattle.launch_claims.proofs.Reaching.{no_clash_apart, no_point, clash_where_both, both_where_clash}
use Rattle.launch_claims.proofs.reach.clashes_with_seen.Goals as goal

pub returns-then-not-share_field : goal.returns-then-not-share_field
returns-then-not-share_field c = λ seen h behind none. (
  λ told. absurd (false≢true told),
  λ some. absurd (no_clash_apart seen c.args.reach.now c.args.claim.now (sym c.share_field.ensures
      ∙ c.if-not-share_field.true) h behind some),
)

pub returns-then-claim : goal.returns-then-claim
returns-then-claim c = λ seen h behind none. (
  λ told. absurd (false≢true told),
  λ some. absurd (no_point seen c.args.claim.now c.if-claim.true some),
)

pub returns-then-is_within : goal.returns-then-is_within
returns-then-is_within c = λ seen h behind none.
    let d = c.args.claim.now in
    let o = c.reach_of_other_tasks-tasks.result in
    let p = c.reach_of_other_accesses-accesses.result in
    let tasks = c.reach_of_other_tasks-tasks.ensures seen h in
    let accesses = c.reach_of_other_accesses-accesses.ensures seen h in (
      λ told. clash_where_both seen d o p tasks accesses behind c.if-claim.false none (c.is_within.ensures.0 c.if-is_within.true)
          (c.is_within-then-is_within.ensures.0 told),
      λ some. c.is_within-then-is_within.ensures.1 (both_where_clash seen d o p tasks accesses some).1,
    )

pub returns-else-is_within : goal.returns-else-is_within
returns-else-is_within c = λ seen h behind none.
    let d = c.args.claim.now in
    let o = c.reach_of_other_tasks-tasks.result in
    let p = c.reach_of_other_accesses-accesses.result in
    let tasks = c.reach_of_other_tasks-tasks.ensures seen h in
    let accesses = c.reach_of_other_accesses-accesses.ensures seen h in (
      λ told. absurd (both_ways c.is_within.result c.if-is_within.false told),
      λ some. c.is_within.ensures.1 (both_where_clash seen d o p tasks accesses some).0,
    )
