use Rattle.std.proofs.Common.{arith, ◌≡◌, ◌<◌, ◌+◌, ◌*◌, ◌∙◌, ℕ, List, [], get_or, length, map, sym, ap, subst, true}
use Rattle.std.specs.List.{list_any}
use Rattle.std.proofs.lemmas.List.{get_or_default, length-set}
use Rattle.reach_marks.specs.declared.block.Block.{Block}
use Rattle.reach_marks.specs.Blocks.{block_of, reaches, reaches_in}
use Rattle.reach_marks.specs.Columns.{AddsTag, AreTags, columns_in, rows_in}
use Rattle.reach_marks.proofs.Columned.{reached_here}
use Rattle.reach_marks.proofs.Tagged.{adds_same, all_added, column_at, done_more, grown, kept_more, left_less, long_tags, same_now}
use Rattle.reach_marks.proofs.pushing.push_joined.Goals as goal

column : (c : goal.After-index_mut) → c.index_mut.result.now ≡ get_or c.loop-k.columns.items c.loop-k.k []
column c = c.index_mut.ensures.value
    ∙ sym (get_or_default c.loop-k.columns.items c.loop-k.k [] c.index_mut.result.now (omega (arith, c.loop-k.invariant.each)))

pub push_joined_tag-requires-clause-tags : goal.push_joined_tag-requires-clause-tags
push_joined_tag-requires-clause-tags c = subst (λ (d : List ℕ). AreTags d c.loop-k.pool.items) (sym (column c)) (c.loop-k.invariant.kept c.loop-k.k)

pub push_joined_tag-requires-clause-known : goal.push_joined_tag-requires-clause-known
push_joined_tag-requires-clause-known c = λ i d lt.
    let long = long_tags c.args.pool.now.items c.args.columns.now.items c.args.count c.requires.columns c.loop-k.k
    (omega (arith, c.loop-k-test.true, c.len-k-end.ensures)) in
    let same : length c.index_mut.result.now ≡ length (get_or c.args.columns.now.items c.loop-k.k []) =
    ap (λ (ts : List ℕ). length ts) (column c ∙ c.loop-k.invariant.left c.loop-k.k (omega arith)) in
    omega (arith, c.requires.waits i d lt, long, same)

pub push_joined_tag-requires-clause-whole : goal.push_joined_tag-requires-clause-whole
push_joined_tag-requires-clause-whole c = λ lt i less.
    let pool0 = c.args.pool.now.items in
    let pool = c.loop-k.pool.items in
    let old = c.args.columns.now.items in
    let now = c.loop-k.columns.items in
    let k = c.loop-k.k in
    let inv = c.loop-k.invariant in
    let waits = c.args.waits.now in
    let within : k < length old = omega (arith, c.loop-k-test.true, c.len-k-end.ensures) in
    let blocks : map (block_of pool) c.index_mut.result.now ≡ get_or (columns_in pool0 old) k [] = ap (map (block_of pool)) (column c)
    ∙ same_now pool0 pool pool old now k [] (λ _. true) within inv.each inv.grows c.requires.tags inv.kept inv.left
    ∙ sym (column_at pool0 old k) in
    ap (λ (bs : List Block). list_any (λ w. reaches_in k bs w i) waits) blocks
    ∙ reached_here (columns_in pool0 old) c.args.count waits c.requires.waits k i less
    ∙ c.requires.whole (1024 * k + i) (omega (arith, lt, less))

pub loop-k-preserved : goal.loop-k-preserved
loop-k-preserved c =
    let pool0 = c.args.pool.now.items in
    let pool = c.loop-k.pool.items in
    let new = c.push_joined_tag.new.pool.items in
    let old = c.args.columns.now.items in
    let now = c.loop-k.columns.items in
    let k = c.loop-k.k in
    let tags = c.push_joined_tag.new.column in
    let i = c.loop-k.invariant in
    let has = λ (q : ℕ). list_any (λ w. reaches (rows_in (columns_in pool0 old) c.args.count) w q) c.args.waits.now in
    let lt : k < length old = omega (arith, c.loop-k-test.true, c.len-k-end.ensures) in
    let column : c.index_mut.result.now ≡ get_or now k [] = c.index_mut.ensures.value
    ∙ sym (get_or_default now k [] c.index_mut.result.now (omega (arith, i.each))) in
    let adds : AddsTag pool new (get_or now k []) tags (λ j. has (1024 * k + j)) =
    let waits = c.args.waits.now in
    let blocks : map (block_of pool) (get_or now k []) ≡ get_or (columns_in pool0 old) k [] =
    same_now pool0 pool pool old now k [] has lt i.each i.grows c.requires.tags i.kept i.left ∙ sym (column_at pool0 old k) in
    adds_same pool new (get_or now k []) tags (λ j. list_any (λ w. reaches_in k (map (block_of pool) (get_or now k [])) w j) waits)
    (λ j. has (1024 * k + j)) (λ j less. ap (λ (bs : List Block). list_any (λ w. reaches_in k bs w j) waits) blocks
    ∙ reached_here (columns_in pool0 old) c.args.count waits c.requires.waits k j less)
    (subst (λ (ts : List ℕ). AddsTag pool new ts tags (λ j. list_any (λ w. reaches_in k (map (block_of pool) ts) w j) waits)) column
    c.in_ok-push_joined_tag.ensures) in
    record {
      each = length-set now k tags ∙ i.each;
      grows = grown pool0 pool new i.grows adds.grows;
      kept = kept_more pool0 pool new old now k tags has lt i.each i.grows c.requires.tags i.kept i.left adds;
      done = done_more pool0 pool new old now k tags has lt i.each i.grows c.requires.tags i.kept i.left adds i.done;
      left = left_less pool0 pool new old now k tags has lt i.each i.grows c.requires.tags i.kept i.left;
    }

pub returns : goal.returns
returns c = all_added c.args.pool.now.items c.loop-k.pool.items c.args.columns.now.items c.loop-k.columns.items _ c.loop-k.invariant.each
    c.loop-k.invariant.grows c.loop-k.invariant.kept
    (λ m lt. c.loop-k.invariant.done m (omega (arith, lt, c.loop-k-test.false, c.len-k-end.ensures)))
