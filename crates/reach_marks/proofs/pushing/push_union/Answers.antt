use Rattle.std.proofs.Common.{arith, ◌≡◌, ◌<◌, ◌+◌, ◌*◌, ◌∙◌, ℕ, List, [], get_or, length, sym, ap, subst, All, ◌-◌, true}
use Rattle.std.proofs.lemmas.List.{get_or_default, length-set}
use Rattle.bit_words.specs.Bits.{has_bit}
use Rattle.reach_marks.specs.Columns.{AddsTag, AreTags}
use Rattle.reach_marks.specs.Unions.{bits_have}
use Rattle.reach_marks.proofs.JoinedRows.{bits_at}
use Rattle.reach_marks.proofs.Tagged.{adds_same, all_added, all_one, done_more, grown, kept_more, left_less, long_tags}
use Rattle.reach_marks.proofs.pushing.push_union.Goals as goal
use Rattle.reach_marks.proofs.pushing.push_union.Goals.{then-k-row+in_ok-push_whole, else-k-row+in_ok-push_bits_tag}

column : (c : goal.After-as_slice) → c.index_mut-else-k-row.result.now ≡ get_or c.loop-k.columns.items c.loop-k.k []
column c = c.index_mut-else-k-row.ensures.value
    ∙ sym (get_or_default c.loop-k.columns.items c.loop-k.k [] c.index_mut-else-k-row.result.now (omega (arith, c.loop-k.invariant.each)))

pub push_whole-requires : goal.push_whole-requires
push_whole-requires c = subst (λ (d : List ℕ). AreTags d c.loop-k.pool.items)
    (sym (c.index_mut.ensures.value
    ∙ sym (get_or_default c.loop-k.columns.items c.loop-k.k [] c.index_mut.result.now (omega (arith, c.loop-k.invariant.each)))))
    (c.loop-k.invariant.kept c.loop-k.k)

pub push_bits_tag-requires-clause-tags : goal.push_bits_tag-requires-clause-tags
push_bits_tag-requires-clause-tags c = subst (λ (d : List ℕ). AreTags d c.loop-k.pool.items) (sym (column c)) (c.loop-k.invariant.kept c.loop-k.k)

pub push_bits_tag-requires-clause-known : goal.push_bits_tag-requires-clause-known
push_bits_tag-requires-clause-known c =
    let long = long_tags c.args.pool.now.items c.args.columns.now.items c.args.count c.requires.columns c.loop-k.k
    (omega (arith, c.loop-k-test.true, c.len-k-end.ensures)) in
    let same : length c.index_mut-else-k-row.result.now ≡ length (get_or c.args.columns.now.items c.loop-k.k []) =
    ap (λ (ts : List ℕ). length ts) (column c ∙ c.loop-k.invariant.left c.loop-k.k (omega arith)) in
    subst (λ (ws : List ℕ). All (λ w. w < 1024 * c.loop-k.k + length c.index_mut-else-k-row.result.now) ws) (sym c.as_slice.ensures)
    (all_one (c.args.count - 1) (1024 * c.loop-k.k + length c.index_mut-else-k-row.result.now) (omega (arith, c.requires.some, long, same)))

pub loop-k-preserved : goal.loop-k-preserved
loop-k-preserved c =
    let pool0 = c.args.pool.now.items in
    let pool = c.loop-k.pool.items in
    let old = c.args.columns.now.items in
    let now = c.loop-k.columns.items in
    let k = c.loop-k.k in
    let i = c.loop-k.invariant in
    let blocks = c.args.row.now.blocks.now in
    let has = bits_have blocks in
    let lt : k < length old = omega (arith, c.loop-k-test.true, c.len-k-end.ensures) in
    elim c.if-k-row.branch [
      | then-k-row+in_ok-push_whole w ↦
          let new = w.push_whole.new.pool.items in
          let tags = w.push_whole.new.column in
          let column : w.index_mut.result.now ≡ get_or now k [] = w.index_mut.ensures.value
          ∙ sym (get_or_default now k [] w.index_mut.result.now (omega (arith, i.each))) in
          let adds : AddsTag pool new (get_or now k []) tags (λ j. has (1024 * k + j)) =
          adds_same pool new (get_or now k []) tags (λ j. true) (λ j. has (1024 * k + j))
          (λ j less. sym (c.requires.whole (1024 * k + j) (omega (arith, w.if-k-row.true, less))
          (omega (arith, less, lt, c.requires.each))))
          (subst (λ (ts : List ℕ). AddsTag pool new ts tags (λ j. true)) column w.in_ok-push_whole.ensures) in
          rw (w.pool-is, w.columns-is) record {
            each = length-set now k tags ∙ i.each;
            grows = grown pool0 pool new i.grows adds.grows;
            kept = kept_more pool0 pool new old now k tags has lt i.each i.grows c.requires.tags i.kept i.left adds;
            done = done_more pool0 pool new old now k tags has lt i.each i.grows c.requires.tags i.kept i.left adds i.done;
            left = left_less pool0 pool new old now k tags has lt i.each i.grows c.requires.tags i.kept i.left;
          }
      | else-k-row+in_ok-push_bits_tag w ↦
          let new = w.push_bits_tag.new.pool.items in
          let tags = w.push_bits_tag.new.column in
          let column : w.index_mut-else-k-row.result.now ≡ get_or now k [] = w.index_mut-else-k-row.ensures.value
          ∙ sym (get_or_default now k [] w.index_mut-else-k-row.result.now (omega (arith, i.each))) in
          let adds : AddsTag pool new (get_or now k []) tags (λ j. has (1024 * k + j)) =
          adds_same pool new (get_or now k []) tags (has_bit (get_or blocks k [])) (λ j. has (1024 * k + j))
          (λ j less. sym (bits_at blocks k j less))
          (subst (λ (ts : List ℕ). AddsTag pool new ts tags (has_bit (get_or blocks k []))) column w.in_ok-push_bits_tag.ensures) in
          rw (w.pool-is, w.columns-is) record {
            each = length-set now k tags ∙ i.each;
            grows = grown pool0 pool new i.grows adds.grows;
            kept = kept_more pool0 pool new old now k tags has lt i.each i.grows c.requires.tags i.kept i.left adds;
            done = done_more pool0 pool new old now k tags has lt i.each i.grows c.requires.tags i.kept i.left adds i.done;
            left = left_less pool0 pool new old now k tags has lt i.each i.grows c.requires.tags i.kept i.left;
          }
    ]

pub returns : goal.returns
returns c = all_added c.args.pool.now.items c.loop-k.pool.items c.args.columns.now.items c.loop-k.columns.items _ c.loop-k.invariant.each
    c.loop-k.invariant.grows c.loop-k.invariant.kept
    (λ m lt. c.loop-k.invariant.done m (omega (arith, lt, c.loop-k-test.false, c.len-k-end.ensures)))
