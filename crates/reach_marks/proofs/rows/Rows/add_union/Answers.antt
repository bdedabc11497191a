use Rattle.std.proofs.Common.{◌≡◌, ◌/◌, ◌<◌, ◌+◌, ◌∙◌, ℕ, true, List, length, sym, subst, arith, ap}
use Rattle.std.specs.List.{list_any}
use Rattle.reach_marks.specs.declared.block.Block.{Block}
use Rattle.reach_marks.specs.Blocks.{reaches}
use Rattle.reach_marks.specs.Columns.{AreColumns, columns_in, rows_in}
use Rattle.reach_marks.specs.Reached.{AreFronts}
use Rattle.reach_marks.specs.Unions.{bits_have}
use Rattle.reach_marks.proofs.Columned.{long_after, rows_kept, row_added, whole_at, none_past, rows_count}
use Rattle.reach_marks.proofs.Tagged.{tags_long}
use Rattle.reach_marks.proofs.rows.Rows.add_union.Goals as goal

-- The bits are those of the places that are reached.
right : (old : List (List Block)) (n : ℕ) (rows : List (List Block)) (waits : List ℕ) (blocks : List (List ℕ)) → AreColumns old n
    → rows_in old n ≡ rows → length blocks ≡ length rows / 1024 + 1
    → ((q : ℕ) → q / 1024 < length blocks → bits_have blocks q ≡ list_any (λ w. reaches rows w q) waits)
    → (q : ℕ) → q / 1024 < length old → bits_have blocks q ≡ list_any (λ w. reaches (rows_in old n) w q) waits
right old n rows waits blocks are is each bits q lt =
    let count : length rows ≡ n = ap (λ (rs : List (List Block)). length rs) (sym is) ∙ rows_count old n in
    bits q (omega (arith, lt, each, count, are.each)) ∙ ap (λ (rs : List (List Block)). list_any (λ w. reaches rs w q) waits) (sym is)

pub with_front-requires-clause-long : goal.with_front-requires-clause-long
with_front-requires-clause-long c =
    let old = columns_in c.self.inside.pool.items c.self.inside.columns.items in
    let new = columns_in c.push_union.new.pool.items c.push_union.new.columns.items in
    let n = length c.self.inside.fronts.items in
    tags_long c.push_union.new.pool.items c.push_union.new.columns.items (n + 1)
    (long_after old new n _ c.self.invariant.0.whole c.in_ok-push_union.ensures.adds)

pub with_front-requires-clause-fronts : goal.with_front-requires-clause-fronts
with_front-requires-clause-fronts c =
    let old = columns_in c.self.inside.pool.items c.self.inside.columns.items in
    let new = columns_in c.push_union.new.pool.items c.push_union.new.columns.items in
    subst (λ (rs : List (List Block)). AreFronts rs c.self.inside.fronts.items)
    (sym (rows_kept old new (length c.self.inside.fronts.items) _ c.self.invariant.0.whole c.in_ok-push_union.ensures.adds)) c.self.invariant.1

pub with_front-requires-clause-whole : goal.with_front-requires-clause-whole
with_front-requires-clause-whole c =
    let old = columns_in c.self.inside.pool.items c.self.inside.columns.items in
    let new = columns_in c.push_union.new.pool.items c.push_union.new.columns.items in
    let n = length c.self.inside.fronts.items in
    let waits = c.args.waits.now in
    let row = c.args.row.now in
    whole_at old new n (bits_have row.blocks.now) c.self.invariant.0.whole c.in_ok-push_union.ensures.adds
    (λ (q : ℕ). list_any (λ w. reaches (rows_in old n) w q) waits)
    (right old n c.args.self waits row.blocks.now c.self.invariant.0.whole c.self.view_is c.requires.each c.requires.bits)
    (none_past old n c.args.self waits c.self.view_is c.requires.waits c.requires.within) row.front
    (subst (λ (rs : List (List Block)). (q : ℕ) → q / 1024 < row.front → list_any (λ w. reaches rs w q) waits ≡ true)
    (sym c.self.view_is) c.requires.whole)

pub returns : goal.returns
returns c =
    let old = columns_in c.self.inside.pool.items c.self.inside.columns.items in
    let new = columns_in c.push_union.new.pool.items c.push_union.new.columns.items in
    let n = length c.self.inside.fronts.items in
    let waits = c.args.waits.now in
    let row = c.args.row.now in
    rw (c.in_ok-rows.ensures, ← c.self.view_is)
    (row_added old new n (bits_have row.blocks.now) c.self.invariant.0.whole c.in_ok-push_union.ensures.adds waits
    (right old n c.args.self waits row.blocks.now c.self.invariant.0.whole c.self.view_is c.requires.each c.requires.bits)
    (none_past old n c.args.self waits c.self.view_is c.requires.waits c.requires.within))
