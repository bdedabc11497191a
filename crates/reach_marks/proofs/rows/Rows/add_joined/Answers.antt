use Rattle.std.proofs.Common.{arith, ◌≡◌, ◌/◌, ◌<◌, ◌+◌, ℕ, true, List, length, sym, subst, refl}
use Rattle.std.specs.List.{list_any}
use Rattle.reach_marks.specs.declared.block.Block.{Block}
use Rattle.reach_marks.specs.Blocks.{reaches}
use Rattle.reach_marks.specs.Columns.{AddsBlocks, columns_in, rows_in}
use Rattle.reach_marks.specs.Reached.{AreFronts}
use Rattle.reach_marks.proofs.Columned.{long_after, rows_kept, row_added, whole_at, none_past}
use Rattle.reach_marks.proofs.Tagged.{tags_long}
use Rattle.reach_marks.proofs.rows.Rows.add_joined.Goals as goal

abbrev old : (c : goal.In_ok-push_joined) → List (List Block)
old c = columns_in c.self.inside.pool.items c.self.inside.columns.items

abbrev new : (c : goal.In_ok-push_joined) → List (List Block)
new c = columns_in c.push_joined.new.pool.items c.push_joined.new.columns.items

adds : (c : goal.In_ok-push_joined) → AddsBlocks (old c) (new c)
    (λ q. list_any (λ w. reaches (rows_in (old c) (length c.self.inside.fronts.items)) w q) c.args.waits.now)
adds c = subst (λ n. AddsBlocks (old c) (new c) (λ q. list_any (λ w. reaches (rows_in (old c) n) w q) c.args.waits.now))
    (omega arith) c.in_ok-push_joined.ensures.adds

pub with_front-requires-clause-long : goal.with_front-requires-clause-long
with_front-requires-clause-long c = tags_long c.push_joined.new.pool.items c.push_joined.new.columns.items
    (length c.self.inside.fronts.items + 1)
    (long_after (old c) (new c) (length c.self.inside.fronts.items) _ c.self.invariant.0.whole (adds c))

pub with_front-requires-clause-fronts : goal.with_front-requires-clause-fronts
with_front-requires-clause-fronts c =
    subst (λ (rs : List (List Block)). AreFronts rs c.self.inside.fronts.items)
    (sym (rows_kept (old c) (new c) (length c.self.inside.fronts.items) _ c.self.invariant.0.whole (adds c))) c.self.invariant.1

pub with_front-requires-clause-whole : goal.with_front-requires-clause-whole
with_front-requires-clause-whole c =
    let n = length c.self.inside.fronts.items in
    let waits = c.args.waits.now in
    let reached = λ (q : ℕ). list_any (λ w. reaches (rows_in (old c) n) w q) waits in
    whole_at (old c) (new c) n reached c.self.invariant.0.whole (adds c) reached (λ q _. refl)
    (none_past (old c) n c.args.self waits c.self.view_is c.requires.waits c.requires.within) c.args.front
    (subst (λ (rs : List (List Block)). (q : ℕ) → q / 1024 < c.args.front → list_any (λ w. reaches rs w q) waits ≡ true)
    (sym c.self.view_is) c.requires.whole)

pub returns : goal.returns
returns c =
    let old = columns_in c.self.inside.pool.items c.self.inside.columns.items in
    let new = columns_in c.push_joined.new.pool.items c.push_joined.new.columns.items in
    let n = length c.self.inside.fronts.items in
    let waits = c.args.waits.now in
    rw (c.in_ok-rows.ensures, ← c.self.view_is)
    (row_added old new n (λ q. list_any (λ w. reaches (rows_in old n) w q) waits) c.self.invariant.0.whole
    (subst (λ m. AddsBlocks old new (λ q. list_any (λ w. reaches (rows_in old m) w q) waits))
    (omega arith) c.in_ok-push_joined.ensures.adds) waits (λ q _. refl)
    (none_past old n c.args.self waits c.self.view_is c.requires.waits c.requires.within))
