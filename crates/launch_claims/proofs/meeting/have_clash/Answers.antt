use Rattle.std.proofs.Common.{◌↔◌, IsTrue, List, Contains, sym, subst}
use Rattle.std.proofs.lemmas.Bool.{false≢true}
use Rattle.std.proofs.lemmas.Result.{IfOk-weaker}
use Rattle.launch_claims.specs.declared.block.Block.{Block}
use Rattle.launch_claims.specs.Blocks.{AreBlocksInOrder, HasBlockClash, HasClashIn}
use Rattle.launch_claims.proofs.Halving.{all_columns, columns_hold, none_there}
use Rattle.launch_claims.proofs.meeting.have_clash.Goals as goal

pub returns-then-hi-lo : goal.returns-then-hi-lo
returns-then-hi-lo c =
    let low = λ (b : Block) (h : Contains c.sort.new.blocks.items b).
    c.first_column-lo.ensures b (subst (λ (bs : List Block). Contains bs b) (sym c.as_slice.ensures.value) h) in
    let high = λ (b : Block) (h : Contains c.sort.new.blocks.items b).
    c.last_column-hi.ensures b (subst (λ (bs : List Block). Contains bs b) (sym c.as_slice-2.ensures.value) h) in (
      λ e. absurd (false≢true e),
      λ h. absurd (none_there c.first_column-lo.result c.last_column-hi.result c.args.blocks.items c.sort.new.blocks.items
          c.sort.ensures.blocks
          c.requires low high c.if-hi-lo.true h),
    )

pub some_clash-requires-clause-order : goal.some_clash-requires-clause-order
some_clash-requires-clause-order c = subst AreBlocksInOrder (sym c.as_slice-3.ensures.value) c.sort.ensures.order

pub some_clash-requires-clause-inside : goal.some_clash-requires-clause-inside
some_clash-requires-clause-inside c = λ b h.
    let low = λ (d : Block) (m : Contains c.sort.new.blocks.items d).
    c.first_column-lo.ensures d (subst (λ (bs : List Block). Contains bs d) (sym c.as_slice.ensures.value) m) in
    let high = λ (d : Block) (m : Contains c.sort.new.blocks.items d).
    c.last_column-hi.ensures d (subst (λ (bs : List Block). Contains bs d) (sym c.as_slice-2.ensures.value) m) in
    columns_hold c.first_column-lo.result c.last_column-hi.result c.args.blocks.items c.sort.new.blocks.items c.sort.ensures.blocks
    c.requires low high b (subst (λ (bs : List Block). Contains bs b) c.as_slice-3.ensures.value h)

pub returns : goal.returns
returns c =
    let lo = c.first_column-lo.result in
    let hi = c.last_column-hi.result in
    let blocks = c.args.blocks.items in
    let low = λ (d : Block) (m : Contains c.sort.new.blocks.items d).
    c.first_column-lo.ensures d (subst (λ (bs : List Block). Contains bs d) (sym c.as_slice.ensures.value) m) in
    let high = λ (d : Block) (m : Contains c.sort.new.blocks.items d).
    c.last_column-hi.ensures d (subst (λ (bs : List Block). Contains bs d) (sym c.as_slice-2.ensures.value) m) in
    let all = all_columns lo hi blocks c.sort.new.blocks.items c.sort.ensures.blocks low high in
    IfOk-weaker c.some_clash.result (λ told. IsTrue told ↔ HasClashIn lo hi c.as_slice-3.result.now)
    (λ told. IsTrue told ↔ HasBlockClash blocks)
    (λ told h.
    let k = subst (λ (bs : List Block). IsTrue told ↔ HasClashIn lo hi bs) c.as_slice-3.ensures.value h in
    (λ found. all.0 (k.0 found), λ clash. k.1 (all.1 clash))) c.some_clash.ensures
