use Rattle.std.proofs.Common.{◌≡◌, ◌∙◌, ◌+◌, ◌*◌, ap, arith, get_or, length, sym, subst, ℕ, List, All}
use Rattle.std.proofs.lemmas.List.{length_push}
use Rattle.reach_marks.specs.declared.block.Block.{Block}
use Rattle.reach_marks.specs.BlockMarks.{IsMarkedWait, IsTold}
use Rattle.reach_marks.proofs.Told.{told_more}
use Rattle.reach_marks.proofs.block_reach.BlockReach.build.Goals as goal

pub loop-place-preserved : goal.loop-place-preserved
loop-place-preserved c =
    let nodes = c.args.graph.now in
    let order = c.args.order.now in
    let h = c.loop-place.invariant in
    let k = c.loop-place.reach.block in
    let old = c.loop-place.reach.rows in
    let new = c.in_ok-reach-2.reach.rows in
    let adds = c.in_ok-reach-2.ensures.row in
    let at : c.loop-place.place ≡ 1024 * k + length old = sym h.rows ∙ ap (λ b. 1024 * b + length old) (sym h.block) in
    let are : All (IsMarkedWait nodes order (record { block = k; rows = old }) (get_or order (1024 * k + length old) 0)) c.as_slice.result.now =
    rw c.as_slice.ensures.value
    (subst (λ p. All (IsMarkedWait nodes order (record { block = k; rows = old }) (get_or order p 0)) c.list_waits.new.waits.items) at
    (subst (λ (ns : List ℕ). All (IsMarkedWait nodes order (record { block = k; rows = old }) (get_or ns c.loop-place.place 0))
    c.list_waits.new.waits.items) c.as_slice-nodes.ensures c.in_ok-list_waits.ensures)) in
    record {
      block = c.in_ok-reach-2.ensures.block ∙ h.block;
      rows = omega (arith, h.rows, ap (λ (rs : List Block). length rs) adds.more ∙ length_push old _);
      told = subst (λ b. IsTold nodes order (record { block = b; rows = new })) (sym c.in_ok-reach-2.ensures.block)
          (told_more nodes order k old new c.as_slice.result.now h.told are adds);
    }
