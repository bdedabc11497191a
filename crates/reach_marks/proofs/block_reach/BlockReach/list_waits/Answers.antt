use Rattle.std.proofs.Common.{[], arith, sym, subst}
use Rattle.std.proofs.lemmas.List.Elements.{All-push}
use Rattle.vocabulary.specs.Prelude.{WaitsOn}
use Rattle.reach_marks.specs.BlockMarks.{IsMarkedWait}
use Rattle.reach_marks.proofs.lemmas.Chains.{waited}
use Rattle.reach_marks.proofs.block_reach.BlockReach.list_waits.Goals.{in-Some-place_in+else-is_whole+in_ok-push-2, in_default-place_in}
use Rattle.reach_marks.proofs.block_reach.BlockReach.list_waits.Goals as goal

pub returns-then-is_whole : goal.returns-then-is_whole
returns-then-is_whole c =
    let nodes = c.args.graph.now in
    let wait : IsMarkedWait nodes c.args.order.now c.args.self.now c.args.node c.in-Some-place_in.place = record {
      row = c.in-Some-place_in.ensures.row;
      waits = subst (WaitsOn nodes c.args.node) (sym c.in-Some-place_in.ensures.node)
          (waited nodes c.args.node c.loop-k.k c.in-Some.on c.in-Some.ensures.some);
    } in
    rw (c.in_ok-push.ensures.items, c.clear-then-is_whole.ensures.items)
    (All-push (IsMarkedWait nodes c.args.order.now c.args.self.now c.args.node) [] c.in-Some-place_in.place
    (λ i d lt. absurd (omega (arith, lt))) wait)

pub loop-k-preserved : goal.loop-k-preserved
loop-k-preserved c =
    let nodes = c.args.graph.now in
    elim c.match-place_in.branch [
      | in-Some-place_in+else-is_whole+in_ok-push-2 w ↦
          let wait : IsMarkedWait nodes c.args.order.now c.args.self.now c.args.node w.in-Some-place_in.place = record {
            row = w.in-Some-place_in.ensures.row;
            waits = subst (WaitsOn nodes c.args.node) (sym w.in-Some-place_in.ensures.node)
                (waited nodes c.args.node c.loop-k.k c.in-Some.on c.in-Some.ensures.some);
          } in
          rw (w.waits-is, w.in_ok-push-2.ensures.items)
          (All-push (IsMarkedWait nodes c.args.order.now c.args.self.now c.args.node) c.loop-k.waits.items w.in-Some-place_in.place
          c.loop-k.invariant wait)
      | in_default-place_in w ↦ rw w.waits-is c.loop-k.invariant
    ]
