use Rattle.std.proofs.Common.{◌≡◌, ◌<◌, ◌≤◌, ◌↔◌, sym, subst, arith, slice_index}
use Rattle.std.specs.Prelude.{IsTrue}
use Rattle.semantics.specs.SerialOrder.{serial_place}
use Rattle.vocabulary.specs.Prelude.{Before, graph_of}
use Rattle.semantics.specs.Shown.{run_of}
use Rattle.task_order.proofs.Chains.{turned, straight}
use Rattle.task_order.proofs.kept.is_kept.Goals as goal

pub returns-then-serial_place : goal.returns-then-serial_place
returns-then-serial_place g c =
    let t = c.args.schedule.now.log.now in
    let first : slice_index c.args.schedule.now.runs.now c.args.b ≡ run_of t c.args.b =
    c.requires.schedule.runs.runs_are c.args.b (omega (arith, c.requires.b, c.requires.schedule.runs.each)) in
    let second : slice_index c.args.schedule.now.runs.now c.args.a ≡ run_of t c.args.a =
    c.requires.schedule.runs.runs_are c.args.a (omega (arith, c.requires.a, c.requires.schedule.runs.each)) in
    let lt : serial_place t c.args.b < serial_place t c.args.a =
    omega (arith, c.serial_place.ensures, c.serial_place-2.ensures, c.if-serial_place.true) in
    let own : IsTrue c.is_before.result ↔ Before (graph_of t.nodes) (run_of t c.args.b) (run_of t c.args.a) =
    rw (← first, ← second) (c.is_before.ensures (graph_of t.nodes) c.requires.schedule.marks) in
    subst (λ (k : Type 0). IsTrue c.is_before.result ↔ k) (sym (turned t c.args.a c.args.b lt)) own

pub returns-else-serial_place : goal.returns-else-serial_place
returns-else-serial_place g c =
    let t = c.args.schedule.now.log.now in
    let first : slice_index c.args.schedule.now.runs.now c.args.b ≡ run_of t c.args.b =
    c.requires.schedule.runs.runs_are c.args.b (omega (arith, c.requires.b, c.requires.schedule.runs.each)) in
    let second : slice_index c.args.schedule.now.runs.now c.args.a ≡ run_of t c.args.a =
    c.requires.schedule.runs.runs_are c.args.a (omega (arith, c.requires.a, c.requires.schedule.runs.each)) in
    let le : serial_place t c.args.a ≤ serial_place t c.args.b =
    omega (arith, c.serial_place.ensures, c.serial_place-2.ensures, c.if-serial_place.false) in
    let own : IsTrue c.is_before-else-serial_place.result ↔ Before (graph_of t.nodes) (run_of t c.args.a) (run_of t c.args.b) =
    rw (← first, ← second) (c.is_before-else-serial_place.ensures (graph_of t.nodes) c.requires.schedule.marks) in
    subst (λ (k : Type 0). IsTrue c.is_before-else-serial_place.result ↔ k) (sym (straight t c.args.a c.args.b le)) own
