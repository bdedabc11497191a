use Rattle.launch_laws.specs.LaunchOrders.{launch_tables}
use Rattle.launch_laws.proofs.FreeTasks.{tasks_turned}
use Rattle.launch_laws.proofs.FreeStretches.{one_after, one_wanted}
use Rattle.launch_laws.proofs.laws.launches_in_any_order.Goals as goal

pub returns-clause-after : goal.returns-clause-after
returns-clause-after c lines count log no_fault declared l of order other h p v =
    rw (h.order_is, h.other_is) (one_after (launch_tables log) h.front h.here h.there h.back
    (tasks_turned lines count log no_fault declared l of order other h) p v)

pub returns-clause-wanted : goal.returns-clause-wanted
returns-clause-wanted c lines count log no_fault declared l of order other h item r asks reads p at =
    rw (h.order_is, h.other_is) (one_wanted (launch_tables log) h.front h.here h.there h.back
    (tasks_turned lines count log no_fault declared l of order other h) item r
    asks reads p at)
