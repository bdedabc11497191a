use Rattle.task_order.proofs.Adding.{done_still}
use Rattle.task_order.proofs.task_cell_accesses.cell_accesses_of_tasks.Goals as goal

pub returns-clause-cell_accesses : goal.returns-clause-cell_accesses
returns-clause-cell_accesses g c = record {
  firsts = c.args.firsts.now;
  are_firsts = c.requires.firsts;
  done = done_still c.args.log.now c.args.firsts.now c.args.log.now.reqs c.in_ok-cell_accesses.cell_accesses.items c.sort_cell_accesses.new.cell_accesses.items
      c.sort_cell_accesses.ensures.cell_accesses c.in_ok-cell_accesses.ensures;
}
