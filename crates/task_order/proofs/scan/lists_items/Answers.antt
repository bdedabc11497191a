use Rattle.task_order.proofs.scan.lists_items.Goals as goal

pub returns : goal.returns
returns g c =
    let d = c.is_declared.ensures in
    rw d.tables (record {
      once = c.serial_order_lists.ensures.once d.lines d.log d.faultless;
      items =
          c.serial_order_lists.ensures.items d.lines d.log d.faultless;
    })
