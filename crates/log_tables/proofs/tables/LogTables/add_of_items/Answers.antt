use Rattle.std.proofs.Common.{refl}
use Rattle.log_tables.proofs.tables.LogTables.add_of_items.Goals as goal

pub returns-in_ok-add_req-in-Req-clause-ok : goal.returns-in_ok-add_req-in-Req-clause-ok
returns-in_ok-add_req-in-Req-clause-ok g c =
    rw (
      c.in-Req.is,
      c.in_ok-add_req-in-Req.ensures.ok,
      c.req_count.ensures.count,
      c.place-item.ensures,
      c.in_ok-from_slice-in-Req.ensures,
      c.as_slice.ensures,
      c.priv_of.ensures,
      c.coherence_word.ensures,
    ) refl
