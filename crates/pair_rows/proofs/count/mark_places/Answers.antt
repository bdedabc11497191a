use Rattle.std.proofs.Common.{[], get_or, arith}
use Rattle.pair_rows.specs.Meetings.{IsPlace}
use Rattle.pair_rows.proofs.count.mark_places.Goals as goal

pub mark_place-requires-clause-once : goal.mark_place-requires-clause-once
mark_place-requires-clause-once c =
    let h : IsPlace (get_or c.args.places.now c.loop-k.k []) =
    c.requires c.loop-k.k [] (omega (arith, c.loop-k-test.true, c.len-k-end.ensures)) in
    rw c.users.ensures h.once

pub mark_place-requires-clause-classes : goal.mark_place-requires-clause-classes
mark_place-requires-clause-classes c =
    let h : IsPlace (get_or c.args.places.now c.loop-k.k []) =
    c.requires c.loop-k.k [] (omega (arith, c.loop-k-test.true, c.len-k-end.ensures)) in
    rw c.users.ensures h.classes
