use Rattle.std.proofs.Common.{sym}
use Rattle.indexmap.specs.IndexMap.{get}
use Rattle.log_tables.proofs.Noting.{found_noted, from_ok}
use Rattle.log_tables.proofs.places.note.Goals as goal

pub returns-then-plan : goal.returns-then-plan
returns-then-plan g c = λ rows row found last of_key told. told c.if-plan.true

pub returns : goal.returns
returns g c = λ rows row found last of_key told.
    let ready = c.requires c.if-plan.false in
    let noted = from_ok c.note_first-has_room.result _ c.note_first-has_room.ensures.ok (c.note_first-has_room.ensures.room ready.1) in
    found_noted (get g.W.K.PartialEq.eq) g.W.K.PartialEq.eq g.W.K.Key.number_of g.W.KeyBy.key_of c.args.places.now.ascend c.args.places.now.first _ _
    rows row c.args.key c.args.place ready.0 found noted (sym of_key) last
