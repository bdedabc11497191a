use Rattle.std.proofs.Common.{refl}
use Rattle.nested.proofs.Origins.{end_told, faultless_told, good_told, licensed_told, origin_told, parts_told, plain_end_told, plain_told, seen_told}
use Rattle.nested.proofs.building.built.Goals as goal

pub plain_log_of-requires : goal.plain_log_of-requires
plain_log_of-requires g c κs =
    ((refl, tt), plain_told c.args.lines c.args.records.items c.in-Ok.field-0.plain.items c.in-Ok.ensures.plain c.requires.good c.requires.lines)

pub nest_of-requires : goal.nest_of-requires
nest_of-requires g c κs =
    let log = c.args.records.items in
    let are = parts_told c.args.lines log c.in-Ok.field-0.plain.items c.in-Ok.field-0.nested.items c.in-Ok-plain_log_of.log c.in-Ok.ensures.plain c.in-Ok.ensures.nested c.in-Ok-plain_log_of.ensures.tables c.in-Ok-plain_log_of.ensures.faultless in (
      (refl, tt),
      (
        good_told log c.in-Ok.field-0.nested.items c.in-Ok.ensures.nested c.requires.good,
        origin_told c.args.lines log c.in-Ok-plain_log_of.log c.in-Ok.field-0.nested.items are,
      ),
    )

pub returns-in-Ok-nest_of-clause-seen : goal.returns-in-Ok-nest_of-clause-seen
returns-in-Ok-nest_of-clause-seen g c =
    let log = c.args.records.items in
    let ps = c.in-Ok.field-0.nested.items in
    let t = c.in-Ok-plain_log_of.log in
    let are = parts_told c.args.lines log c.in-Ok.field-0.plain.items ps t c.in-Ok.ensures.plain c.in-Ok.ensures.nested c.in-Ok-plain_log_of.ensures.tables c.in-Ok-plain_log_of.ensures.faultless in
    seen_told c.args.lines log t ps c.in-Ok-nest_of.nest are c.in-Ok-nest_of.ensures.seen

pub returns-in-Ok-nest_of-clause-faultless : goal.returns-in-Ok-nest_of-clause-faultless
returns-in-Ok-nest_of-clause-faultless g c =
    let log = c.args.records.items in
    let ps = c.in-Ok.field-0.nested.items in
    let t = c.in-Ok-plain_log_of.log in
    let are = parts_told c.args.lines log c.in-Ok.field-0.plain.items ps t c.in-Ok.ensures.plain c.in-Ok.ensures.nested c.in-Ok-plain_log_of.ensures.tables c.in-Ok-plain_log_of.ensures.faultless in
    faultless_told c.args.lines log t ps are c.in-Ok-nest_of.ensures.faultless

pub returns-in-Ok-nest_of-clause-licensed : goal.returns-in-Ok-nest_of-clause-licensed
returns-in-Ok-nest_of-clause-licensed g c =
    let log = c.args.records.items in
    let ps = c.in-Ok.field-0.nested.items in
    let t = c.in-Ok-plain_log_of.log in
    let are = parts_told c.args.lines log c.in-Ok.field-0.plain.items ps t c.in-Ok.ensures.plain c.in-Ok.ensures.nested c.in-Ok-plain_log_of.ensures.tables c.in-Ok-plain_log_of.ensures.faultless in
    licensed_told c.args.lines log t ps are c.in-Ok-nest_of.ensures.licensed

pub returns-in-Err-nest_of-clause-end : goal.returns-in-Err-nest_of-clause-end
returns-in-Err-nest_of-clause-end g c =
    let log = c.args.records.items in
    let ps = c.in-Ok.field-0.nested.items in
    let t = c.in-Ok-plain_log_of.log in
    let are = parts_told c.args.lines log c.in-Ok.field-0.plain.items ps t c.in-Ok.ensures.plain c.in-Ok.ensures.nested c.in-Ok-plain_log_of.ensures.tables c.in-Ok-plain_log_of.ensures.faultless in
    end_told c.args.lines log t ps c.in-Err-nest_of.end are c.in-Err-nest_of.ensures.end

pub returns-in-Err-clause-end : goal.returns-in-Err-clause-end
returns-in-Err-clause-end g c =
    plain_end_told c.args.lines c.args.records.items c.in-Ok.field-0.plain.items c.in-Err.end c.in-Ok.ensures.plain c.in-Err.ensures.end
