use Rattle.std.proofs.Common.{refl}
use Rattle.log_findings.proofs.lemmas.Ends.{few_declared_items}
use Rattle.log_findings.proofs.Writings.{all_shown, in_err, lines_shown, part_shown}
use Rattle.log_findings.proofs.written_deps.write_found.Goals as goal

pub put_pairs-requires : goal.put_pairs-requires
put_pairs-requires g c = λ k. (
  (refl, tt),
  (
    few_declared_items c.args.log.now c.is_declared.ensures,
    (c.requires.uses, (c.requires.out, (c.requires.before, c.requires.turn))),
  ),
)

pub returns-in_err-put_pairs-clause-part : goal.returns-in_err-put_pairs-clause-part
returns-in_err-put_pairs-clause-part g c = in_err c.from_residual.result
    (lines_shown c.args.log.now (g.K.Sink.held c.args.sink.now) (g.K.Sink.held c.put_pairs.new.sink) c.in_err-put_pairs.ensures.part)

pub returns-in_err-end-clause-part : goal.returns-in_err-end-clause-part
returns-in_err-end-clause-part g c =
    let writer = c.put_pairs.new.writer in
    let listed = c.in_ok-put_pairs.ensures in
    in_err c.from_residual-in_err-end.result
    (part_shown c.args.log.now (g.K.Sink.held c.args.sink.now) (g.K.Sink.held c.put_pairs.new.sink) (g.K.Sink.held c.end.new.sink)
    writer.out c.item_count.result writer.before writer.turn
    (record { sent = listed.sent; before_is = listed.before; all_is = listed.all }) c.item_count.ensures c.in_err-end.ensures.part)

pub returns-clause-all : goal.returns-clause-all
returns-clause-all g c =
    let writer = c.put_pairs.new.writer in
    let listed = c.in_ok-put_pairs.ensures in
    all_shown c.args.log.now (g.K.Sink.held c.args.sink.now) (g.K.Sink.held c.put_pairs.new.sink) (g.K.Sink.held c.end.new.sink)
    writer.out c.item_count.result writer.before writer.turn
    (record { sent = listed.sent; before_is = listed.before; all_is = listed.all }) c.item_count.ensures c.in_ok-end.ensures.all
