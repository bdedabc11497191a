use Rattle.std.proofs.Common.{◌++◌, ◌∙◌, subst}
use Rattle.spy_io.specs.Causes.{Grows}
use Rattle.buffered_writes.proofs.lemmas.Sent.{part_kept}
use Rattle.log_findings.proofs.Writings.{in_err}
use Rattle.log_findings.proofs.dep_writer.DepWriter.end.Goals as goal

pub returns-in_err-flush-clause-part : goal.returns-in_err-flush-clause-part
returns-in_err-flush-clause-part g c =
    let text = c.as_slice.ensures ∙ c.spell_counts.ensures in
    let part = part_kept _ _ _ _ _ c.in_ok-put.ensures.sent c.in_err-flush.ensures.part in
    in_err c.from_residual-in_err-flush.result
    (subst (λ w. Grows (g.K.Sink.held c.args.sink.now) (g.K.Sink.held c.flush.new.sink) (c.args.self.now.out ++ w)) text part)
