use Rattle.std.proofs.Common.{◌∙◌, ap, sym}
use Rattle.vocabulary.specs.Prelude.{Lined}
use Rattle.semantics.specs.Rules.{completes}
use Rattle.log_rules.proofs.ListTests.{any_record}
use Rattle.log_rules.proofs.whole_log.is_done.Goals as goal

pub returns-then-completes : goal.returns-then-completes
returns-then-completes c =
    sym
    (any_record (completes c.args.event) c.args.log.now c.loop-l.l-index c.l-item.result c.loop-l-test.true
    (ap (λ (l : Lined). completes c.args.event l.rec) (sym c.l-item.is) ∙ sym c.if-completes.ensures))
