use Rattle.std.proofs.Common.{◌∙◌, ap}
use Rattle.value_terms.specs.declared.terms.Base.TheVariants.{Init}
use Rattle.vocabulary.specs.Prelude.{plain}
use Rattle.serial_exec.specs.Changes.{after_changes}
use Rattle.replay.proofs.Wanting.{put_last}
use Rattle.replay.proofs.wanted.base_put.Goals as goal

pub returns-in-Put : goal.returns-in-Put
returns-in-Put c =
    ap (λ cs. after_changes cs (plain Init)) c.in-Some.ensures.cases.0
    ∙ put_last c.in-Some.field-0-1.now c.in-Some.last.now c.in-Put.base (plain Init) c.in-Put.is
