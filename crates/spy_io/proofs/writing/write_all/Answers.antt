use Rattle.std.proofs.Common.{refl, ◌∙◌, ap, false, arith}
use Rattle.std.proofs.lemmas.Grind.{common_steps}
use Rattle.spy_io.specs.Causes.{ended_after}
use Rattle.spy_io.proofs.Known.{written_none, written_more}
use Rattle.spy_io.proofs.writing.write_all.Goals as goal

pub loop-rest-init : goal.loop-rest-init
loop-rest-init g c = record { written = written_none _ _; no_fault = refl; unended = λ none. none }

pub loop-rest-preserved : goal.loop-rest-preserved
loop-rest-preserved g c = record {
  written = written_more _ _ _ _ _ _ c.in-Ok.n c.loop-rest.invariant.written c.in-Ok.ensures.bytes (grind (arith, common_steps));
  no_fault = c.in-Ok.ensures.cause.no_fault ∙ c.loop-rest.invariant.no_fault;
  unended = λ none. c.in-Ok.ensures.ended ∙ ap (λ e. ended_after e false) (c.loop-rest.invariant.unended none);
}
