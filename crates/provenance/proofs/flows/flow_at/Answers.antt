use Rattle.std.proofs.Common.{◌≡◌, ◌==◌, ◌&&◌, Bool, true, false, cond, refl, sym, ap, ◌∙◌}
use Rattle.vocabulary.specs.Prelude.{Cell, same_cell}
use Rattle.semantics.specs.Links.{Leaves}
use Rattle.provenance.specs.Tracing.{meant}
use Rattle.provenance.proofs.flows.flow_at.Goals as goal

and_turned : (a b c : Bool) → (a && b && c) ≡ (a && (b && c))
and_turned true b c = refl
and_turned false b c = refl

same_is : (a b : Cell) (is : Bool) → is ≡ (a.inst == b.inst) && ((a.point == b.point) && (a.field == b.field)) → same_cell a b ≡ is
unfolding same_cell
same_is a b is e = and_turned (a.inst == b.inst) (a.point == b.point) (a.field == b.field) ∙ sym e

pub returns-then-eq : goal.returns-then-eq
returns-then-eq c = sym (ap (λ is. cond is (meant c.args.here) Leaves) (same_is c.args.c c.args.cell true c.if-eq.ensures))

pub returns-else-eq : goal.returns-else-eq
returns-else-eq c = sym (ap (λ is. cond is (meant c.args.here) Leaves) (same_is c.args.c c.args.cell false c.if-eq.ensures))
