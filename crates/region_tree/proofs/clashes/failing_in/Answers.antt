use Rattle.std.proofs.Common.{IfOk, subst, sym}
use Rattle.region_tree.specs.Claims.{IsFailing}
use Rattle.region_tree.proofs.clashes.failing_in.Goals as goal

pub returns-in-Apart : goal.returns-in-Apart
returns-in-Apart g c =
    subst (λ asked. IfOk c.meeting_in.result (IsFailing c.args.decls.now asked c.args.limit c.args.claims.now))
    (sym c.in-Apart.is) c.meeting_in.ensures

pub returns-in-Within : goal.returns-in-Within
returns-in-Within g c =
    subst (λ asked. IfOk c.leaving_in.result (IsFailing c.args.decls.now asked c.args.limit c.args.claims.now))
    (sym c.in-Within.is) c.leaving_in.ensures
