use Rattle.std.proofs.Common.{All, refl, sym, ap, subst, ◌∙◌}
use Rattle.std.proofs.lemmas.List.Elements.{All-push}
use Rattle.vocabulary.specs.Prelude.{Good, Lined}
use Rattle.log_input.proofs.Keeping.{crowding_kept, crowding_passed}
use Rattle.log_input.proofs.crowding.Crowding.read.Goals as goal

pub returns-in_ok-push-clause-crowding : goal.returns-in_ok-push-clause-crowding
returns-in_ok-push-clause-crowding c first later is =
    crowding_kept first later c.args.self.now _ c.args.l is c.in_ok-add.ensures c.in_ok-push.ensures.items refl c.with-self.ensures

pub returns-in_ok-push-clause-good : goal.returns-in_ok-push-clause-good
returns-in_ok-push-clause-good c good all =
    subst (All (λ (k : Lined). Good k.rec)) (sym c.in_ok-push.ensures.items) (All-push (λ (k : Lined). Good k.rec) c.args.self.now.kept.items c.args.l all good)

pub returns-else-lacks-clause-crowding : goal.returns-else-lacks-clause-crowding
returns-else-lacks-clause-crowding c first later is =
    crowding_passed first later c.args.self.now _ c.args.l is (sym c.lacks.ensures ∙ c.if-lacks.false) (ap (λ f. record c.args.self.now { frame = f }) c.with-self.ensures)
