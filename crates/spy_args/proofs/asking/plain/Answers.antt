use Rattle.std.proofs.Common.{sym, subst}
use Rattle.std.specs.Prelude.{IfSome}
use Rattle.spy_args.specs.Asked.{IsSized}
use Rattle.spy_args.proofs.Sized.{plain_sized}
use Rattle.spy_args.proofs.asking.plain.Goals as goal

pub returns-clause-sized : goal.returns-clause-sized
returns-clause-sized c = subst (λ r. IfSome r IsSized) (sym c.request_among.ensures) (plain_sized c.as_bytes.result.now)
