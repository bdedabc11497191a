use Rattle.std.proofs.Common.{◌<◌, ap, subst, length, arith, inl, inr, Option}
use Rattle.std.specs.Option.{IsSome}
use Rattle.std.proofs.lemmas.Bool.{cases_lt}
use Rattle.interference.proofs.lemmas.Turning.{none_turned}
use Rattle.interference.proofs.serial.serial_ok.Goals as goal

pub returns-then-not-has_serial-clause-ok : goal.returns-then-not-has_serial-clause-ok
returns-then-not-has_serial-clause-ok g c = elim (cases_lt 0 (length c.args.log.now.serials)) [
  | inl some ↦ absurd (let is = c.has_serial.ensures.1 some in cc)
  | inr none ↦ none_turned c.args.log.now (omega (arith, none))
]
