use Rattle.semantics.specs.declared.command.Command.TheVariants.{Check}
use Rattle.log_laws.proofs.lemmas.Admitted.{faultless}
use Rattle.trail_laws.proofs.lemmas.Trails.{alike, some_list, one_list, ends, starts, tell_value}
use Rattle.trail_laws.proofs.laws.trails_are_one.Goals as goal

pub returns : goal.returns
returns c = record {
  alike = λ lines log good none. alike log good (faultless Check lines log none);
  some = λ lines log good none. some_list log good (faultless Check lines log none);
  one = λ lines log good none. one_list log good (faultless Check lines log none);
  ends = λ lines log good none. ends log good (faultless Check lines log none);
  starts = λ lines log good none. starts log good (faultless Check lines log none);
  value = λ lines log good none. tell_value log good (faultless Check lines log none);
}
