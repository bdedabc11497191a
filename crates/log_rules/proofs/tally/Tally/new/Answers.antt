use Rattle.std.proofs.Common.{rules, refl, ◌∙◌, arith}
use Rattle.vocabulary.specs.Prelude.{no_tables}
use Rattle.log_rules.proofs.tally.Tally.new.Goals as goal

pub returns : goal.returns
returns c = λ all is. record {
  counts = λ flat. record { points = refl; cells = refl; accesses = refl; within = omega arith };
  lists = search rules;
  known = search rules;
  kept = record {
    grid = c.new-2.ensures ∙ is;
    cells = search rules;
    pairs = c.new-3.ensures all no_tables;
    claims = search rules;
    numbered = search rules;
    few = omega arith;
  };
}
