use Rattle.log_rules.specs.Loads.{load_in}
use Rattle.log_rules.proofs.Loading.{load-field}
use Rattle.log_rules.proofs.load.Loads.add_at_point.Goals as goal

pub loop-field-preserved : goal.loop-field-preserved
loop-field-preserved c = λ k.
    load-field (load_in c.args.self.now k) (load_in c.loop-field.self k) (load_in c.add.new.self k)
    c.args.tree c.args.point c.args.fields.now c.loop-field.field-index k c.requires c.loop-field-test.true (c.loop-field.invariant k)
    (c.in_ok-add.ensures k)
