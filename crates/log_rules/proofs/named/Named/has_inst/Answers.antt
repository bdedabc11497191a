use Rattle.std.proofs.Common.{◌==◌, ap, is_some, ◌∙◌}
use Rattle.std.specs.Option.{option_and_then}
use Rattle.vocabulary.specs.Prelude.{Inst, inst_at}
use Rattle.log_rules.proofs.ListTests.{is_some-behind, is_some-find}
use Rattle.log_rules.proofs.named.Named.has_inst.Goals as goal

pub returns : goal.returns
returns g c =
    let n = c.args.self.now in
    let t = n.tables.now in
    c.is_some.ensures ∙ is_some-behind n.inst ∙ ap is_some (n.is_inst ∙ ap (option_and_then (inst_at t)) c.requires)
    ∙ is_some-find (λ (i : Inst). i.id == c.args.id) t.insts
