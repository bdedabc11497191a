use Rattle.std.proofs.Common.{◌+◌, List, nat_lt, lit<, ap, sym, subst, ◌∙◌}
use Rattle.std.proofs.lemmas.Bool.{and_parts}
use Rattle.vocabulary.specs.Prelude.{Record, records_of}
use Rattle.semantics.specs.Rules.{is_end, is_planar}
use Rattle.log_rules.specs.Counts.{access_total}
use Rattle.log_rules.specs.Tallied.{AreAtEnd}
use Rattle.log_rules.proofs.Growing.{planar_accesses}
use Rattle.log_rules.proofs.tally.has_many_accesses.Goals as goal

pub returns-in-Some : goal.returns-in-Some
returns-in-Some g c = λ all earlier is same at.
    let t = c.args.named.now.tables.now in
    let r = c.args.named.now.rec.now in
    let ends = subst (AreAtEnd t r) c.in-Some.is at in
    let parts = and_parts (is_planar t) (is_end r) ends.0 in
    c.exceeds.ensures (access_total t (records_of c.args.earlier.now)) (c.access_total.ensures t ends.1 parts.0) (lit< tt)
    ∙ ap (λ (rs : List Record). nat_lt 4194304 (0 + access_total t rs)) (sym same) ∙ planar_accesses earlier t r parts.0 parts.1
