use Rattle.std.proofs.Common.{◌∙◌, ap, sym, ℕ, List}
use Rattle.std.proofs.lemmas.Result.{IfOk-weaker}
use Rattle.vocabulary.specs.Prelude.{place_of}
use Rattle.semantics.specs.Rules.{interferes_with_own}
use Rattle.log_rules.specs.Lookups.{item_named}
use Rattle.log_rules.specs.Own.{clashes_own}
use Rattle.log_rules.proofs.own.interferes_with_own.Goals as goal

pub returns-in-Req : goal.returns-in-Req
returns-in-Req g c =
    let n = c.args.named.now in
    let t = n.tables.now in
    let req = c.in-Req in
    IfOk-weaker c.clashes_own.result _ _ (λ interferes told all earlier is.
    told all is.kept
    ∙ ap (λ item. clashes_own t item req.tree req.space c.as_slice.result.now c.priv_of.result) (n.is_item ∙ ap (item_named t) req.is)
    ∙ ap (λ (fields : List ℕ). clashes_own t (place_of t.items req.task) req.tree req.space fields c.priv_of.result) c.as_slice.ensures
    ∙ ap (clashes_own t (place_of t.items req.task) req.tree req.space req.fields) c.priv_of.ensures
    ∙ ap (interferes_with_own t) (sym req.is)) c.clashes_own.ensures
