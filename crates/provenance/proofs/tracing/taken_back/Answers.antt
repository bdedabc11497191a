use Rattle.std.proofs.Common.{None, ◌∷◌, [], ◌∙◌, ◌<◌, length, refl, sym, ap, subst, arith, All}
use Rattle.std.proofs.lemmas.List.{length-map}
use Rattle.vocabulary.specs.Prelude.{graph_of, Tables}
use Rattle.list_lemmas.proofs.lemmas.Contained.{all_contained}
use Rattle.event_graph.proofs.lemmas.Whole.{order_within}
use Rattle.point_laws.specs.Cut.{cut}
use Rattle.point_laws.proofs.lemmas.Cuts.{steps_cut}
use Rattle.inst_steps.proofs.lemmas.StepCounts.{steps_are_few}
use Rattle.provenance.specs.Listing.{taken_before}
use Rattle.provenance.proofs.Listed.{listed_back, few_back}
use Rattle.provenance.proofs.tracing.taken_back.Goals as goal

pub at-cut-requires : goal.at-cut-requires
at-cut-requires g c = λ k lt. absurd (omega (arith, lt))

pub taken_of-requires : goal.taken_of-requires
taken_of-requires g c κs =
    let nodes = c.args.log.now.nodes in
    let order = c.args.order.now in
    let all = all_contained (λ k. k < length (graph_of nodes)) order (order_within (graph_of nodes) order c.requires.order) in (
      (refl, tt),
      rw c.as_slice.ensures (subst (λ (u : Tables). All (λ k. k < length u.nodes) order) (sym c.at-cut.ensures)
          (subst (λ n. All (λ k. k < n) order) (length-map nodes _) all)),
    )

pub returns-clause-steps : goal.returns-clause-steps
returns-clause-steps g c =
    let ps = c.args.point ∷ [] in
    let t = c.args.log.now in
    let field = c.args.field in
    let ks = c.as_slice.result.now in
    listed_back t (cut ps t) ps field ks c.in_ok-taken.taken.items c.reverse.new.self.items
    (steps_cut ps t ks) (c.as_slice.ensures ∙ c.requires.order.replayed) (c.in_ok-taken.ensures
    ∙ ap (λ u. taken_before u field ks (length ks)) c.at-cut.ensures) c.reverse.ensures.items

pub returns-clause-few : goal.returns-clause-few
returns-clause-few g c =
    let point = c.args.point in
    let t = c.args.log.now in
    let field = c.args.field in
    let ks = c.as_slice.result.now in
    few_back t (cut (point ∷ []) t) point field ks c.in_ok-taken.taken.items c.reverse.new.self.items
    (steps_cut (point ∷ []) t ks) (c.as_slice.ensures ∙ c.requires.order.replayed) (steps_are_few t c.is_declared.ensures None point field)
    (c.in_ok-taken.ensures ∙ ap (λ u. taken_before u field ks (length ks)) c.at-cut.ensures) c.reverse.ensures.items
