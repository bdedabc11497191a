use Rattle.std.proofs.Common.{◌∙◌, refl, subst, arith, Contains, ap}
use Rattle.interference.specs.Pairing.{all_pairs}
use Rattle.interference.proofs.lemmas.Turning.{pair_order, pair_end, pair_place}
use Rattle.log_findings.specs.Listing.{dependence_of}
use Rattle.log_findings.proofs.Listings.{all_listed, one_listed, behind, first_of}
use Rattle.log_findings.proofs.dependences.deps_of.Goals as goal

pub loop-pair-init : goal.loop-pair-init
loop-pair-init g c =
    let same = c.into_iter-pair-iterator.ensures.into_iter_gives ∙ c.pairs-pair-items.ensures ∙ ap all_pairs c.asked-asked.ensures in (
      tt,
      tt,
      λ p m. subst (λ ps. Contains ps p) same m,
      all_listed c.args.log.now
          (pair_place c.args.log.now) c.new-list.result.items c.into_iter-pair-iterator.result c.new-list.ensures.items same,
    )

pub dep_of-one-requires : goal.dep_of-one-requires
dep_of-one-requires g c =
    let at = first_of (all_pairs c.args.log.now) c.loop-pair.pair-iterator c.in-Some.pair c.next.new.self c.loop-pair.invariant.2 c.in-Some.ensures.steps in
    let b = pair_end c.args.log.now c.in-Some.pair at in
    λ k. ((refl, tt), (omega (arith, pair_order c.args.log.now c.in-Some.pair at, b), b))

pub loop-pair-preserved : goal.loop-pair-preserved
loop-pair-preserved g c = (
  tt,
  tt,
  behind (all_pairs c.args.log.now) c.loop-pair.pair-iterator c.in-Some.pair c.next.new.self c.loop-pair.invariant.2 c.in-Some.ensures.steps,
  one_listed (dependence_of c.args.log.now) c.loop-pair.list.items c.loop-pair.pair-iterator c.next.new.self c.in-Some.pair c.push.new.self.items c.dep_of-one.result _ c.loop-pair.invariant.3 c.in-Some.ensures.steps c.in_ok-push.ensures.items c.dep_of-one.ensures,
)
