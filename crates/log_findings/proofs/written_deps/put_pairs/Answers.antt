use Rattle.std.proofs.Common.{◌∙◌, refl, subst, arith, Contains, ap}
use Rattle.interference.specs.Pairing.{all_pairs}
use Rattle.interference.proofs.lemmas.Counting.{few_in_all}
use Rattle.interference.proofs.lemmas.Turning.{pair_order, pair_end}
use Rattle.log_findings.proofs.Listings.{behind, first_of}
use Rattle.log_findings.proofs.Writings.{in_err, listing_more, listing_none, listing_part, listing_room}
use Rattle.log_findings.proofs.written_deps.put_pairs.Goals as goal

pub loop-pair-init : goal.loop-pair-init
loop-pair-init g c =
    let same = c.into_iter-pair-iterator.ensures.into_iter_gives ∙ c.pairs-pair-items.ensures ∙ ap all_pairs c.asked-asked.ensures in
    let writer = c.args.writer.now in (
      tt,
      tt,
      λ p m. subst (λ ps. Contains ps p) same m,
      listing_none c.args.log.now (g.K.Sink.held c.args.sink.now) writer.out writer.before writer.turn
          c.into_iter-pair-iterator.result c.requires.out c.requires.before c.requires.turn same,
      refl,
      λ none. none,
    )

pub dep_of-dep-requires : goal.dep_of-dep-requires
dep_of-dep-requires g c =
    let at = first_of (all_pairs c.args.log.now) c.loop-pair.pair-iterator c.in-Some.pair c.next.new.self c.loop-pair.invariant.2 c.in-Some.ensures.steps in
    let b = pair_end c.args.log.now c.in-Some.pair at in
    λ k. ((refl, tt), (omega (arith, pair_order c.args.log.now c.in-Some.pair at, b), b))

pub put-requires : goal.put-requires
put-requires g c =
    let writer = c.loop-pair.writer in
    listing_room c.args.log.now (g.K.Sink.held c.args.sink.now) (g.K.Sink.held c.loop-pair.sink) writer.out writer.before writer.turn
    c.loop-pair.pair-iterator c.next.new.self c.in-Some.pair c.loop-pair.invariant.3 c.in-Some.ensures.steps
    (few_in_all c.args.log.now c.requires.few)

pub loop-pair-preserved : goal.loop-pair-preserved
loop-pair-preserved g c =
    let writer = c.loop-pair.writer in
    let after = c.put.new.self in (
      tt,
      tt,
      behind (all_pairs c.args.log.now) c.loop-pair.pair-iterator c.in-Some.pair c.next.new.self c.loop-pair.invariant.2 c.in-Some.ensures.steps,
      listing_more c.args.log.now (g.K.Sink.held c.args.sink.now) (g.K.Sink.held c.loop-pair.sink) (g.K.Sink.held c.put.new.sink)
          writer.out after.out writer.before writer.turn after.before after.turn c.loop-pair.pair-iterator c.next.new.self
          c.in-Some.pair c.dep_of-dep.result c.loop-pair.invariant.3 c.in-Some.ensures.steps c.dep_of-dep.ensures
          c.in_ok-put.ensures.sent c.in_ok-put.ensures.before c.in_ok-put.ensures.all,
      c.in_ok-put.ensures.cause.no_fault ∙ c.loop-pair.invariant.4,
      λ none. c.in_ok-put.ensures.not_ended (c.loop-pair.invariant.5 none),
    )

pub returns-in_err-put-clause-part : goal.returns-in_err-put-clause-part
returns-in_err-put-clause-part g c =
    let writer = c.loop-pair.writer in
    in_err c.from_residual.result
    (listing_part c.args.log.now (g.K.Sink.held c.args.sink.now) (g.K.Sink.held c.loop-pair.sink) (g.K.Sink.held c.put.new.sink)
    writer.out writer.before writer.turn c.loop-pair.pair-iterator c.next.new.self c.in-Some.pair c.dep_of-dep.result
    c.loop-pair.invariant.3 c.in-Some.ensures.steps c.dep_of-dep.ensures c.in_err-put.ensures.part)
