use Rattle.std.proofs.Common.{◌≡◌, ◌||◌, ◌==◌, true, refl, ap, sym, ◌∙◌, subst, arith}
use Rattle.std.proofs.Math.Bool.{or-true}
use Rattle.std.proofs.lemmas.Bool.{eq-eqb, true≢false}
use Rattle.std.proofs.lemmas.List.{take_all}
use Rattle.id_maps.specs.Sets.{has_id}
use Rattle.point_kinds.specs.Marks.{AreSpacesRead}
use Rattle.point_kinds.proofs.Marking.{spaces_more}
use Rattle.point_kinds.proofs.read_points.spaces_read.Goals as goal

pub loop-req-preserved-then-not-reads : goal.loop-req-preserved-then-not-reads
loop-req-preserved-then-not-reads c =
    spaces_more c.args.reqs.now c.loop-req.req-index c.req-item.result c.loop-req.ids c.loop-req.ids c.loop-req-test.true c.req-item.is
    (λ id has. has) (λ read. absurd (true≢false (sym read ∙ sym c.reads.ensures ∙ c.if-not-reads.true))) c.loop-req.invariant

pub loop-req-preserved : goal.loop-req-preserved
loop-req-preserved c =
    let put = c.in_ok-insert.ensures.put in
    let id = c.req-item.result.space in
    spaces_more c.args.reqs.now c.loop-req.req-index c.req-item.result c.loop-req.ids c.insert.new.self c.loop-req-test.true c.req-item.is
    (λ other has. put other ∙ ap (λ b. b || (id == other)) has)
    (λ read. put id ∙ ap (λ b. has_id c.loop-req.ids id || b) (eq-eqb id id refl) ∙ or-true (has_id c.loop-req.ids id)) c.loop-req.invariant

pub returns : goal.returns
returns c = subst (λ rs. AreSpacesRead rs c.loop-req.ids)
    (take_all c.loop-req.req-index c.args.reqs.now (omega (arith, c.loop-req-test.false))) c.loop-req.invariant
