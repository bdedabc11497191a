use Rattle.std.proofs.Common.{◌≡◌, ◌≤◌, None, slice_get, sym, ◌∙◌, arith}
use Rattle.vocabulary.specs.Prelude.{points_in, reqs_of}
use Rattle.log_rules.specs.Own.{clashes_with}
use Rattle.log_rules.proofs.Numbering.{all_fail, one_fails, one_passes}
use Rattle.log_rules.proofs.own.clashes_among.Goals as goal

pub returns-in_default : goal.returns-in_default
returns-in_default g c = λ all are.
    let t = c.args.tables.now in
    let asked = c.args.asked.now in
    let k = c.loop-before.before in
    let none : slice_get (reqs_of t asked.item) k ≡ None = sym (are.numbered asked.item k) ∙ sym c.in_default.ensures.req in
    let f = clashes_with t asked.item asked.tree (points_in t asked.space) asked.fields.now asked.access in
    let within : k ≤ c.args.most = omega (arith, c.loop-before-test.true) in
    sym (all_fail f (reqs_of t asked.item) k c.args.most none within (c.loop-before.invariant all are))

pub returns-then-clashes_with : goal.returns-then-clashes_with
returns-then-clashes_with g c = λ all are.
    let t = c.args.tables.now in
    let asked = c.args.asked.now in
    let k = c.loop-before.before in
    let f = clashes_with t asked.item asked.tree (points_in t asked.space) asked.fields.now asked.access in
    sym (one_passes f (reqs_of t asked.item) k c.args.most c.in-Some.req.now
    (sym (are.numbered asked.item k) ∙ sym c.in-Some.ensures.req) c.loop-before-test.true
    (sym (c.clashes_with.ensures all are) ∙ c.if-clashes_with.true))

pub loop-before-preserved : goal.loop-before-preserved
loop-before-preserved g c = λ all are.
    let t = c.args.tables.now in
    let asked = c.args.asked.now in
    let k = c.loop-before.before in
    let f = clashes_with t asked.item asked.tree (points_in t asked.space) asked.fields.now asked.access in
    one_fails f (reqs_of t asked.item) k c.in-Some.req.now (sym (are.numbered asked.item k) ∙ sym c.in-Some.ensures.req)
    (sym (c.clashes_with.ensures all are) ∙ c.if-clashes_with.false) (c.loop-before.invariant all are)
