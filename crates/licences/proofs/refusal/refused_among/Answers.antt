use Rattle.std.proofs.Common.{ℕ, ◌+◌, ◌≤◌, List, take, length, subst, sym}
use Rattle.std.proofs.lemmas.List.{take_all}
use Rattle.licences.specs.Claims.{lesser_place}
use Rattle.licences.specs.Reach.{IsLeastAmong}
use Rattle.licences.proofs.Least.{field_step, least_told}
use Rattle.licences.proofs.refusal.refused_among.Goals as goal

pub loop-field-preserved : goal.loop-field-preserved
loop-field-preserved g c =
    let all = c.args.all.now in
    let asked = c.args.asked.now in
    let i = c.loop-field.field-index in
    let fields = c.fields-field-items.result.now in
    let here = subst (λ (fs : List ℕ). IsLeastAmong all asked (take i fs) c.loop-field.least)
    (sym c.fields-field-items.ensures) c.loop-field.invariant in
    let next = field_step all asked fields i c.loop-field.least c.refused_at.result c.loop-field-test.true here c.refused_at.ensures in
    subst (λ o. IsLeastAmong all asked (take (i + 1) asked.fields) o) (sym c.lesser_of-least.ensures)
    (subst (λ (fs : List ℕ). IsLeastAmong all asked (take (i + 1) fs)
    (lesser_place c.loop-field.least c.refused_at.result)) c.fields-field-items.ensures next)

pub returns : goal.returns
returns g c =
    let all = c.args.all.now in
    let asked = c.args.asked.now in
    let end = subst (λ (fs : List ℕ). length fs ≤ c.loop-field.field-index) c.fields-field-items.ensures c.loop-field-test.false in
    least_told all asked c.loop-field.least
    (subst (λ (fs : List ℕ). IsLeastAmong all asked fs c.loop-field.least)
    (take_all c.loop-field.field-index asked.fields end) c.loop-field.invariant)
