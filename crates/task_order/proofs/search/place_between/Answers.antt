use Rattle.std.proofs.Common.{◌≡◌, ◌∙◌, ◌&&◌, true, not, sym, ap, ap₂, arith, length}
use Rattle.std.proofs.lemmas.Bool.{true≢false, and_parts, not-true}
use Rattle.vocabulary.specs.Prelude.{is_free, item_kind}
use Rattle.semantics.specs.Shown.{is_task_at}
use Rattle.item_uses.specs.Usages.{usages_at, usages_of}
use Rattle.item_uses.specs.Sharing.{place_between}
use Rattle.item_uses.proofs.lemmas.Growing.{usages_length, usages_is}
use Rattle.item_uses.proofs.lemmas.Positions.{at_is}
use Rattle.item_uses.proofs.lemmas.ItemKinds.{kind_is}
use Rattle.item_uses.proofs.lemmas.LeastPlaces.{place_is}
use Rattle.item_uses.proofs.lemmas.Bounded.{none_free}
use Rattle.task_order.proofs.search.place_between.Goals as goal

pub offset_bounds-uses-a : goal.offset_bounds-uses-a
offset_bounds-uses-a g c =
    let long = ap length (c.items-uses.ensures ∙ c.in_ok-asked.ensures) ∙ usages_length c.args.log.now in
    omega (arith, c.requires.a, long, c.items-uses.type_inv.1)

pub bounds-uses-a : goal.bounds-uses-a
bounds-uses-a g c =
    let long = ap length (c.items-uses.ensures ∙ c.in_ok-asked.ensures) ∙ usages_length c.args.log.now in
    omega (arith, c.requires.a, long)

pub offset_bounds-uses-b : goal.offset_bounds-uses-b
offset_bounds-uses-b g c =
    let long = ap length (c.items-uses.ensures ∙ c.in_ok-asked.ensures) ∙ usages_length c.args.log.now in
    omega (arith, c.requires.b, long, c.items-uses.type_inv.1)

pub bounds-uses-b : goal.bounds-uses-b
bounds-uses-b g c =
    let long = ap length (c.items-uses.ensures ∙ c.in_ok-asked.ensures) ∙ usages_length c.args.log.now in
    omega (arith, c.requires.b, long)

pub unreachable-requires : goal.unreachable-requires
unreachable-requires g c =
    let t = c.args.log.now in
    let us = c.items-uses.result.now in
    let long = ap length (c.items-uses.ensures ∙ c.in_ok-asked.ensures) ∙ usages_length t in
    let one : c.index-uses-a.result ≡ usages_of t c.args.a =
    at_is us c.args.a c.index-uses-a.result (omega (arith, c.requires.a, long)) c.index-uses-a.is
    ∙ (ap (λ us. usages_at us c.args.a) (c.items-uses.ensures ∙ c.in_ok-asked.ensures) ∙ usages_is t c.args.a c.requires.a) in
    let other : c.index-uses-b.result ≡ usages_of t c.args.b =
    at_is us c.args.b c.index-uses-b.result (omega (arith, c.requires.b, long)) c.index-uses-b.is
    ∙ (ap (λ us. usages_at us c.args.b) (c.items-uses.ensures ∙ c.in_ok-asked.ensures) ∙ usages_is t c.args.b c.requires.b) in
    let none = ap₂ place_between (sym one) (sym other) ∙ (sym c.interference.ensures.place ∙ c.in-None.is) in
    let free : is_free (item_kind t c.args.a c.args.b) ≡ true =
    ap is_free (kind_is t c.args.a c.args.b ∙ none_free (usages_of t c.args.a) (usages_of t c.args.b) none) in
    let parts = and_parts (is_task_at t c.args.a && is_task_at t c.args.b)
    (not (is_free (item_kind t c.args.a c.args.b))) c.requires.interfere in
    true≢false (sym free ∙ not-true (is_free (item_kind t c.args.a c.args.b)) parts.1)

pub returns : goal.returns
returns g c =
    let t = c.args.log.now in
    let us = c.items-uses.result.now in
    let long = ap length (c.items-uses.ensures ∙ c.in_ok-asked.ensures) ∙ usages_length t in
    let one : c.index-uses-a.result ≡ usages_of t c.args.a =
    at_is us c.args.a c.index-uses-a.result (omega (arith, c.requires.a, long)) c.index-uses-a.is
    ∙ (ap (λ us. usages_at us c.args.a) (c.items-uses.ensures ∙ c.in_ok-asked.ensures) ∙ usages_is t c.args.a c.requires.a) in
    let other : c.index-uses-b.result ≡ usages_of t c.args.b =
    at_is us c.args.b c.index-uses-b.result (omega (arith, c.requires.b, long)) c.index-uses-b.is
    ∙ (ap (λ us. usages_at us c.args.b) (c.items-uses.ensures ∙ c.in_ok-asked.ensures) ∙ usages_is t c.args.b c.requires.b) in
    place_is t c.args.a c.args.b ∙ (ap₂ place_between (sym one) (sym other) ∙ (sym c.interference.ensures.place ∙ c.in-Some.is))
