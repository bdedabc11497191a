use Rattle.std.proofs.Common.{◌≡◌, ◌∙◌, sym, ap, subst, length, arith, Option, option_map}
use Rattle.vocabulary.specs.Prelude.{Tables}
use Rattle.semantics.specs.SerialOrder.{serial, turned_pair}
use Rattle.item_uses.proofs.lemmas.Growing.{usages_length}
use Rattle.logs.specs.Listing.{ArePlacesIn}
use Rattle.interference.specs.Pairing.{asked_of}
use Rattle.interference.proofs.lemmas.Turning.{turned_found, none_found}
use Rattle.interference.proofs.Skipping.{first_found}
use Rattle.interference.proofs.serial.breaks_from.Goals as goal

pub of-search-requires : goal.of-search-requires
of-search-requires g c = c.serial_places-places.ensures.each ∙ ap (λ (t : Tables). length t.items) c.plain.ensures

pub first_turned-requires-clause-start : goal.first_turned-requires-clause-start
first_turned-requires-clause-start g c =
    let long = ap length c.of-search.ensures.items ∙ usages_length c.args.log.now in
    omega (arith, c.requires.start, long)

pub returns-in-Some-clause-pair : goal.returns-in-Some-clause-pair
returns-in-Some-clause-pair g c =
    let t = c.args.log.now in
    let places = c.serial_places-places.result.now in
    let are = subst (λ (t : Tables). ArePlacesIn (serial t) (length t.items) places) c.plain.ensures c.serial_places-places.ensures in
    (turned_found t c.in-Some.pair (first_found t c.of-search.result.items.now
    (asked_of c.of-search.result.asked) places c.args.start c.first_turned.result
    (sym c.of-search.ensures.items) are (ap asked_of c.of-search.ensures.asked)
    c.requires.clear c.requires.start c.first_turned.ensures ∙ c.in-Some.is)).0

pub returns-in-Some-clause-place : goal.returns-in-Some-clause-place
returns-in-Some-clause-place g c =
    let t = c.args.log.now in
    let places = c.serial_places-places.result.now in
    let are = subst (λ (t : Tables). ArePlacesIn (serial t) (length t.items) places) c.plain.ensures c.serial_places-places.ensures in
    (turned_found t c.in-Some.pair (first_found t c.of-search.result.items.now
    (asked_of c.of-search.result.asked) places c.args.start c.first_turned.result
    (sym c.of-search.ensures.items) are (ap asked_of c.of-search.ensures.asked)
    c.requires.clear c.requires.start c.first_turned.ensures ∙ c.in-Some.is)).1

pub returns-in-None-clause-ok : goal.returns-in-None-clause-ok
returns-in-None-clause-ok g c =
    let t = c.args.log.now in
    let places = c.serial_places-places.result.now in
    let are = subst (λ (t : Tables). ArePlacesIn (serial t) (length t.items) places) c.plain.ensures c.serial_places-places.ensures in
    none_found t (first_found t c.of-search.result.items.now
    (asked_of c.of-search.result.asked) places c.args.start c.first_turned.result
    (sym c.of-search.ensures.items) are (ap asked_of c.of-search.ensures.asked)
    c.requires.clear c.requires.start c.first_turned.ensures ∙ c.in-None.is)
