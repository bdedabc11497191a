use Rattle.std.proofs.Common.{◌∙◌, ap, sym, ℕ, List, length}
use Rattle.vocabulary.specs.Prelude.{Serial}
use Rattle.id_maps.specs.Sets.{has_id}
use Rattle.semantics.specs.Rules.{is_bad_serial}
use Rattle.log_rules.specs.Listing.{lists_badly}
use Rattle.log_rules.proofs.Listings.{lists_badly-is}
use Rattle.log_rules.proofs.serial.is_bad_serial.Goals as goal

pub returns-in_ok-bad-in-Serial : goal.returns-in_ok-bad-in-Serial
returns-in_ok-bad-in-Serial g c = λ all earlier is.
    let log = c.args.whole.now in
    let t = c.args.tables.now in
    let set = has_id c.args.tally.now.listed in
    c.in_ok-bad-in-Serial.ensures
    ∙ ap (λ (ids : List ℕ). lists_badly log (length c.serials-before.result.now) set ids) c.as_slice.ensures
    ∙ ap (λ (lists : List Serial). lists_badly log (length lists) set c.in-Serial.items) c.serials-before.ensures
    ∙ lists_badly-is log t set c.in-Serial.items is.lists
    ∙ ap (is_bad_serial log t) (sym c.in-Serial.is)
