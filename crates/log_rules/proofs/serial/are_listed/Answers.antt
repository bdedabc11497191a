use Rattle.std.proofs.Common.{Bool, ◌∙◌, ap, sym}
use Rattle.id_maps.specs.Sets.{has_id}
use Rattle.std.proofs.lemmas.List.Folds.{list_all-map, list_all_at}
use Rattle.vocabulary.specs.Prelude.{Record, Lined}
use Rattle.log_rules.specs.Listing.{is_listed}
use Rattle.log_rules.proofs.serial.are_listed.Goals as goal

pub returns-then-not-is_listed : goal.returns-then-not-is_listed
returns-then-not-is_listed c =
    let log = c.args.log.now in
    let p : Record → Bool = is_listed (has_id c.args.listed.now) (has_id c.args.here.now) in
    sym
    (list_all-map p (λ (l : Lined). l.rec) log
    ∙ list_all_at (λ (l : Lined). p l.rec) log c.loop-l.l-index c.l-item.result c.loop-l-test.true
    (ap (λ (l : Lined). p l.rec) (sym c.l-item.is) ∙ sym c.if-not-is_listed.ensures)
    )
