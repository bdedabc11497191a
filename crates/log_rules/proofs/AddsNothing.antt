-- Records that add nothing to the tally.
use Rattle.std.proofs.Common.{◌≡◌, ◌||◌, ℕ, true, false, List, [], ◌∷◌, ◌++◌, Option, None, refl, sym, ap, ◌∙◌, arith}
use Rattle.std.specs.Option.{option_map_or}
use Rattle.std.proofs.Math.Bool.{or-false}
use Rattle.std.proofs.lemmas.Bool.{false≢true}
use Rattle.point_set.specs.declared.rect.Rect.{Rect}
use Rattle.vocabulary.specs.Prelude.{Priv, Record, Tables, is_in, is_within, meets, with_record}
use Rattle.spy_grammar.specs.declared.record.Record.TheVariants as records
use Rattle.semantics.specs.Rules.{accesses, asked, cost_of}
use Rattle.semantics.specs.SerialOrder.{listed}
use Rattle.log_tables.specs.Views.{Ascends}
use Rattle.log_rules.specs.Counts.{cells_asked, points_asked}
use Rattle.log_rules.specs.Listing.{ids_listed}
use Rattle.log_rules.specs.Own.{claimed, clashes_in}
use Rattle.log_rules.specs.Tallied.{IsTally, MayCount, adds_nothing}
use Rattle.log_rules.specs.declared.claims.OwnPlace.{OwnPlace}
use Rattle.log_rules.specs.declared.tally.Tally.{Tally}
use Rattle.log_rules.proofs.BitRows.{rows_stay}
use Rattle.log_rules.proofs.Cells.{HasCells-add}
use Rattle.log_rules.proofs.Growing.{AreClaims-add, AreKnown-add, access_total-add, cell_total-add, listed-add, point_total-add}
use Rattle.log_rules.proofs.Numbering.{AreNumbered-add, few_more}
use Rattle.log_rules.proofs.Remembered.{answers_stay}

-- Such a record asks for nothing, lists nothing and claims nothing.
record Nothing (r : Record) : Type 0 where
  points : points_asked r ≡ 0
  cells : (t : Tables) → cells_asked t r ≡ 0
  accesses : asked r ≡ None
  items : ids_listed r ≡ []
  claims : (t : Tables) (k : OwnPlace) (a : Priv) → claimed t r k a ≡ false

of_kind : (r : Record) → adds_nothing r ≡ true → Nothing r
of_kind (records.Task id) e = record { points = refl; cells = λ t. refl; accesses = refl; items = refl; claims = λ t k a. refl }
of_kind (records.Map task number fields inst) e =
    record { points = refl; cells = λ t. refl; accesses = refl; items = refl; claims = λ t k a. refl }
of_kind (records.Run task done waits) e = record { points = refl; cells = λ t. refl; accesses = refl; items = refl; claims = λ t k a. refl }
of_kind (records.Merge done waits) e = record { points = refl; cells = λ t. refl; accesses = refl; items = refl; claims = λ t k a. refl }
of_kind r e = absurd (false≢true e)

-- The tally is that of one record more.
pub stays : (all : Option (List Rect)) (earlier : List Record) (t : Tables) (line : ℕ) (r : Record) (tally : Tally) → adds_nothing r ≡ true
    → Ascends r → IsTally all earlier t tally → MayCount all earlier t r
    → IsTally all (earlier ++ r ∷ []) (with_record t line r) tally
stays all earlier t line r tally kind up is may =
    let none = of_kind r kind in
    let unasked : accesses t r ≡ 0 = ap (λ (o : Option (ℕ × List ℕ)). option_map_or (λ (p : ℕ × List ℕ). cost_of t p.0 p.1) o 0) none.accesses in
    record {
      counts = λ still.
          let flat = may.version line still in
          let of = is.counts flat in
          let total = access_total-add earlier t line r flat still is.known.accesses may.known in
          record {
            points = omega (arith, of.points, point_total-add t line r, none.points);
            cells = omega (arith, of.cells, cell_total-add t line r is.known.insts may.known, none.cells t);
            accesses = omega (arith, of.accesses, total, unasked);
            within = omega (arith, of.within, total, unasked);
          };
      lists = λ n. is.lists n
          ∙ sym (listed-add t line r n ∙ ap (λ (ids : List ℕ). is_in (listed t) n || is_in ids n) none.items ∙ or-false (is_in (listed t) n));
      known = AreKnown-add earlier t line r is.known may.known;
      kept = record {
        grid = is.kept.grid;
        cells = HasCells-add all t line r up may.listed is.kept.cells;
        pairs = record {
          rows = rows_stay all t line r tally.pairs.rows is.kept.pairs.rows;
          within = answers_stay is_within t line r tally.pairs.within is.kept.pairs.within;
          meeting = answers_stay meets t line r tally.pairs.meeting is.kept.pairs.meeting;
        };
        claims = λ low. AreClaims-add all t line r tally.claims tally.claims (is.kept.claims low) is.known.reqs (λ k a begins.
            let here = clashes_in tally.claims k a in
            sym (ap (λ b. here || b) (none.claims t k a) ∙ or-false here));
        numbered = AreNumbered-add t line r is.kept.numbered;
        few = omega (arith, few_more t line r, may.few);
      };
    }
