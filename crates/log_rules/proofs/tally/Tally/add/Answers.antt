use Rattle.std.proofs.lemmas.Bool.{cases_lt}
use Rattle.std.proofs.lemmas.Bool.Decides.{nat_tests}
use Rattle.std.proofs.Common.{◌≡◌, ℕ, ◌≤◌, nat_lt, false, inl, inr, arith, ◌+◌, ◌-◌, ◌^◌, ◌||◌, ap, sym, ◌∙◌}
use Rattle.vocabulary.specs.Prelude.{is_in}
use Rattle.semantics.specs.Rules.{accesses}
use Rattle.log_rules.specs.Counts.{points_asked, cells_asked, size_asked}
use Rattle.log_limits.specs.Sums.{cut}
use Rattle.log_rules.specs.Listing.{ids_listed}
use Rattle.log_rules.proofs.AddsNothing.{stays}
use Rattle.log_rules.proofs.Cells.{HasCells-add}
use Rattle.log_rules.proofs.Limits.{cut-both}
use Rattle.log_rules.proofs.Growing.{AreKnown-add, point_total-add, cell_total-add, access_total-add, points-exact, cells-exact, accesses-exact, few_accesses, listed-add, AreClaims-add}
use Rattle.log_rules.proofs.Numbering.{AreNumbered-add, few_more}
use Rattle.log_rules.proofs.tally.Tally.add.Goals as goal

within_limit : (a b n : ℕ) → nat_lt 4194304 (a + b) ≡ false → n ≡ a + b → n ≤ 4194304
within_limit a b n few is = elim (cases_lt 4194304 (a + b)) [ inl lt ↦ grind (arith, nat_tests) | inr le ↦ omega arith ]

pub returns-then-adds_nothing : goal.returns-then-adds_nothing
returns-then-adds_nothing g c = λ all earlier line is may.
    let named = c.args.named.now in
    stays all earlier named.tables.now line named.rec.now c.args.self.now (sym c.adds_nothing.ensures ∙ c.if-adds_nothing.true) c.requires is may

pub returns : goal.returns
returns g c = λ all earlier line is may.
    let named = c.args.named.now in
    let t = named.tables.now in
    let r = named.rec.now in
    let old = c.args.self.now in
    let most = 2 ^ 128 - 1 in
    record {
      counts = λ still.
          let flat = may.version line still in
          let of = is.counts flat in
          record {
            points =
                c.raised-self.ensures.sum ∙ ap (λ m. cut (old.points + m)) c.points_asked.ensures
                ∙ cut-both old.points (points_asked r) most ∙ points-exact t r old.points of.points c.raised-self.ensures.fits flat may.points
                ∙ sym (point_total-add t line r);
            cells =
                c.raised-self-2.ensures.sum ∙ ap (λ m. cut (old.cells + m)) c.cells_asked.ensures
                ∙ cut-both old.cells (cells_asked t r) most ∙ cells-exact t r old.cells of.cells c.raised-self-2.ensures.fits flat may.cells
                ∙ sym (cell_total-add t line r is.known.insts may.known);
            accesses =
                c.raised-self-3.ensures.sum ∙ ap (λ m. cut (old.accesses + m)) (named.is_asked flat)
                ∙ cut-both old.accesses (size_asked t r) most ∙ accesses-exact earlier t r old.accesses of.accesses flat may.accesses
                ∙ sym (access_total-add earlier t line r flat still is.known.accesses may.known);
            within = within_limit _ (accesses t r) _ (few_accesses earlier t r flat may.accesses)
                (access_total-add earlier t line r flat still is.known.accesses may.known);
          };
      lists = λ n. c.in_ok-note_listed.ensures n ∙ ap (λ b. b || is_in (ids_listed r) n) (is.lists n) ∙ sym (listed-add t line r n);
      known = AreKnown-add earlier t line r is.known may.known;
      kept = record {
        grid = c.in_ok-note-2.ensures ∙ is.kept.grid;
        cells = HasCells-add all t line r c.requires may.listed is.kept.cells;
        pairs = c.in_ok-note.ensures all line is.kept.grid is.kept.pairs;
        claims = λ low. AreClaims-add all t line r old.claims c.note_claims.new.claims
            (is.kept.claims (omega (arith, c.claimed_with-claimed.ensures, low))) is.known.reqs
            (c.in_ok-note_claims.ensures all is.kept.grid low);
        numbered = AreNumbered-add t line r is.kept.numbered;
        few = omega (arith, few_more t line r, may.few);
      };
    }
