use Rattle.std.proofs.Common.{◌≡◌, rules, List, Option, subst, sym, ◌∙◌}
use Rattle.std.specs.Option.{MatchOption}
use Rattle.std.specs.Prelude.{⊤}
use Rattle.point_set.specs.declared.rect.Rect.{Rect}
use Rattle.point_set.specs.Rects.{AreSmall, rect_points}
use Rattle.cell_bits.specs.declared.cells.CellBits.{CellBits}
use Rattle.cell_bits.specs.Bits.{AreBitsOf}
use Rattle.log_rules.specs.Tallied.{rects_in}
use Rattle.log_rules.proofs.BitRows.{small_rects}
use Rattle.log_rules.proofs.cell_rows.bits_declared.Goals as goal

pub returns-in-Some : goal.returns-in-Some
returns-in-Some c = λ all is.
    let rec = c.args.rec.now in
    let rects : c.as_slice.result.now ≡ rects_in rec = c.as_slice.ensures.value ∙ c.in_ok-rects-in-Ispace.ensures in
    let small = subst AreSmall (sym rects) (small_rects rec c.requires) in
    let bits = subst (λ (o : Option CellBits). MatchOption o ⊤ (AreBitsOf c.args.grid.now (rect_points c.as_slice.result.now))) c.in-Some.is
    (c.in_ok-bits-in-Ispace.ensures.bits all is small) in
    (search rules, subst (λ (rs : List Rect). AreBitsOf c.args.grid.now (rect_points rs) c.in-Some.bits) rects bits)
