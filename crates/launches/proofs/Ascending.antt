-- The rectangles of a record with a spelling, in order.
use Rattle.std.proofs.Common.{◌≡◌, ℕ, List, map, sym, subst}
use Rattle.point_set.specs.Rects.{AreRects}
use Rattle.vocabulary.specs.Prelude.{Good, Quad, Record, rect_of, strip}
use Rattle.spy_grammar.specs.declared.record.Record.TheVariants as records
use Rattle.semantics.proofs.lemmas.InOrder.{rects_in_order, strips_in_order}

pub of_runs : (id : ℕ) (set runs : List (ℕ × ℕ)) (r : Record) → Good r → r ≡ records.Ispace id set → runs ≡ set → AreRects (map strip runs)
of_runs id set runs r good is same =
    let h : Good (records.Ispace id set) = subst Good is good in
    subst (λ ps. AreRects (map strip ps)) (sym same) (strips_in_order set h.1.0)

pub of_quads : (id : ℕ) (quads all : List Quad) (r : Record) → Good r → r ≡ records.Plane id quads → all ≡ quads → AreRects (map rect_of all)
of_quads id quads all r good is same =
    let h : Good (records.Plane id quads) = subst Good is good in
    subst (λ qs. AreRects (map rect_of qs)) (sym same) (rects_in_order quads h.1.0)
