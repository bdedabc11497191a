use Rattle.std.proofs.Common.{refl, sym, ◌∙◌, subst}
use Rattle.point_set.specs.Rects.{AreRects}
use Rattle.launches.proofs.Ascending.{of_quads, of_runs}
use Rattle.launches.proofs.uses.space_in.Goals as goal

pub strips_of-requires : goal.strips_of-requires
strips_of-requires g c = of_runs c.in-Ispace.id c.in-Ispace.set c.as_slice.result.now c.args.rec.now c.requires c.in-Ispace.is c.as_slice.ensures

pub space_of_rects-requires : goal.space_of_rects-requires
space_of_rects-requires g c κs =
    let runs = of_runs c.in-Ispace.id c.in-Ispace.set c.as_slice.result.now c.args.rec.now c.requires c.in-Ispace.is c.as_slice.ensures in
    ((refl, tt), subst AreRects (sym (c.as_slice-in-Ispace.ensures.value ∙ c.in_ok-rects-in-Ispace.ensures)) runs)

pub space_of_rects-requires-in-Plane : goal.space_of_rects-requires-in-Plane
space_of_rects-requires-in-Plane g c κs =
    let quads = of_quads c.in-Plane.id c.in-Plane.rects c.as_slice-in-Plane.result.now c.args.rec.now c.requires c.in-Plane.is c.as_slice-in-Plane.ensures in
    ((refl, tt), subst AreRects (sym (c.as_slice-in-Plane-2.ensures.value ∙ c.in_ok-rects-in-Plane.ensures)) quads)
