use Rattle.std.proofs.Common.{◌∙◌, ap, sym, map, length, subst, List, ℕ}
use Rattle.std.proofs.lemmas.Simd.{map-map}
use Rattle.vocabulary.specs.Prelude.{Space}
use Rattle.log_tables.specs.Views.{space_seen}
use Rattle.logs.specs.Listing.{ArePlacesIn, line_listing}
use Rattle.logs.proofs.found.found_in.Goals as goal

pub returns-clause-found : goal.returns-clause-found
returns-clause-found g c =
    let places = c.in_ok-places.places.items in
    let order = c.in_ok-order.order.items in
    let by_order = subst (λ (o : List ℕ). ArePlacesIn o
    (length c.items.result.now) places) c.as_slice.ensures.value c.in_ok-places.ensures in
    record {
      ids = c.in_ok-space_ids.ensures ∙ sym (map-map (λ (s : Space). s.id) (space_seen g.P.PointSet.points) c.spaces.result.now)
          ∙ ap (map (λ (s : Space). s.id)) c.spaces.ensures;
      order = c.in_ok-order.ensures;
      places = subst (λ (n : ℕ). ArePlacesIn order n places) (ap length c.items.ensures.items) by_order;
      lines = λ id. c.in_ok-lines.ensures id ∙ ap (λ serials. line_listing serials id) c.serials.ensures;
    }
