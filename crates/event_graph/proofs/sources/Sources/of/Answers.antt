use Rattle.std.proofs.Common.{◌≡◌, ◌∙◌, ◌<◌, ◌∷◌, ◌++◌, ◌^◌, [], ℕ, All, List, Some, length, map, slice_get, ap, arith, refl, subst, sym}
use Rattle.id_maps.specs.Entries.{entry_at}
use Rattle.std.specs.Option.{IsSomeAnd}
use Rattle.std.proofs.lemmas.List.{take_all}
use Rattle.std.proofs.lemmas.Option.{slice_get-get_or}
use Rattle.vocabulary.specs.Prelude.{Node}
use Rattle.semantics.specs.ReplayOrder.{waits_at}
use Rattle.event_graph.specs.EventPlaces.{place_or_zero}
use Rattle.event_graph.proofs.Flat.{list_added}
use Rattle.event_graph.proofs.sources.Sources.of.Goals as goal

pub add_places-requires : goal.add_places-requires
add_places-requires c =
    let k = c.loop-node.node-index in
    let n = c.node-item.result in
    let at : slice_get c.args.nodes.now k ≡ Some n =
    slice_get-get_or c.args.nodes.now k n c.loop-node-test.true ∙ ap (λ z. Some z) (sym c.node-item.is) in
    let waits : c.node.inside.waits.now ≡ waits_at c.args.nodes.now k = ap (λ (m : Node). m.waits) c.node.view_is ∙ rw at refl in
    subst (λ ws. All (λ e. IsSomeAnd (entry_at c.args.places.now e) (λ p. p < 2 ^ 32)) ws) (sym waits) (c.requires k)

pub loop-node-init : goal.loop-node-init
loop-node-init c = record {
  ends = [];
  starts = c.in_ok-push.ensures.items ∙ ap (λ (l : List ℕ). l ++ 0 ∷ []) c.in_ok-starts.ensures.items;
  fit = sym (ap (λ (l : List ℕ). length l) c.in_ok-numbers.ensures.items);
  lists = refl;
}

pub loop-node-preserved : goal.loop-node-preserved
loop-node-preserved c =
    let h = c.loop-node.invariant in
    let new = c.add_places.new.numbers.items in
    let place = entry_at c.args.places.now in
    let end = length c.as_slice.result.now in
    let added = list_added (λ (m : Node). map (place_or_zero place) m.waits) c.args.nodes.now c.loop-node.node-index c.node-item.result
    c.loop-node-test.true c.node-item.is c.loop-node.numbers.items new h.ends h.fit h.lists
    (c.in_ok-add_places.ensures ∙ ap (λ (m : Node). c.loop-node.numbers.items ++ map (place_or_zero place) m.waits) c.node.view_is)
    end (ap (λ (l : List ℕ). length l) c.as_slice.ensures.value) in
    record {
      ends = h.ends ++ end ∷ [];
      starts = c.in_ok-push-2.ensures.items ∙ ap (λ (l : List ℕ). l ++ end ∷ []) h.starts;
      fit = added.0;
      lists = added.1;
    }

pub invariant_of-result : goal.invariant_of-result
invariant_of-result c =
    let h = c.loop-node.invariant in
    (rw h.starts refl, rw h.starts h.fit)

pub returns : goal.returns
returns c =
    let h = c.loop-node.invariant in
    rw h.starts h.lists ∙ ap (λ (ns : List Node). map (λ (n : Node). map (place_or_zero (entry_at c.args.places.now)) n.waits) ns)
    (take_all c.loop-node.node-index c.args.nodes.now (omega arith))
