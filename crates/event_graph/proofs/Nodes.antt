-- The nodes that a graph keeps.
use Rattle.std.proofs.Common.{◌≡◌, ◌∙◌, ℕ, zero, suc, ◌<◌, List, [], ◌∷◌, length, map, get_or, Option, Some, slice_get, All, arith, refl, sym, ap}
use Rattle.std.proofs.lemmas.Option.{slice_get-get_or}
use Rattle.vocabulary.specs.Prelude.{Node}
use Rattle.semantics.specs.ReplayOrder.{done_at, waits_at}
use Rattle.event_graph.specs.EventPlaces.{AreSources, nodes_by, place_or_zero}

node_count : (all more : List ℕ) (lists : List (List ℕ)) → length lists ≡ length more → length (nodes_by all more lists) ≡ length more
node_count all [] lists each = refl
node_count all (done ∷ more) [] each = absurd (omega (arith, each))
node_count all (done ∷ more) (list ∷ lists) each = ap suc (node_count all more lists (omega (arith, each)))

pub count_kept : (done : List ℕ) (lists : List (List ℕ)) → length lists ≡ length done → (nodes : List Node)
    → nodes_by done done lists ≡ nodes → length done ≡ length nodes
count_kept done lists each nodes is = sym (node_count done done lists each) ∙ ap (λ (ns : List Node). length ns) is

pub events_kept : (all more : List ℕ) (lists : List (List ℕ)) → length lists ≡ length more → (k : ℕ)
    → done_at (nodes_by all more lists) k ≡ slice_get more k
events_kept all [] lists each k = refl
events_kept all (done ∷ more) [] each k = absurd (omega (arith, each))
events_kept all (done ∷ more) (list ∷ lists) each zero = refl
events_kept all (done ∷ more) (list ∷ lists) each (suc k) = events_kept all more lists (omega (arith, each)) k

waits_kept : (all more : List ℕ) (lists : List (List ℕ)) → length lists ≡ length more → (k : ℕ)
    → waits_at (nodes_by all more lists) k ≡ map (λ p. get_or all p 0) (get_or lists k [])
waits_kept all [] [] each k = refl
waits_kept all [] (list ∷ lists) each k = absurd (omega (arith, each))
waits_kept all (done ∷ more) [] each k = absurd (omega (arith, each))
waits_kept all (done ∷ more) (list ∷ lists) each zero = refl
waits_kept all (done ∷ more) (list ∷ lists) each (suc k) = waits_kept all more lists (omega (arith, each)) k

-- What each list says of a node.
pub sources_kept : (done : List ℕ) (lists : List (List ℕ)) → length lists ≡ length done → (k : ℕ)
    → All (λ p. p < length done) (get_or lists k []) → AreSources (nodes_by done done lists) k (get_or lists k [])
sources_kept done lists each k within =
    listed (get_or lists k []) within ∙ ap (map (λ e. Some e)) (sym (waits_kept done done lists each k))
  where
    listed : (list : List ℕ) → All (λ p. p < length done) list
        → map (done_at (nodes_by done done lists)) list ≡ map (λ e. Some e) (map (λ p. get_or done p 0) list)
    listed [] within = refl
    listed (p ∷ ps) within =
        let here : done_at (nodes_by done done lists) p ≡ Some (get_or done p 0) =
        events_kept done done lists each p ∙ slice_get-get_or done p 0 (within 0 0 (omega arith)) in
        rw (here, listed ps (λ i d lt. within (suc i) d (omega (arith, lt)))) refl

-- Nodes are kept as they are, if what is found of events is where their nodes stand.
pub nodes_kept : (all : List ℕ) (place : ℕ → Option ℕ) (nodes : List Node)
    → All (λ (n : Node). All (λ e. get_or all (place_or_zero place e) 0 ≡ e) n.waits) nodes
    → nodes_by all (map (λ (n : Node). n.done) nodes) (map (λ (n : Node). map (place_or_zero place) n.waits) nodes) ≡ nodes
nodes_kept all place [] are = refl
nodes_kept all place (n ∷ nodes) are =
    rw (waits_are n.waits (are 0 n (omega arith)), nodes_kept all place nodes (λ i d lt. are (suc i) d (omega (arith, lt)))) refl
  where
    waits_are : (ws : List ℕ) → All (λ e. get_or all (place_or_zero place e) 0 ≡ e) ws
        → map (λ p. get_or all p 0) (map (place_or_zero place) ws) ≡ ws
    waits_are [] are = refl
    waits_are (w ∷ ws) are = rw (are 0 0 (omega arith), waits_are ws (λ i d lt. are (suc i) d (omega (arith, lt)))) refl
