-- Without all spare waits the same nodes are before the same ones, and without one more they are not.
use Rattle.std.proofs.Common.{◌≡◌, ℕ, List, [], ◌∷◌, Some, slice_get, Contains}
use Rattle.vocabulary.specs.Prelude.{ListedWait, Node, AreLinked, IsCycle}
use Rattle.semantics.specs.ReplayOrder.{waits_at}
use Rattle.semantics.specs.Spare.{AreSpareWaits, HaveSameBefore, is_among, without}
use Rattle.log_laws.proofs.lemmas.Cycles.{has_cycle}
use Rattle.log_laws.proofs.lemmas.Rounds.{replay, once, listed_decides, before_met}
use Rattle.spare_laws.proofs.lemmas.Growing.{among, not_among}
use Rattle.spare_laws.proofs.Ranks.{Rises, rises}
use Rattle.spare_laws.proofs.Implied.{same, least}

ranks : (nodes : List Node) → AreLinked nodes → ((cycle : List ℕ) → IsCycle nodes cycle → ⊥) → Rises nodes
ranks nodes linked free = rises nodes free (once (replay nodes).taken) (listed_decides nodes)
    (λ front k back is j waits. before_met nodes linked front k back is j ([], waits)) (has_cycle nodes linked)

pub spare_same : (nodes : List Node) → AreLinked nodes → ((cycle : List ℕ) → IsCycle nodes cycle → ⊥) → (list : List ListedWait)
    → AreSpareWaits nodes list → HaveSameBefore (without list nodes) nodes
spare_same nodes linked free list are = same nodes (ranks nodes linked free) linked (is_among list) (among nodes list are)

pub spare_least : (nodes : List Node) → AreLinked nodes → ((cycle : List ℕ) → IsCycle nodes cycle → ⊥) → (list : List ListedWait)
    → AreSpareWaits nodes list → (w : ListedWait) (event : ℕ)
    → slice_get (waits_at nodes w.node) w.k ≡ Some event → (Contains list w → ⊥)
    → HaveSameBefore (without (w ∷ list) nodes) (without list nodes) → ⊥
spare_least nodes linked free list are w event listed left =
    least nodes (ranks nodes linked free) linked (is_among list) (among nodes list are) w.node w.k event listed
    (not_among nodes list are w left)
