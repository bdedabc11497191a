-- What comes after all that it has to come after, whatever the marks of a graph are.
use Rattle.std.proofs.Common.{◌≡◌, ◌<◌, false, not, List, All, length, get_or, ap}
use Rattle.std.proofs.lemmas.List.Folds.{list_any_none}
use Rattle.vocabulary.specs.Prelude.{Node, Before}
use Rattle.reach_marks.specs.Reached.{Marks, AreMarksOf, before_in}
use Rattle.cell_races.specs.declared.access.NodeAccess.{NodeAccess}
use Rattle.cell_races.specs.Groups.{Groups, asked, fails_at}

-- A node that comes after all that it has to come after does not fail.
pub never_fails : (nodes : List Node) (marks : Marks) → AreMarksOf nodes marks → (g : Groups) (v : NodeAccess)
    → All (λ a. a < length nodes) (asked g v) → v.node < length nodes → All (λ a. Before nodes a v.node) (asked g v)
    → fails_at (before_in marks) g v ≡ false
never_fails nodes marks are g v within lt before = list_any_none (λ a. not (before_in marks a v.node)) (asked g v)
    (λ i d less. let a = get_or (asked g v) i d in ap not ((are.exact a v.node (within i d less) lt).1 (before i d less)))
