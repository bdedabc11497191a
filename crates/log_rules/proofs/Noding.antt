-- Events that records complete.
use Rattle.std.proofs.Common.{◌≡◌, ◌==◌, false, List, Option, None, Some, sym}
use Rattle.std.proofs.lemmas.Option.{none-some}
use Rattle.std.specs.List.{list_any}
use Rattle.std.specs.Option.{option_map, option_map_or}
use Rattle.vocabulary.specs.Prelude.{Node, LogNode}
use Rattle.log_rules.proofs.ListTests.{list_any-false}

pub repeats-none : (o : Option Node) (nodes : List LogNode) → None ≡ option_map (λ (n : Node). n.done) o
    → false ≡ list_any (λ (m : LogNode). option_map_or (λ (n : Node). n.done == m.done) o false) nodes
repeats-none None nodes e = sym (list_any-false nodes)
repeats-none (Some n) nodes e = absurd (none-some n.done e)
