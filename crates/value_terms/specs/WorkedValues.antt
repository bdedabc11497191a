-- Parts of worked values.
use Rattle.std.specs.Prelude.{ℕ, [], ◌∷◌}
use Rattle.value_terms.specs.declared.terms.Contribution.{Contribution}
use Rattle.value_terms.specs.declared.bag.Group.{Group}

-- What the first requirement of the first task adds.
abbrev pub from_first : Contribution
from_first = record { task = 1; req = 1 }

-- What the first requirement of the second task adds.
abbrev pub from_second : Contribution
from_second = record { task = 2; req = 1 }

-- A group of one contribution, with its count.
abbrev pub group_with : ℕ → Contribution → ℕ → Group
group_with op c n = record { op = op; bag = (c, n) ∷ [] }
