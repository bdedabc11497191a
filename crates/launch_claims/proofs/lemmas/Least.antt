-- The least number with a property.
use Rattle.std.proofs.Common.{ℕ, Option, Some, None}
use Rattle.launch_claims.specs.Interference.{IsLeast}

-- Of two properties that hold of the same numbers.
pub least_same : (P Q : ℕ → Type 0) → ((n : ℕ) → P n → Q n) → ((n : ℕ) → Q n → P n) → (o : Option ℕ) → IsLeast P o → IsLeast Q o
least_same P Q to from None h = λ n q. h n (from n q)
least_same P Q to from (Some m) h = (to m h.0, λ n q. h.1 n (from n q))
