-- What is on its way to a sink.
use Rattle.std.specs.Prelude.{◌≡◌, ℕ, Option, List, ◌++◌}
use Rattle.std.specs.Io.KnownBytes.{Appends}

-- The bytes held grew by a text, but for its end, which is kept back.
pub record IsSent (before now : Option (List ℕ)) (text kept : List ℕ) : Type 0 where
  pub sent : List ℕ
  pub parts : text ≡ sent ++ kept
  pub grown : Appends before now sent
