-- The users of places in one list, and where those of each place stand in it.
use Rattle.std.specs.Prelude.{ℕ, ◌-◌, ◌≤◌, List, take, drop}
use Rattle.pair_rows.specs.declared.users.User.{User}

-- The users from one position of the list to before another.
abbrev pub users_between : List User → ℕ × ℕ → List User
users_between users span = take (span.1 - span.0) (drop span.0 users)

-- The two positions are in order, and within a list.
pub record IsSpan (count : ℕ) (span : ℕ × ℕ) : Type 0 where
  pub order : span.0 ≤ span.1
  pub within : span.1 ≤ count
