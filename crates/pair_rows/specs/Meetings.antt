-- Which users of a place meet, and which bits tell of it.
use Rattle.std.specs.Prelude.{◌≡◌, ◌≢◌, ℕ, ◌+◌, ◌<◌, ◌≤◌, ◌==◌, ◌||◌, ◌&&◌, not, nat_lt, Bool, List, [], length, Contains}
use Rattle.std.specs.List.{list_any, slice_index_or}
use Rattle.std.specs.List.Sorted.{IsNonDecreasingBy}
use Rattle.bit_words.specs.Bits.{has_bit}
use Rattle.pair_rows.specs.Counting.{count_below}
use Rattle.pair_rows.specs.declared.users.User.{User}

-- Whether a number is that of a user.
abbrev pub uses_it : List User → ℕ → Bool
uses_it users n = list_any (λ (u : User). u.item == n) users

-- Whether the row of an item has a bit.
abbrev pub row_bit : List (List ℕ) → ℕ → ℕ → Bool
row_bit rows a i = has_bit (slice_index_or rows a []) i

-- Users meet where the one is of class 0, or they are of different classes.
abbrev pub meets : User → User → Bool
meets u v = (u.class == 0) || not (u.class == v.class)

-- Whether an item is that of one of the first users, which meets one of the second users with the other item.
abbrev pub met : List User → List User → ℕ → ℕ → Bool
met some users a b = list_any (λ (u : User). (u.item == a)
    && list_any (λ (v : User). (v.item == b) && meets u v) users) some

-- No item is of two classes.
abbrev pub HasOneClass : List User → Type 0
HasOneClass users = (u v : User) → Contains users u → Contains users v → u.item ≡ v.item → u.class ≡ v.class

-- The users of each class stand in a row.
abbrev pub AreByClass : List User → Type 0
AreByClass users = IsNonDecreasingBy (λ (u : User). u.class) users

-- From a place on all users are of the class that stands there, up to the end, and what stands at the end is
-- of another.
pub record IsClassEnd (users : List User) (from end : ℕ) : Type 0 where
  pub behind : from < end
  pub within : end ≤ length users
  pub same : (k : ℕ) (d : User) → from ≤ k → k < end
      → (slice_index_or users k d).class ≡ (slice_index_or users from d).class
  pub other : (d : User) → end < length users → (slice_index_or users end d).class ≢
      (slice_index_or users from d).class

-- The users of a place are in order.
pub record IsPlace (users : List User) : Type 0 where
  pub once : HasOneClass users
  pub classes : AreByClass users

-- Whether users with two items meet at one of some places.
abbrev pub met_at_some : List (List User) → ℕ → ℕ → Bool
met_at_some places a b = list_any (λ users. met users users a b) places

-- How many of 1,024 items in a row come after an item, and have their bits in its row.
abbrev pub later_in_row : List ℕ → ℕ → ℕ → ℕ
later_in_row row a base = count_below (λ i. nat_lt a (base + i) && has_bit row i) 1024

-- How many of 1,024 items in a row come after an item, and meet it.
abbrev pub later_met : List (List User) → ℕ → ℕ → ℕ
later_met places base a = count_below (λ i. nat_lt a (base + i) && met_at_some places a (base + i)) 1024

-- How many items below a bound come after an item, and meet it.
abbrev pub met_below : List (List User) → ℕ → ℕ → ℕ
met_below places bound a = count_below (λ b. nat_lt a b && met_at_some places a b) bound
