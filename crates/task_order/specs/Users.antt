-- The tasks that use places, as users of places.
use Rattle.std.specs.Prelude.{◌≡◌, ℕ, ◌+◌, List, [], ◌∷◌, ◌++◌, map, Contains, All, slice_index}
use Rattle.std.specs.List.Sorted.{IsPermutation}
use Rattle.vocabulary.specs.Prelude.{Tables}
use Rattle.cell_races.specs.declared.access.Access.{Access}
use Rattle.cell_races.specs.declared.access.Access.TheVariants.{Reads, Writes, Folds}
use Rattle.cell_races.specs.declared.cell_accesses.CellAccess.{CellAccess}
use Rattle.order_laws.specs.Turns.{do_interfere}
use Rattle.pair_rows.specs.declared.users.User.{User}
use Rattle.pair_rows.specs.Meetings.{AreByClass, IsPlace, met_at_some}

-- What writes is of class 0, what reads of class 1, and what reduces of a class for its operator.
abbrev pub class_of : Access → ℕ
class_of Writes = 0
class_of Reads = 1
class_of (Folds op) = op + 2

-- The item whose access it is, by the order of items, and how it uses the place.
abbrev pub user_of : List ℕ → CellAccess → User
user_of order x = record { item = slice_index order x.place; class = class_of x.access }

-- Two users are those of two accesses of one cell.
pub record ShareCell (order : List ℕ) (cell_accesses : List CellAccess) (u v : User) : Type 0 where
  pub x : CellAccess
  pub y : CellAccess
  pub x_in : Contains cell_accesses x
  pub y_in : Contains cell_accesses y
  pub same : x.cell ≡ y.cell
  pub u_is : u ≡ user_of order x
  pub v_is : v ≡ user_of order y

-- Two accesses are those of two users of one place.
pub record SharePlace (order : List ℕ) (places : List (List User)) (x y : CellAccess) : Type 0 where
  pub users : List User
  pub place : Contains places users
  pub one : Contains users (user_of order x)
  pub other : Contains users (user_of order y)

-- Each place has the users of the accesses of one cell.
pub record AreUsersOf (order : List ℕ) (cell_accesses : List CellAccess) (places : List (List User)) : Type 0 where
  pub sound : (users : List User) → Contains places users → (u v : User) → Contains users u
      → Contains users v
      → ShareCell order cell_accesses u v
  pub whole : (x y : CellAccess) → Contains cell_accesses x → Contains cell_accesses y → x.cell ≡ y.cell
      → SharePlace order places x y

-- Each place is one, and the items that meet at some place are the tasks that interfere.
pub record AreTaskPlaces (t : Tables) (places : List (List User)) : Type 0 where
  pub each : All IsPlace places
  pub meet : (a b : ℕ) → met_at_some places a b ≡ do_interfere t a b

-- One place more has the users of these accesses, class by class.
pub record IsOneMore (order : List ℕ) (cell_accesses : List CellAccess) (old new : List (List User)) : Type 0 where
  pub users : List User
  pub added : new ≡ old ++ users ∷ []
  pub same : IsPermutation (map (user_of order) cell_accesses) users
  pub classes : AreByClass users
