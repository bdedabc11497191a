-- What a store holds: a finite map from cells to values, which have numbers.
use Rattle.std.specs.Prelude.{◌≡◌, ℕ, zero, suc, ◌+◌, ◌<◌, ◌^◌, Bool, true, false, ◌-◌, ◌==◌, nat_eq, ◌&&◌, List, map, length, refl, Option, Some, None, IfSome, unwrap_or, if◌then◌else◌}
use Rattle.std.specs.Option.{option_map_or}
use Rattle.std.specs.List.{list_any}
use Rattle.vocabulary.specs.Prelude.{InstKind, Base, Contribution, Group, Bag, Value, value_of, plain, add_one, fold_in, weight_of, Cell, Move, Inst, Tables, is_in, points_in, inst_at, State, is_home, start}
use Rattle.std.specs.Coded.{Coded, code_by, coded×, coded_ℕ, coded_list}
use Rattle.std.specs.FinMap.{FinMap, code, get, insert, contains_key, from_entries}
use Rattle.std.specs.Map.{lookup}
use Rattle.std.specs.Ordering.{nat_cmp, ordering_then}
use Rattle.std.specs.declared.cmp.Ordering.{Ordering}
use Rattle.value_terms.specs.declared.terms.Base.TheVariants.{Raw, Init, Ident, Const, Out}
use Rattle.shared_values.specs.Arenas.{value_at}
use Rattle.semantics.specs.declared.moves.Move.TheVariants as moves

-- ---- cells in order: by instance, then point, then field

abbrev pub cell_cmp : Cell → Cell → Ordering
cell_cmp a b = ordering_then (nat_cmp a.inst b.inst)
    (ordering_then (nat_cmp a.point b.point) (nat_cmp a.field b.field))

abbrev pub coded_cell : Coded Cell
coded_cell = code_by (ℕ × (ℕ × ℕ)) (coded× coded_ℕ (coded× coded_ℕ coded_ℕ))
    (λ c. (c.inst, (c.point, c.field))) (λ p. record { inst = p.0; point = p.1.0; field = p.1.1 }) (λ _. refl)

-- ---- the code of a value, by which a proof tells values apart

abbrev pub base_numbers : Base → ℕ × ℕ
base_numbers Raw = (0, 0)
base_numbers Init = (1, 0)
base_numbers Ident = (2, 0)
base_numbers (Const n) = (3, n)
base_numbers (Out task) = (4, task)

abbrev pub base_at : ℕ → ℕ → Base
base_at zero n = Raw
base_at (suc zero) n = Init
base_at (suc (suc zero)) n = Ident
base_at (suc (suc (suc zero))) n = Const n
base_at (suc (suc (suc (suc k)))) n = Out n

abbrev pub same_base_again : (b : Base) → base_at (base_numbers b).0 (base_numbers b).1 ≡ b
same_base_again Raw = refl
same_base_again Init = refl
same_base_again Ident = refl
same_base_again (Const n) = refl
same_base_again (Out task) = refl

abbrev pub coded_base : Coded Base
coded_base = code_by (ℕ × ℕ) (coded× coded_ℕ coded_ℕ) base_numbers (λ p. base_at p.0 p.1) same_base_again

abbrev pub coded_contribution : Coded Contribution
coded_contribution = code_by (ℕ × ℕ) (coded× coded_ℕ coded_ℕ) (λ c. (c.task, c.req))
    (λ p. record { task = p.0; req = p.1 }) (λ _. refl)

abbrev pub coded_group : Coded Group
coded_group = code_by (ℕ × Bag) (coded× coded_ℕ (coded_list (coded× coded_contribution coded_ℕ)))
    (λ g. (g.op, g.bag)) (λ p. record { op = p.0; bag = p.1 }) (λ _. refl)

abbrev pub coded_value : Coded Value
coded_value = code_by (Base × List Group) (coded× coded_base (coded_list coded_group))
    (λ v. (v.base, v.groups)) (λ p. value_of p.0 p.1) (λ _. refl)

-- ---- stores

abbrev pub Contents : Type 0
Contents = FinMap cell_cmp Value

-- What a store holds: the values that have a number, each at its number, and what each cell holds.
pub record Held : Type 0 where
  pub values : List Value
  pub cells : Contents

abbrev pub coded_held : Coded Held
coded_held = code_by (List Value × Contents) (coded× (coded_list coded_value) (code coded_cell coded_value))
    (λ h. (h.values, h.cells)) (λ p. record { values = p.0; cells = p.1 }) (λ _. refl)

-- Cells with the values of their numbers.
abbrev pub valued : List Value → List (Cell × ℕ) → List (Cell × Value)
valued values es = map (λ e. (e.0, value_at values e.1)) es

abbrev pub held : List Value → List (Cell × ℕ) → Held
held values es = record { values = values; cells = from_entries (valued values es) }

-- Whether two cells are one, as a table of cells tells.
abbrev pub same_key : Cell → Cell → Bool
same_key a b = nat_eq a.inst b.inst && (nat_eq a.point b.point && nat_eq a.field b.field)

-- Each cell has the number of a value.
abbrev pub AreKnown : List Value → List (Cell × ℕ) → Type 0
AreKnown values es = (c : Cell) → IfSome (lookup (same_key c) es) (λ n. n < length values)

-- A number stands for a value.
pub record IsNumberOf (values : List Value) (v : Value) (n : ℕ) : Type 0 where
  pub known : n < length values
  pub is : value_at values n ≡ v

-- Whether an instance has a cell.
abbrev pub has_cell : Tables → Cell → Bool
has_cell t c = option_map_or (λ (i : Inst). is_in (points_in t i.space) c.point && is_in i.fields c.field)
    (inst_at t c.inst) false

-- At the start a store has each cell of an instance and no other, each with its value at the start.
abbrev pub at_start : Tables → Cell → Option Value
at_start t c = if has_cell t c then Some (start t c) else None

abbrev pub IsStart : Tables → Contents → Type 0
IsStart t m = (c : Cell) → get m c ≡ at_start t c

-- What a cell of a store holds. (What stands at other cells is of no account.)
abbrev pub value_in : Contents → Cell → Value
value_in m c = unwrap_or (get m c) (plain Raw)

-- The contents with a contribution added to a cell.
abbrev pub with_added : Contents → Cell → ℕ → Contribution → Contents
with_added m cell op c = insert m cell (add_one op c (value_in m cell))

-- The contents after a move.
abbrev pub after_move : Move → Contents → Contents
after_move (moves.Read task req cell) m = m
after_move (moves.Write task cell) m = insert m cell (plain (Out task))
after_move (moves.Reduce task req op cell) m = with_added m cell op (record { task = task; req = req })
after_move (moves.Copy from to) m = insert m to (value_in m from)
after_move (moves.Put cell n) m = insert m cell (plain (Const n))
after_move (moves.Reset cell) m = insert m cell (plain Ident)
after_move (moves.Fold op from to) m = insert m to (fold_in (value_in m to) op (value_in m from))

-- A store has the cells of a move.
abbrev pub HasCells : Contents → Move → Type 0
HasCells m (moves.Read task req cell) = contains_key m cell ≡ true
HasCells m (moves.Write task cell) = contains_key m cell ≡ true
HasCells m (moves.Reduce task req op cell) = contains_key m cell ≡ true
HasCells m (moves.Copy from to) = (contains_key m from ≡ true) × (contains_key m to ≡ true)
HasCells m (moves.Put cell n) = contains_key m cell ≡ true
HasCells m (moves.Reset cell) = contains_key m cell ≡ true
HasCells m (moves.Fold op from to) = (contains_key m from ≡ true) × (contains_key m to ≡ true)

-- The counts of what a move adds to still fit.
abbrev pub IsLight : Contents → Move → Type 0
IsLight m (moves.Reduce task req op cell) = weight_of (value_in m cell) < 2 ^ 64 - 1
IsLight m (moves.Fold op from to) = weight_of (value_in m to) + weight_of (value_in m from) < 2 ^ 64
IsLight m _ = Unit {0}

-- Each cell of a store holds what it holds in a state.
abbrev pub Holds : Contents → State → Type 0
Holds m s = (c : Cell) → contains_key m c ≡ true → get m c ≡ Some (s c)

-- A store holds more: these values at the cells that pass a test.
abbrev pub HoldsMore : (Cell → Bool) → (Cell → Value) → Contents → Contents → Type 0
HoldsMore test value before after = (c : Cell)
    → get after c ≡ (if test c then Some (value c) else get before c)

-- Whether a cell is of an instance, at a point or some points, and of some fields.
abbrev pub is_at_point : ℕ → ℕ → List ℕ → Cell → Bool
is_at_point inst point fields c = (c.inst == inst) && ((c.point == point) && is_in fields c.field)

abbrev pub is_at_points : ℕ → (ℕ → Bool) → List ℕ → Cell → Bool
is_at_points inst at fields c = (c.inst == inst) && (at c.point && is_in fields c.field)

-- Whether it is one of the instance with this id, or of one of these.
abbrev pub is_of : Tables → ℕ → Cell → Bool
is_of t id c = (c.inst == id) && has_cell t c

abbrev pub is_of_some : Tables → List Inst → Cell → Bool
is_of_some t insts c = list_any (λ (i : Inst). i.id == c.inst) insts && has_cell t c

-- What the cells of an instance hold at the start.
abbrev pub base_of : InstKind → Base
base_of kind = if is_home kind then Init else Raw
