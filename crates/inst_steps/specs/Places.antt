-- What is done at one point and one field.
use Rattle.std.specs.Prelude.{◌≡◌, ℕ, ◌==◌, Bool, ◌&&◌, ⊤}
use Rattle.vocabulary.specs.Prelude.{Cell, Move, Step}
use Rattle.semantics.specs.declared.moves.Move.TheVariants.{Copy, Fold}
use Rattle.point_laws.specs.Alike.{target}

-- Whether a cell is at this point and field.
abbrev pub is_cell_at : ℕ → ℕ → Cell → Bool
is_cell_at point field c = (c.point == point) && (c.field == field)

-- Whether a step reads or changes a cell at this point and field.
abbrev pub is_at_place : ℕ → ℕ → Step → Bool
is_at_place point field x = is_cell_at point field (target x.move)

-- A move from one cell to another stays at one point and one field.
abbrev pub StaysAtPlace : Move → Type 0
StaysAtPlace (Copy from to) = (from.point ≡ to.point) × (from.field ≡ to.field)
StaysAtPlace (Fold op from to) = (from.point ≡ to.point) × (from.field ≡ to.field)
StaysAtPlace _ = ⊤
