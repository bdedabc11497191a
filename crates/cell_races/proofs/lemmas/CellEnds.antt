-- The accesses of one cell of accesses in order, and those before and after them.
use Rattle.std.proofs.Common.{◌≡◌, ℕ, ◌-◌, List, ◌++◌, sym, ◌∙◌, take, drop, Contains}
use Rattle.cell_races.specs.declared.access.Access.TheVariants.{Reads}
use Rattle.cell_races.specs.declared.cell_accesses.CellAccess.{CellAccess}
use Rattle.cell_races.specs.CellAccesses.{AreInOrder, IsCellEnd}
use Rattle.cell_races.proofs.Parts as parts

-- No cell has accesses in both lists.
abbrev pub AreApart : List CellAccess → List CellAccess → Type 0
AreApart front back = (x y : CellAccess) → Contains front x → Contains back y → x.cell ≡ y.cell → ⊥

abbrev none : CellAccess
none = record { cell = record { inst = 0; point = 0; field = 0 }; place = 0; access = Reads }

module _ (cell_accesses : List CellAccess) (from end : ℕ) (is_end : IsCellEnd cell_accesses from end) where
  abbrev run : List CellAccess
  run = take (end - from) (drop from cell_accesses)

  pub take_to_end : take end cell_accesses ≡ take from cell_accesses ++ run
  take_to_end = parts.take_end cell_accesses from end is_end.behind is_end.within

  pub rest_parts : drop from cell_accesses ≡ run ++ drop end cell_accesses
  rest_parts = parts.drop_parts cell_accesses from end is_end.behind is_end.within

  module _ (in_order : AreInOrder cell_accesses) (apart : AreApart (take from cell_accesses) (drop from cell_accesses)) where
    pub one_cell : (x y : CellAccess) → Contains run x → Contains run y → x.cell ≡ y.cell
    one_cell x y m n =
        parts.at cell_accesses from end is_end.behind is_end.within none is_end.same is_end.other x m
        ∙ sym (parts.at cell_accesses from end is_end.behind is_end.within none is_end.same is_end.other y n)

    pub apart_still : AreApart (take end cell_accesses) (drop end cell_accesses)
    apart_still = parts.apart_more cell_accesses from end is_end.behind is_end.within none is_end.same is_end.other in_order apart
