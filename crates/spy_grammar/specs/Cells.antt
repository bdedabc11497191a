-- A record as its kind and six cells, the words after the first from the left: so that one table serves all
-- that goes through records.
use Rattle.std.specs.Prelude.{List, [], ◌∷◌}
use Rattle.spy_words.specs.Classes.{any_number, id, extent, fields, waits, split, access, coherence, layout}
use Rattle.spy_words.specs.declared.lists.Extent.TheVariants.{Runs, Plane}
use Rattle.spy_grammar.specs.declared.cells.WordCell.{WordCell}
use Rattle.spy_grammar.specs.declared.cells.WordCell.TheVariants as cells
use Rattle.spy_grammar.specs.Rows.{Parts, entry, plain_log}
use Rattle.spy_grammar.specs.Spelling.{Item, word, ids, row_items}

-- What a cell holds, before further items.
abbrev pub with_cell : WordCell → List Item → List Item
with_cell cells.No is = is
with_cell (cells.Number n) is = word any_number n ∷ is
with_cell (cells.Id n) is = word id n ∷ is
with_cell (cells.Points set) is = word extent (Runs set.now) ∷ is
with_cell (cells.Plane rects) is = word extent (Plane rects.now) ∷ is
with_cell (cells.Fields ns) is = word fields ns.now ∷ is
with_cell (cells.Waits ns) is = word waits ns.now ∷ is
with_cell (cells.Split b) is = word split b ∷ is
with_cell (cells.Access a) is = word access a ∷ is
with_cell (cells.Coherence b) is = word coherence b ∷ is
with_cell (cells.Layout k) is = word layout k ∷ is
with_cell (cells.Ids ns) is = ids ns.now ∷ is

-- What cells hold.
abbrev pub items_in : List WordCell → List Item
items_in [] = []
items_in (c ∷ cs) = with_cell c (items_in cs)

-- The items of a record that was taken apart.
unfoldable pub parts_items : Parts plain_log → List Item
parts_items p = row_items (entry p.0).row p.1
