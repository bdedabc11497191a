-- A line of a report as the program holds it: six cells, each a word, no word, or several words.
use Rattle.std.specs.Prelude.{List, [], ◌∷◌, ◌++◌, map, codes}
use Rattle.findings.specs.declared.cells.ReportCell.{ReportCell}
use Rattle.findings.specs.declared.cells.ReportCell.TheVariants as cells
use Rattle.findings.specs.Texts.{Word, says, small, large, names, holds}

-- What a cell holds, before further words.
abbrev pub with_cell : ReportCell → List Word → List Word
with_cell cells.No ws = ws
with_cell (cells.Says w) ws = says w.now ∷ ws
with_cell (cells.Small n) ws = small n ∷ ws
with_cell (cells.Large n) ws = large n ∷ ws
with_cell (cells.Names c) ws = names c ∷ ws
with_cell (cells.Numbered w n) ws = says w.now ∷ small n ∷ ws
with_cell (cells.Events ns) ws = map small ns.now ++ ws
with_cell (cells.At point field) ws =
    says (codes "point") ∷ large point ∷ says (codes "field") ∷ small field ∷ ws
with_cell (cells.Differs got want) ws =
    says (codes "got") ∷ holds got.now ∷ says (codes "want") ∷ holds want.now ∷ ws

-- What cells hold.
abbrev pub words_in : List ReportCell → List Word
words_in [] = []
words_in (c ∷ cs) = with_cell c (words_in cs)
