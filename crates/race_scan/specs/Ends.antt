-- How a scan ends.
use Rattle.vocabulary.specs.Prelude.{Tables}
use Rattle.semantics.specs.Shown.{IsShownRace}
use Rattle.cell_races.specs.declared.scan.FoundRace.{FoundRace}
use Rattle.race_scan.specs.declared.shown.ScanEnd.{ScanEnd}
use Rattle.race_scan.specs.declared.shown.ScanEnd.TheVariants.{Race, Memory}

-- Two nodes, and a cell, are the race that is shown.
abbrev pub IsShownIn : Tables → FoundRace → Type 0
IsShownIn t s = IsShownRace t s.a s.b s.cell

-- Why a scan finds no log free of races: the race is the one that is shown. Memory may have run out at any
-- time.
abbrev pub IsEndOf : Tables → ScanEnd → Type 0
IsEndOf t (Race a b cell) = IsShownRace t a b cell
IsEndOf t Memory = Unit {0}
