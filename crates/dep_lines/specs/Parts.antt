-- The parts of a pair's line that stand around its second item.
use Rattle.std.specs.Prelude.{ℕ, List, ◌++◌, codes, decimal, if◌then◌else◌}
use Rattle.findings.specs.declared.finding.Dep.{Dep}

-- What stands in front of it.
abbrev pub front_text : Dep → List ℕ
front_text d = (if d.before then codes "before " else codes "turn ") ++ decimal d.a ++ codes " "

-- What stands behind it, with the line feed.
abbrev pub back_text : Dep → List ℕ
back_text d = codes " tree " ++ decimal d.tree ++ codes " point " ++ decimal d.point ++ codes " field " ++ decimal d.field ++ codes "\n"
