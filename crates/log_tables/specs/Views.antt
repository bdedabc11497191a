-- How entries are seen, and what records have to have.
use Rattle.std.specs.Prelude.{◌≡◌, ℕ, List, map}
use Rattle.vocabulary.specs.Prelude.{Record, rect_of, strip}
use Rattle.spy_grammar.specs.declared.record.Record.TheVariants.{Ispace, Plane, Part, Sub, Fields, Tree, Redop, Task, Req, Fill, Serial, Inst, Map, Run, Copy, Put, Reset, Fold, Merge}
use Rattle.std.specs.List.Sorted.{IsStrictlyIncreasing}
use Rattle.point_set.specs.Rects.{AreRects}
use Rattle.semantics.specs.Tables as tables
use Rattle.semantics.specs.declared.tables.Op.{Op}
use Rattle.semantics.specs.declared.tables.Op.TheVariants as operations
use Rattle.log_tables.specs.declared.entries.Space as spaces

-- A space is seen as its id and its points.
abbrev pub space_seen : {P : Type 0} → (P → List ℕ) → spaces.Space P → tables.Space
space_seen points s = record { id = s.id; points = points s.set }

-- What a record declares is added, where its line plays no part.
abbrev pub Declares : tables.Tables → tables.Tables → Record → Type 0
Declares old new rec = new ≡ tables.with_record old 0 rec

-- The runs or rectangles of a record's space ascend, and so do the fields of a field space, a requirement, a
-- fill or an instance.
abbrev pub Ascends : Record → Type 0
Ascends (Ispace id set) = AreRects (map strip set)
Ascends (Plane id quads) = AreRects (map rect_of quads)
Ascends (Fields id fields) = IsStrictlyIncreasing fields
Ascends (Req task tree space fields access atomic) = IsStrictlyIncreasing fields
Ascends (Fill id tree space fields n) = IsStrictlyIncreasing fields
Ascends (Inst id tree space fields kind) = IsStrictlyIncreasing fields
Ascends _ = Unit {0}

-- The record is about a space.
abbrev pub IsOfSpaces : Record → Type 0
IsOfSpaces (Ispace id set) = Unit {0}
IsOfSpaces (Plane id quads) = Unit {0}
IsOfSpaces _ = ⊥

-- The record is about spaces, partitions, fields, trees or operators.
abbrev pub IsOfRegions : Record → Type 0
IsOfRegions (Ispace id set) = Unit {0}
IsOfRegions (Plane id quads) = Unit {0}
IsOfRegions (Part id space disjoint) = Unit {0}
IsOfRegions (Sub part colour space) = Unit {0}
IsOfRegions (Fields id fields) = Unit {0}
IsOfRegions (Tree id space fspace) = Unit {0}
IsOfRegions (Redop id) = Unit {0}
IsOfRegions _ = ⊥

-- The record is about items or requirements.
abbrev pub IsOfItems : Record → Type 0
IsOfItems (Task id) = Unit {0}
IsOfItems (Req task tree space fields access atomic) = Unit {0}
IsOfItems (Fill id tree space fields n) = Unit {0}
IsOfItems (Serial ids) = Unit {0}
IsOfItems _ = ⊥

-- The record is about instances or maps.
abbrev pub IsOfInsts : Record → Type 0
IsOfInsts (Inst id tree space fields kind) = Unit {0}
IsOfInsts (Map task number fields inst) = Unit {0}
IsOfInsts _ = ⊥

-- The record is about a node of the recorded run.
abbrev pub IsOfNodes : Record → Type 0
IsOfNodes (Run task done waits) = Unit {0}
IsOfNodes (Copy src dst space fields done waits) = Unit {0}
IsOfNodes (Put inst space fields n done waits) = Unit {0}
IsOfNodes (Reset inst space fields done waits) = Unit {0}
IsOfNodes (Fold src dst space fields done waits) = Unit {0}
IsOfNodes (Merge done waits) = Unit {0}
IsOfNodes _ = ⊥

-- What a record does to data, if it does something.
abbrev pub op_on_data : Record → Op
op_on_data (Copy src dst space fields done waits) = operations.Copy src dst space fields
op_on_data (Put inst space fields n done waits) = operations.Put inst space fields n
op_on_data (Reset inst space fields done waits) = operations.Reset inst space fields
op_on_data (Fold src dst space fields done waits) = operations.Fold src dst space fields
op_on_data _ = operations.Merge
