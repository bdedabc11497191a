-- Worked logs for the limits on numbers: at one size a log just keeps its limit, and at another it breaks it.
use Rattle.std.specs.Prelude.{ℕ, false, List, [], ◌∷◌, ◌++◌, map, replicate, length}
use Rattle.std.specs.List.{range_with_len}
use Rattle.spy_words.specs.declared.access.PrivWord.TheVariants.{Red}
use Rattle.spy_words.specs.declared.access.InstKind.TheVariants as layouts
use Rattle.vocabulary.specs.Prelude.{Record}
use Rattle.spy_grammar.specs.declared.record.Record.TheVariants.{Header, Ispace, Plane, Fields, Tree, Redop, Task, Req, Fill, Inst, Run, End}

-- These records between a header and an end, which counts them.
abbrev pub framed : List Record → List Record
framed rs = Header 1 ∷ rs ++ End (length rs) ∷ []

-- So many records, each of which declares an operator. (They are too many to write out: only proofs open
-- this.)
unfoldable pub of_records : ℕ → List Record
of_records n = framed (map (λ id. Redop id) (range_with_len 1 n))

-- A space of so many points.
abbrev pub of_points : ℕ → List Record
of_points points = framed (Ispace 1 ((1, points) ∷ []) ∷ [])

-- A region of so many points and fields.
abbrev pub area : ℕ → ℕ → List Record
area points fields = Ispace 1 ((1, points) ∷ []) ∷ Fields 1 (range_with_len 1 fields) ∷ Tree 1 1 1 ∷ []

-- An instance with a cell at each place of a region.
abbrev pub of_cells : ℕ → ℕ → List Record
of_cells points fields =
    framed (area points fields ++ Inst 1 1 1 (range_with_len 1 fields) layouts.Plain ∷ [])

-- A fill of each place of a region.
abbrev pub of_accesses : ℕ → ℕ → List Record
of_accesses points fields = framed (area points fields ++ Fill 1 1 1 (range_with_len 1 fields) 0 ∷ [])

-- A region of a single rectangle, whatever its size, and so many fields, in a log of the second version,
-- which these records end.
abbrev pub on_plane : ℕ → ℕ → List Record → List Record
on_plane last fields rs = Header 2
    ∷ Plane 1 (record { x0 = 0; x1 = last; y0 = 0; y1 = last } ∷ [])
    ∷ Fields 1 (range_with_len 1 fields)
    ∷ Tree 1 1 1
    ∷ rs

-- An instance there, and a fill.
abbrev pub plane_cells : ℕ → ℕ → List Record
plane_cells last fields =
    on_plane last fields (Inst 1 1 1 (range_with_len 1 fields) layouts.Plain ∷ End 4 ∷ [])

abbrev pub plane_accesses : ℕ → ℕ → List Record
plane_accesses last fields = on_plane last fields (Fill 1 1 1 (range_with_len 1 fields) 0 ∷ End 4 ∷ [])

-- A task with so many requirements, each of which reduces at each place of a region.
abbrev pub reductions : ℕ → ℕ → List Record
reductions fields reqs = Redop 1 ∷ Task 1 ∷ replicate reqs (Req 1 1 1 (range_with_len 1 fields) (Red 1) false)

-- So many instances, each with a cell at each place.
abbrev pub instances : ℕ → ℕ → List Record
instances fields insts = map (λ id. Inst id 1 1 (range_with_len 1 fields) layouts.Plain)
    (range_with_len 1 insts)

-- These two, and the run of the task: for each point, field, requirement and instance, one more of load.
abbrev pub of_load : ℕ → ℕ → ℕ → ℕ → List Record
of_load points fields reqs insts =
    framed (area points fields ++ reductions fields reqs ++ (instances fields insts ++ Run 1 1 [] ∷ []))
