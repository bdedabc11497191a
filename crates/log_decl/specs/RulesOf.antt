-- Which rules look at records of each kind, in the order in which they are tried. Those of the forest are left
-- out.
use Rattle.std.specs.Prelude.{Bool, List, [], ◌∷◌, Option, Some, None, if◌then◌else◌}
use Rattle.vocabulary.specs.Prelude.{Code}
use Rattle.spy_grammar.specs.declared.code.Code.TheVariants as codes

-- The first of some rules that is broken, where it is told of each whether it is.
abbrev pub first_true : List (Code × Bool) → Option Code
first_true [] = None
first_true (test ∷ tests) = if test.1 then Some test.0 else first_true tests

-- The header, and what declares a partition, a field space, a tree, an operator or a task.
abbrev pub of_names : List Code
of_names =
    codes.TooManyRecords ∷ codes.RepeatedId ∷ codes.UnknownId ∷ codes.NotRoot ∷ codes.NoRun ∷
    codes.TooManyAccesses ∷ []

-- What declares a space.
abbrev pub of_spaces : List Code
of_spaces =
    codes.TooManyRecords ∷ codes.RepeatedId ∷ codes.TooManyPoints ∷ codes.TooManyAtoms ∷
    codes.TooManyAccesses ∷ codes.Version ∷ []

-- What declares a subspace.
abbrev pub of_subs : List Code
of_subs =
    codes.TooManyRecords ∷ codes.RepeatedId ∷ codes.UnknownId ∷ codes.SpaceInTwo ∷ codes.LateSub ∷
    codes.TooDeep ∷ codes.TooManyAccesses ∷ []

-- Requirements and fills.
abbrev pub of_reqs : List Code
of_reqs =
    codes.TooManyRecords ∷ codes.RepeatedId ∷ codes.UnknownId ∷ codes.NotInTree ∷ codes.Fields ∷
    codes.SelfInterference ∷ codes.TooManyAccesses ∷ []

-- What lists items in serial order.
abbrev pub of_serials : List Code
of_serials =
    codes.TooManyRecords ∷ codes.UnknownId ∷ codes.Serial ∷ codes.TooManyAccesses ∷ []

-- What declares an instance.
abbrev pub of_insts : List Code
of_insts =
    codes.TooManyRecords ∷ codes.RepeatedId ∷ codes.UnknownId ∷ codes.Fields ∷ codes.NotCovered ∷
    codes.TooManyCells ∷ codes.TooManyAccesses ∷ []

-- Maps.
abbrev pub of_maps : List Code
of_maps =
    codes.TooManyRecords ∷ codes.UnknownId ∷ codes.Fields ∷ codes.WrongTree ∷ codes.WrongKind ∷
    codes.NotCovered ∷ codes.MappedTwice ∷ codes.TooManyAccesses ∷ []

-- Runs, operations on data, and merges.
abbrev pub of_nodes : List Code
of_nodes =
    codes.TooManyRecords ∷ codes.UnknownId ∷ codes.WrongTree ∷ codes.WrongKind ∷ codes.NotCovered ∷
    codes.TwoRuns ∷ codes.RepeatedEvent ∷ codes.UndefinedEvent ∷ codes.TooManyAccesses ∷ []

-- The end.
abbrev pub of_ends : List Code
of_ends =
    codes.TooManyCells ∷ codes.TooManyAccesses ∷ codes.TooMuchLoad ∷ codes.TooManyReads ∷ []
