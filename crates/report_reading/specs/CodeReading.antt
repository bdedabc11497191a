-- Which code has a text.
use Rattle.std.specs.Prelude.{ℕ, List, [], ◌∷◌, if◌then◌else◌}
use Rattle.std.specs.Str.{bytes_eq}
use Rattle.spy_grammar.specs.declared.code.Code.{Code}
use Rattle.spy_grammar.specs.declared.code.Code.TheVariants.{TooLong, Newline, Word, Form, Number, Order, Header, Ended, Count, TooManyRecords, RepeatedId, UnknownId, TooManyPoints, SpaceInTwo, LateSub, TooDeep, NotWithin, NotDisjoint, NotRoot, NotInTree, Fields, SelfInterference, WrongTree, WrongKind, NotCovered, MappedTwice, NoRun, TwoRuns, RepeatedEvent, UndefinedEvent, Serial, TooManyCells, TooManyAccesses, TooMuchLoad, SerialOrder, Unmapped, LaunchRange, LaunchInterference, TooManyGroups, Version, TooManyAtoms, TooManyReads}
use Rattle.findings.specs.Codes.{code_text}

-- Every code, in the order of the table.
abbrev pub all_codes : List Code
all_codes = TooLong ∷ Newline ∷ Word ∷ Form ∷ Number ∷ Order ∷ Header ∷ Ended ∷ Count ∷ TooManyRecords
    ∷ RepeatedId ∷ UnknownId ∷ TooManyPoints ∷ SpaceInTwo ∷ LateSub ∷ TooDeep ∷ NotWithin ∷ NotDisjoint
    ∷ NotRoot ∷ NotInTree ∷ Fields ∷ SelfInterference ∷ WrongTree ∷ WrongKind ∷ NotCovered ∷ MappedTwice
    ∷ NoRun ∷ TwoRuns ∷ RepeatedEvent ∷ UndefinedEvent ∷ Serial ∷ TooManyCells ∷ TooManyAccesses ∷ TooMuchLoad
    ∷ SerialOrder ∷ Unmapped ∷ LaunchRange ∷ LaunchInterference ∷ TooManyGroups ∷ Version
    ∷ TooManyAtoms ∷ TooManyReads ∷ []

-- The first of these codes that has this text, or `Word`.
abbrev pub code_among : List Code → List ℕ → Code
code_among [] w = Word
code_among (c ∷ cs) w = if bytes_eq w (code_text c) then c else code_among cs w

-- The code with this text, or `Word` where no code has it.
unfoldable pub code_at : List ℕ → Code
code_at w = code_among all_codes w
