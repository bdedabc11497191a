-- Where what a task reads came from: the steps that put it where it was read, one behind the other.
use Rattle.std.specs.Prelude.{◌≡◌, ℕ, ◌+◌, ◌==◌, ◌&&◌, Bool, true, false, List, [], ◌∷◌, map, find, Option, Some, None, option_map, Contains, ◌⊎◌, if◌then◌else◌}
use Rattle.std.specs.List.{AllByRecursion}
use Rattle.std.specs.Option.{option_map_or}
use Rattle.value_terms.specs.declared.terms.Base.TheVariants.{Const, Out}
use Rattle.value_terms.specs.Values.{Value, plain}
use Rattle.semantics.specs.declared.places.Cell.{Cell}
use Rattle.semantics.specs.declared.moves.Move.{Move}
use Rattle.semantics.specs.declared.moves.Move.TheVariants.{Read, Write, Reduce, Copy, Put, Reset, Fold}
use Rattle.semantics.specs.declared.links.Ask.{Ask}
use Rattle.semantics.specs.declared.links.Link.{Link}
use Rattle.semantics.specs.declared.links.LinkKind.{LinkKind}
use Rattle.semantics.specs.declared.links.LinkKind.TheVariants as kinds
use Rattle.semantics.specs.declared.tables.LogNode.{LogNode}
use Rattle.semantics.specs.declared.tables.Op.{Op}
use Rattle.semantics.specs.declared.tables.Op.TheVariants as operations
use Rattle.semantics.specs.Tables.{Tables}
use Rattle.semantics.specs.Steps.{Step, steps, id_of, cell_in}
use Rattle.semantics.specs.Execution.{same_cell, start, ReadsIn}
use Rattle.semantics.specs.Interleavings.{IsInterleaving}
use Rattle.semantics.specs.Shown.{event_of}

-- What a move does to a cell, as far as it matters where the cell's value came from: nothing, or it adds to
-- what the cell holds, puts something of its own there, or puts there what another cell holds.
pub data Flow : Type 0 where
  Leaves : Flow
  Adds : Flow
  Puts : Flow
  Takes : (from : Cell) → Flow

abbrev pub flow_at : Cell → Flow → Cell → Flow
flow_at cell here c = if same_cell c cell then here else Leaves

-- (A reset leaves it: what is emptied is never read by a task, nor copied.)
unfoldable pub flow : Move → Cell → Flow
flow (Read task req cell) c = Leaves
flow (Write task cell) c = flow_at cell Puts c
flow (Reduce task req op cell) c = flow_at cell Adds c
flow (Copy from to) c = flow_at to (Takes from) c
flow (Put cell n) c = flow_at cell Puts c
flow (Reset cell) c = Leaves
flow (Fold op from to) c = flow_at to Adds c

-- The step that put something into a cell, or none where the cell held it from the start on; and how often
-- something was added to it there before it was read.
pub record Source : Type 0 where
  pub by : Option Step
  pub cell : Cell
  pub adds : ℕ

-- What is behind a cell, the latest first, from the last step that was taken and what is behind the cells
-- before it. So many adds were met on the way back.
abbrev pub with_last : Step → Flow → Cell → ℕ → (Cell → ℕ → List Source) → List Source
with_last x Leaves c adds before = before c adds
with_last x Adds c adds before = before c (adds + 1)
with_last x Puts c adds before = record { by = Some x; cell = c; adds = adds } ∷ []
with_last x (Takes from) c adds before = record { by = Some x; cell = c; adds = adds } ∷ before from 0

-- What is behind a cell after some steps, which are listed the latest first.
abbrev pub sources_of : List Step → Cell → ℕ → List Source
sources_of [] c adds = record { by = None; cell = c; adds = adds } ∷ []
sources_of (x ∷ earlier) c adds = with_last x (flow x.move c) c adds (sources_of earlier)

-- The cell that a task's read reads.
abbrev pub cell_read : Move → Option Cell
cell_read (Read task req cell) = Some cell
cell_read _ = None

-- Among the steps `xs`, taken after the steps `earlier`, the step reads what came from these sources.
abbrev pub ComesFrom : List Step → List Step → Step → List Source → Type 0
ComesFrom earlier [] step list = ⊥
ComesFrom earlier (x ∷ xs) step list =
    ((step ≡ x) × (option_map (λ c. sources_of earlier c 0) (cell_read x.move) ≡ Some list))
    ⊎ ComesFrom (x ∷ earlier) xs step list

-- In every interleaving the step reads what came from these sources.
abbrev pub IsTrail : Tables → Step → List Source → Type 0
IsTrail t step list = (xs : List Step) → IsInterleaving t xs → ComesFrom [] xs step list

-- ---- The links that are shown.

-- Whether a move is the read that is asked for.
abbrev pub is_asked : Ask → Move → Bool
is_asked ask (Read task req cell) = ((task == ask.task) && (req == ask.req))
    && ((cell.point == ask.point) && (cell.field == ask.field))
is_asked ask _ = false

-- No step is the read that is asked for.
abbrev pub IsNoRead : Tables → Ask → Type 0
IsNoRead t ask = (x : Step) → Contains (steps t) x → is_asked ask x.move ≡ false

abbrev pub kind_of : Move → LinkKind
kind_of (Write task cell) = kinds.Write
kind_of (Put cell n) = kinds.Put
kind_of _ = kinds.Copy

-- A source as a link: the kind of the step and the event of its node.
abbrev pub link_of : Tables → Source → Link
link_of t s = elim s.by [
  | None ↦ record { kind = kinds.Start; done = 0; inst = s.cell.inst; adds = s.adds }
  | Some x ↦ record { kind = kind_of x.move; done = event_of t x.node; inst = s.cell.inst; adds = s.adds }
]

-- The links of the read that is asked for: in every interleaving they are the steps by which came what it
-- reads.
pub record AreLinksOf (t : Tables) (ask : Ask) (links : List Link) : Type 0 where
  pub read : Step
  pub is_step : Contains (steps t) read
  pub asked : is_asked ask read.move ≡ true
  pub sources : List Source
  pub links_are : links ≡ map (link_of t) sources
  pub trail : IsTrail t read sources

-- ---- What the last link puts.

-- What an operation puts of its own: its task's output, or its constant.
abbrev pub put_by : Tables → Op → Option Value
put_by t (operations.Run item) = Some (plain (Out (id_of t item)))
put_by t (operations.Put inst space fields n) = Some (plain (Const n))
put_by t _ = None

-- What the operation with an event puts of its own.
abbrev pub put_at : Tables → ℕ → Option Value
put_at t event = option_map_or (λ (n : LogNode). put_by t n.op)
    (find (λ (n : LogNode). n.done == event) t.nodes) None

-- What a link puts that no link is behind: what its cell held at the start, or what its operation puts.
abbrev pub value_put : Tables → Ask → Link → Option Value
value_put t ask link = elim link.kind [
  | kinds.Start ↦ Some (start t (cell_in link.inst (ask.point, ask.field)))
  | kinds.Write ↦ put_at t link.done
  | kinds.Put ↦ put_at t link.done
  | kinds.Copy ↦ None
]

abbrev pub last_put : Tables → Ask → List Link → Option Value
last_put t ask [] = None
last_put t ask (l ∷ []) = value_put t ask l
last_put t ask (l ∷ m ∷ ls) = last_put t ask (m ∷ ls)

-- Where nothing was added on the way, the read that is asked for sees in every interleaving what the last
-- link puts.
abbrev pub TellValue : Tables → Ask → List Link → Type 0
TellValue t ask links = AllByRecursion (λ (l : Link). l.adds ≡ 0) links → (xs : List Step)
    → IsInterleaving t xs
    → (x : Step) → is_asked ask x.move ≡ true → (v : Value) → ReadsIn xs (start t) x v
    → last_put t ask links ≡ Some v

-- There is a link; all but the last are copies, and the last is none.
abbrev pub EndsInOrigin : List Link → Type 0
EndsInOrigin [] = ⊥
EndsInOrigin (l ∷ []) = (l.kind ≡ kinds.Copy) → ⊥
EndsInOrigin (l ∷ m ∷ ls) = (l.kind ≡ kinds.Copy) × EndsInOrigin (m ∷ ls)
