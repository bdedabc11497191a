-- Blocks of columns and rows that tasks claim. The first and the last point of the claim of a block are its
-- rows.
use Rattle.std.specs.Prelude.{◌≡◌, ◌≢◌, ℕ, ◌+◌, ◌*◌, ◌^◌, ◌<◌, ◌≤◌, ◌⊎◌, ◌&&◌, ◌||◌, max, min, nat_le, nat_lt, not, true, Bool, List, filter, AllPairs, Contains, IsTrue}
use Rattle.std.specs.List.{Any}
use Rattle.privilege.specs.Interference.{agree}
use Rattle.point_set.specs.declared.rect.Rect.{Rect}
use Rattle.point_set.specs.Rects.{Holds}
use Rattle.launch_claims.specs.declared.block.Block.{Block}
use Rattle.launch_claims.specs.declared.node.Seen.{Seen}
use Rattle.launch_claims.specs.declared.claim.Claim.{Claim}
use Rattle.launch_claims.specs.declared.requirement.LaunchTasks.{LaunchTasks}
use Rattle.launch_claims.specs.declared.requirement.Requirement.{Requirement}
use Rattle.launch_claims.specs.Claiming.{claim_on, rows_of}
use Rattle.launch_claims.specs.Claims.{clashes, share_field}
use Rattle.launch_claims.specs.Reaches.{IsBefore}

-- Two blocks share a column.
abbrev pub ShareColumn : Block → Block → Type 0
ShareColumn b d = max b.x0 d.x0 ≤ min b.x1 d.x1

-- Some two blocks share a column, and their claims clash.
abbrev pub HasBlockClash : List Block → Type 0
HasBlockClash blocks = (b d : Block) × Contains blocks b × Contains blocks d × ShareColumn b d
    × IsTrue (clashes b.claim d.claim)

-- The blocks that records up to a number ask for.
abbrev pub asked_up_to : ℕ → List Block → List Block
asked_up_to number blocks = filter (λ (b : Block). nat_le b.claim.record number) blocks

-- Some two of these clash.
abbrev pub HasClashUpTo : List Block → ℕ → Type 0
HasClashUpTo blocks number = HasBlockClash (asked_up_to number blocks)

-- The blocks stand in the order of the fields and of the first rows of their claims.
abbrev pub AreBlocksInOrder : List Block → Type 0
AreBlocksInOrder blocks = AllPairs (λ (b d : Block). IsBefore b.claim d.claim) blocks

-- The block stands behind all of these.
abbrev pub ComeBefore : List Block → Block → Type 0
ComeBefore seen d = (b : Block) → Contains seen b → IsBefore b.claim d.claim

-- The rows of one of these clash with those of the block.
abbrev pub RowsClash : List Block → Block → Type 0
RowsClash seen d = (b : Block) × Contains seen b × IsTrue (clashes b.claim d.claim)

-- ---- The blocks of which it is enough to know.

-- Whether a claim stands in for another, but for its task: it reaches as far, and no privilege agrees with
-- its own but that of the other.
abbrev pub covers : Claim → Claim → Bool
covers c d = share_field c d && (nat_le d.last c.last
    && (agree c.access d.access || not (agree c.access c.access)))

-- Of two different tasks, or of the task of this block, are some whose claims stand in for its claim.
abbrev pub IsNeedless : List Block → Block → Type 0
IsNeedless kept d = Any (λ (b : Block). IsTrue (covers b.claim d.claim)
    × ((b.claim.task ≡ d.claim.task)
    ⊎ Any (λ (e : Block). IsTrue (covers e.claim d.claim) × (e.claim.task ≢ b.claim.task)) kept)) kept

-- Whatever block comes behind all that were seen: its rows clash with those of one that is kept, where they
-- do with those of one that was seen.
pub record StandFor (kept seen : List Block) : Type 0 where
  pub among : (b : Block) → Contains kept b → Contains seen b
  pub told : (d : Block) → ComeBefore seen d → RowsClash seen d → RowsClash kept d

-- ---- The blocks of some columns.

-- A block has one of some columns.
pub record IsIn (lo hi : ℕ) (b : Block) : Type 0 where
  pub begins : b.x0 ≤ hi
  pub ends : lo ≤ b.x1
  pub wide : b.x0 ≤ b.x1

-- Each does.
abbrev pub AreIn : ℕ → ℕ → List Block → Type 0
AreIn lo hi blocks = (b : Block) → Contains blocks b → IsIn lo hi b

-- Whether a block has all of some columns.
abbrev pub spans : ℕ → ℕ → Block → Bool
spans lo hi b = nat_le b.x0 lo && nat_le hi b.x1

-- Whether a block has some of them alone, and one up to the middle, or one behind it.
abbrev pub goes_left : ℕ → ℕ → ℕ → Block → Bool
goes_left lo hi middle b = not (spans lo hi b) && nat_le b.x0 middle

abbrev pub goes_right : ℕ → ℕ → ℕ → Block → Bool
goes_right lo hi middle b = not (spans lo hi b) && nat_lt middle b.x1

-- Some two blocks share one of some columns, and their claims clash.
pub record ClashIn (lo hi : ℕ) (b d : Block) : Type 0 where
  pub column : ℕ
  pub from : lo ≤ column
  pub to : column ≤ hi
  pub ours : (b.x0 ≤ column) × (column ≤ b.x1)
  pub theirs : (d.x0 ≤ column) × (column ≤ d.x1)
  pub rows : IsTrue (clashes b.claim d.claim)

abbrev pub HasClashIn : ℕ → ℕ → List Block → Type 0
HasClashIn lo hi blocks = (b d : Block) × Contains blocks b × Contains blocks d × ClashIn lo hi b d

-- The rows of one of these clash with those of the block, where one of the two has all columns.
abbrev pub WideClash : ℕ → ℕ → List Block → Block → Type 0
WideClash lo hi seen d = (b : Block) × Contains seen b × ((spans lo hi b ≡ true) ⊎ (spans lo hi d ≡ true))
    × IsTrue (clashes b.claim d.claim)

abbrev pub HasWideClash : ℕ → ℕ → List Block → Type 0
HasWideClash lo hi blocks = (d : Block) × Contains blocks d × WideClash lo hi blocks d

-- What is kept of blocks of which no such two clash: for all of them, and for those that have all columns.
pub record IsSeen (lo hi : ℕ) (s : Seen) (blocks : List Block) : Type 0 where
  pub any : StandFor s.any.items blocks
  pub wide : StandFor s.wide.items (filter (spans lo hi) blocks)
  pub none : ¬ HasWideClash lo hi blocks

-- ---- What requirements claim.

-- A rectangle of points as a block with the claim of its rows.
abbrev pub block_of : Claim → Rect → Block
block_of c r = record { claim = rows_of c r; x0 = r.x0; x1 = r.x1 }

-- Some block of a requirement has a point of its set on a field.
pub record IsInBlock {P : Type 0} (l : LaunchTasks) (r : Requirement P) (field p : ℕ) (blocks : List Block)
    : Type 0 where
  pub rect : Rect
  pub claimed : Contains blocks (block_of (claim_on l r field) rect)
  pub x : ℕ
  pub y : ℕ
  pub holds : Holds rect x y
  pub fits : y < 2 ^ 32
  pub is : p ≡ x * 2 ^ 32 + y

-- A block of a requirement: on one of its fields, and with points of its set alone.
pub record IsBlockOf {P : Type 0} (points_of : P → List ℕ) (l : LaunchTasks) (r : Requirement P) (b : Block)
    : Type 0 where
  pub field : ℕ
  pub rect : Rect
  pub has : Contains r.fields.now field
  pub is : block_of (claim_on l r field) rect ≡ b
  pub points : (x y : ℕ) → Holds rect x y → Contains (points_of r.set) (x * 2 ^ 32 + y)

-- These are blocks of the requirements, and have each point of each set on each field. Each has a column.
pub record AreBlocks {P : Type 0} (points_of : P → List ℕ) (l : LaunchTasks) (rs : List (Requirement P))
    (blocks : List Block) : Type 0 where
  pub sound : (b : Block) → Contains blocks b
      → (r : Requirement P) × Contains rs r × IsBlockOf points_of l r b
  pub whole : (r : Requirement P) (field p : ℕ) → Contains rs r → Contains r.fields.now field
      → Contains (points_of r.set) p → IsInBlock l r field p blocks
  pub wide : (b : Block) → Contains blocks b → b.x0 ≤ b.x1
