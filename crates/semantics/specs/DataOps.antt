-- Operations on data in one shape. Each does one thing, with the instances that it names, at each point of a
-- space and each of some fields.
use Rattle.std.specs.Prelude.{ℕ, List, [], ◌∷◌, Option, Some, None}
use Rattle.spy_grammar.specs.declared.record.Record.{Record}
use Rattle.spy_grammar.specs.declared.record.Record.TheVariants as records
use Rattle.semantics.specs.declared.tables.Op.{Op}
use Rattle.semantics.specs.declared.tables.Op.TheVariants as operations

-- What is done with instances: data is copied, a constant is put, gathered contributions are emptied, or they
-- are folded.
pub data DataAct : Type 0 where
  Copies : (src dst : ℕ) → DataAct
  Puts : (inst n : ℕ) → DataAct
  Resets : (inst : ℕ) → DataAct
  Folds : (src dst : ℕ) → DataAct

pub record DataOp : Type 0 where
  pub act : DataAct
  pub space : ℕ
  pub fields : List ℕ

-- The instances with which it is done.
abbrev pub insts_of : DataAct → List ℕ
insts_of (Copies src dst) = src ∷ dst ∷ []
insts_of (Puts inst n) = inst ∷ []
insts_of (Resets inst) = inst ∷ []
insts_of (Folds src dst) = src ∷ dst ∷ []

-- What an operation does to data, if it is one on data.
abbrev pub data_of : Op → Option DataOp
data_of (operations.Copy src dst space fields) =
    Some (record { act = Copies src dst; space = space; fields = fields })
data_of (operations.Put inst space fields n) =
    Some (record { act = Puts inst n; space = space; fields = fields })
data_of (operations.Reset inst space fields) =
    Some (record { act = Resets inst; space = space; fields = fields })
data_of (operations.Fold src dst space fields) =
    Some (record { act = Folds src dst; space = space; fields = fields })
data_of _ = None

-- What the operation of a record does to data, if it is one on data.
abbrev pub data_in : Record → Option DataOp
data_in (records.Copy src dst space fields done waits) = data_of (operations.Copy src dst space fields)
data_in (records.Put inst space fields n done waits) = data_of (operations.Put inst space fields n)
data_in (records.Reset inst space fields done waits) = data_of (operations.Reset inst space fields)
data_in (records.Fold src dst space fields done waits) = data_of (operations.Fold src dst space fields)
data_in _ = None
