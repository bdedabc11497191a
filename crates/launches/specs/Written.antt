-- What is known of the records that a launch log has written.
use Rattle.std.specs.Prelude.{◌≡◌, ℕ, ◌-◌, ◌^◌, ◌||◌, min, not, Bool, All, List, [], ◌∷◌, ◌++◌, filter, length}
use Rattle.vocabulary.specs.Prelude.{Record, Good, Sub, lined, text_of, tables_of}
use Rattle.spy_grammar.specs.declared.record.Record.TheVariants as records
use Rattle.semantics.specs.Faults.{is_header, is_end}

-- The subspaces that records declare.
unfoldable pub subs_by : List Record → List Sub
subs_by rs = (tables_of (lined rs)).subs

-- With the one that one record more declares.
abbrev pub with_sub : List Sub → Record → List Sub
with_sub subs (records.Sub part colour space) =
    subs ++ record { part = part; colour = colour; space = space } ∷ []
with_sub subs _ = subs

-- Whether a record is neither header nor end.
abbrev pub is_inner : Record → Bool
is_inner r = not (is_header r || is_end r)

-- A number, or the greatest `u64` where it is less.
abbrev pub capped : ℕ → ℕ
capped n = min n (2 ^ 64 - 1)

-- These are the subspaces that the records declare, how many are neither header nor end, and how many bytes
-- their text has.
pub record Tells (rs : List Record) (subs : List Sub) (n : ℕ) (m : ℕ) : Type 0 where
  pub declared : subs ≡ subs_by rs
  pub inner : n ≡ capped (length (filter is_inner rs))
  pub bytes : m ≡ capped (length (text_of rs))
  pub good : All Good rs
