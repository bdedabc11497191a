-- What the word of a value says. Of other words it is some value that has another text.
use Rattle.std.specs.Prelude.{ℕ, ◌+◌, ◌^◌, Bool, ◌&&◌, nat_lt, List, [], ◌∷◌, drop, codes, if◌then◌else◌}
use Rattle.std.specs.Str.{bytes_eq}
use Rattle.spy_words.specs.Reading.{parts}
use Rattle.value_terms.specs.declared.terms.Base.{Base}
use Rattle.value_terms.specs.declared.terms.Base.TheVariants.{Raw, Init, Ident, Const, Out}
use Rattle.value_terms.specs.declared.terms.Contribution.{Contribution}
use Rattle.value_terms.specs.Values.{Value, plain, add, weight_of}
use Rattle.report_reading.specs.Numbers.{word_at, small_at, large_at}

-- A base: what follows the colon is its number.
unfoldable pub base_at : List ℕ → Base
base_at w =
    if bytes_eq w (codes "raw") then Raw
    else if bytes_eq w (codes "init") then Init
    else if bytes_eq w (codes "ident") then Ident
    else if bytes_eq (word_at (parts 58 w) 0) (codes "const") then Const (small_at (parts 58 w) 1)
    else Out (small_at (parts 58 w) 1)

-- A contribution with its count, of which the requirement and the count stand after the dot.
abbrev pub ids_and_count : List (List ℕ) → List (List ℕ) → Contribution × ℕ
ids_and_count ids counts = (record { task = small_at ids 0; req = small_at counts 0 }, large_at counts 1)

unfoldable pub entry_at : List ℕ → Contribution × ℕ
entry_at w = ids_and_count (parts 46 w) (parts 42 (word_at (parts 46 w) 1))

-- Whether a value takes a contribution with its count, which is 1 at least.
abbrev pub has_room : Value → ℕ → Bool
has_room v n = nat_lt 0 n && nat_lt (weight_of v + n) (2 ^ 64)

-- A value with a contribution added. One that it does not take is left out.
abbrev pub with_entry : ℕ → Contribution × ℕ → Value → Value
with_entry op e v = if has_room v e.1 then add op (e ∷ []) v else v

-- A value with the contributions added that words say.
abbrev pub with_entries : ℕ → List (List ℕ) → Value → Value
with_entries op [] v = v
with_entries op (w ∷ ws) v = with_entries op ws (with_entry op (entry_at w) v)

-- A value with the group added that a word says: the operator stands before the opening bracket, the
-- contributions before the closing one.
unfoldable pub with_group : List ℕ → Value → Value
with_group w v = with_entries (small_at (parts 91 w) 0)
    (parts 44 (word_at (parts 93 (word_at (parts 91 w) 1)) 0)) v

-- A value with the groups added that words say.
abbrev pub with_groups : List (List ℕ) → Value → Value
with_groups [] v = v
with_groups (w ∷ ws) v = with_groups ws (with_group w v)

-- The value: the base stands before the first plus sign, each group after one.
unfoldable pub value_at : List ℕ → Value
value_at w = with_groups (drop 1 (parts 43 w)) (plain (base_at (word_at (parts 43 w) 0)))
