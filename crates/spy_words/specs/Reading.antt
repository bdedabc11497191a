-- What a word of each class says, or its fault.
use Rattle.std.specs.Prelude.{ℕ, ◌^◌, Bool, true, false, not, ◌||◌, ◌&&◌, ◌==◌, ◌≡◌, ◌≢◌, ◌<◌, nat_eq, nat_lt, min, List, [], ◌∷◌, length, drop, slice_index, Option, Some, None, Result, Ok, Err, if◌then◌else◌, codes}
use Rattle.std.specs.List.{slice_split, list_all, list_any, starts_with}
use Rattle.std.specs.Str.{bytes_eq}
use Rattle.std.specs.Char.{is_ascii_digit}
use Rattle.std.specs.Str.Parse.{digits_value}
use Rattle.spy_words.specs.declared.access.PrivWord.TheVariants as privileges
use Rattle.spy_words.specs.declared.access.InstKind.TheVariants as instances
use Rattle.spy_words.specs.declared.lists.Quad.{Quad}
use Rattle.spy_words.specs.declared.lists.Extent.{Extent}
use Rattle.spy_words.specs.declared.lists.Extent.TheVariants.{Runs, Plane}
use Rattle.spy_words.specs.declared.fault.LineFault.{LineFault}
use Rattle.spy_words.specs.declared.fault.LineFault.TheVariants.{Form, Number, Order}
use Rattle.spy_words.specs.Classes.{Class, number, extent, fields, waits, split, access, coherence, layout, Meaning, split_word, access_word, coherence_word, layout_word, ascends, span_before, quad_before}
use Rattle.spy_words.specs.Faults.{both, map_ok, tested, each_after}

-- The parts of a text, cut at each such byte.
abbrev pub parts : ℕ → List ℕ → List (List ℕ)
parts c w = slice_split (λ b. b == c) w

-- The first place of a byte in a text, or none.
abbrev pub IsFirstPlace : ℕ → List ℕ → Option ℕ → Type 0
IsFirstPlace c w None = (j : ℕ) → j < length w → slice_index w j ≢ c
IsFirstPlace c w (Some k) = (k < length w) × (slice_index w k ≡ c) × ((j : ℕ) → j < k → slice_index w j ≢ c)

-- Digits, at least one.
abbrev pub is_digits : List ℕ → Bool
is_digits w = not (length w == 0) && list_all is_ascii_digit w

-- A zero before further digits.
abbrev pub has_leading_zero : List ℕ → Bool
has_leading_zero w = nat_lt 1 (length w) && (slice_index w 0 == 48)

-- The value of digits, or 2 ^ 32 where it is greater, if all bytes are digits.
abbrev pub capped_value : List ℕ → Option ℕ
capped_value w = if list_all is_ascii_digit w then Some (min (digits_value 10 w) (2 ^ 32)) else None

-- A number from the least up.
unfoldable pub number_from : ℕ → List ℕ → Result ℕ LineFault
number_from least w =
    if not (is_digits w) then Err Form
    else if has_leading_zero w || nat_lt (digits_value 10 w) least
    || not (nat_lt (digits_value 10 w) (2 ^ 32)) then Err Number
    else Ok (digits_value 10 w)

-- The second number exceeds the first.
abbrev pub goes_up : ℕ × ℕ → Bool
goes_up p = nat_lt p.0 p.1

-- A number alone, or two of which the second exceeds the first.
abbrev pub span_among : ℕ → List (List ℕ) → Result (ℕ × ℕ) LineFault
span_among least (v ∷ []) = map_ok (λ n. (n, n)) (number_from least v)
span_among least (v ∷ w ∷ []) = tested Order goes_up (both (number_from least v) (number_from least w))
span_among least vs = Err Form

-- A run of points: a number from the least up, or two with a dash between.
unfoldable pub span_from : ℕ → List ℕ → Result (ℕ × ℕ) LineFault
span_from least w = span_among least (parts 45 w)

-- The rectangle of these columns and rows.
abbrev pub quad_of : (ℕ × ℕ) × (ℕ × ℕ) → Quad
quad_of p = record { x0 = p.0.0; x1 = p.0.1; y0 = p.1.0; y1 = p.1.1 }

-- Two runs: columns and rows.
abbrev pub quad_among : ℕ → List (List ℕ) → Result Quad LineFault
quad_among least (v ∷ w ∷ []) = map_ok quad_of (both (span_from least v) (span_from least w))
quad_among least vs = Err Form

-- A rectangle: two runs with a colon between.
unfoldable pub quad_from : ℕ → List ℕ → Result Quad LineFault
quad_from least w = quad_among least (parts 58 w)

-- What each word says, or the fault that is reported of theirs.
abbrev pub each : {A : Type 0} → (List ℕ → Result A LineFault) → List (List ℕ) → Result (List A) LineFault
each read ws = each_after ([], None) read ws

-- A list: what stands between commas, or none for a dash.
unfoldable pub list_at : {A : Type 0} → (List ℕ → Result A LineFault) → List ℕ → Result (List A) LineFault
list_at read w = if bytes_eq w (codes "-") then Ok [] else each read (parts 44 w)

-- A word with a colon holds rectangles.
abbrev pub has_colon : List ℕ → Bool
has_colon w = list_any (λ b. b == 58) w

-- The points of a space: rectangles or runs, which ascend.
unfoldable pub extent_at : List ℕ → Result Extent LineFault
extent_at w =
    if has_colon w then map_ok (λ qs. Plane qs) (tested Order (ascends quad_before) (list_at (quad_from 0) w))
    else map_ok (λ ps. Runs ps) (tested Order (ascends span_before) (list_at (span_from 0) w))

-- At least one.
abbrev pub has_some : {A : Type 0} → List A → Bool
has_some [] = false
has_some (x ∷ xs) = true

-- The first of some values with this text, or what else reading gives.
abbrev pub text_at : {A : Type 0} → (A → List ℕ) → List A → List ℕ → Result A LineFault → Result A LineFault
text_at spell [] w otherwise = otherwise
text_at spell (x ∷ xs) w otherwise = if bytes_eq w (spell x) then Ok x else text_at spell xs w otherwise

-- The operator of a reduction: `red:` and an id.
unfoldable pub operator_at : List ℕ → Result ℕ LineFault
operator_at w = if starts_with nat_eq w (codes "red:") then number_from 1 (drop 4 w) else Err Form

-- What a word of a class means.
unfoldable pub meaning_at : (c : Class) → List ℕ → Result (Meaning c) LineFault
meaning_at (number least) w = number_from least w
meaning_at extent w = extent_at w
meaning_at fields w = tested Order (ascends nat_lt) (tested Form has_some (list_at (number_from 0) w))
meaning_at waits w = list_at (number_from 1) w
meaning_at split w = text_at split_word (true ∷ false ∷ []) w (Err Form)
meaning_at access w = text_at access_word (privileges.Ro ∷ privileges.Rw ∷ privileges.Wd ∷ []) w
    (map_ok (λ op. privileges.Red op) (operator_at w))
meaning_at coherence w = text_at coherence_word (true ∷ false ∷ []) w (Err Form)
meaning_at layout w = text_at layout_word (instances.Plain ∷ instances.Home ∷ []) w
    (map_ok (λ op. instances.Red op) (operator_at w))

-- Ids, at least one, each a word.
abbrev pub ids_at : List (List ℕ) → Result (List ℕ) LineFault
ids_at ws = tested Form has_some (each (number_from 1) ws)
