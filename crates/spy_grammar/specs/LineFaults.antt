-- The faults of a line as a person would tell them: what its words lack, apart from how they are read.
use Rattle.std.specs.Prelude.{◌≡◌, ℕ, ◌^◌, Bool, true, false, not, ◌||◌, ◌&&◌, nat_eq, nat_lt, List, [], ◌∷◌, map, drop, codes}
use Rattle.std.specs.List.{list_all, list_any, starts_with}
use Rattle.std.specs.Str.{bytes_eq}
use Rattle.std.specs.Str.Parse.{digits_value}
use Rattle.spy_words.specs.declared.lists.Quad.{Quad}
use Rattle.spy_words.specs.declared.access.PrivWord.TheVariants as privileges
use Rattle.spy_words.specs.declared.access.InstKind.TheVariants as instances
use Rattle.spy_words.specs.Classes.{Class, number, extent, fields, waits, split, access, coherence, layout, split_word, access_word, coherence_word, layout_word, ascends, span_before, quad_before}
use Rattle.spy_words.specs.Reading.{parts, is_digits, has_leading_zero, has_some, has_colon, quad_of}
use Rattle.spy_grammar.specs.declared.kinds.RecordKind.{RecordKind}
use Rattle.spy_grammar.specs.Rows.{Row, no_more, some_ids, ◌&◌, Grammar, plain_log}
use Rattle.spy_grammar.specs.Reading.{next_word}

-- ---- the shape of a word

-- A dash, which stands for an empty list.
abbrev pub is_dash : List ℕ → Bool
is_dash w = bytes_eq w (codes "-")

-- A run of points: one number, or two with a dash between.
abbrev pub is_span_shaped : List (List ℕ) → Bool
is_span_shaped (v ∷ []) = is_digits v
is_span_shaped (v ∷ w ∷ []) = is_digits v && is_digits w
is_span_shaped vs = false

-- A rectangle: a run of columns and a run of rows, with a colon between.
abbrev pub is_quad_shaped : List (List ℕ) → Bool
is_quad_shaped (v ∷ w ∷ []) = is_span_shaped (parts 45 v) && is_span_shaped (parts 45 w)
is_quad_shaped vs = false

-- A part of a space: a rectangle where the word has a colon, else a run of points.
abbrev pub is_part_shaped : Bool → List ℕ → Bool
is_part_shaped true v = is_quad_shaped (parts 58 v)
is_part_shaped false v = is_span_shaped (parts 45 v)

-- The operator of a reduction: `red:` and a number.
abbrev pub is_operator : List ℕ → Bool
is_operator w = starts_with nat_eq w (codes "red:") && is_digits (drop 4 w)

-- One of the privileges that have no operator, and one of the kinds of instances that have none.
abbrev pub is_plain_access : List ℕ → Bool
is_plain_access w = list_any (λ p. bytes_eq w (access_word p))
    (privileges.Ro ∷ privileges.Rw ∷ privileges.Wd ∷ [])

abbrev pub is_plain_layout : List ℕ → Bool
is_plain_layout w = list_any (λ k. bytes_eq w (layout_word k)) (instances.Plain ∷ instances.Home ∷ [])

-- A word has the shape of its class, whatever its numbers are.
abbrev pub has_shape : Class → List ℕ → Bool
has_shape (number least) w = is_digits w
has_shape extent w = is_dash w || list_all (is_part_shaped (has_colon w)) (parts 44 w)
has_shape fields w = list_all is_digits (parts 44 w)
has_shape waits w = is_dash w || list_all is_digits (parts 44 w)
has_shape split w = list_any (λ b. bytes_eq w (split_word b)) (true ∷ false ∷ [])
has_shape access w = is_plain_access w || is_operator w
has_shape coherence w = list_any (λ b. bytes_eq w (coherence_word b)) (true ∷ false ∷ [])
has_shape layout w = is_plain_layout w || is_operator w

-- ---- the numbers of a word

-- A number of a log: without a zero before further digits, from the least up, and below 2^32.
abbrev pub is_number_from : ℕ → List ℕ → Bool
is_number_from least w =
    not (has_leading_zero w || nat_lt (digits_value 10 w) least || not (nat_lt (digits_value 10 w) (2 ^ 32)))

-- Each number of a run is a number of a log, and each number of a part of a space.
abbrev pub has_span_numbers : List ℕ → Bool
has_span_numbers v = list_all (is_number_from 0) (parts 45 v)

abbrev pub has_part_numbers : Bool → List ℕ → Bool
has_part_numbers true v = list_all has_span_numbers (parts 58 v)
has_part_numbers false v = has_span_numbers v

-- Each number of a word is a number of a log.
abbrev pub has_numbers : Class → List ℕ → Bool
has_numbers (number least) w = is_number_from least w
has_numbers extent w = is_dash w || list_all (has_part_numbers (has_colon w)) (parts 44 w)
has_numbers fields w = list_all (is_number_from 0) (parts 44 w)
has_numbers waits w = is_dash w || list_all (is_number_from 1) (parts 44 w)
has_numbers access w = is_plain_access w || is_number_from 1 (drop 4 w)
has_numbers layout w = is_plain_layout w || is_number_from 1 (drop 4 w)
has_numbers c w = true

-- ---- the order in a word

-- The first and the last number of a run of points.
abbrev pub span_of : List (List ℕ) → ℕ × ℕ
span_of [] = (0, 0)
span_of (v ∷ []) = (digits_value 10 v, digits_value 10 v)
span_of (v ∷ w ∷ vs) = (digits_value 10 v, digits_value 10 w)

-- Where a run of points has two numbers, the second exceeds the first.
abbrev pub is_upward : List (List ℕ) → Bool
is_upward (v ∷ w ∷ vs) = nat_lt (digits_value 10 v) (digits_value 10 w)
is_upward vs = true

-- The rectangle of these columns and rows.
abbrev pub quad_among : List (List ℕ) → Quad
quad_among (v ∷ w ∷ vs) = quad_of (span_of (parts 45 v), span_of (parts 45 w))
quad_among vs = quad_of ((0, 0), (0, 0))

-- Where a run in a part of a space has two numbers, the second exceeds the first.
abbrev pub is_part_upward : Bool → List ℕ → Bool
is_part_upward true v = list_all (λ u. is_upward (parts 45 u)) (parts 58 v)
is_part_upward false v = is_upward (parts 45 v)

-- The parts of a space ascend.
abbrev pub do_parts_ascend : Bool → List (List ℕ) → Bool
do_parts_ascend true ws = ascends quad_before (map (λ v. quad_among (parts 58 v)) ws)
do_parts_ascend false ws = ascends span_before (map (λ v. span_of (parts 45 v)) ws)

-- The numbers of a word ascend, where its class wants that.
abbrev pub is_in_order : Class → List ℕ → Bool
is_in_order extent w =
    is_dash w || (list_all (is_part_upward (has_colon w)) (parts 44 w) && do_parts_ascend (has_colon w) (parts 44 w))
is_in_order fields w = ascends nat_lt (map (digits_value 10) (parts 44 w))
is_in_order c w = true

-- ---- the words of a line

-- They are as many as a row wants, and each has the shape of its class.
abbrev pub have_shape : Row → List (List ℕ) → Bool
have_shape no_more [] = true
have_shape no_more (w ∷ ws) = false
have_shape some_ids ws = has_some ws && list_all is_digits ws
have_shape (c & r) [] = false
have_shape (c & r) (w ∷ ws) = has_shape c w && have_shape r ws

-- Each number of each is a number of a log.
abbrev pub have_numbers : Row → List (List ℕ) → Bool
have_numbers some_ids ws = list_all (is_number_from 1) ws
have_numbers (c & r) (w ∷ ws) = has_numbers c w && have_numbers r ws
have_numbers r ws = true

-- Each ascends where its class wants that.
abbrev pub are_in_order : Row → List (List ℕ) → Bool
are_in_order (c & r) (w ∷ ws) = is_in_order c w && are_in_order r ws
are_in_order r ws = true

-- The words of a line after the first.
abbrev pub words_after : List ℕ → List (List ℕ)
words_after line = drop 1 (parts 32 line)

-- ---- the faults of a line, by the words of a grammar

-- The first word of a line is the name of a kind.
abbrev pub NamesIn : {K R : Type 0} → Grammar K R → List ℕ → K → Type 0
NamesIn g line k = next_word (parts 32 line) ≡ (g.entry k).name

-- The first word is the name of no kind.
abbrev pub NamesNone : {K R : Type 0} → Grammar K R → List ℕ → Type 0
NamesNone {K} g line = (k : K) → NamesIn g line k → ⊥

-- It names a kind, and the words after it are too few or too many, or one lacks the shape of its class.
abbrev pub LacksShape : {K R : Type 0} → Grammar K R → List ℕ → Type 0
LacksShape {K} g line = (k : K) × NamesIn g line k × (have_shape (g.entry k).row (words_after line) ≡ false)

-- They have their shape, and some number has a zero before further digits, or is too small or too large.
abbrev pub LacksNumbers : {K R : Type 0} → Grammar K R → List ℕ → Type 0
LacksNumbers {K} g line = (k : K) × NamesIn g line k × (have_shape (g.entry k).row (words_after line) ≡ true)
    × (have_numbers (g.entry k).row (words_after line) ≡ false)

-- Their numbers are right too, and some list or run does not ascend.
abbrev pub LacksOrder : {K R : Type 0} → Grammar K R → List ℕ → Type 0
LacksOrder {K} g line = (k : K) × NamesIn g line k × (have_shape (g.entry k).row (words_after line) ≡ true)
    × (have_numbers (g.entry k).row (words_after line) ≡ true)
    × (are_in_order (g.entry k).row (words_after line) ≡ false)

-- ---- the words of a log

-- The first word of a line is the name of a kind.
abbrev pub Names : List ℕ → RecordKind → Type 0
Names line k = NamesIn plain_log line k

-- The row that the words after it should keep to.
abbrev pub row_of : RecordKind → Row
row_of k = (plain_log.entry k).row
