-- What words ask for.
use Rattle.std.specs.Prelude.{ℕ, ◌≤◌, ◌^◌, Bool, ◌&&◌, not, nat_le, nat_lt, is_none, List, [], ◌∷◌, length, Option, Some, None, codes, bytes_eq, if◌then◌else◌, option_map, option_and_then}
use Rattle.std.specs.Str.Parse.{digits_value}
use Rattle.clap.specs.Walk.{Text}
use Rattle.vocabulary.specs.Prelude.{is_digits, has_leading_zero, Ask}
use Rattle.spy_args.specs.CommandLine.{Words, values_in}
use Rattle.spy_args.specs.declared.request.Request.{Request}
use Rattle.spy_args.specs.declared.request.Request.TheVariants.{Judge, Print, Expand, Launched, Nested, Demo}
use Rattle.semantics.specs.declared.command.Command.TheVariants.{Check, Ordered, Deps, Spare, Why}

-- The number of so many bits that a word says: digits, without a leading zero.
abbrev pub number_at : ℕ → Text → Option ℕ
number_at bits word = if is_digits word && not (has_leading_zero word)
    && nat_lt (digits_value 10 word) (2 ^ bits) then Some (digits_value 10 word) else None

-- The read of these numbers, if all four are there.
abbrev pub ask_of : Option ℕ → Option ℕ → Option ℕ → Option ℕ → Option Ask
ask_of (Some task) (Some req) (Some point) (Some field) =
    Some (record { task = task; req = req; point = point; field = field })
ask_of task req point field = None

-- The read that words say, if all four are there.
abbrev pub ask_in : Words → Option Ask
ask_in w = ask_of (option_and_then (number_at 32) w.task) (option_and_then (number_at 32) w.req)
    (option_and_then (number_at 64) w.point) (option_and_then (number_at 32) w.field)

-- A word says a size: it is one to three digits without a leading zero, and the number is from 1 to 500.
abbrev pub is_size : Text → Bool
is_size word =
    is_digits word && nat_le (length word) 3 && not (has_leading_zero word)
    && nat_le 1 (digits_value 10 word) && nat_le (digits_value 10 word) 500

-- A size that is asked for is from 1 to 500.
abbrev pub IsSized : Request → Type 0
IsSized (Demo size) = (1 ≤ size) × (size ≤ 500)
IsSized _ = Unit {0}

-- The size that a word says.
abbrev pub size_at : Text → Option ℕ
size_at word = if is_size word then Some (digits_value 10 word) else None

-- The commands without a size: the word of each, and what it asks for.
abbrev pub plain_words : List (Text × Request)
plain_words =
    (codes "check", Judge Check) ∷ (codes "ordered", Judge Ordered) ∷ (codes "deps", Judge Deps)
    ∷ (codes "spare", Judge Spare)
    ∷ (codes "print", Print) ∷ (codes "expand", Expand) ∷ (codes "launched", Launched)
    ∷ (codes "nested", Nested) ∷ []

-- What a word asks for by such a table: the first row with that word says it.
abbrev pub request_among : List (Text × Request) → Text → Option Request
request_among [] word = None
request_among (row ∷ rows) word = if bytes_eq word row.0 then Some row.1 else request_among rows word

-- What a command without a size asks for.
abbrev pub plain_request : Text → Option Request
plain_request command = request_among plain_words command

-- What a command without a read asks for, with a size or without: `demo` alone has one.
abbrev pub sized_request : Text → Option Text → Option Request
sized_request command None = plain_request command
sized_request command (Some size) = if bytes_eq command (codes "demo") then option_map Demo (size_at size)
    else None

-- No word of a read is there.
abbrev pub has_no_read : Words → Bool
has_no_read w = is_none w.task && is_none w.req && is_none w.point && is_none w.field

-- What `why` asks for: it has a read, and no size.
abbrev pub why_request : Words → Option Request
why_request w = if is_none w.size then option_map (λ ask. Judge (Why ask)) (ask_in w) else None

-- What a command asks for with its options: `why` alone has a read.
abbrev pub request_of : Words → Option Request
request_of w = if bytes_eq w.command (codes "why") then why_request w else if has_no_read w
    then sized_request w.command w.size else None

-- What words ask for, if they are taken. They do not hold the program's name.
abbrev pub asked : List Text → Option Request
asked words = option_and_then request_of (values_in (codes "spy" ∷ words))
