-- Which fault is reported of several, and what it is to give what reading gives.
use Rattle.std.specs.Prelude.{◌≡◌, ℕ, Bool, List, [], ◌∷◌, ◌++◌, Option, Some, None, Result, Ok, Err, nat_lt, if◌then◌else◌}
use Rattle.spy_words.specs.declared.fault.LineFault.{LineFault}
use Rattle.spy_words.specs.declared.fault.LineFault.TheVariants.{Word, Form, Number, Order, Memory}

-- How early a fault is reported.
abbrev pub rank : LineFault → ℕ
rank Word = 0
rank Form = 1
rank Number = 2
rank Order = 3
rank Memory = 4

-- The fault that is reported of two.
abbrev pub worse : LineFault → LineFault → LineFault
worse f g = if nat_lt (rank g) (rank f) then g else f

-- The fault that is reported of those met so far and one more.
abbrev pub met_with : Option LineFault → LineFault → Option LineFault
met_with None f = Some f
met_with (Some e) f = Some (worse e f)

-- A value, unless a fault was met.
abbrev pub unless_met : {A : Type 0} → Option LineFault → A → Result A LineFault
unless_met None x = Ok x
unless_met (Some f) x = Err f

-- What is kept of a word that was read: its value, or a stand-in, and the fault that was met so far.
abbrev pub kept : {A : Type 0} → Option LineFault → Result A LineFault → A → A × Option LineFault
kept met (Ok x) other = (x, met)
kept met (Err f) other = (other, met_with met f)

-- The same of a part of a list: its value after the others, or none.
abbrev pub with_part : {A : Type 0} → List A × Option LineFault → Result A LineFault → List A
    × Option LineFault
with_part p (Ok x) = (p.0 ++ x ∷ [], p.1)
with_part p (Err f) = (p.0, met_with p.1 f)

-- What each word says, after what was read before.
abbrev pub each_after : {A : Type 0} → List A × Option LineFault → (List ℕ → Result A LineFault)
    → List (List ℕ) → Result (List A) LineFault
each_after p read [] = unless_met p.1 p.0
each_after p read (w ∷ ws) = each_after (with_part p (read w)) read ws

-- Both values, or the fault that is reported.
abbrev pub both : {A B : Type 0} → Result A LineFault → Result B LineFault → Result (A × B) LineFault
both (Ok a) (Ok b) = Ok (a, b)
both (Ok a) (Err g) = Err g
both (Err f) (Ok b) = Err f
both (Err f) (Err g) = Err (worse f g)

-- What is made of the value, or the fault.
abbrev pub map_ok : {A B : Type 0} → (A → B) → Result A LineFault → Result B LineFault
map_ok f (Ok a) = Ok (f a)
map_ok f (Err e) = Err e

-- The value, if it passes a test, or else this fault.
abbrev pub tested : {A : Type 0} → LineFault → (A → Bool) → Result A LineFault → Result A LineFault
tested f test (Ok a) = if test a then Ok a else Err f
tested f test (Err e) = Err e

-- A call that failed tells the fault that reading gives, unless memory ran out.
abbrev pub Fails : {Y : Type 0} → LineFault → Result Y LineFault → Type 0
Fails Memory read = Unit {0}
Fails f read = read ≡ Err f

-- What a call returned, seen by `view`, is what reading gives, unless memory ran out.
abbrev pub Gives : {X Y : Type 0} → (X → Y) → Result X LineFault → Result Y LineFault → Type 0
Gives view (Ok x) read = read ≡ Ok (view x)
Gives view (Err e) read = Fails e read
