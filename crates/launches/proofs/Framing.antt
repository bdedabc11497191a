-- The fault of a launch log, by that of its frame.
use Rattle.std.proofs.Common.{◌≡◌, ℕ, List, Option, Some, None, refl, sym, ap, ◌∙◌}
use Rattle.std.specs.Option.{option_or}
use Rattle.std.proofs.lemmas.Option.{none-some}
use Rattle.vocabulary.specs.Prelude.{Code, LLined, Fault}
use Rattle.semantics.specs.Faults.{at_line, header_fault, ended_fault, count_fault}
use Rattle.semantics.specs.Launches.{framed, launch_fault, launches_fault, not_expanded}
use Rattle.launches.specs.declared.expand_end.ExpandEnd.TheVariants as ends

abbrev pub frame_of : ℕ → List LLined → Option Fault
frame_of lines log = option_or (header_fault lines (framed log)) (option_or (ended_fault lines (framed log)) (count_fault (framed log)))

none_of : (h n c r : Option Fault) → option_or h (option_or n c) ≡ None → option_or h (option_or n (option_or c r)) ≡ r
none_of None None None r e = refl
none_of None None (Some f) r e = absurd (none-some f (sym e))
none_of None (Some f) c r e = absurd (none-some f (sym e))
none_of (Some f) n c r e = absurd (none-some f (sym e))

some_of : (h n c r : Option Fault) (f : Fault) → option_or h (option_or n c) ≡ Some f → option_or h (option_or n (option_or c r)) ≡ Some f
some_of None None None r f e = absurd (none-some f e)
some_of None None (Some g) r f e = e
some_of None (Some g) c r f e = e
some_of (Some g) n c r f e = e

pub faulty_frame : (lines : ℕ) (log seen : List LLined) (o : Option Fault) (f : Fault) → o ≡ frame_of lines seen → seen ≡ log → o ≡ Some f
    → launch_fault lines log ≡ Some f
unfolding launch_fault
faulty_frame lines log seen o f told is some =
    some_of (header_fault lines (framed log)) (ended_fault lines (framed log)) (count_fault (framed log))
    (launches_fault not_expanded log) f (ap (frame_of lines) (sym is) ∙ sym told ∙ some)

pub sound_frame : (lines : ℕ) (log seen : List LLined) (o : Option Fault) → o ≡ frame_of lines seen → seen ≡ log → o ≡ None
    → launch_fault lines log ≡ launches_fault not_expanded log
unfolding launch_fault
sound_frame lines log seen o told is none = none_of (header_fault lines (framed log)) (ended_fault lines (framed log))
    (count_fault (framed log)) (launches_fault not_expanded log) (ap (frame_of lines) (sym is) ∙ sym told ∙ none)

pub same_fault : (f : Fault) (line : ℕ) (code : Code) → ends.Fault f.line f.code ≡ ends.Fault line code → f ≡ at_line code line
same_fault f line code e =
    let lines : f.line ≡ line = cc in
    let codes : f.code ≡ code = cc in
    ap (λ n. at_line f.code n) lines ∙ ap (λ c. at_line c line) codes
