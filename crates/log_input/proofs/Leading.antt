-- Lines of a log, read one by one.
use Rattle.std.proofs.Common.{◌≡◌, ℕ, ◌+◌, ◌≤◌, arith, length, All, Result, Ok, Err, Bool, true, false, cond, List, [], ◌∷◌, ◌++◌, Option, Some, None, drop, refl, sym, ap, subst, ◌∙◌, inl, inr, append_assoc}
use Rattle.std.specs.Prelude.{slice_get}
use Rattle.std.specs.Option.{option_or}
use Rattle.std.specs.Result.{IsErrAnd}
use Rattle.std.proofs.lemmas.List.{length-append}
use Rattle.std.proofs.lemmas.List.Elements.{All-push}
use Rattle.vocabulary.specs.Prelude.{Good, Fault, Hold, Lined, line_at, on_line, spelling}
use Rattle.semantics.specs.TextFaults.{line_fault, lines_fault}
use Rattle.log_reading.specs.Spelled.{SaysBy, with_said}
use Rattle.log_input.specs.Lines.{IsGoodIf, Lead}

pub first_cut : (lines : List (List ℕ)) (line : List ℕ) → Some line ≡ slice_get lines 0 → lines ≡ line ∷ drop 1 lines
first_cut [] line is = cc
first_cut (l ∷ ls) line is = let same : l ≡ line = cc in ap (λ (x : List ℕ). x ∷ ls) same

pub none_cut : (lines : List (List ℕ)) → None ≡ slice_get lines 0 → lines ≡ []
none_cut [] is = refl
none_cut (l ∷ ls) is = cc

-- A line that is there and wanted.
pub wanted_cut : (b : Bool) (lines : List (List ℕ)) (line : List ℕ) → Some line ≡ cond b (slice_get lines 0) None
    → (b ≡ true) × (lines ≡ line ∷ drop 1 lines)
wanted_cut true lines line is = (refl, first_cut lines line is)
wanted_cut false lines line is = absurd cc

pub unwanted_cut : (b : Bool) (lines : List (List ℕ)) → None ≡ cond b (slice_get lines 0) None → b ≡ true → lines ≡ []
unwanted_cut true lines is wanted = none_cut lines is
unwanted_cut false lines is wanted = absurd cc

-- One line more is read.
pub lead_more : (number : ℕ) (lines : List (List ℕ)) (log after : List Lined) (next : ℕ) (text : List ℕ) (rest : List (List ℕ)) (said : Option Lined)
    → SaysBy Good spelling on_line next text said → after ≡ with_said log said → Lead number lines log next (text ∷ rest)
    → Lead number lines after (next + 1) rest
lead_more number lines log after next text rest None says is lead more h =
    subst (λ ls. Hold number lines (ls ++ more)) (sym is) (lead more (inl (says, h)))
lead_more number lines log after next text rest (Some l) says is lead more h =
    let one = on_line next says.0 in
    let same : log ++ one ∷ more ≡ after ++ more =
    sym (ap (λ ls. ls ++ more) (is ∙ ap (λ (k : Lined). log ++ k ∷ []) says.3) ∙ append_assoc log (one ∷ []) more) in
    subst (Hold number lines) same (lead (one ∷ more) (inr (says.0, more, says.1, says.2, refl, h)))

pub good_if : (line : ℕ) (text : List ℕ) (said : Option Lined) → SaysBy Good spelling on_line line text said → IsGoodIf said
good_if line text None says = tt
good_if line text (Some l) says = subst (λ (k : Lined). Good k.rec) (sym says.3) says.1

-- The fault of the next line is that of all lines from it on; and without one it is that of those after it.
pub fault_here : (next : ℕ) (lines : List (List ℕ)) (text : List ℕ) (rest : List (List ℕ)) (f : Fault) → lines ≡ text ∷ rest
    → line_fault next (line_at text) ≡ Some f → lines_fault next lines ≡ Some f
fault_here next lines text rest f cut here = ap (lines_fault next) cut ∙ ap (λ o. option_or o (lines_fault (next + 1) rest)) here

pub fault_behind : (next : ℕ) (lines : List (List ℕ)) (text : List ℕ) (rest : List (List ℕ)) → lines ≡ text ∷ rest
    → line_fault next (line_at text) ≡ None → lines_fault next lines ≡ lines_fault (next + 1) rest
fault_behind next lines text rest cut clean = ap (lines_fault next) cut ∙ ap (λ o. option_or o (lines_fault (next + 1) rest)) clean

-- What is known of an error is known of the one that it is.
pub known_end : {T E : Type 0} (P : E → Type 0) (r : Result T E) (e : E) → IsErrAnd r P → r ≡ Err e → P e
known_end P (Ok t) e known is = absurd cc
known_end P (Err x) e known is = let same : x ≡ e = cc in subst P same known

-- The records with what a line says.
pub said_few : (log : List Lined) (said : Option Lined) (after : List Lined) → after ≡ with_said log said → length after ≤ length log + 1
said_few log None after is = omega (arith, ap length is)
said_few log (Some l) after is = omega (arith, ap length is ∙ length-append log (l ∷ []))

pub said_good : (log : List Lined) (said : Option Lined) (after : List Lined) → after ≡ with_said log said → IsGoodIf said
    → All (λ (l : Lined). Good l.rec) log → All (λ (l : Lined). Good l.rec) after
said_good log None after is good all = subst (All (λ (l : Lined). Good l.rec)) (sym is) all
said_good log (Some l) after is good all =
    subst (All (λ (l : Lined). Good l.rec)) (sym is) (All-push (λ (l : Lined). Good l.rec) log l all good)
