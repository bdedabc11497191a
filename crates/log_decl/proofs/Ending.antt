-- The first fault, where the walk ends.
use Rattle.std.proofs.Common.{◌≡◌, ℕ, zero, suc, List, [], ◌∷◌, ◌++◌, take, drop, slice_get, Option, Some, None, Result, Err, option_map, refl, subst, sym, ap, ◌∙◌}
use Rattle.std.specs.Option.{option_or}
use Rattle.std.specs.Result.{IsErrAnd}
use Rattle.std.proofs.lemmas.Option.{none-some, same_Some}
use Rattle.std.proofs.lemmas.List.{take-append-drop, drop_all}
use Rattle.vocabulary.specs.Prelude.{Code, Lined, records_of, Tables, tables_of, Fault}
use Rattle.semantics.specs.Faults.{at_line, header_fault, records_fault}
use Rattle.log_decl.specs.declared.decl_end.DeclEnd.{DeclEnd}
use Rattle.log_decl.specs.declared.decl_end.DeclEnd.TheVariants as ends
use Rattle.log_decl.specs.Walk.{space_broken, spaces_fault, IsWithin, HasWalked}
use Rattle.log_decl.proofs.FirstFault.{AreWithin, walk_told, tried_told}

-- The records after some of them.
behind : {X : Type 0} (xs : List X) (k : ℕ) (x : X) → slice_get xs k ≡ Some x → (rest : List X) × (drop k xs ≡ x ∷ rest)
behind [] k x at = absurd (none-some x at)
behind (y ∷ ys) zero x at = (ys, ap (λ z. z ∷ ys) (same_Some y x at))
behind (y ∷ ys) (suc k) x at = behind ys k x at

-- The first fault, by the records that the walk kept and those after them.
parted : (log : List Lined) (k : ℕ) (t : Tables) (code : Option Code) → HasWalked log k t code
    → records_fault (records_of log) [] log ≡ option_or (spaces_fault [] (take k log))
    (records_fault (records_of log) (take k log) (drop k log))
parted log k t code stands =
    ap (records_fault (records_of log) []) (sym (take-append-drop k log))
    ∙ walk_told (records_of log) [] (take k log) (drop k log) stands.kept

-- A kept record breaks a rule of the forest.
pub refused : (log : List Lined) (k : ℕ) (t : Tables) (code : Option Code) (f : Fault) → HasWalked log k t code
    → spaces_fault [] (take k log) ≡ Some f → records_fault (records_of log) [] log ≡ Some f
refused log k t code f stands e = parted log k t code stands
    ∙ ap (λ o. option_or o (records_fault (records_of log) (take k log) (drop k log))) e

-- None does, and the walk stands at a record that breaks another rule.
pub stopped : (log : List Lined) (k : ℕ) (t : Tables) (code : Code) (l : Lined) → HasWalked log k t (Some code) → slice_get log k ≡ Some l
    → spaces_fault [] (take k log) ≡ None → records_fault (records_of log) [] log ≡ Some (at_line code l.line)
stopped log k t code l stands at e =
    let all = records_of log in
    let kept = take k log in
    let here = stands.here in
    let rest = behind log k here.0 here.1 in
    let within : AreWithin kept = subst (λ (u : Tables). IsWithin u (records_of kept)) stands.tables stands.within in
    let same : here.0 ≡ l = same_Some here.0 l (sym here.1 ∙ at) in
    parted log k t (Some code) stands
    ∙ ap (λ o. option_or o (records_fault all kept (drop k log))) e
    ∙ ap (records_fault all kept) rest.1
    ∙ ap (λ o. option_or (option_map (λ c. at_line c here.0.line) o) (records_fault all (kept ++ here.0 ∷ []) rest.0))
    (tried_told all kept here.0.rec within ∙ ap (λ o. option_or o (space_broken (tables_of kept) here.0.rec)) here.2)
    ∙ ap (λ (x : Lined). Some (at_line code x.line)) same

-- None does, and the walk stands at the end.
pub ended : (log : List Lined) (k : ℕ) (t : Tables) → HasWalked log k t None → spaces_fault [] (take k log) ≡ None
    → records_fault (records_of log) [] log ≡ None
ended log k t stands e =
    parted log k t None stands
    ∙ ap (λ o. option_or o (records_fault (records_of log) (take k log) (drop k log))) e
    ∙ ap (records_fault (records_of log) (take k log)) (drop_all k log stands.here)

-- Two ends with one fault.
pub same_fault : {T : Type 0} (o : Option Fault) (line line' : ℕ) (code code' : Code) → o ≡ Some (at_line code line)
    → (let one : Result T DeclEnd = Err (ends.Fault line code) in one) ≡ Err (ends.Fault line' code') → o ≡ Some (at_line code' line')
same_fault o line line' code code' told e = cc

-- What is known of an error.
pub known_end : {T E : Type 0} (P : E → Type 0) (r : Result T E) (e : E) → IsErrAnd r P → r ≡ Err e → P e
known_end P r e known is = subst (λ q. IsErrAnd q P) is known

-- Where the frame has no fault, the fault is that of the records.
pub after_frame : (header ended count records o : Option Fault) → option_or header (option_or ended count) ≡ None → records ≡ o
    → option_or header (option_or ended (option_or count records)) ≡ o
after_frame (Some f) ended count records o frame rest = absurd (none-some f (sym frame))
after_frame None (Some f) count records o frame rest = absurd (none-some f (sym frame))
after_frame None None count records o frame rest = ap (λ p. option_or p records) frame ∙ rest

-- Where the frame has no fault, its header has none, however many lines there are.
pub header_kept : (lines : ℕ) (log : List Lined) (rest : Option Fault) → option_or (header_fault lines log) rest ≡ None
    → header_fault 0 log ≡ None
header_kept lines [] rest e = absurd (none-some _ (sym e))
header_kept lines (l ∷ log) rest e = first_none (header_fault lines (l ∷ log)) rest e
  where
    first_none : (o p : Option Fault) → option_or o p ≡ None → o ≡ None
    first_none None p e = refl
    first_none (Some f) p e = absurd (none-some f (sym e))
