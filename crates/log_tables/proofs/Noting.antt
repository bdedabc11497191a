-- One row more, whose place is noted.
use Rattle.std.proofs.Common.{◌≡◌, ℕ, ◌+◌, ◌<◌, Bool, List, [], ◌∷◌, ◌++◌, Option, Some, None, Result, Ok, Err, OnOk, IsOk, true, false, cond, length, take, get_or, ap, sym, subst, ◌∙◌, arith}
use Rattle.std.specs.List.{position_from}
use Rattle.std.specs.Option.{option_or}
use Rattle.std.proofs.lemmas.Bool.{false≢true}
use Rattle.std.proofs.lemmas.List.{take_more, length-take-le}
use Rattle.log_tables.specs.Noted.{Finds, NotesFirst, HoldsPlaces}
use Rattle.list_lemmas.proofs.lemmas.Places.{position_more}

pub place_noted : {K T : Type 0} (eq : K → K → Bool) (key_of : T → K) (old new : K → Option ℕ) (rows : List T) (row : T) (key : K)
    (place : ℕ)
    → HoldsPlaces eq key_of old rows → NotesFirst old new (eq key) place → key ≡ key_of row → place ≡ length rows
    → HoldsPlaces eq key_of new (rows ++ row ∷ [])
place_noted eq key_of old new rows row key place held noted same last = λ q.
    let first = position_from (λ x. eq (key_of x) q) 0 rows in
    let at_end : place ≡ 0 + length rows = omega (arith, last) in
    noted q
    ∙ ap (λ (o : Option ℕ). option_or o (cond (eq key q) (Some place) None)) (held q)
    ∙ ap (λ n. option_or first (cond (eq key q) (Some n) None)) at_end
    ∙ ap (λ k. option_or first (cond (eq k q) (Some (0 + length rows)) None)) same
    ∙ sym (position_more (λ x. eq (key_of x) q) 0 rows row)

-- Of some rows one more, whose place is noted.
pub next_noted : {K T : Type 0} (eq : K → K → Bool) (key_of : T → K) (old new : K → Option ℕ) (rows : List T) (i : ℕ) (row : T) (key : K)
    → HoldsPlaces eq key_of old (take i rows) → NotesFirst old new (eq key) i → key ≡ key_of row → i < length rows → row ≡ get_or rows i row
    → HoldsPlaces eq key_of new (take (i + 1) rows)
next_noted eq key_of old new rows i row key held noted same lt at =
    subst (HoldsPlaces eq key_of new) (sym (take_more rows i row lt ∙ ap (λ x. take i rows ++ x ∷ []) (sym at)))
    (place_noted eq key_of old new (take i rows) row key i held noted same (sym (length-take-le i rows (omega (arith, lt)))))

-- The same of rows that are found by what is noted.
pub found_noted : {M K T : Type 0} (get : M → K → Option ℕ) (eq : K → K → Bool) (number_of : K → ℕ) (key_of : T → K) (ascend : Bool)
    (first : Option ℕ) (old new : M) (rows : List T) (row : T) (key : K) (place : ℕ) → ascend ≡ false
    → Finds get eq number_of key_of ascend first old rows → NotesFirst (get old) (get new) (eq key) place → key ≡ key_of row → place ≡ length rows
    → Finds get eq number_of key_of ascend first new (rows ++ row ∷ [])
found_noted get eq number_of key_of true first old new rows row key place none held noted same last = absurd (false≢true (sym none))
found_noted get eq number_of key_of false first old new rows row key place none held noted same last =
    place_noted eq key_of (get old) (get new) rows row key place held noted same last

-- A clause on what is `Ok` holds of what cannot fail.
pub from_ok : {A E : Type 0} (r : Result A E) (P : Type 0) → OnOk r P → IsOk r → P
from_ok (Ok x) P p is = p
from_ok (Err e) P p is = absurd (false≢true is)
