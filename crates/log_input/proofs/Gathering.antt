-- What is gathered of records, one by one.
use Rattle.std.proofs.Common.{◌≡◌, ℕ, ◌+◌, ◌<◌, Bool, ◌||◌, List, [], ◌∷◌, ◌++◌, length, get_or, take, sym, ap, ◌∙◌}
use Rattle.std.specs.List.{list_any}
use Rattle.std.proofs.Math.Bool.{or-false}
use Rattle.std.proofs.lemmas.List.{map-append, take_more}
use Rattle.std.proofs.lemmas.List.Folds.{list_any-append}
use Rattle.vocabulary.specs.Prelude.{Record, Lined, records_of}

-- Whether some record passes, with one record more.
pub any_more : (p : Record → Bool) (rs : List Record) (r : Record) → list_any p (rs ++ r ∷ []) ≡ (list_any p rs || p r)
any_more p rs r = list_any-append p rs (r ∷ []) ∙ ap (λ b. list_any p rs || b) (or-false (p r))

pub records_more : (log : List Lined) (l : Lined) → records_of (log ++ l ∷ []) ≡ records_of log ++ l.rec ∷ []
records_more log l = map-append (λ (k : Lined). k.rec) log (l ∷ [])

pub any_next : (p : Record → Bool) (log : List Lined) (i : ℕ) (l : Lined) → i < length log → l ≡ get_or log i l
    → list_any p (records_of (take (i + 1) log)) ≡ (list_any p (records_of (take i log)) || p l.rec)
any_next p log i l lt is =
    ap (λ ls. list_any p (records_of ls)) (take_more log i l lt ∙ ap (λ (k : Lined). take i log ++ k ∷ []) (sym is))
    ∙ ap (list_any p) (records_more (take i log) l) ∙ any_more p (records_of (take i log)) l.rec
