-- The users of places in one list, as it grows.
use Rattle.std.proofs.Common.{◌≡◌, ℕ, ◌+◌, ◌-◌, ◌≤◌, List, [], ◌∷◌, ◌++◌, All, refl, ap, ap₂, ◌∙◌, arith, map, take, drop, length}
use Rattle.std.proofs.lemmas.List.{drop-append-le, take-append-le, length-drop, map-append}
use Rattle.std.proofs.lemmas.List.Elements.{recursion_from_All}
use Rattle.std.proofs.Math.Seq.{drop-append_seam, take-length}
use Rattle.std.specs.List.{AllByRecursion}
use Rattle.pair_rows.specs.declared.users.User.{User}
use Rattle.pair_rows.specs.Spans.{users_between, IsSpan}

between_still : (users more : List User) (span : ℕ × ℕ) → IsSpan (length users) span
    → users_between (users ++ more) span ≡ users_between users span
between_still users more span is =
    let order = is.order in
    let within = is.within in
    ap (take (span.1 - span.0)) (drop-append-le span.0 users more (omega (arith, order, within)))
    ∙ take-append-le (span.1 - span.0) (drop span.0 users) more (rw (length-drop span.0 users) (omega (arith, order, within)))

all_between : (users more : List User) (spans : List (ℕ × ℕ)) → AllByRecursion (IsSpan (length users)) spans
    → map (users_between (users ++ more)) spans ≡ map (users_between users) spans
all_between users more [] h = refl
all_between users more (span ∷ spans) h = ap₂ (λ u us. u ∷ us) (between_still users more span h.0) (all_between users more spans h.1)

-- The users that come last are those of one place more.
last_between : (users more : List User) → users_between (users ++ more) (length users, length users + length more) ≡ more
last_between users more =
    let count : length users + length more - length users ≡ length more = omega arith in
    ap₂ take count (drop-append_seam users more) ∙ take-length more

pub places_more : (users more : List User) (spans : List (ℕ × ℕ)) (end : ℕ) → All (IsSpan (length users)) spans
    → end ≡ length users + length more
    → map (users_between (users ++ more)) (spans ++ (length users, end) ∷ []) ≡ map (users_between users) spans ++ more ∷ []
places_more users more spans end within e =
    map-append (users_between (users ++ more)) spans ((length users, end) ∷ [])
    ∙ ap₂ (λ us u. us ++ u ∷ []) (all_between users more spans (recursion_from_All (IsSpan (length users)) spans within))
    (ap (λ n. users_between (users ++ more) (length users, n)) e ∙ last_between users more)
