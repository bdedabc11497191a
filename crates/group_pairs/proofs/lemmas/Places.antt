-- What stands at the first place at which a test passes.
use Rattle.std.proofs.Common.{◌≡◌, ℕ, true, List, Some, slice_get, is_some, sym, ap, ◌∙◌, Bool}
use Rattle.std.specs.List.{list_any, position_from}
use Rattle.list_lemmas.proofs.lemmas.Firsts.{find_place}
use Rattle.list_lemmas.proofs.lemmas.Places.{is_some-position}
use Rattle.list_lemmas.proofs.lemmas.Contained.{find_any, found_at}

pub place_found : {X : Type 0} (p : X → Bool) (xs : List X) (k : ℕ) → position_from p 0 xs ≡ Some k → (x : X) × (slice_get xs k ≡ Some x)
    × (p x ≡ true)
place_found p xs k e =
    let any : list_any p xs ≡ true = sym (is_some-position p 0 xs) ∙ ap is_some e in
    let found = find_any p xs any in
    (found.0, sym (find_place p k xs e) ∙ found.1, (found_at p xs found.0 found.1).1)
