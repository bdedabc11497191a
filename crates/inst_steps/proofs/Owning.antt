-- A requirement stands at its own place.
use Rattle.std.proofs.Common.{◌≡◌, ℕ, ◌+◌, ◌<◌, ◌==◌, ◌&&◌, Option, Some, length, position, slice_get, ap₂, sym, ◌∙◌}
use Rattle.std.specs.Option.{option_and_then}
use Rattle.std.proofs.lemmas.Bool.{and_parts, eqb-true}
use Rattle.std.proofs.lemmas.Iterator.Adapters.{position_from-zero}
use Rattle.vocabulary.specs.Prelude.{Req, Tables, reqs_of}
use Rattle.list_lemmas.proofs.lemmas.Contained.{found_at}
use Rattle.list_lemmas.proofs.lemmas.Firsts.{find_by_place, find_place}
use Rattle.inst_steps.specs.Stepping.{AreNumbered}
use Rattle.inst_steps.specs.Sweeps.{own_place}

pub own_there : (t : Tables) (item number place : ℕ) (r : Req)
    → position (λ (q : Req). (q.item == item) && (q.number == number)) t.reqs ≡ Some place → slice_get t.reqs place ≡ Some r
    → own_place t r ≡ Some place
own_there t item number place r at there =
    let test = λ (q : Req). (q.item == item) && (q.number == number) in
    let found = find_place test place t.reqs (sym (position_from-zero test t.reqs) ∙ at) ∙ there in
    let both = and_parts (r.item == item) (r.number == number) (found_at test t.reqs r found).1 in
    ap₂ (λ i n. position (λ (q : Req). (q.item == i) && (q.number == n)) t.reqs)
    (eqb-true r.item item both.0) (eqb-true r.number number both.1) ∙ at

-- What stands where a requirement of an item is looked up, by its number, is the requirement.
pub found_own : (t : Tables) → AreNumbered t → (item k : ℕ) (place : Option ℕ) → k < length (reqs_of t item)
    → place ≡ position (λ (q : Req). (q.item == item) && (q.number == k + 1)) t.reqs
    → (found : Option Req) → option_and_then (slice_get t.reqs) place ≡ found → found ≡ slice_get (reqs_of t item) k
found_own t numbered item k place lt at found there =
    let test = λ (q : Req). (q.item == item) && (q.number == k + 1) in
    sym there ∙ find_by_place test t.reqs place (at ∙ position_from-zero test t.reqs) ∙ numbered.found item k lt
