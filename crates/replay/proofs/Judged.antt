-- What versions want is what a read should see, and a read is reported to differ where it does.
use Rattle.std.proofs.Common.{◌≡◌, ◌≢◌, ℕ, ◌<◌, true, inl, inr, List, length, Some, None, cond, sym, ap, ◌∙◌}
use Rattle.std.specs.Option.{option_map_or}
use Rattle.std.proofs.lemmas.Bool.{cases_Bool, false_from_ne_true, true≢false}
use Rattle.vocabulary.specs.Prelude.{Value, same_value, Cell, Req, Tables, place_of, is_in, wanted, Seen, differing, req_at, want_of}
use Rattle.value_terms.proofs.lemmas.Equality.{value_decides}
use Rattle.point_laws.specs.Cut.{cut}
use Rattle.point_laws.proofs.lemmas.Cuts.{wanted_cut}
use Rattle.serial_exec.specs.Kept.{Kept, AreVersionsAt, value_at}
use Rattle.inst_steps.specs.Stores.{has_cell}
use Rattle.inst_steps.proofs.lemmas.StoreLaws.{none_there}
use Rattle.replay.specs.Versioned.{AreVersionsIn, place_at}

pub want_is : (t : Tables) (k : Kept) → AreVersionsIn t k → (item task number tree : ℕ) (c : Cell) (got : Value)
    → place_of t.items task ≡ item → item < length t.items → has_cell t c ≡ true
    → tree ≡ option_map_or (λ (r : Req). r.tree) (req_at t item number) 0
    → value_at k item (place_at tree c) ≡ want_of t (record { task = task; number = number; point = c.point; field = c.field; got = got })
want_is t k h item task number tree c got at lt has same =
    h.value item tree c lt has
    ∙ ap (λ x. wanted t item (place_at x c)) same
    ∙ ap (λ i. wanted t i (place_at (option_map_or (λ (r : Req). r.tree) (req_at t i number) 0) c)) (sym at)

-- Versions at some points are those of what is cut to these points.
pub versions_in : (points : List ℕ) (t : Tables) (k : Kept) → AreVersionsAt points t k → AreVersionsIn (cut points t) k
versions_in points t k h = record {
  each = h.each;
  value = λ item tree c lt has.
      let at : is_in points c.point ≡ true = elim (cases_Bool (is_in points c.point)) [
        | inl listed ↦ listed
        | inr other ↦ absurd (true≢false (sym has ∙ none_there points t c other))
      ] in
      h.value item (place_at tree c) lt at ∙ sym (wanted_cut points t item (place_at tree c) at);
}

pub agrees : (t : Tables) (r : Seen) → r.got ≡ want_of t r → differing t r ≡ None
agrees t r e = ap (λ b. cond b None (Some r)) ((value_decides r.got (want_of t r)).1 e)

pub differs : (t : Tables) (r : Seen) → (r.got ≢ want_of t r) → differing t r ≡ Some r
differs t r ne = ap (λ b. cond b None (Some r))
    (false_from_ne_true (same_value r.got (want_of t r)) (λ same. ne ((value_decides r.got (want_of t r)).0 same)))
