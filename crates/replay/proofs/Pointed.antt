-- The differing read of tables that are cut to some points is at one of these.
use Rattle.std.proofs.Common.{◌≡◌, ℕ, cond, inl, inr, Bool, true, false, List, [], ◌∷◌, filter, Some, None, sym, ap, ◌∙◌, subst}
use Rattle.std.specs.Option.{option_or}
use Rattle.std.proofs.lemmas.Bool.{cases_Bool}
use Rattle.std.proofs.lemmas.Option.{same_Some}
use Rattle.vocabulary.specs.Prelude.{Move, Tables, is_in, Step, steps_by, State, effect, Seen, difference, first_difference, shown_difference, want_of}
use Rattle.semantics.specs.declared.moves.Move.TheVariants as moves
use Rattle.list_lemmas.proofs.lemmas.Firsts.{cases_option}
use Rattle.point_laws.specs.Alike.{is_at, target}
use Rattle.point_laws.specs.Cut.{cut}
use Rattle.replay.specs.declared.ends.ReplayEnd.{ReplayEnd}
use Rattle.replay.specs.declared.ends.ReplayEnd.TheVariants.{Differ, Memory}
use Rattle.replay.specs.Ends.{IsEndOf}

here_or_none : (b : Bool) (r d : Seen) → cond b None (Some r) ≡ Some d → r ≡ d
here_or_none true r d e = absurd cc
here_or_none false r d e = same_Some r d e

differs_at : (t : Tables) (m : Move) (s : State) (d : Seen) → difference t m s ≡ Some d → (target m).point ≡ d.point
differs_at t (moves.Read task number c) s d e = ap (λ (r : Seen). r.point) (here_or_none _ _ d e)
differs_at t _ s d e = absurd cc

found_point : (t : Tables) (ps : List ℕ) (xs : List Step) (s : State) (r : Seen) → first_difference t (filter (is_at ps) xs) s ≡ Some r
    → is_in ps r.point ≡ true
found_point t ps [] s r e = absurd cc
found_point t ps (x ∷ xs) s r e = elim (cases_Bool (is_at ps x)) [
  | inr other ↦ found_point t ps xs s r (rw other at e)
  | inl listed ↦
      let rest = first_difference t (filter (is_at ps) xs) (effect x.move s) in
      let both : option_or (difference t x.move s) rest ≡ Some r = rw listed at e in
      elim (cases_option (difference t x.move s)) [
        | inl none ↦ found_point t ps xs (effect x.move s) r (sym (ap (λ o. option_or o rest) none) ∙ both)
        | inr some ↦
            let is : some.0 ≡ r = same_Some some.0 r (sym (ap (λ o. option_or o rest) some.1) ∙ both) in
            ap (is_in ps) (sym (differs_at t x.move s some.0 some.1 ∙ ap (λ (r : Seen). r.point) is)) ∙ listed
      ]
]

pub shown_point : (t : Tables) (ps ks : List ℕ) (s : State) (r : Seen) → steps_by (cut ps t) ks ≡ filter (is_at ps) (steps_by t ks)
    → first_difference (cut ps t) (steps_by (cut ps t) ks) s ≡ Some r → is_in ps r.point ≡ true
shown_point t ps ks s r kept e = found_point (cut ps t) ps (steps_by t ks) s r
    (subst (λ xs. first_difference (cut ps t) xs s ≡ Some r) kept e)

-- What the cut tables tell of a read at such a point, the whole tells.
pub same_end : (t : Tables) (ps : List ℕ) → shown_difference (cut ps t) ≡ shown_difference t
    → ((r : Seen) → shown_difference (cut ps t) ≡ Some r → want_of (cut ps t) r ≡ want_of t r)
    → (e : ReplayEnd) → IsEndOf (cut ps t) e → IsEndOf t e
same_end t ps same wants (Differ task number point field got want) h = (sym same ∙ h.0, h.1 ∙ wants _ h.0)
same_end t ps same wants Memory h = tt
