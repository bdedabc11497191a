-- What one replay shows, in every interleaving.
use Rattle.std.proofs.Common.{◌≡◌, ◌≢◌, ℕ, inl, inr, List, [], ◌∷◌, refl, sym, ap, ◌∙◌, subst, Option, Some, None, Contains}
use Rattle.std.specs.List.{AllByRecursion}
use Rattle.std.specs.Option.{option_or}
use Rattle.std.proofs.lemmas.Bool.{cases_Bool}
use Rattle.vocabulary.specs.Prelude.{Value, same_value, Lined, Good, Move, records_of, Tables, tables_of, HasNoCycle, IsRaceFree, Step, State, start, effect, sees, ReadsIn, IsInterleaving, Seen, want_of, read_step, IsRight, Differs, differing, difference, first_difference, replay_steps, shown_difference}
use Rattle.value_terms.proofs.lemmas.Equality.{value_decides}
use Rattle.semantics.specs.declared.command.Command.TheVariants.{Check}
use Rattle.semantics.specs.declared.moves.Move.TheVariants as moves
use Rattle.semantics.specs.Faults.{log_fault}
use Rattle.log_laws.proofs.lemmas.Admitted.{IsFaultless, faultless}
use Rattle.log_laws.proofs.lemmas.Answers.{one_sight}
use Rattle.log_laws.proofs.lemmas.Laws.{faultless_by_reads, replay_interleaves}
use Rattle.list_lemmas.proofs.lemmas.Contained.{both_none, Contains-first, Contains-later}
use Rattle.list_lemmas.proofs.lemmas.Firsts.{cases_option}

module _ (t : Tables) where
  -- A read that does not differ saw what it should.
  no_difference : (r : Seen) → differing t r ≡ None → r.got ≡ want_of t r
  no_difference r e = elim (cases_Bool (same_value r.got (want_of t r))) [
    | inl same ↦
        (value_decides r.got (want_of t r)).0 same
    | inr other ↦ absurd (let bad = rw other at e in cc)
  ]

  one_difference : (r s : Seen) → differing t r ≡ Some s → (r ≡ s) × (r.got ≢ want_of t r)
  one_difference r s e = elim (cases_Bool (same_value r.got (want_of t r))) [
    | inl same ↦ absurd (let bad = rw same at e in cc)
    | inr other ↦ (let is : ◌≡◌ {A = Option Seen} (Some r) (Some s) = rw other at e in
        (cc, λ is_want. let same = (value_decides r.got (want_of t r)).1 is_want in cc))
  ]

  -- What a read sees at a cell.
  abbrev seen_at : Seen → ℕ → State → Seen
  seen_at r inst s = record {
    task = r.task;
    number = r.number;
    point = r.point;
    field = r.field;
    got =
        s (record { inst = inst; point = r.point; field = r.field });
  }

  saw : (x : Step) (s : State) (node inst : ℕ) (r : Seen) → read_step node inst r ≡ x → sees x.move s ≡ Some r.got
      → (difference t x.move s ≡ differing t (seen_at r inst s)) × (seen_at r inst s ≡ r)
  saw x s node inst r is read =
      let same : ◌≡◌ {A = Option Value} (Some (s (record { inst = inst; point = r.point; field = r.field }))) (Some r.got) =
      ap (λ (y : Step). sees y.move s) is ∙ read in
      let got : s (record { inst = inst; point = r.point; field = r.field }) ≡ r.got = cc in
      (sym (ap (λ (y : Step). difference t y.move s) is), ap (λ (v : Value). record r { got = v }) got)

  -- Where no step differs, each read among them saw what it should.
  all_right : (xs : List Step) (s : State) → first_difference t xs s ≡ None → (node inst : ℕ) (r : Seen)
      → ReadsIn xs s (read_step node inst r) r.got → r.got ≡ want_of t r
  all_right [] s none node inst r reads = absurd reads
  all_right (x ∷ xs) s none node inst r (inl here) =
      let at = saw x s node inst r here.0 here.1 in
      let first = (both_none (difference t x.move s) (first_difference t xs (effect x.move s)) none).0 in
      subst (λ (q : Seen). q.got ≡ want_of t q) at.1 (no_difference (seen_at r inst s) (sym at.0 ∙ first))
  all_right (x ∷ xs) s none node inst r (inr later) =
      all_right xs (effect x.move s) (both_none (difference t x.move s) (first_difference t xs (effect x.move s)) none).1 node inst r later

  -- A read that is the first to differ is a step among them, and saw what it should not.
  record IsSeenIn (xs : List Step) (s : State) (r : Seen) : Type 0 where
    node : ℕ
    inst : ℕ
    listed : Contains xs (read_step node inst r)
    reads : ReadsIn xs s (read_step node inst r) r.got
    differ : r.got ≢ want_of t r

  here_seen : (x : Step) (xs : List Step) (s : State) (r : Seen) → difference t x.move s ≡ Some r → IsSeenIn (x ∷ xs) s r
  here_seen x xs s r e = by x.move refl
    where
      by : (m : Move) → x.move ≡ m → IsSeenIn (x ∷ xs) s r
      by (moves.Read task number c) is =
          let first : differing t (record { task = task; number = number; point = c.point; field = c.field; got = s c }) ≡ Some r =
          sym (ap (λ m. difference t m s) is) ∙ e in
          let same = one_difference _ r first in
          let step : read_step x.node c.inst r ≡ x =
          subst (λ (q : Seen). read_step x.node c.inst q ≡ x) same.0 (sym (ap (λ m. record { node = x.node; move = m }) is)) in
          record {
            node = x.node;
            inst = c.inst;
            listed = Contains-first xs step;
            reads = inl (step, subst (λ (q : Seen). sees x.move s ≡ Some q.got) same.0 (ap (λ m. sees m s) is));
            differ = subst (λ (q : Seen). q.got ≢ want_of t q) same.0 same.1;
          }
      by (moves.Write task c) is = absurd (let bad = sym (ap (λ m. difference t m s) is) ∙ e in cc)
      by (moves.Reduce task req op c) is = absurd (let bad = sym (ap (λ m. difference t m s) is) ∙ e in cc)
      by (moves.Copy from to) is = absurd (let bad = sym (ap (λ m. difference t m s) is) ∙ e in cc)
      by (moves.Put c n) is = absurd (let bad = sym (ap (λ m. difference t m s) is) ∙ e in cc)
      by (moves.Reset c) is = absurd (let bad = sym (ap (λ m. difference t m s) is) ∙ e in cc)
      by (moves.Fold op from to) is = absurd (let bad = sym (ap (λ m. difference t m s) is) ∙ e in cc)

  first_seen : (xs : List Step) (s : State) (r : Seen) → first_difference t xs s ≡ Some r → IsSeenIn xs s r
  first_seen [] s r e = absurd cc
  first_seen (x ∷ xs) s r e = elim (cases_option (difference t x.move s)) [
    | inl none ↦ (
        let rest = first_seen xs (effect x.move s) r (sym (ap (λ o. option_or o (first_difference t xs (effect x.move s))) none) ∙ e) in
        record { node = rest.node; inst = rest.inst; listed = Contains-later xs rest.listed; reads = inr rest.reads; differ = rest.differ })
    | inr some ↦ (
        let both : ◌≡◌ {A = Option Seen} (Some some.0) (Some r) =
        sym (ap (λ o. option_or o (first_difference t xs (effect x.move s))) some.1) ∙ e in
        let same : some.0 ≡ r = cc in
        here_seen x xs s r (some.1 ∙ ap Some same))
  ]

  module _ (one : (xs ys : List Step) → IsInterleaving t xs → IsInterleaving t ys → (s : State) (x : Step) (v : Value) → ReadsIn xs s x v
      → ReadsIn ys s x v) (whole : IsInterleaving t (replay_steps t)) where
    right_in_all : shown_difference t ≡ None → IsRight t
    right_in_all none xs is node inst r reads = all_right (replay_steps t) (start t) none node inst r
        (one xs (replay_steps t) is whole (start t) (read_step node inst r) r.got reads)

    differs_in_all : (r : Seen) → shown_difference t ≡ Some r → Differs t r
    differs_in_all r shown =
        let seen = first_seen (replay_steps t) (start t) r shown in
        record {
          node = seen.node;
          inst = seen.inst;
          is_step = whole.in_log (read_step seen.node seen.inst r)
              seen.listed;
          differ = seen.differ;
          sees = λ xs is. one (replay_steps t) xs whole is (start t) (read_step seen.node seen.inst r) r.got seen.reads;
        }

-- ---- in a log without a fault, a cycle and a race

module _ (lines : ℕ) (log : List Lined) (good : AllByRecursion Good (records_of log)) (none : log_fault Check lines log ≡ None)
    (no_cycle : HasNoCycle (tables_of log)) (no_race : IsRaceFree (tables_of log)) where
  admitted : IsFaultless Check log
  admitted = faultless Check lines log none

  pub right_everywhere : shown_difference (tables_of log) ≡ None → IsRight (tables_of log)
  right_everywhere = right_in_all (tables_of log) (one_sight (tables_of log) (faultless_by_reads log admitted) no_race)
      (replay_interleaves log good admitted no_cycle)

  pub differs_everywhere : (r : Seen) → shown_difference (tables_of log) ≡ Some r → Differs (tables_of log) r
  differs_everywhere = differs_in_all (tables_of log) (one_sight (tables_of log) (faultless_by_reads log admitted) no_race)
      (replay_interleaves log good admitted no_cycle)
