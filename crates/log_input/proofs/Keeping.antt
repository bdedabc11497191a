-- One record more of a crowded log, kept or let go.
use Rattle.std.proofs.Common.{◌≡◌, ℕ, ◌==◌, Bool, true, false, not, ◌&&◌, ◌||◌, List, [], ◌∷◌, ◌++◌, Option, Some, None, refl, sym, ap, subst, ◌∙◌, append_assoc, eqb-true}
use Rattle.std.specs.Prelude.{unwrap_or}
use Rattle.std.specs.List.{list_any, list_all}
use Rattle.std.specs.Option.{option_map, option_map_or}
use Rattle.std.proofs.lemmas.List.Folds.{list_any-append}
use Rattle.std.proofs.lemmas.List.Sums.{fold-append}
use Rattle.id_maps.specs.Sets.{has_id}
use Rattle.vocabulary.specs.Prelude.{Record, Lined, Node, is_in, records_of}
use Rattle.spy_grammar.specs.declared.record.Record.TheVariants.{Run}
use Rattle.semantics.specs.Rules.{node_of, completes, runs_task, items_listed, items_declared}
use Rattle.crowded_logs.specs.declared.frame.Frame.{Frame}
use Rattle.crowded_logs.specs.Crowded.{lists_items, ids_listed, has_unlisted, Answer}
use Rattle.crowded_logs.specs.Noted.{frame_of, no_frame, with_framed}
use Rattle.log_input.specs.declared.asked.AskedIds.{AskedIds}
use Rattle.log_input.specs.declared.answered.Answered.{Answered}
use Rattle.log_input.specs.declared.crowding.Crowding.{Crowding}
use Rattle.log_input.specs.AskedIds.{IsAskedBy, lists_id}
use Rattle.log_input.specs.Answered.{AddsAnswer, IsAnsweredBy, answers_more, done_of, is_open, leaves_out, task_run}
use Rattle.log_input.specs.Crowding.{IsCrowding}
use Rattle.log_input.proofs.Gathering.{any_more, records_more}

-- ---- tests of one record more

either : (a b : Bool) → (a || b) ≡ true → (C : Type 0) → (a ≡ true → C) → (b ≡ true → C) → C
either true b e C f g = f refl
either false b e C f g = g e

or_left : (a b : Bool) → a ≡ true → (a || b) ≡ true
or_left true b e = refl
or_left false b e = absurd cc

both : (a b c : Bool) → (a ≡ true → b ≡ true) → (a || c) ≡ true → (b || c) ≡ true
both true b c f e = or_left b c (f refl)
both false true c f e = refl
both false false c f e = e

module _ (p : Record → Bool) (xs ys : List Record) (r : Record) (h : list_any p xs ≡ true → list_any p ys ≡ true) where
  -- A record that is added to both.
  both_more : list_any p (xs ++ r ∷ []) ≡ true → list_any p (ys ++ r ∷ []) ≡ true
  both_more e = any_more p ys r ∙ both (list_any p xs) (list_any p ys) (p r) h (sym (any_more p xs r) ∙ e)

  -- One that is added to those that ask, and is answered already.
  left_more : (p r ≡ true → list_any p ys ≡ true) → list_any p (xs ++ r ∷ []) ≡ true → list_any p ys ≡ true
  left_more here e = either (list_any p xs) (p r) (sym (any_more p xs r) ∙ e) (list_any p ys ≡ true) h here

-- ---- what is answered already

-- What is not open and is asked for is answered.
closed : (asked answered : ℕ → Bool) (o : Option ℕ) (n : ℕ) → is_open asked answered o ≡ false
    → option_map_or (λ i. i == n) o false ≡ true → asked n ≡ true → answered n ≡ true
closed asked answered None n shut here is = absurd cc
closed asked answered (Some i) n shut here is =
    let same = eqb-true i n here in
    by (asked n) (answered n) (subst (λ k. (asked k && not (answered k)) ≡ false) same shut) is
  where
    by : (a b : Bool) → (a && not b) ≡ false → a ≡ true → b ≡ true
    by true true e f = refl
    by true false e f = absurd cc
    by false b e f = absurd cc

completes_by : (n : ℕ) (r : Record) → completes n r ≡ option_map_or (λ i. i == n) (done_of r) false
completes_by n r = by (node_of r)
  where
    by : (o : Option Node) → option_map_or (λ (k : Node). k.done == n) o false ≡ option_map_or (λ i. i == n) (option_map (λ (k : Node). k.done) o) false
    by None = refl
    by (Some k) = refl

runs_by : (n : ℕ) (r : Record) → runs_task n r ≡ option_map_or (λ i. i == n) (task_run r) false
runs_by n (Run task done waits) = refl
runs_by n r = refl

flagged : (a b : Bool) → (a && not b) ≡ false → a ≡ true → b ≡ true
flagged true true e f = refl
flagged true false e f = absurd cc
flagged false b e f = absurd cc

or_parts : (a b : Bool) → (a || b) ≡ false → (a ≡ false) × (b ≡ false)
or_parts false b e = (refl, e)
or_parts true b e = absurd cc

listed_by : (rs : List Record) (n : ℕ) → list_any (lists_id n) rs ≡ is_in (ids_listed rs) n
listed_by [] n = refl
listed_by (r ∷ rs) n =
    ap (λ b. lists_id n r || b) (listed_by rs n) ∙ sym (list_any-append (λ m. m == n) (unwrap_or (items_listed r) []) (ids_listed rs))

all_alike : (p q : ℕ → Bool) (ns : List ℕ) → ((n : ℕ) → p n ≡ q n) → list_all p ns ≡ list_all q ns
all_alike p q [] e = refl
all_alike p q (n ∷ ns) e = rw (e n, all_alike p q ns e) refl

unlisted_by : (first : List Record) (asked : AskedIds) (r : Record) → IsAskedBy first asked → has_unlisted first r ≡ leaves_out asked r
unlisted_by first asked r is =
    ap not (all_alike (is_in (ids_listed first)) (has_id asked.listed) (items_declared r) (λ n. sym (is.listed n ∙ listed_by first n)))

module _ (first later kept : List Record) (asked : AskedIds) (answered : Answered) (r : Record) (a : Answer first later kept)
    (by : IsAskedBy first asked) (is : IsAnsweredBy first kept answered) where
  -- A record that is let go, since it answers nothing more.
  passed : answers_more asked answered r ≡ false → Answer first (later ++ r ∷ []) kept
  passed none =
      let events_open = is_open (has_id asked.events) (has_id answered.events) (done_of r) in
      let tasks_open = is_open (has_id asked.tasks) (has_id answered.tasks) (task_run r) in
      let lists_open = lists_items r && not answered.lists in
      let items_open = leaves_out asked r && not answered.leaves_out in
      let three = or_parts (events_open || tasks_open || lists_open) items_open none in
      let two = or_parts (events_open || tasks_open) lists_open three.0 in
      let one = or_parts events_open tasks_open two.0 in
      record {
        part = λ p h. any_more p later r ∙ or_left (list_any p later) (p r) (a.part p h);
        events = λ n asks. left_more (completes n) later kept r (a.events n asks)
            (λ here. sym (is.events n) ∙ closed (has_id asked.events) (has_id answered.events) (done_of r) n one.0 (sym (completes_by n r) ∙ here) (by.events n ∙ asks));
        tasks = λ n asks. left_more (runs_task n) later kept r (a.tasks n asks)
            (λ here. sym (is.tasks n) ∙ closed (has_id asked.tasks) (has_id answered.tasks) (task_run r) n one.1 (sym (runs_by n r) ∙ here) (by.tasks n ∙ asks));
        lists = left_more lists_items later kept r a.lists (λ here. sym is.lists ∙ flagged (lists_items r) answered.lists two.1 here);
        items = left_more (has_unlisted first) later kept r a.items
            (λ here. sym is.leaves_out ∙ flagged (leaves_out asked r) answered.leaves_out three.1 (sym (unlisted_by first asked r by) ∙ here));
      }

  -- One that is kept.
  kept_on : Answer first (later ++ r ∷ []) (kept ++ r ∷ [])
  kept_on = record {
    part = λ p. both_more p kept later r (a.part p);
    events = λ n asks. both_more (completes n) later kept r (a.events n asks);
    tasks = λ n asks. both_more (runs_task n) later kept r (a.tasks n asks);
    lists = both_more lists_items later kept r a.lists;
    items = both_more (has_unlisted first) later kept r a.items;
  }

  answered_on : (new : Answered) → AddsAnswer asked answered new r → IsAnsweredBy first (kept ++ r ∷ []) new
  answered_on new adds = record {
    events = λ n. adds.events n ∙ ap (λ b. b || completes n r) (is.events n) ∙ sym (any_more (completes n) kept r);
    tasks = λ n. adds.tasks n ∙ ap (λ b. b || runs_task n r) (is.tasks n) ∙ sym (any_more (runs_task n) kept r);
    lists = adds.lists ∙ ap (λ b. b || lists_items r) is.lists ∙ sym (any_more lists_items kept r);
    leaves_out =
        adds.leaves_out ∙ ap (λ b. b || leaves_out asked r) is.leaves_out ∙ ap (λ b. list_any (has_unlisted first) kept || b) (sym (unlisted_by first asked r by))
        ∙ sym (any_more (has_unlisted first) kept r);
  }

-- ---- the records on their lines

frame_on : (first later : List Lined) (l : Lined) (f : Frame) → f ≡ frame_of (first ++ later)
    → with_framed f l ≡ frame_of (first ++ (later ++ l ∷ []))
frame_on first later l f is =
    ap (λ g. with_framed g l) is ∙ sym (fold-append with_framed no_frame (first ++ later) (l ∷ [])) ∙ ap frame_of (append_assoc first later (l ∷ []))

pub crowding_passed : (first later : List Lined) (old new : Crowding) (l : Lined) → IsCrowding first later old
    → answers_more old.asked old.answered l.rec ≡ false → new ≡ record old { frame = with_framed old.frame l }
    → IsCrowding first (later ++ l ∷ []) new
crowding_passed first later old new l is none same =
    subst (IsCrowding first (later ++ l ∷ [])) (sym same) (record {
      kept_later = is.kept_later;
      kept_is = is.kept_is;
      asked = is.asked;
      answered = is.answered;
      answer =
          subst (λ rs. Answer (records_of first) rs (records_of is.kept_later)) (sym (records_more later l))
          (passed (records_of first) (records_of later) (records_of is.kept_later) old.asked old.answered l.rec is.answer is.asked is.answered none);
      frame_is = frame_on first later l old.frame is.frame_is;
    })

pub crowding_kept : (first later : List Lined) (old new : Crowding) (l : Lined) → IsCrowding first later old
    → AddsAnswer old.asked old.answered new.answered l.rec → new.kept.items ≡ old.kept.items ++ l ∷ []
    → new.asked ≡ old.asked → new.frame ≡ with_framed old.frame l
    → IsCrowding first (later ++ l ∷ []) new
crowding_kept first later old new l is adds kept asked framed =
    let fs = records_of first in
    let ls = records_of later in
    let ks = records_of is.kept_later in
    record {
      kept_later = is.kept_later ++ l ∷ [];
      kept_is = kept ∙ ap (λ ks. ks ++ l ∷ []) is.kept_is ∙ append_assoc first is.kept_later (l ∷ []);
      asked = subst (IsAskedBy fs) (sym asked) is.asked;
      answered = subst (λ rs. IsAnsweredBy fs rs new.answered) (sym (records_more is.kept_later l))
          (answered_on fs ls ks old.asked old.answered l.rec is.answer is.asked is.answered new.answered adds);
      answer =
          subst (λ rs. Answer fs rs (records_of (is.kept_later ++ l ∷ []))) (sym (records_more later l))
          (subst (Answer fs (ls ++ l.rec ∷ [])) (sym (records_more is.kept_later l))
          (kept_on fs ls ks old.asked old.answered l.rec is.answer is.asked is.answered));
      frame_is = framed ∙ frame_on first later l old.frame is.frame_is;
    }
