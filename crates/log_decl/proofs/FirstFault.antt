-- The first fault, as the walk and the forest find it.
use Rattle.std.proofs.Common.{◌≡◌, ℕ, ◌+◌, ◌≤◌, arith, nat_lt, append_assoc, Bool, true, false, not, ◌&&◌, ◌||◌, cond, List, [], ◌∷◌, ◌++◌, Option, Some, None, find, option_map, refl, sym, ap, ◌∙◌}
use Rattle.std.specs.Option.{option_or, is_none}
use Rattle.std.proofs.lemmas.List.{append-nil}
use Rattle.std.proofs.lemmas.Bool.{and_parts, false≢true}
use Rattle.std.proofs.lemmas.Bool.Decides.{nat_tests}
use Rattle.std.proofs.lemmas.List.Folds.{list_any_none}
use Rattle.vocabulary.specs.Prelude.{Code, Record, Lined, records_of, tables_of, Fault}
use Rattle.spy_grammar.specs.declared.code.Code.TheVariants as codes
use Rattle.spy_grammar.specs.declared.record.Record.TheVariants.{Sub}
use Rattle.semantics.specs.declared.limits.TheConstants.{MOST_ACCESSES}
use Rattle.semantics.specs.Faults.{at_line, record_rules, breaks, first_broken, record_in, records_fault}
use Rattle.semantics.specs.Rules as rules
use Rattle.semantics.proofs.lemmas.RecordRules.{none_passes}
use Rattle.log_rules.specs.Counts.{access_total}
use Rattle.log_decl.specs.Walk.{is_of_forest, breaks_other, other_broken, space_broken, spaces_fault, Keep, IsWithin}
use Rattle.list_lemmas.proofs.lemmas.Firsts.{or_assoc}

none_is : {X : Type 0} (o : Option X) → is_none o ≡ true → o ≡ None
none_is None e = refl
none_is (Some x) e = absurd (false≢true e)

both_or : (a b : Bool) → ((a || true) && ((b || true) && true)) ≡ true
both_or true true = refl
both_or true false = refl
both_or false true = refl
both_or false false = refl

-- ---- two kinds of rules

-- Rules of which some are of a kind, and some are broken.
module _ (kind broken : Code → Bool) where
  abbrev of_kind : Code → Bool
  of_kind code = kind code && broken code

  abbrev of_others : Code → Bool
  of_others code = not (kind code) && broken code

  -- No other rule is broken after a broken one of the kind.
  abbrev come_last : List Code → Bool
  come_last [] = true
  come_last (code ∷ rest) = (not (of_kind code) || is_none (find of_others rest)) && come_last rest

  -- So the first that is broken is the first of the others, or else that of the kind.
  others_first : (codes : List Code) → come_last codes ≡ true → find broken codes ≡ option_or (find of_others codes) (find of_kind codes)
  others_first [] last = refl
  others_first (code ∷ rest) last = by (kind code) (broken code) (and_parts _ (come_last rest) last).0
      (others_first rest (and_parts _ (come_last rest) last).1)
    where
      by : (k b : Bool) → (not (k && b) || is_none (find of_others rest)) ≡ true
          → find broken rest ≡ option_or (find of_others rest) (find of_kind rest)
          → cond b (Some code) (find broken rest) ≡ option_or (cond (not k && b) (Some code) (find of_others rest))
          (cond (k && b) (Some code) (find of_kind rest))
      by true true none rests = ap (λ o. option_or o (Some code)) (sym (none_is (find of_others rest) none))
      by true false none rests = rests
      by false true none rests = refl
      by false false none rests = rests

-- The earlier records keep the limit on accesses, where it is judged before the end.
abbrev pub AreWithin : List Lined → Type 0
AreWithin earlier = IsWithin (tables_of earlier) (records_of earlier)

not_more : (n most : ℕ) → n ≤ most → nat_lt most (n + 0) ≡ false
not_more n most le = grind (arith, nat_tests)

not_judged : (planar : Bool) (n : ℕ) → (planar ≡ false → n ≤ MOST_ACCESSES)
    → ((not planar || false) && nat_lt MOST_ACCESSES (n + 0)) ≡ false
not_judged true n le = refl
not_judged false n le = not_more n MOST_ACCESSES (le refl)

not_less : (n m most : ℕ) → nat_lt most (n + m) ≡ false → n ≤ most
not_less n m most e = grind (arith, nat_tests)

-- At a subspace no rule after those of the forest is broken, unless the records before it ask for too many accesses; and no other record breaks those of the forest.
come_after : (log : List Record) (earlier : List Lined) (r : Record) → AreWithin earlier
    → come_last is_of_forest (breaks (record_in log earlier r)) record_rules ≡ true
come_after log earlier (Sub part colour space) within =
    let t = tables_of earlier in
    let r = Sub part colour space in
    let few = not_judged (rules.is_planar t) (access_total t (records_of earlier)) within in
    rw (list_any_none (λ x. false) t.nodes (λ _ _ _. refl), few) (both_or (not (rules.is_outside t r)) (not (rules.is_not_disjoint t r)))
come_after log earlier r within = refl

-- The first broken rule is the first of the others, or else of the two of the forest.
pub tried_told : (log : List Record) (earlier : List Lined) (r : Record) → AreWithin earlier
    → first_broken (record_in log earlier r) ≡ option_or (other_broken log earlier r) (space_broken (tables_of earlier) r)
tried_told log earlier r within = others_first is_of_forest (breaks (record_in log earlier r)) record_rules
    (come_after log earlier r within)

-- Where a record keeps the other rules, so do those before it keep the limit on accesses.
few_kept : (log : List Record) (earlier : List Lined) (r : Record) → other_broken log earlier r ≡ None → AreWithin earlier
few_kept log earlier r e = λ flat.
    let n = access_total (tables_of earlier) (records_of earlier) in
    let m = rules.accesses (tables_of earlier) r in
    not_less n m MOST_ACCESSES (ap (λ b. (not b || rules.is_end r) && nat_lt MOST_ACCESSES (n + m)) (sym flat)
    ∙ none_passes (breaks_other (record_in log earlier r)) e codes.TooManyAccesses refl)

-- Where the first records keep the other rules, the first fault is theirs against the forest, or else that of the records after them.
pub walk_told : (log : List Record) (earlier kept rest : List Lined) → Keep log earlier kept
    → records_fault log earlier (kept ++ rest) ≡ option_or (spaces_fault earlier kept) (records_fault log (earlier ++ kept) rest)
walk_told log earlier [] rest keep = ap (λ (ls : List Lined). records_fault log ls rest) (sym (append-nil earlier))
walk_told log earlier (l ∷ kept) rest keep =
    let at : Option Code → Option Fault = option_map (λ code. at_line code l.line) in
    let here = tried_told log earlier l.rec (few_kept log earlier l.rec keep.0)
    ∙ ap (λ o. option_or o (space_broken (tables_of earlier) l.rec)) keep.0 in
    ap (λ o. option_or (at o) (records_fault log (earlier ++ l ∷ []) (kept ++ rest))) here
    ∙ ap (option_or (at (space_broken (tables_of earlier) l.rec))) (walk_told log (earlier ++ l ∷ []) kept rest keep.1)
    ∙ sym (or_assoc (at (space_broken (tables_of earlier) l.rec)) (spaces_fault (earlier ++ l ∷ []) kept)
    (records_fault log ((earlier ++ l ∷ []) ++ kept) rest))
    ∙ ap (λ (ls : List Lined). option_or (option_or (at (space_broken (tables_of earlier) l.rec)) (spaces_fault (earlier ++ l ∷ []) kept))
    (records_fault log ls rest)) (append_assoc earlier (l ∷ []) kept)
