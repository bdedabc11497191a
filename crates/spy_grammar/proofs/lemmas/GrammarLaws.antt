-- For each row of a table, and for a line of its grammar: what is read has that spelling, and what has a spelling is read from it.
use Rattle.std.proofs.Common.{◌≡◌, ◌≢◌, ℕ, Bool, true, false, cond, ltb, List, [], ◌∷◌, map, Option, Some, None, Result, Ok, Err, refl, sym, ap, subst, ◌∙◌, arith, append-nil}
use Rattle.std.specs.Prelude.{decimal}
use Rattle.std.specs.Str.{bytes_eq}
use Rattle.std.specs.List.{All, AllByRecursion, join_with_byte, list_all}
use Rattle.std.proofs.lemmas.List.Elements.{All-from_recursion}
use Rattle.spy_words.specs.declared.lists.Quad.{Quad}
use Rattle.spy_words.specs.declared.lists.Extent.{Extent}
use Rattle.spy_words.specs.declared.lists.Extent.TheVariants.{Runs, Plane}
use Rattle.spy_words.specs.declared.fault.LineFault.{LineFault}
use Rattle.spy_words.specs.declared.fault.LineFault.TheVariants.{Word, Form}
use Rattle.spy_words.specs.Classes.{Class, extent, Meaning, about, IsNumberFrom}
use Rattle.spy_words.specs.Faults.{map_ok, tested, kept}
use Rattle.spy_words.specs.Reading.{number_from, parts, each, has_some, list_at, text_at, span_from, extent_at, operator_at, meaning_at, ids_at}
use Rattle.spy_words.proofs.lemmas.Joins.{Above, all_lower, above_all, above_join, parts_join, join_parts}
use Rattle.spy_words.proofs.lemmas.ClassLaws.{tested_ok, kept_ok, unmet, some_tested, number_agrees, each_takes, each_again, text_takes, class_takes, class_again}
use Rattle.spy_grammar.specs.Rows.{Row, no_more, some_ids, ◌&◌, RowMeaning, Makes, Entry, Grammar, applied, made, Parts, kind_in, makes_then, included}
use Rattle.spy_grammar.specs.Spelling.{row_items, items_of, words_in, spelling_in, IsGoodItem, GoodIn}
use Rattle.spy_grammar.specs.Reading.{Left, next, read_word, read_ids, read_row, read_record, met_at_end, ended, named_record, record_in, is_passed_over, line_in}

-- ---- rows

no_word : (c : Class) → meaning_at c [] ≡ Err Form
unfolding meaning_at extent_at list_at span_from number_from operator_at
no_word extent = refl
no_word c = refl

-- where no fault was met and no word is left, the words are those of what was read
row_takes : (r : Row) (ws : List (List ℕ)) (met : Option LineFault) → let out = read_row r (record { words = ws; met = met }) in
    met_at_end out.1.words out.1.met ≡ None → (met ≡ None) × (ws ≡ words_in (row_items r out.0))
    × AllByRecursion IsGoodItem (row_items r out.0)
unfolding read_word read_ids
row_takes no_more [] met e = (e, refl, tt)
row_takes no_more (w ∷ ws) met e = absurd (grind arith)
row_takes some_ids ws met e =
    let k = kept_ok met (ids_at ws) [] e in
    let some = tested_ok Form has_some (each (number_from 1) ws) _ k.1 in
    let t = each_takes ℕ (number_from 1) decimal (IsNumberFrom 1) 45 (number_agrees 1) ([], None) ws _ some.0 in (
      k.0,
      t.words ∙ ap (map decimal) t.all ∙ sym (append-nil (map decimal _)),
      ((subst (AllByRecursion (IsNumberFrom 1)) t.all t.fit, (some_tested _).0 some.1), tt),
    )
row_takes (c & r) [] met e =
    let k = kept met (meaning_at c []) (about c).stand_in in
    let first = kept_ok met (meaning_at c []) (about c).stand_in (row_takes r [] k.1 e).0 in
    let bad : Err Form ≡ Ok k.0 = sym (no_word c) ∙ first.1 in
    absurd cc
row_takes (c & r) (w ∷ ws) met e =
    let k = kept met (meaning_at c w) (about c).stand_in in
    let rest = row_takes r ws k.1 e in
    let first = kept_ok met (meaning_at c w) (about c).stand_in rest.0 in
    let t = class_takes c w k.0 first.1 in
    (first.0, cc (t.0, rest.1), (t.1, rest.2))

row_again : (r : Row) (m : RowMeaning r) → AllByRecursion IsGoodItem (row_items r m)
    → (read_row r (record { words = words_in (row_items r m); met = None }) ≡ (m, record { words = []; met = None }))
    × AllByRecursion (Above 32) (words_in (row_items r m))
unfolding read_word read_ids
row_again no_more m g = (refl, tt)
row_again some_ids [] g = absurd (g.0.1 refl)
row_again some_ids (n ∷ ns) g =
    let words = map decimal (n ∷ ns) in
    let again = each_again ℕ (number_from 1) decimal (IsNumberFrom 1) 45 (number_agrees 1) [] (n ∷ ns) g.0.0 in
    subst (λ (ws : List (List ℕ)). (read_ids (record { words = ws; met = None }) ≡ (n ∷ ns, record { words = []; met = None }))
    × AllByRecursion (Above 32) ws) (sym (append-nil words))
    (ap (λ r. next (kept None (tested Form has_some r) []) []) again.0, all_lower 32 45 words (omega arith) again.1)
row_again (c & r) m g =
    let first = class_again c m.0 g.0 in
    let rest = row_again r m.1 g.1 in
    let one = ap (λ x. next (kept None x (about c).stand_in) (words_in (row_items r m.1))) first.0 in (
      ap (λ (p : Meaning c × Left). ((p.0, (read_row r p.1).0), (read_row r p.1).1)) one
          ∙ ap (λ (q : RowMeaning r × Left). ((m.0, q.0), q.1)) rest.0,
      (first.1, rest.1),
    )

-- ---- tables

-- what stands in a table for a kind
pub record InTable (K R : Type 0) (g : Grammar K R) (k : K) : Type 0 where
  -- no kind before has its name
  pub named : kind_in g (g.entry k).name ≡ Ok k
  pub kept : is_passed_over (g.entry k).name ≡ false
  pub letters : list_all (λ b. ltb 32 b) (g.entry k).name ≡ true
  pub apart : (m : RowMeaning (g.entry k).row) → g.parts_of (made g k m) ≡ (k, m)

-- what a grammar keeps to
pub record IsTable (K R : Type 0) (g : Grammar K R) : Type 0 where
  pub in_table : (k : K) → InTable K R g k
  pub again : (r : R) → made g (g.parts_of r).0 (g.parts_of r).1 ≡ r

is_kind : {K : Type 0} (ks : List K) → AllByRecursion (λ k. Unit {0}) ks
is_kind [] = tt
is_kind (k ∷ ks) = (tt, is_kind ks)

-- a word that names a kind is its name
pub named_so : {K R : Type 0} (g : Grammar K R) (w : List ℕ) (k : K) → kind_in g w ≡ Ok k → w ≡ (g.entry k).name
unfolding kind_in
named_so {K} g w k e = (text_takes K (λ k. (g.entry k).name) (λ k. Unit {0}) g.kinds w (Err Word) k (is_kind g.kinds) (λ e. absurd cc) e).0

-- what is so of runs and of rectangles is so of each extent
pub each_extent : (IsSo : Extent → Type 0) → ((ps : List (ℕ × ℕ)) → IsSo (Runs ps)) → ((qs : List Quad) → IsSo (Plane qs)) → (x : Extent) → IsSo x
each_extent IsSo runs rects (Runs ps) = runs ps
each_extent IsSo runs rects (Plane qs) = rects qs

-- ---- tables that include another

-- one of some values of another kind is found where that value is
pub named_along : {A B : Type 0} (f : A → B) (spell : B → List ℕ) (xs : List A) (w : List ℕ)
    → text_at spell (map f xs) w (Err Word) ≡ map_ok f (text_at (λ x. spell (f x)) xs w (Err Word))
named_along f spell [] w = refl
named_along {A} {B} f spell (x ∷ xs) w = ap (cond (bytes_eq w (spell (f x))) (Ok (f x))) (named_along f spell xs w)
    ∙ by (bytes_eq w (spell (f x))) (text_at (λ x. spell (f x)) xs w (Err Word))
  where
    by : (t : Bool) (rest : Result A LineFault) → ◌≡◌ {A =
        Result B LineFault} (cond t (Ok (f x)) (map_ok f rest)) (map_ok f (cond t (Ok x) rest))
    by true rest = refl
    by false rest = refl

applied_then : {R S : Type 0} (f : R → S) (r : Row) (make : Makes R r) (m : RowMeaning r)
    → applied r (makes_then f r make) m ≡ f (applied r make m)
applied_then f no_more rec m = refl
applied_then f some_ids make ns = refl
applied_then f (c & r) make m = applied_then f r (make m.0) m.1

-- what a line of another table reads, the line that includes it reads too
pub read_included : {R S : Type 0} (f : R → S) (e : Entry R) (s t : Left) (r : R) → read_record e s ≡ (r, t)
    → read_record (included f e) s ≡ (f r, t)
unfolding read_record
read_included {R} {S} f e s t r is =
    ap (λ (x : S). (x, (read_row e.row s).1)) (applied_then f e.row e.record_of (read_row e.row s).0)
    ∙ ap (λ (p : R × Left). (f p.0, p.1)) is

-- ---- what a grammar reads

passed_by_name : (w : List ℕ) (ws : List (List ℕ)) → is_passed_over w ≡ false → is_passed_over (join_with_byte 32 (w ∷ ws)) ≡ false
passed_by_name [] ws e = absurd cc
passed_by_name (b ∷ w) [] e = e
passed_by_name (b ∷ w) (v ∷ vs) e = e

module _ {K R : Type 0} (g : Grammar K R) (table : IsTable K R g) where
  -- ---- records

  by_kind : (name : List ℕ) (ws : List (List ℕ)) (r : R) (o : Result K LineFault) → kind_in g name ≡ o → named_record g o ws ≡ Ok r
      → (name ∷ ws ≡ (g.entry (g.parts_of r).0).name ∷ words_in (items_of g r)) × GoodIn g r
  unfolding read_record
  by_kind name ws r (Err f) is e = absurd cc
  by_kind name ws r (Ok k) is e =
      let out = read_row (g.entry k).row (record { words = ws; met = None }) in
      let u = unmet (met_at_end out.1.words out.1.met) (made g k out.0) r e in
      let t = row_takes (g.entry k).row ws None u.0 in
      let words : name ∷ ws ≡ (g.entry k).name ∷ words_in (row_items (g.entry k).row out.0) = cc (named_so g name k is, t.1) in
      let apart : g.parts_of r ≡ (k, out.0) = ap g.parts_of (sym u.1) ∙ (table.in_table k).apart out.0 in
      subst (λ (p : Parts g). (name ∷ ws ≡ (g.entry p.0).name ∷ words_in (row_items (g.entry p.0).row p.1))
      × AllByRecursion IsGoodItem (row_items (g.entry p.0).row p.1)) (sym apart) (words, t.2)

  no_name : (k : K) → [] ≡ (g.entry k).name → ⊥
  no_name k e = let t = ap is_passed_over e in let f = (table.in_table k).kept in absurd cc

  record_takes : (ws : List (List ℕ)) (r : R) → record_in g ws ≡ Ok r → (ws ≡ (g.entry (g.parts_of r).0).name ∷ words_in (items_of g r))
      × GoodIn g r
  unfolding record_in
  record_takes [] r e = nothing (kind_in g []) refl e
    where
      nothing : (o : Result K LineFault) → kind_in g [] ≡ o → named_record g o [] ≡ Ok r
          → ([] ≡ (g.entry (g.parts_of r).0).name ∷ words_in (items_of g r)) × GoodIn g r
      nothing (Err f) is e = absurd cc
      nothing (Ok k) is e = absurd (no_name k (named_so g [] k is))
  record_takes (name ∷ ws) r e = by_kind name ws r (kind_in g name) refl e

  record_again : (r : R) → GoodIn g r → record_in g ((g.entry (g.parts_of r).0).name ∷ words_in (items_of g r)) ≡ Ok r
  unfolding record_in read_record
  record_again r good =
      let k = (g.parts_of r).0 in
      ap (λ o. named_record g o (words_in (items_of g r))) (table.in_table k).named
      ∙ ap (λ (p : RowMeaning (g.entry k).row × Left). ended (made g k p.0, p.1)) (row_again (g.entry k).row (g.parts_of r).1 good).0
      ∙ ap (λ r. Ok r) (table.again r)

  words_above : (r : R) → GoodIn g r → AllByRecursion (Above 32) ((g.entry (g.parts_of r).0).name ∷ words_in (items_of g r))
  words_above r good = let k = (g.parts_of r).0 in
      (above_all 32 (g.entry k).name (table.in_table k).letters, (row_again (g.entry k).row (g.parts_of r).1 good).1)

  -- ---- lines

  not_passed : (r : R) → is_passed_over (spelling_in g r) ≡ false
  unfolding spelling_in
  not_passed r = passed_by_name (g.entry (g.parts_of r).0).name (words_in (items_of g r)) (table.in_table (g.parts_of r).0).kept

  pub line_blank : (line : List ℕ) → line_in g line ≡ Ok None → is_passed_over line ≡ true
  unfolding line_in
  line_blank line e = grind arith

  pub line_takes : (line : List ℕ) (r : R) → line_in g line ≡ Ok (Some r) → (line ≡ spelling_in g r) × GoodIn g r
  unfolding line_in spelling_in
  line_takes line r e =
      let read : record_in g (parts 32 line) ≡ Ok r = grind arith in
      let t = record_takes (parts 32 line) r read in
      (join_parts 32 line _ t.0, t.1)

  pub line_again : (r : R) → GoodIn g r → line_in g (spelling_in g r) ≡ Ok (Some r)
  unfolding line_in spelling_in
  line_again r good = rw (
    not_passed r,
    parts_join 32 (g.entry (g.parts_of r).0).name (words_in (items_of g r)) (words_above r good),
    record_again r good,
  ) refl

  -- no two good records are spelled alike
  pub spelled_apart : (r s : R) → GoodIn g r → GoodIn g s → spelling_in g r ≡ spelling_in g s → r ≡ s
  spelled_apart r s good fine e = let t : ◌≡◌ {A = Result (Option R) LineFault} (Ok (Some r)) (Ok (Some s)) =
      sym (line_again r good) ∙ ap (line_in g) e ∙ line_again s fine in cc

  pub spelling_some : (r : R) → GoodIn g r → spelling_in g r ≢ []
  spelling_some r good e = let t = ap is_passed_over e in let f = not_passed r in absurd cc

  pub no_line_feed : (r : R) → GoodIn g r → All (λ b. b ≢ 10) (spelling_in g r)
  unfolding spelling_in
  no_line_feed r good =
      let words = (g.entry (g.parts_of r).0).name ∷ words_in (items_of g r) in
      All-from_recursion _ _ (other (spelling_in g r)
      (above_join 31 32 words (omega arith) (all_lower 31 32 words (omega arith) (words_above r good))))
    where
      other : (w : List ℕ) → Above 31 w → AllByRecursion (λ b. b ≢ 10) w
      other [] h = tt
      other (b ∷ w) h = ((λ e. absurd (omega (arith, h.0, e))), other w h.1)
