-- For each class of words: what is read has that word, and what has a word is read from it.
use Rattle.std.proofs.Common.{◌≡◌, ◌≢◌, ℕ, ◌<◌, ◌≤◌, eqb, Bool, true, false, cond, ◌||◌, List, [], ◌∷◌, ◌++◌, map, codes, drop, nat_lt, nat_eq, Option, None, Result, Ok, Err, refl, sym, ap, subst, ◌∙◌, append_assoc, append-nil, arith, rules, inl, inr, ◌↔◌}
use Rattle.std.specs.Prelude.{decimal}
use Rattle.std.specs.List.{AllByRecursion, starts_with, join_with_byte}
use Rattle.std.specs.Str.{bytes_eq}
use Rattle.std.proofs.lemmas.Bool.{false≢true, lt-ltb, ltb-true, eq-eqb, eqb-true, eqb-false, ne_eqb, cases_Bool}
use Rattle.std.proofs.lemmas.Bool.Decides.{Decides-eqb}
use Rattle.std.proofs.lemmas.Slice.Eq.{bytes_eq-Decides, starts_is}
use Rattle.spy_words.specs.declared.fault.LineFault.{LineFault}
use Rattle.spy_words.specs.declared.fault.LineFault.TheVariants.{Form, Order}
use Rattle.spy_words.specs.declared.lists.Quad.{Quad}
use Rattle.spy_words.specs.declared.lists.Extent.{Extent}
use Rattle.spy_words.specs.declared.lists.Extent.TheVariants.{Runs, Plane}
use Rattle.spy_words.specs.declared.access.PrivWord.{PrivWord}
use Rattle.spy_words.specs.declared.access.PrivWord.TheVariants as privileges
use Rattle.spy_words.specs.declared.access.InstKind.{InstKind}
use Rattle.spy_words.specs.declared.access.InstKind.TheVariants as instances
use Rattle.spy_words.specs.Classes.{Class, number, extent, fields, waits, split, access, coherence, layout, Meaning, span_word, quad_word, list_word, extent_word, split_word, access_word, coherence_word, layout_word, word_of, IsNumberFrom, IsSpan, IsSpanFrom, IsQuad, IsQuadFrom, ascends, span_before, quad_before, IsExtent, HasOperator, HoldsOperator, IsGood}
use Rattle.spy_words.specs.Faults.{unless_met, kept, with_part, each_after, both, map_ok, tested}
use Rattle.spy_words.specs.Reading.{number_from, parts, goes_up, span_among, span_from, quad_of, quad_among, quad_from, each, has_colon, extent_at, has_some, list_at, text_at, operator_at, meaning_at}
use Rattle.spy_words.proofs.Numbers.{number_takes, number_again, number_lacks}
use Rattle.spy_words.proofs.lemmas.Joins.{Above, Lacks, lacks_append, lacks_join, above_lower, all_lower, above_append, above_join, above_all, parts_join, parts_between, join_parts, parts_some}

-- a reader and a speller of words say the same
pub record Agree (A : Type 0) (read : List ℕ → Result A LineFault) (spell : A → List ℕ) (IsFit : A → Type 0) (floor : ℕ) : Type 0 where
  pub takes : (w : List ℕ) (x : A) → read w ≡ Ok x → (w ≡ spell x) × IsFit x
  pub again : (x : A) → IsFit x → (read (spell x) ≡ Ok x) × Above floor (spell x)

-- ---- what gave a value

both_ok : {A B : Type 0} (a : Result A LineFault) (b : Result B LineFault) (y : A × B) → both a b ≡ Ok y → (a ≡ Ok y.0) × (b ≡ Ok y.1)
both_ok a b y e = grind arith

pub map_is_ok : {A B : Type 0} (f : A → B) (r : Result A LineFault) (y : B) → map_ok f r ≡ Ok y → (x : A) × (r ≡ Ok x) × (f x ≡ y)
map_is_ok f r y e = search (rules, arith)

pub tested_ok : {A : Type 0} (f : LineFault) (test : A → Bool) (r : Result A LineFault) (y : A) → tested f test r ≡ Ok y → (r ≡ Ok y)
    × (test y ≡ true)
tested_ok f test r y e = grind arith

pub unmet : {A : Type 0} (met : Option LineFault) (x y : A) → unless_met met x ≡ Ok y → (met ≡ None) × (x ≡ y)
unmet met x y e = grind arith

pub kept_ok : {A : Type 0} (met : Option LineFault) (r : Result A LineFault) (other : A) → (kept met r other).1 ≡ None → (met ≡ None)
    × (r ≡ Ok (kept met r other).0)
kept_ok met r other e = grind arith

-- ---- numbers and runs of points

pub number_agrees : (least : ℕ) → Agree ℕ (number_from least) decimal (IsNumberFrom least) 45
number_agrees least = record { takes = number_takes least; again = number_again least }

-- Each run of points goes upward from 0 on.
pub spans_from_zero : (ps : List (ℕ × ℕ)) → AllByRecursion (IsSpanFrom 0) ps ↔ AllByRecursion IsSpan ps
spans_from_zero [] = (λ h. h, λ h. h)
spans_from_zero (p ∷ ps) = let rest = spans_from_zero ps in (λ h. (h.0.1, rest.0 h.1), λ h. ((omega arith, h.0), rest.1 h.1))

span_takes : (ws : List (List ℕ)) (p : ℕ × ℕ) → span_among 0 ws ≡ Ok p → (join_with_byte 45 ws ≡ span_word p) × IsSpan p
span_takes (v ∷ []) p e =
    let m = map_is_ok (λ (n : ℕ). (n, n)) (number_from 0 v) p e in
    let t = number_takes 0 v m.0 m.1 in
    subst (λ (p : ℕ × ℕ). (v ≡ span_word p) × IsSpan p) m.2 (rw (eq-eqb m.0 m.0 refl) t.0, (omega arith, t.1.1))
span_takes (v ∷ w ∷ []) p e =
    let o = tested_ok Order goes_up (both (number_from 0 v) (number_from 0 w)) p e in
    let b = both_ok (number_from 0 v) (number_from 0 w) p o.0 in
    let s = number_takes 0 v p.0 b.0 in
    let t = number_takes 0 w p.1 b.1 in
    let up : p.0 < p.1 = ltb-true p.0 p.1 o.1 in (
      rw (ne_eqb p.0 p.1 (λ e. absurd (omega (arith, up, e)))) (ap (λ (x : List ℕ). x ++ 45 ∷ w) s.0
          ∙ ap (λ (x : List ℕ). decimal p.0 ++ 45 ∷ x) t.0),
      (omega (arith, up), t.1.1),
    )
span_takes vs p e = absurd cc

span_again : (p : ℕ × ℕ) → IsSpan p → (span_among 0 (parts 45 (span_word p)) ≡ Ok p) × Above 44 (span_word p)
span_again p good = by_test (eqb p.0 p.1) refl
  where
    first : (number_from 0 (decimal p.0) ≡ Ok p.0) × Above 45 (decimal p.0)
    first = number_again 0 p.0 (omega arith, omega (arith, good.0, good.1))

    last : (number_from 0 (decimal p.1) ≡ Ok p.1) × Above 45 (decimal p.1)
    last = number_again 0 p.1 (omega arith, good.1)

    by_test : (t : Bool) → eqb p.0 p.1 ≡ t → let w = cond t (decimal p.0) (decimal p.0 ++ 45 ∷ decimal p.1) in
        (span_among 0 (parts 45 w) ≡ Ok p) × Above 44 w
    by_test true is = (
      rw (parts_join 45 (decimal p.0) [] (first.1, tt), first.0) (ap (λ (n : ℕ). Ok (p.0, n)) (eqb-true p.0 p.1 is)),
      above_lower 44 45 (decimal p.0) (omega arith) first.1,
    )
    by_test false is =
        let other = eqb-false p.0 p.1 is in
        let again : span_among 0 (parts 45 (decimal p.0 ++ 45 ∷ decimal p.1)) ≡ Ok p =
        rw (
          parts_join 45 (decimal p.0) (decimal p.1 ∷ []) (first.1, (last.1, tt)),
          first.0,
          last.0,
          lt-ltb p.0 p.1 (omega (arith, good.0, other)),
        ) refl in (
          again,
          above_append 44 (decimal p.0) (45 ∷ decimal p.1) (above_lower 44 45 (decimal p.0) (omega arith) first.1) (
            omega arith,
            above_lower 44 45 (decimal p.1) (omega arith) last.1,
          ),
        )

span_agrees : Agree (ℕ × ℕ) (span_from 0) span_word IsSpan 44
unfolding span_from
span_agrees = record {
  takes = λ w p e. let t = span_takes (parts 45 w) p e in (join_parts 45 w (parts 45 w) refl ∙ t.0, t.1);
  again = span_again;
}

-- ---- rectangles

span_lacks : (p : ℕ × ℕ) → IsSpan p → Lacks 58 (span_word p)
span_lacks p good = by_test (eqb p.0 p.1)
  where
    first : Lacks 58 (decimal p.0)
    first = number_lacks p.0 (omega (arith, good.0, good.1))

    by_test : (t : Bool) → Lacks 58 (cond t (decimal p.0) (decimal p.0 ++ 45 ∷ decimal p.1))
    by_test true = first
    by_test false = lacks_append 58 (decimal p.0) (45 ∷ decimal p.1) first (refl, number_lacks p.1 good.1)

-- Each rectangle goes upward from 0 on.
pub quads_from_zero : (qs : List Quad) → AllByRecursion (IsQuadFrom 0) qs ↔ AllByRecursion IsQuad qs
quads_from_zero [] = (λ h. h, λ h. h)
quads_from_zero (q ∷ qs) =
    let rest = quads_from_zero qs in
    (λ h. ((h.0.0.1, h.0.1.1), rest.0 h.1), λ h. (((omega arith, h.0.0), (omega arith, h.0.1)), rest.1 h.1))

quad_takes : (ws : List (List ℕ)) (q : Quad) → quad_among 0 ws ≡ Ok q → (join_with_byte 58 ws ≡ quad_word q) × IsQuad q
quad_takes (v ∷ w ∷ []) q e =
    let m = map_is_ok quad_of (both (span_from 0 v) (span_from 0 w)) q e in
    let b = both_ok (span_from 0 v) (span_from 0 w) m.0 m.1 in
    let s = span_agrees.takes v m.0.0 b.0 in
    let t = span_agrees.takes w m.0.1 b.1 in
    subst (λ q. (v ++ 58 ∷ w ≡ quad_word q) × IsQuad q) m.2 (
      ap (λ (x : List ℕ). x ++ 58 ∷ w) s.0 ∙ ap (λ (x : List ℕ). span_word m.0.0 ++ 58 ∷ x) t.0,
      (s.1, t.1),
    )
quad_takes [] q e = absurd cc
quad_takes (v ∷ []) q e = absurd cc
quad_takes (u ∷ v ∷ w ∷ ws) q e = absurd cc

quad_again : (q : Quad) → IsQuad q → (quad_from 0 (quad_word q) ≡ Ok q) × Above 44 (quad_word q)
unfolding quad_from
quad_again q good =
    let columns = span_agrees.again (q.x0, q.x1) good.0 in
    let rows = span_agrees.again (q.y0, q.y1) good.1 in
    let cut = parts_between 58 (span_word (q.x0, q.x1)) (span_word (q.y0, q.y1) ∷ []) (
      span_lacks (q.x0, q.x1) good.0,
      (span_lacks (q.y0, q.y1) good.1, tt),
    ) in (
      rw (cut, columns.0, rows.0) refl,
      above_append 44 (span_word (q.x0, q.x1)) (58 ∷ span_word (q.y0, q.y1)) columns.1 (omega arith, rows.1),
    )

quad_agrees : Agree Quad (quad_from 0) quad_word IsQuad 44
unfolding quad_from
quad_agrees = record {
  takes = λ w q e. let t = quad_takes (parts 58 w) q e in (join_parts 58 w (parts 58 w) refl ∙ t.0, t.1);
  again = quad_again;
}

-- ---- lists

-- words were read after others: each has its value, and no fault was met
pub record AreRead (A : Type 0) (spell : A → List ℕ) (IsFit : A → Type 0) (p : List A × Option LineFault) (ws : List (List ℕ))
    (ys : List A) : Type 0 where
  pub met : p.1 ≡ None
  pub values : List A
  pub all : p.0 ++ values ≡ ys
  pub words : ws ≡ map spell values
  pub fit : AllByRecursion IsFit values

-- each word gives its value, and the other way
pub each_takes : (A : Type 0) (read : List ℕ → Result A LineFault) (spell : A → List ℕ) (IsFit : A → Type 0) (m : ℕ)
    → Agree A read spell IsFit m → (p : List A × Option LineFault) (ws : List (List ℕ)) (ys : List A)
    → each_after p read ws ≡ Ok ys → AreRead A spell IsFit p ws ys
each_takes A read spell IsFit m laws p [] ys e = let u = unmet p.1 p.0 ys e in
    record { met = u.0; values = []; all = append-nil p.0 ∙ u.1; words = refl; fit = tt }
each_takes A read spell IsFit m laws p (w ∷ ws) ys e =
    by_word (read w) refl (each_takes A read spell IsFit m laws (with_part p (read w)) ws ys e)
  where
    by_word : (r : Result A LineFault) → read w ≡ r → AreRead A spell IsFit (with_part p r) ws ys → AreRead A spell IsFit p (w ∷ ws) ys
    by_word (Err f) is t = let met = t.met in absurd (grind arith)
    by_word (Ok x) is t =
        let said = laws.takes w x is in
        record {
          met = t.met;
          values = x ∷ t.values;
          all = sym (append_assoc p.0 (x ∷ []) t.values) ∙ t.all;
          words =
              cc (said.0, t.words);
          fit = (said.1, t.fit);
        }

pub each_again : (A : Type 0) (read : List ℕ → Result A LineFault) (spell : A → List ℕ) (IsFit : A → Type 0) (m : ℕ)
    → Agree A read spell IsFit m → (front xs : List A) → AllByRecursion IsFit xs
    → (each_after (front, None) read (map spell xs) ≡ Ok (front ++ xs)) × AllByRecursion (Above m) (map spell xs)
each_again A read spell IsFit m laws front [] h = (ap (λ zs. Ok zs) (sym (append-nil front)), tt)
each_again A read spell IsFit m laws front (x ∷ xs) h =
    let first = laws.again x h.0 in
    let rest = each_again A read spell IsFit m laws (front ++ x ∷ []) xs h.1 in (
      ap (λ r. each_after (with_part (front, None) r) read (map spell xs)) first.0 ∙ rest.0
          ∙ ap (λ zs. Ok zs) (append_assoc front (x ∷ []) xs),
      (first.1, rest.1),
    )

-- what stands between commas, or none for a dash, which is no part
list_agrees : (A : Type 0) (read : List ℕ → Result A LineFault) (spell : A → List ℕ) (IsFit : A → Type 0) (m : ℕ) → 44 ≤ m
    → Agree A read spell IsFit m
    → ((xs : List A) → each read (codes "-" ∷ []) ≡ Ok xs → ⊥) → Agree (List A) (list_at read) (list_word spell) (AllByRecursion IsFit) 32
unfolding list_at
list_agrees A read spell IsFit m le laws no_part = record { takes = takes; again = again }
  where
    spelled : (w : List ℕ) (xs : List A) → parts 44 w ≡ map spell xs → w ≡ list_word spell xs
    spelled w [] e = absurd (parts_some 44 w e)
    spelled w (x ∷ xs) e = join_parts 44 w (map spell (x ∷ xs)) e

    takes : (w : List ℕ) (xs : List A) → list_at read w ≡ Ok xs → (w ≡ list_word spell xs) × AllByRecursion IsFit xs
    takes w xs e = elim (cases_Bool (bytes_eq w (codes "-"))) [
      | inl is ↦ let none : [] ≡ xs = grind arith in
          subst (λ ys. (w ≡ list_word spell ys) × AllByRecursion IsFit ys) none ((bytes_eq-Decides w (codes "-")).0 is, tt)
      | inr other ↦
          let t = each_takes A read spell IsFit m laws ([], None) (parts 44 w) xs (grind arith) in
          subst (λ ys. (w ≡ list_word spell ys) × AllByRecursion IsFit ys) t.all (spelled w t.values t.words, t.fit)
    ]

    no_dash : (w : List ℕ) (xs : List A) → each read (parts 44 w) ≡ Ok xs → list_at read w ≡ Ok xs
    no_dash w xs e = elim (cases_Bool (bytes_eq w (codes "-"))) [
      | inl is ↦ absurd (no_part xs (sym (ap (λ w. each read (parts 44 w)) ((bytes_eq-Decides w (codes "-")).0 is)) ∙ e))
      | inr other ↦ grind arith
    ]

    again : (xs : List A) → AllByRecursion IsFit xs → (list_at read (list_word spell xs) ≡ Ok xs) × Above 32 (list_word spell xs)
    again [] fit = (refl, (omega arith, tt))
    again (x ∷ xs) fit =
        let words = each_again A read spell IsFit m laws [] (x ∷ xs) fit in
        let lower : (n : ℕ) → n ≤ 44 → AllByRecursion (Above n) (map spell (x ∷ xs)) =
        λ n lt. all_lower n m (map spell (x ∷ xs)) (omega arith) words.1 in
        let cut = parts_join 44 (spell x) (map spell xs) (lower 44 (omega arith)) in (
          no_dash (list_word spell (x ∷ xs)) (x ∷ xs) (ap (each read) cut ∙ words.0),
          above_join 32 44 (map spell (x ∷ xs)) (omega arith) (lower 32 (omega arith)),
        )

points_agree : Agree (List (ℕ × ℕ)) (list_at (span_from 0)) (list_word span_word) (AllByRecursion IsSpan) 32
unfolding span_from number_from
points_agree = list_agrees (ℕ × ℕ) (span_from 0) span_word IsSpan 44 (omega arith) span_agrees (λ xs e. absurd cc)

quads_agree : Agree (List Quad) (list_at (quad_from 0)) (list_word quad_word) (AllByRecursion IsQuad) 32
unfolding quad_from
quads_agree = list_agrees Quad (quad_from 0) quad_word IsQuad 44 (omega arith) quad_agrees (λ xs e. absurd cc)

numbers_agree : (least : ℕ) → Agree (List ℕ) (list_at (number_from least)) (list_word decimal) (AllByRecursion (IsNumberFrom least)) 32
unfolding number_from
numbers_agree least = list_agrees ℕ (number_from least) decimal (IsNumberFrom least) 45 (omega arith) (number_agrees least)
    (λ xs e. absurd cc)

pub some_tested : {A : Type 0} (xs : List A) → (has_some xs ≡ true) ↔ (xs ≢ [])
some_tested [] = (λ e. absurd cc, λ full. absurd (full refl))
some_tested (x ∷ xs) = (λ e empty. absurd cc, λ full. refl)

-- ---- runs or rectangles

no_colon : (w : List ℕ) → Lacks 58 w → has_colon w ≡ false
no_colon [] h = refl
no_colon (b ∷ w) h = rw (h.0, no_colon w h.1) refl

colon_within : (v w : List ℕ) → has_colon (v ++ 58 ∷ w) ≡ true
colon_within [] w = refl
colon_within (b ∷ v) w = by_test (eqb b 58) (colon_within v w)
  where
    by_test : (t : Bool) → has_colon (v ++ 58 ∷ w) ≡ true → t || has_colon (v ++ 58 ∷ w) ≡ true
    by_test true rest = refl
    by_test false rest = rest

spans_lack : (ps : List (ℕ × ℕ)) → AllByRecursion IsSpan ps → AllByRecursion (Lacks 58) (map span_word ps)
spans_lack [] h = tt
spans_lack (p ∷ ps) h = (span_lacks p h.0, spans_lack ps h.1)

runs_lack_colon : (ps : List (ℕ × ℕ)) → AllByRecursion IsSpan ps → has_colon (list_word span_word ps) ≡ false
runs_lack_colon [] h = refl
runs_lack_colon (p ∷ ps) h = no_colon _ (lacks_join 58 44 (map span_word (p ∷ ps)) refl (spans_lack (p ∷ ps) h))

rects_have_colon : (q : Quad) (qs : List Quad) → has_colon (list_word quad_word (q ∷ qs)) ≡ true
rects_have_colon q [] = colon_within (span_word (q.x0, q.x1)) (span_word (q.y0, q.y1))
rects_have_colon q (r ∷ rs) =
    let rest = join_with_byte 44 (map quad_word (r ∷ rs)) in
    ap has_colon (append_assoc (span_word (q.x0, q.x1)) (58 ∷ span_word (q.y0, q.y1)) (44 ∷ rest))
    ∙ colon_within (span_word (q.x0, q.x1)) (span_word (q.y0, q.y1) ++ 44 ∷ rest)

extent_takes : (w : List ℕ) (x : Extent) → extent_at w ≡ Ok x → (w ≡ extent_word x) × IsExtent x
unfolding extent_at
extent_takes w x e = by_colon (has_colon w) refl e
  where
    by_colon : (t : Bool) → has_colon w ≡ t → cond t
        (map_ok (λ qs. Plane qs) (tested Order (ascends quad_before) (list_at (quad_from 0) w)))
        (map_ok (λ ps. Runs ps) (tested Order (ascends span_before) (list_at (span_from 0) w))) ≡ Ok x
        → (w ≡ extent_word x) × IsExtent x
    by_colon true is e =
        let m = map_is_ok (λ qs. Plane qs) _ x e in
        let o = tested_ok Order (ascends quad_before) _ m.0 m.1 in
        let t = quads_agree.takes w m.0 o.0 in
        let some : m.0 ≢ [] = λ none. false≢true (ap has_colon (sym (t.0 ∙ ap (list_word quad_word) none)) ∙ is) in
        subst (λ x. (w ≡ extent_word x) × IsExtent x) m.2 (t.0, (t.1, o.1, some))
    by_colon false is e =
        let m = map_is_ok (λ ps. Runs ps) _ x e in
        let o = tested_ok Order (ascends span_before) _ m.0 m.1 in
        let t = points_agree.takes w m.0 o.0 in
        subst (λ x. (w ≡ extent_word x) × IsExtent x) m.2 (t.0, (t.1, o.1))

extent_again : (x : Extent) → IsExtent x → (extent_at (extent_word x) ≡ Ok x) × Above 32 (extent_word x)
unfolding extent_at
extent_again (Runs ps) good =
    let l = points_agree.again ps good.0 in
    (rw (runs_lack_colon ps good.0, l.0, good.1) refl, l.1)
extent_again (Plane []) good = absurd (good.2 refl)
extent_again (Plane (q ∷ qs)) good =
    let l = quads_agree.again (q ∷ qs) good.0 in
    (rw (rects_have_colon q qs, l.0, good.1) refl, l.1)

-- a value is found by its text, or read otherwise
pub text_takes : (A : Type 0) (spell : A → List ℕ) (IsFit : A → Type 0) (xs : List A) (w : List ℕ) (otherwise : Result A LineFault) (y : A)
    → AllByRecursion IsFit xs → (otherwise ≡ Ok y → (w ≡ spell y) × IsFit y) → text_at spell xs w otherwise ≡ Ok y → (w ≡ spell y) × IsFit y
text_takes A spell IsFit [] w otherwise y fit later e = later e
text_takes A spell IsFit (x ∷ xs) w otherwise y fit later e = elim (cases_Bool (bytes_eq w (spell x))) [
  | inl is ↦ let same : x ≡ y = grind arith in subst (λ y. (w ≡ spell y) × IsFit y) same ((bytes_eq-Decides w (spell x)).0 is, fit.0)
  | inr other ↦ text_takes A spell IsFit xs w otherwise y fit.1 later (grind arith)
]

-- ---- reductions

operator_takes : (w : List ℕ) (op : ℕ) → operator_at w ≡ Ok op → (w ≡ codes "red:" ++ decimal op) × IsNumberFrom 1 op
unfolding operator_at
operator_takes w op e =
    let begins : starts_with nat_eq w (codes "red:") ≡ true = grind arith in
    let number : number_from 1 (drop 4 w) ≡ Ok op = grind arith in
    let t = number_takes 1 (drop 4 w) op number in
    ((starts_is Decides-eqb w (codes "red:") _ refl).0 begins ∙ ap (λ (x : List ℕ). codes "red:" ++ x) t.0, t.1)

reduction_takes : {A : Type 0} (spell : A → List ℕ) (IsFit : A → Type 0) (make : ℕ → A) (w : List ℕ) (y : A)
    → ((op : ℕ) → IsNumberFrom 1 op → (codes "red:" ++ decimal op ≡ spell (make op)) × IsFit (make op)) → map_ok make (operator_at w) ≡ Ok y
    → (w ≡ spell y) × IsFit y
reduction_takes {A = A} spell IsFit make w y made e =
    let m = map_is_ok make (operator_at w) y e in
    let t = operator_takes w m.0 m.1 in
    subst (λ (y : A). (w ≡ spell y) × IsFit y) m.2 (t.0 ∙ (made m.0 t.1).0, (made m.0 t.1).1)

reduction_above : (op : ℕ) → IsNumberFrom 1 op → Above 32 (codes "red:" ++ decimal op)
reduction_above op good = above_append 32 (codes "red:") (decimal op) (above_all 32 (codes "red:") refl)
    (above_lower 32 45 (decimal op) (omega arith) (number_again 1 op good).1)

-- ---- every class

pub class_takes : (c : Class) (w : List ℕ) (x : Meaning c) → meaning_at c w ≡ Ok x → (w ≡ word_of c x) × IsGood c x
unfolding meaning_at
class_takes (number least) w x e = number_takes least w x e
class_takes extent w x e = extent_takes w x e
class_takes fields w x e =
    let o = tested_ok Order (ascends nat_lt) _ x e in
    let some = tested_ok Form has_some (list_at (number_from 0) w) x o.0 in
    let t = (numbers_agree 0).takes w x some.0 in
    (t.0, (t.1, o.1, (some_tested x).0 some.1))
class_takes waits w x e = (numbers_agree 1).takes w x e
class_takes split w x e = text_takes Bool split_word (IsGood split) (true ∷ false ∷ []) w (Err Form) x (tt, (tt, tt)) (λ e. absurd cc) e
class_takes access w x e = text_takes PrivWord access_word HasOperator (privileges.Ro ∷ privileges.Rw ∷ privileges.Wd ∷ []) w _ x (
  tt,
  (tt, (tt, tt)),
) (reduction_takes access_word HasOperator (λ op. privileges.Red op) w x (λ op good. (refl, good))) e
class_takes coherence w x e = text_takes Bool coherence_word (IsGood coherence) (true ∷ false ∷ []) w (Err Form) x (tt, (tt, tt))
    (λ e. absurd cc) e
class_takes layout w x e = text_takes InstKind layout_word HoldsOperator (instances.Plain ∷ instances.Home ∷ []) w _ x (tt, (tt, tt))
    (reduction_takes layout_word HoldsOperator (λ op. instances.Red op) w x (λ op good. (refl, good))) e

pub class_again : (c : Class) (x : Meaning c) → IsGood c x → (meaning_at c (word_of c x) ≡ Ok x) × Above 32 (word_of c x)
unfolding meaning_at operator_at
class_again (number least) n good = let w = number_again least n good in (w.0, above_lower 32 45 (decimal n) (omega arith) w.1)
class_again extent x good = extent_again x good
class_again fields ns good = let l = (numbers_agree 0).again ns good.0 in (rw (l.0, (some_tested ns).1 good.2, good.1) refl, l.1)
class_again waits ns good = (numbers_agree 1).again ns good
class_again access (privileges.Red op) good = (ap (map_ok (λ op. privileges.Red op)) (number_again 1 op good).0, reduction_above op good)
class_again layout (instances.Red op) good = (ap (map_ok (λ op. instances.Red op)) (number_again 1 op good).0, reduction_above op good)
class_again split true good = (refl, above_all 32 (codes "disjoint") refl)
class_again coherence true good = (refl, above_all 32 (codes "at") refl)
class_again c x good = (refl, above_all 32 (word_of c x) refl)

-- A word that says one number says the list of it.
pub one_field : (w : List ℕ) (n : ℕ) → number_from 0 w ≡ Ok n → meaning_at fields w ≡ Ok (n ∷ [])
one_field w n e =
    let t = number_takes 0 w n e in
    ap (meaning_at fields) t.0 ∙ (class_again fields (n ∷ []) ((t.1, tt), refl, λ e. absurd cc)).0

pub one_wait : (w : List ℕ) (n : ℕ) → number_from 1 w ≡ Ok n → meaning_at waits w ≡ Ok (n ∷ [])
one_wait w n e =
    let t = number_takes 1 w n e in
    ap (meaning_at waits) t.0 ∙ (class_again waits (n ∷ []) (t.1, tt)).0
