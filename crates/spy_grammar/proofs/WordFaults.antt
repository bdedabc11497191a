-- What a person tells of a line's faults is what reading it gives.
use Rattle.std.proofs.Common.{◌≡◌, ◌≢◌, ℕ, Bool, true, false, not, ◌&&◌, ◌||◌, cond, ◌↔◌, ◌⊎◌, inl, inr, nat_lt, List, [], ◌∷◌, ◌++◌, map, codes, drop, Option, Some, None, Result, Ok, Err, refl, sym, ap, subst, ◌∙◌, append_assoc, append-nil}
use Rattle.std.specs.List.{list_all, list_any}
use Rattle.std.specs.Str.{bytes_eq}
use Rattle.std.specs.Str.Parse.{digits_value}
use Rattle.std.proofs.lemmas.Bool.{cases_Bool, true≢false}
use Rattle.std.proofs.lemmas.Option.{none-some, same_Some}
use Rattle.std.proofs.lemmas.Slice.Eq.{bytes_eq-Decides}
use Rattle.spy_words.specs.declared.lists.Extent.TheVariants.{Runs, Plane}
use Rattle.spy_words.specs.declared.fault.LineFault.{LineFault}
use Rattle.spy_words.specs.declared.fault.LineFault.TheVariants.{Word, Form, Number, Order}
use Rattle.spy_words.specs.declared.access.PrivWord.TheVariants as privileges
use Rattle.spy_words.specs.declared.access.InstKind.TheVariants as instances
use Rattle.spy_words.specs.Classes.{Class, number, extent, fields, waits, split, access, coherence, layout, about, split_word, access_word, coherence_word, layout_word, ascends, span_before, quad_before}
use Rattle.spy_words.specs.Faults.{met_with, unless_met, kept, with_part, each_after, both, map_ok, tested}
use Rattle.spy_words.specs.Reading as reading
use Rattle.spy_words.specs.Reading.{parts, is_digits, number_from, goes_up, span_among, span_from, quad_of, quad_from, has_colon, extent_at, list_at, has_some, text_at, operator_at, meaning_at, ids_at}
use Rattle.spy_words.proofs.lemmas.Joins.{parts_some}
use Rattle.spy_grammar.specs.LineFaults.{NamesIn, NamesNone, LacksShape, LacksNumbers, LacksOrder, words_after, is_dash, is_span_shaped, is_quad_shaped, is_part_shaped, is_operator, is_plain_access, is_plain_layout, has_shape, is_number_from, has_span_numbers, has_part_numbers, has_numbers, span_of, is_upward, quad_among, is_part_upward, do_parts_ascend, is_in_order, have_shape, have_numbers, are_in_order}
use Rattle.spy_grammar.specs.Rows.{Row, no_more, some_ids, ◌&◌, Grammar, kind_in}
use Rattle.spy_grammar.specs.Reading.{next_word, read_word, read_ids, read_row, read_record, met_at_end, named_record, record_in, is_passed_over, line_in}
use Rattle.spy_grammar.proofs.lemmas.GrammarLaws.{IsTable, named_so}

-- The fault that is reported, by whether all have their shape, their numbers and their order.
abbrev pub by_tests : Bool → Bool → Bool → Option LineFault
by_tests false n o = Some Form
by_tests true false o = Some Number
by_tests true true false = Some Order
by_tests true true true = None

-- The fault that is reported of those met so far and perhaps one more.
abbrev pub with_met : Option LineFault → Option LineFault → Option LineFault
with_met met None = met
with_met met (Some f) = met_with met f

joined : (a b c s n o : Bool) → with_met (by_tests a b c) (by_tests s n o) ≡ by_tests (a && s) (b && n) (c && o)
joined false b c false n o = refl
joined false b c true false o = refl
joined false b c true true false = refl
joined false b c true true true = refl
joined true false c false n o = refl
joined true false c true false o = refl
joined true false c true true false = refl
joined true false c true true true = refl
joined true true false false n o = refl
joined true true false true false o = refl
joined true true false true true false = refl
joined true true false true true true = refl
joined true true true false n o = refl
joined true true true true false o = refl
joined true true true true true false = refl
joined true true true true true true = refl

both_unmet : (m t : Option LineFault) → with_met m t ≡ None → (m ≡ None) × (t ≡ None)
both_unmet m None e = (e, refl)
both_unmet None (Some f) e = absurd (none-some f (sym e))
both_unmet (Some g) (Some f) e = absurd (none-some _ (sym e))

and_true : (a : Bool) → a && true ≡ a
and_true true = refl
and_true false = refl

and_assoc : (a b c : Bool) → (a && b) && c ≡ a && (b && c)
and_assoc true b c = refl
and_assoc false b c = refl

-- The fault of what reading gives.
abbrev pub fault_in : {A : Type 0} → Result A LineFault → Option LineFault
fault_in (Ok x) = None
fault_in (Err f) = Some f

fault_unless : {A : Type 0} (met : Option LineFault) (x : A) → fault_in (unless_met met x) ≡ met
fault_unless None x = refl
fault_unless (Some f) x = refl

-- ---- numbers

tests_number : (d x : Bool) (v : ℕ) → cond (not d) (Err Form) (cond x (Err Number) (Ok v)) ≡ unless_met (by_tests d (not x) true) v
tests_number false x v = refl
tests_number true true v = refl
tests_number true false v = refl

number_said : (least : ℕ) (w : List ℕ) → number_from least w
    ≡ unless_met (by_tests (is_digits w) (is_number_from least w) true) (digits_value 10 w)
unfolding number_from
number_said least w = tests_number (is_digits w) _ (digits_value 10 w)

-- ---- lists

unless_same : {A : Type 0} (met : Option LineFault) (x y : A) → (met ≡ None → x ≡ y) → unless_met met x ≡ unless_met met y
unless_same None x y e = ap Ok (e refl)
unless_same (Some f) x y e = refl

-- The values so far and one more, unless it has a fault.
abbrev added : {A : Type 0} → List A → Option LineFault → A → List A
added xs None x = xs ++ x ∷ []
added xs (Some f) x = xs

with_said : {A : Type 0} (xs : List A) (m t : Option LineFault) (x : A) → with_part (xs, m) (unless_met t x) ≡ (added xs t x, with_met m t)
with_said xs m None x = refl
with_said xs m (Some f) x = refl

added_so : {A : Type 0} (xs ys : List A) (m t : Option LineFault) (x : A) → (m ≡ None → xs ≡ ys) → with_met m t ≡ None
    → added xs t x ≡ ys ++ x ∷ []
added_so xs ys m None x same none = ap (λ zs. zs ++ x ∷ []) (same none)
added_so xs ys m (Some f) x same none = absurd (none-some f (sym (both_unmet m (Some f) none).1))

module _ {A : Type 0} (read : List ℕ → Result A LineFault) (s n o : List ℕ → Bool) (value : List ℕ → A) (said : (w : List ℕ)
    → read w ≡ unless_met (by_tests (s w) (n w) (o w)) (value w)) where
  each_said : (a b c : Bool) (xs ys : List A) → (by_tests a b c ≡ None → xs ≡ ys) → (ws : List (List ℕ))
      → each_after (xs, by_tests a b c) read ws ≡ unless_met (by_tests (a && list_all s ws) (b && list_all n ws) (c && list_all o ws))
      (ys ++ map value ws)
  each_said a b c xs ys same [] =
      rw (and_true a, and_true b, and_true c) (unless_same (by_tests a b c) xs (ys ++ []) (λ none. same none ∙ sym (append-nil ys)))
  each_said a b c xs ys same (w ∷ ws) =
      let t = by_tests (s w) (n w) (o w) in
      let step : with_part (xs, by_tests a b c) (read w) ≡ (added xs t (value w), by_tests (a && s w) (b && n w) (c && o w)) =
      ap (with_part (xs, by_tests a b c)) (said w) ∙ with_said xs (by_tests a b c) t (value w)
      ∙ ap (λ m. (added xs t (value w), m)) (joined a b c (s w) (n w) (o w)) in
      let rest = each_said (a && s w) (b && n w) (c && o w) (added xs t (value w)) (ys ++ value w ∷ [])
      (λ none. added_so xs ys (by_tests a b c) t (value w) same (joined a b c (s w) (n w) (o w) ∙ none)) ws in
      ap (λ p. each_after p read ws) step ∙ rest
      ∙ ap (λ m. unless_met m (ys ++ value w ∷ [] ++ map value ws))
      (tests_along (and_assoc a (s w) (list_all s ws)) (and_assoc b (n w) (list_all n ws)) (and_assoc c (o w) (list_all o ws)))
      ∙ ap (unless_met (by_tests (a && list_all s (w ∷ ws)) (b && list_all n (w ∷ ws)) (c && list_all o (w ∷ ws))))
      (append_assoc ys (value w ∷ []) (map value ws))
    where
      tests_along : {a b c d e f : Bool} → a ≡ b → c ≡ d → e ≡ f → by_tests a c e ≡ by_tests b d f
      tests_along p q r = rw (p, q, r) refl

  list_said : (w : List ℕ) → list_at read w ≡ cond (is_dash w) (Ok [])
      (unless_met (by_tests (list_all s (parts 44 w)) (list_all n (parts 44 w)) (list_all o (parts 44 w))) (map value (parts 44 w)))
  unfolding list_at
  list_said w = ap (cond (is_dash w) (Ok [])) (each_said true true true [] [] (λ _. refl) (parts 44 w))

-- A list may be a dash.
dash_or : {A : Type 0} (dash s n o : Bool) (x : A) (e : A)
    → cond dash (Ok e) (unless_met (by_tests s n o) x) ≡ unless_met (by_tests (dash || s) (dash || n) (dash || o)) (cond dash e x)
dash_or true s n o x e = refl
dash_or false s n o x e = refl

order_tested : {A : Type 0} (test : A → Bool) (s n o : Bool) (x : A)
    → tested Order test (unless_met (by_tests s n o) x) ≡ unless_met (by_tests s n (o && test x)) x
order_tested test false n o x = refl
order_tested test true false o x = refl
order_tested test true true false x = refl
order_tested test true true true x = by (test x) refl
  where
    by : (t : Bool) → test x ≡ t → tested Order test (Ok x) ≡ unless_met (by_tests true true (test x)) x
    by true e = rw e refl
    by false e = rw e refl

-- ---- runs of points

span_said : (vs : List (List ℕ)) → span_among 0 vs
    ≡ unless_met (by_tests (is_span_shaped vs) (list_all (is_number_from 0) vs) (is_upward vs)) (span_of vs)
span_said [] = refl
span_said (v ∷ []) = ap (map_ok {B = ℕ × ℕ} (λ n. (n, n))) (number_said 0 v) ∙ one (is_digits v) (is_number_from 0 v) (digits_value 10 v)
  where
    one : (d n : Bool) (x : ℕ) → map_ok {B = ℕ × ℕ} (λ n. (n, n)) (unless_met (by_tests d n true) x)
        ≡ unless_met (by_tests d (n && true) true) (x, x)
    one false n x = refl
    one true false x = refl
    one true true x = refl
span_said (v ∷ w ∷ []) =
    rw (number_said 0 v, number_said 0 w) (ap (tested Order goes_up)
    (two (is_digits v) (is_number_from 0 v) (is_digits w) (is_number_from 0 w) (digits_value 10 v) (digits_value 10 w))
    ∙ order_tested goes_up (is_digits v && is_digits w) (is_number_from 0 v && (is_number_from 0 w && true)) true (
      digits_value 10 v,
      digits_value 10 w,
    ))
  where
    two : (d n e m : Bool) (x y : ℕ) → both (unless_met (by_tests d n true) x) (unless_met (by_tests e m true) y)
        ≡ unless_met (by_tests (d && e) (n && (m && true)) true) (x, y)
    two false n false m x y = refl
    two false n true false x y = refl
    two false n true true x y = refl
    two true false false m x y = refl
    two true false true false x y = refl
    two true false true true x y = refl
    two true true false m x y = refl
    two true true true false x y = refl
    two true true true true x y = refl
span_said (v ∷ w ∷ u ∷ vs) = refl

span_from_said : (w : List ℕ) → span_from 0 w ≡ unless_met
    (by_tests (is_span_shaped (parts 45 w)) (list_all (is_number_from 0) (parts 45 w)) (is_upward (parts 45 w))) (span_of (parts 45 w))
unfolding span_from
span_from_said w = span_said (parts 45 w)

-- ---- rectangles

both_said : {A B : Type 0} (m t : Option LineFault) (x : A) (y : B) → both (unless_met m x) (unless_met t y) ≡ unless_met (with_met m t) (x, y)
both_said None None x y = refl
both_said None (Some g) x y = refl
both_said (Some f) None x y = refl
both_said (Some f) (Some g) x y = refl

mapped_said : {A B : Type 0} (f : A → B) (met : Option LineFault) (x : A) → map_ok f (unless_met met x) ≡ unless_met met (f x)
mapped_said f None x = refl
mapped_said f (Some g) x = refl

-- The runs in a part.
abbrev runs_upward : List ℕ → Bool
runs_upward u = is_upward (parts 45 u)

quad_said : (vs : List (List ℕ)) → reading.quad_among 0 vs
    ≡ unless_met (by_tests (is_quad_shaped vs) (list_all has_span_numbers vs) (list_all runs_upward vs)) (quad_among vs)
quad_said [] = refl
quad_said (v ∷ []) = refl
quad_said (v ∷ w ∷ []) =
    let s : List ℕ → Bool = λ v. is_span_shaped (parts 45 v) in
    let x = span_of (parts 45 v) in
    let y = span_of (parts 45 w) in
    rw (
      span_from_said v,
      span_from_said w,
      both_said (by_tests (s v) (has_span_numbers v) (runs_upward v)) (by_tests (s w) (has_span_numbers w) (runs_upward w)) x y,
      joined (s v) (has_span_numbers v) (runs_upward v) (s w) (has_span_numbers w) (runs_upward w),
      and_true (has_span_numbers w),
      and_true (runs_upward w),
    ) (mapped_said quad_of (by_tests (s v && s w) (has_span_numbers v && has_span_numbers w) (runs_upward v && runs_upward w)) (x, y))
quad_said (u ∷ v ∷ w ∷ vs) = refl

quad_from_said : (w : List ℕ) → quad_from 0 w
    ≡ unless_met (by_tests (is_part_shaped true w) (has_part_numbers true w) (is_part_upward true w)) (quad_among (parts 58 w))
unfolding quad_from
quad_from_said w = quad_said (parts 58 w)

-- ---- texts

text_fault : {A : Type 0} (spell : A → List ℕ) (xs : List A) (w : List ℕ) (otherwise : Result A LineFault)
    → fault_in (text_at spell xs w otherwise) ≡ cond (list_any (λ x. bytes_eq w (spell x)) xs) None (fault_in otherwise)
text_fault spell [] w otherwise = refl
text_fault spell (x ∷ xs) w otherwise = by (bytes_eq w (spell x)) (text_at spell xs w otherwise) (list_any (λ x. bytes_eq w (spell x)) xs)
    (text_fault spell xs w otherwise)
  where
    by : (t : Bool) (rest : Result _ LineFault) (any : Bool) → fault_in rest ≡ cond any None (fault_in otherwise)
        → fault_in (cond t (Ok x) rest) ≡ cond (t || any) None (fault_in otherwise)
    by true rest any e = refl
    by false rest any e = e

one_of : (t : Bool) → cond t None (Some Form) ≡ by_tests t true true
one_of true = refl
one_of false = refl

one_or : (t s n : Bool) → cond t None (by_tests s n true) ≡ by_tests (t || s) (t || n) true
one_or true s n = refl
one_or false s n = refl

mapped_fault : {A B : Type 0} (f : A → B) (r : Result A LineFault) → fault_in (map_ok f r) ≡ fault_in r
mapped_fault f (Ok x) = refl
mapped_fault f (Err g) = refl

operator_fault : (w : List ℕ) → fault_in (operator_at w) ≡ by_tests (is_operator w) (is_number_from 1 (drop 4 w)) true
unfolding operator_at
operator_fault w = by _ (is_digits (drop 4 w)) (is_number_from 1 (drop 4 w)) (ap fault_in (number_said 1 (drop 4 w))
    ∙ fault_unless _ (digits_value 10 (drop 4 w)))
  where
    by : (t d n : Bool) → fault_in (number_from 1 (drop 4 w)) ≡ by_tests d n true
        → fault_in (cond t (number_from 1 (drop 4 w)) (Err Form)) ≡ by_tests (t && d) n true
    by true d n e = e
    by false d n e = refl

-- ---- every class

some_parts : {A : Type 0} (f : List ℕ → A) (ws : List (List ℕ)) → ws ≢ [] → has_some (map f ws) ≡ true
some_parts f [] some = absurd (some refl)
some_parts f (w ∷ ws) some = refl

passes : {A : Type 0} (met : Option LineFault) (xs : List A) → has_some xs ≡ true
    → tested Form has_some (unless_met met xs) ≡ unless_met met xs
passes None xs some = rw some refl
passes (Some f) xs some = refl

dash_fails : fault_in (tested Order (ascends nat_lt) (tested Form has_some (list_at (number_from 0) (codes "-"))))
    ≡ by_tests (has_shape fields (codes "-")) (has_numbers fields (codes "-")) (is_in_order fields (codes "-"))
unfolding list_at
dash_fails = refl

fields_fault : (w : List ℕ) → fault_in (tested Order (ascends nat_lt) (tested Form has_some (list_at (number_from 0) w)))
    ≡ by_tests (has_shape fields w) (has_numbers fields w) (is_in_order fields w)
fields_fault w = elim (cases_Bool (is_dash w)) [
  | inl dash ↦ (let is : w ≡ codes "-" = (bytes_eq-Decides w (codes "-")).0 dash in
      subst (λ w. fault_in (tested Order (ascends nat_lt) (tested Form has_some (list_at (number_from 0) w)))
      ≡ by_tests (has_shape fields w) (has_numbers fields w) (is_in_order fields w)) (sym is) dash_fails)
  | inr other ↦
      let ws = parts 44 w in
      let read : list_at (number_from 0) w ≡ unless_met
      (by_tests (list_all is_digits ws) (list_all (is_number_from 0) ws) (list_all (λ _. true) ws)) (map (digits_value 10) ws) =
      list_said (number_from 0) is_digits (is_number_from 0) (λ _. true) (digits_value 10) (number_said 0) w
      ∙ ap (λ d. cond d (Ok [])
      (unless_met (by_tests (list_all is_digits ws) (list_all (is_number_from 0) ws) (list_all (λ _. true) ws))
      (map (digits_value 10) ws))) other in
      ap (λ r. fault_in (tested Order (ascends nat_lt) (tested Form has_some r))) read
      ∙ ap (λ r. fault_in (tested Order (ascends nat_lt) r))
      (passes (by_tests (list_all is_digits ws) (list_all (is_number_from 0) ws) (list_all (λ _. true) ws)) (map (digits_value 10) ws)
      (some_parts (digits_value 10) ws (parts_some 44 w)))
      ∙ ap fault_in (order_tested (ascends nat_lt) (list_all is_digits ws) (list_all (is_number_from 0) ws) (list_all (λ _. true) ws)
      (map (digits_value 10) ws))
      ∙ fault_unless _ (map (digits_value 10) ws)
      ∙ ap (λ t. by_tests (list_all is_digits ws) (list_all (is_number_from 0) ws) (t && ascends nat_lt (map (digits_value 10) ws)))
      (all_true ws)
]
  where
    all_true : (ws : List (List ℕ)) → list_all (λ _. true) ws ≡ true
    all_true [] = refl
    all_true (w ∷ ws) = all_true ws

-- parts that ascend, where it is known of each by which tests it is read
module _ {A : Type 0} (read : List ℕ → Result A LineFault) (s n o : List ℕ → Bool) (value : List ℕ → A) (said : (w : List ℕ)
    → read w ≡ unless_met (by_tests (s w) (n w) (o w)) (value w)) (before : A → A → Bool) where
  ascending_fault : (w : List ℕ) → let ws = parts 44 w in
      fault_in (tested Order (ascends before) (list_at read w))
      ≡ by_tests (is_dash w || list_all s ws) (is_dash w || list_all n ws) (is_dash w || (list_all o ws && ascends before (map value ws)))
  ascending_fault w =
      let ws = parts 44 w in
      ap (λ r. fault_in (tested Order (ascends before) r)) (list_said read s n o value said w
      ∙ dash_or (is_dash w) (list_all s ws) (list_all n ws) (list_all o ws) (map value ws) [])
      ∙ ap fault_in (order_tested (ascends before) (is_dash w || list_all s ws) (is_dash w || list_all n ws) (is_dash w || list_all o ws)
      (cond (is_dash w) [] (map value ws)))
      ∙ fault_unless _ (cond (is_dash w) [] (map value ws))
      ∙ ap (by_tests (is_dash w || list_all s ws) (is_dash w || list_all n ws)) (dash_ordered (is_dash w) (list_all o ws) (map value ws))
    where
      dash_ordered : (dash o : Bool) (xs : List A)
          → (dash || o) && ascends before (cond dash [] xs) ≡ dash || (o && ascends before xs)
      dash_ordered true o xs = refl
      dash_ordered false o xs = refl

extent_fault : (w : List ℕ) → fault_in (extent_at w) ≡ by_tests (has_shape extent w) (has_numbers extent w) (is_in_order extent w)
unfolding extent_at
extent_fault w = by_colon (has_colon w)
  where
    by_colon : (t : Bool) → let ws = parts 44 w in
        fault_in (cond t (map_ok (λ qs. Plane qs) (tested Order (ascends quad_before) (list_at (quad_from 0) w)))
        (map_ok (λ ps. Runs ps) (tested Order (ascends span_before) (list_at (span_from 0) w))))
        ≡ by_tests (is_dash w || list_all (is_part_shaped t) ws) (is_dash w || list_all (has_part_numbers t) ws)
        (is_dash w || (list_all (is_part_upward t) ws && do_parts_ascend t ws))
    by_colon true = mapped_fault (λ qs. Plane qs) _
        ∙ ascending_fault (quad_from 0) (is_part_shaped true) (has_part_numbers true) (is_part_upward true) (λ v. quad_among (parts 58 v))
        quad_from_said quad_before w
    by_colon false = mapped_fault (λ ps. Runs ps) _
        ∙ ascending_fault (span_from 0) (is_part_shaped false) (has_part_numbers false) (is_part_upward false) (λ v. span_of (parts 45 v))
        span_from_said span_before w

waits_fault : (w : List ℕ) → fault_in (list_at (number_from 1) w) ≡ by_tests (has_shape waits w) (has_numbers waits w) (is_in_order waits w)
waits_fault w =
    let ws = parts 44 w in
    ap fault_in (list_said (number_from 1) is_digits (is_number_from 1) (λ _. true) (digits_value 10) (number_said 1) w
    ∙ dash_or (is_dash w) (list_all is_digits ws) (list_all (is_number_from 1) ws) (list_all (λ _. true) ws)
    (map (digits_value 10) ws) [])
    ∙ fault_unless _ (cond (is_dash w) [] (map (digits_value 10) ws))
    ∙ ap (by_tests (is_dash w || list_all is_digits ws) (is_dash w || list_all (is_number_from 1) ws)) (all_true (is_dash w) ws)
  where
    all_true : (dash : Bool) (ws : List (List ℕ)) → dash || list_all (λ _. true) ws ≡ true
    all_true true ws = refl
    all_true false [] = refl
    all_true false (w ∷ ws) = all_true false ws

class_fault : (c : Class) (w : List ℕ) → fault_in (meaning_at c w) ≡ by_tests (has_shape c w) (has_numbers c w) (is_in_order c w)
unfolding meaning_at
class_fault (number least) w = ap fault_in (number_said least w) ∙ fault_unless _ (digits_value 10 w)
class_fault extent w = extent_fault w
class_fault fields w = fields_fault w
class_fault waits w = waits_fault w
class_fault split w = text_fault split_word (true ∷ false ∷ []) w (Err Form) ∙ one_of (has_shape split w)
class_fault coherence w = text_fault coherence_word (true ∷ false ∷ []) w (Err Form) ∙ one_of (has_shape coherence w)
class_fault access w =
    text_fault access_word (privileges.Ro ∷ privileges.Rw ∷ privileges.Wd ∷ []) w (map_ok (λ op. privileges.Red op) (operator_at w))
    ∙ ap (cond (is_plain_access w) None) (mapped_fault (λ op. privileges.Red op) (operator_at w) ∙ operator_fault w)
    ∙ one_or (is_plain_access w) (is_operator w) (is_number_from 1 (drop 4 w))
class_fault layout w =
    text_fault layout_word (instances.Plain ∷ instances.Home ∷ []) w (map_ok (λ op. instances.Red op) (operator_at w))
    ∙ ap (cond (is_plain_layout w) None) (mapped_fault (λ op. instances.Red op) (operator_at w) ∙ operator_fault w)
    ∙ one_or (is_plain_layout w) (is_operator w) (is_number_from 1 (drop 4 w))

-- ---- rows

kept_fault : {A : Type 0} (met : Option LineFault) (r : Result A LineFault) (other : A) → (kept met r other).1 ≡ with_met met (fault_in r)
kept_fault met (Ok x) other = refl
kept_fault met (Err f) other = refl

ids_fault : (ws : List (List ℕ)) → fault_in (ids_at ws)
    ≡ by_tests (has_some ws && list_all is_digits ws) (list_all (is_number_from 1) ws) true
ids_fault [] = refl
ids_fault (w ∷ ws) =
    ap (λ r. fault_in (tested Form has_some r)) (each_said (number_from 1) is_digits (is_number_from 1) (λ _. true) (digits_value 10)
    (number_said 1) true true true [] [] (λ _. refl) (w ∷ ws))
    ∙ ap fault_in (passes (by_tests (list_all is_digits (w ∷ ws)) (list_all (is_number_from 1) (w ∷ ws)) (list_all (λ _. true) (w ∷ ws)))
    (map (digits_value 10) (w ∷ ws)) refl)
    ∙ fault_unless _ (map (digits_value 10) (w ∷ ws))
    ∙ ap (by_tests (list_all is_digits (w ∷ ws)) (list_all (is_number_from 1) (w ∷ ws))) (all_true (w ∷ ws))
  where
    all_true : (ws : List (List ℕ)) → list_all (λ _. true) ws ≡ true
    all_true [] = refl
    all_true (w ∷ ws) = all_true ws

no_word : (c : Class) → fault_in (meaning_at c []) ≡ Some Form
unfolding meaning_at extent_at list_at span_from number_from operator_at
no_word extent = refl
no_word c = refl

-- The fault at the end of a row, where that so far goes by three tests.
row_fault : (r : Row) (ws : List (List ℕ)) (a b c : Bool) → let out = read_row r (record { words = ws; met = by_tests a b c }) in
    met_at_end out.1.words out.1.met ≡ by_tests (a && have_shape r ws) (b && have_numbers r ws) (c && are_in_order r ws)
unfolding read_word read_ids
row_fault no_more [] a b c = rw (and_true a, and_true b, and_true c) refl
row_fault no_more (w ∷ ws) a b c = joined a b c false true true
row_fault some_ids ws a b c =
    kept_fault (by_tests a b c) (ids_at ws) [] ∙ ap (with_met (by_tests a b c)) (ids_fault ws)
    ∙ joined a b c (has_some ws && list_all is_digits ws) (list_all (is_number_from 1) ws) true
row_fault (k & r) [] a b c =
    let met = kept_fault (by_tests a b c) (meaning_at k []) (about k).stand_in ∙ ap (with_met (by_tests a b c)) (no_word k)
    ∙ joined a b c false true true in
    ap (λ m. let out = read_row r (record { words = []; met = m }) in met_at_end out.1.words out.1.met) met
    ∙ row_fault r [] (a && false) (b && true) (c && true) ∙ still_form a (have_shape r []) _ _ _ _
  where
    still_form : (a s n o m p : Bool) → by_tests ((a && false) && s) n o ≡ by_tests (a && false) m p
    still_form true s n o m p = refl
    still_form false s n o m p = refl
row_fault (k & r) (w ∷ ws) a b c =
    let met = kept_fault (by_tests a b c) (meaning_at k w) (about k).stand_in ∙ ap (with_met (by_tests a b c)) (class_fault k w)
    ∙ joined a b c (has_shape k w) (has_numbers k w) (is_in_order k w) in
    ap (λ m. let out = read_row r (record { words = ws; met = m }) in met_at_end out.1.words out.1.met) met
    ∙ row_fault r ws (a && has_shape k w) (b && has_numbers k w) (c && is_in_order k w)
    ∙ rw (
      and_assoc a (has_shape k w) (have_shape r ws),
      and_assoc b (has_numbers k w) (have_numbers r ws),
      and_assoc c (is_in_order k w) (are_in_order r ws),
    ) refl

-- ---- lines

never_word : (a b c : Bool) → by_tests a b c ≡ Some Word → ⊥
never_word false b c e = absurd cc
never_word true false c e = absurd cc
never_word true true false e = absurd cc
never_word true true true e = absurd (none-some Word e)

tests_form : (a b c : Bool) → (by_tests a b c ≡ Some Form) ↔ (a ≡ false)
tests_form false b c = (λ e. refl, λ e. refl)
tests_form true false c = (λ e. absurd cc, λ e. absurd (true≢false e))
tests_form true true false = (λ e. absurd cc, λ e. absurd (true≢false e))
tests_form true true true = (λ e. absurd (none-some Form e), λ e. absurd (true≢false e))

tests_number_fault : (a b c : Bool) → (by_tests a b c ≡ Some Number) ↔ ((a ≡ true) × (b ≡ false))
tests_number_fault false b c = (λ e. absurd cc, λ e. absurd (true≢false (sym e.0)))
tests_number_fault true false c = (λ e. (refl, refl), λ e. refl)
tests_number_fault true true false = (λ e. absurd cc, λ e. absurd (true≢false e.1))
tests_number_fault true true true = (λ e. absurd (none-some Number e), λ e. absurd (true≢false e.1))

tests_order : (a b c : Bool) → (by_tests a b c ≡ Some Order) ↔ ((a ≡ true) × (b ≡ true) × (c ≡ false))
tests_order false b c = (λ e. absurd cc, λ e. absurd (true≢false (sym e.0)))
tests_order true false c = (λ e. absurd cc, λ e. absurd (true≢false (sym e.1)))
tests_order true true false = (λ e. (refl, refl, refl), λ e. refl)
tests_order true true true = (λ e. absurd (none-some Order e), λ e. absurd (true≢false e.2))

fails_so : {A : Type 0} (r : Result A LineFault) (f : LineFault) → fault_in r ≡ Some f → r ≡ Err f
fails_so (Ok x) f e = absurd (none-some f e)
fails_so (Err g) f e = ap Err (same_Some g f e)

only_word : {A : Type 0} (spell : A → List ℕ) (xs : List A) (w : List ℕ) (f : LineFault) → text_at spell xs w (Err Word) ≡ Err f → f ≡ Word
only_word spell [] w f e = sym (same_Some Word f (ap fault_in e))
only_word spell (x ∷ xs) w f e = by (bytes_eq w (spell x)) (text_at spell xs w (Err Word)) (only_word spell xs w f) e
  where
    by : (t : Bool) (rest : Result _ LineFault) → (rest ≡ Err f → f ≡ Word) → cond t (Ok x) rest ≡ Err f → f ≡ Word
    by true rest later e = absurd (none-some f (ap fault_in e))
    by false rest later e = later e

module _ {K R : Type 0} (g : Grammar K R) (table : IsTable K R g) (line : List ℕ) (kept : is_passed_over line ≡ false) where
  -- The first word names a kind, or none.
  kind_or_none : ((k : K) × NamesIn g line k) ⊎ (kind_in g (next_word (parts 32 line)) ≡ Err Word)
  unfolding kind_in
  kind_or_none = by (kind_in g (next_word (parts 32 line))) refl
    where
      by : (o : Result K LineFault) → kind_in g (next_word (parts 32 line)) ≡ o → ((k : K) × NamesIn g line k)
          ⊎ (kind_in g (next_word (parts 32 line)) ≡ Err Word)
      by (Ok k) is = inl (k, named_so g _ k is)
      by (Err f) is = inr (is ∙ ap Err (only_word (λ k. (g.entry k).name) g.kinds (next_word (parts 32 line)) f is))

  line_is : line_in g line ≡ map_ok (λ r. Some r) (named_record g (kind_in g (next_word (parts 32 line))) (words_after line))
  unfolding line_in record_in
  line_is = rw kept refl

  unnamed : kind_in g (next_word (parts 32 line)) ≡ Err Word → line_in g line ≡ Err Word
  unnamed none = line_is ∙ ap (λ o. map_ok (λ r. Some r) (named_record g o (words_after line))) none

  line_fault : (k : K) → NamesIn g line k → let r = (g.entry k).row in
      fault_in (line_in g line) ≡ by_tests (have_shape r (words_after line)) (have_numbers r (words_after line))
      (are_in_order r (words_after line))
  unfolding read_record
  line_fault k names =
      let r = (g.entry k).row in
      let out = read_row r (record { words = words_after line; met = None }) in
      ap fault_in (line_is ∙ ap (λ o. map_ok (λ r. Some r) (named_record g o (words_after line))) (ap (kind_in g) names
      ∙ (table.in_table k).named))
      ∙ mapped_fault (λ r. Some r) (named_record g (Ok k) (words_after line)) ∙ fault_unless (met_at_end out.1.words out.1.met) _
      ∙ row_fault r (words_after line) true true true

  -- With a fault other than that of its first word, the line has a kind.
  kind_of_fault : (f : LineFault) → (Word ≡ f → ⊥) → line_in g line ≡ Err f → (k : K) × NamesIn g line k
  kind_of_fault f other e = elim kind_or_none [
    | inl named ↦ named
    | inr none ↦ absurd (other (same_Some Word f (ap fault_in (sym (unnamed none) ∙ e))))
  ]

  pub word_faults : (line_in g line ≡ Err Word) ↔ NamesNone g line
  word_faults = (
    λ e k names. never_word _ _ _ (sym (line_fault k names) ∙ ap fault_in e),
    λ none. elim kind_or_none [ inl named ↦ absurd (none named.0 named.1) | inr unknown ↦ unnamed unknown ],
  )

  pub form_faults : (line_in g line ≡ Err Form) ↔ LacksShape g line
  form_faults = (
    λ e. let k = kind_of_fault Form (λ e. absurd cc) e in (k.0, k.1, (tests_form _ _ _).0 (sym (line_fault k.0 k.1) ∙ ap fault_in e)),
    λ k. fails_so (line_in g line) Form (line_fault k.0 k.1 ∙ (tests_form _ _ _).1 k.2),
  )

  pub number_faults : (line_in g line ≡ Err Number) ↔ LacksNumbers g line
  number_faults = (
    λ e. let k = kind_of_fault Number (λ e. absurd cc) e in let t =
        (tests_number_fault _ _ _).0 (sym (line_fault k.0 k.1) ∙ ap fault_in e) in (k.0, k.1, t.0, t.1),
    λ k. fails_so (line_in g line) Number (line_fault k.0 k.1 ∙ (tests_number_fault _ _ _).1 (k.2, k.3)),
  )

  pub order_faults : (line_in g line ≡ Err Order) ↔ LacksOrder g line
  order_faults = (
    λ e. let k = kind_of_fault Order (λ e. absurd cc) e in let t = (tests_order _ _ _).0 (sym (line_fault k.0 k.1) ∙ ap fault_in e) in
        (k.0, k.1, t.0, t.1, t.2),
    λ k. fails_so (line_in g line) Order (line_fault k.0 k.1 ∙ (tests_order _ _ _).1 (k.2, k.3, k.4)),
  )
