-- What is read of the text of a value is that value.
use Rattle.std.proofs.Common.{◌≡◌, ◌≢◌, ℕ, ◌+◌, ◌<◌, ◌≤◌, ◌^◌, ◌⊎◌, inl, inr, eqb, Bool, not, true, false, List, [], ◌∷◌, ◌++◌, map, codes, refl, ap, ◌∙◌, arith, append_assoc, append-nil}
use Rattle.std.specs.Prelude.{decimal}
use Rattle.std.specs.Char.{digit_value}
use Rattle.std.specs.List.{AllByRecursion, list_all}
use Rattle.std.specs.Str.Parse.{AllDigits}
use Rattle.std.proofs.lemmas.Bool.{eq-eqb, ne_eqb, not-true}
use Rattle.std.proofs.lemmas.Bool.Decides.{nat_tests}
use Rattle.std.proofs.lemmas.Fmt.{digits_decimal}
use Rattle.std.proofs.lemmas.List.Elements.{All-from_recursion}
use Rattle.std.proofs.lemmas.List.Splits.{slice_split_none, slice_split_at}
use Rattle.spy_words.specs.Classes.{follow}
use Rattle.spy_words.specs.Reading.{parts}
use Rattle.value_terms.specs.declared.bag.Group.{Group}
use Rattle.value_terms.specs.declared.terms.Base.{Base}
use Rattle.value_terms.specs.declared.terms.Base.TheVariants.{Raw, Init, Ident, Const, Out}
use Rattle.value_terms.specs.declared.terms.Contribution.{Contribution}
use Rattle.value_terms.specs.Values as values
use Rattle.value_terms.specs.Values.{Bag, Value, plain, add, total, weight_of, weight_in, CountsEach, IsWellFormedBag, IsSmallBase, IsSmallEntry, IsSmallGroup, IsHeld}
use Rattle.findings.specs.ValueTexts.{base_text, bag_text, entry_text, group_text, value_text}
use Rattle.value_terms.proofs.lemmas.Sums.{bag_sums, value_sums, weight_added}
use Rattle.report_reading.specs.ValueReading.{base_at, entry_at, has_room, with_entry, with_entries, with_group, with_groups, value_at}
use Rattle.report_reading.proofs.NumberLaws.{own, digit_is, small_again, large_again}

-- ---- the bytes of a value's text

-- Each byte of a text is of a kind.
abbrev AllBytes : (ℕ → Type 0) → List ℕ → Type 0
AllBytes P w = AllByRecursion P w

all-append : (P : ℕ → Type 0) (v w : List ℕ) → AllBytes P v → AllBytes P w → AllBytes P (v ++ w)
all-append P [] w p q = q
all-append P (b ∷ v) w p q = (p.0, all-append P v w p.1 q)

-- Every digit is of the kind.
abbrev HasDigits : (ℕ → Type 0) → Type 0
HasDigits P = (b : ℕ) → digit_value b < 10 → P b

digits_all : (P : ℕ → Type 0) → HasDigits P → (w : List ℕ) → AllDigits 10 w → AllBytes P w
digits_all P digit [] all = tt
digits_all P digit (b ∷ w) all = (digit b all.0, digits_all P digit w all.1)

decimal_all : (P : ℕ → Type 0) → HasDigits P → (n : ℕ) → n < 2 ^ 64 → AllBytes P (decimal n)
decimal_all P digit n lt = digits_all P digit (decimal n) (digits_decimal own n lt)

entry_all : (P : ℕ → Type 0) → HasDigits P → P 46 → P 42 → (e : Contribution × ℕ) → IsSmallEntry e → e.1 < 2 ^ 64
    → AllBytes P (entry_text e)
entry_all P digit dot star e small lt =
    all-append P (decimal e.0.task ++ 46 ∷ decimal e.0.req) (42 ∷ decimal e.1)
    (all-append P (decimal e.0.task) (46 ∷ decimal e.0.req) (decimal_all P digit e.0.task (omega (arith, small.0))) (
      dot,
      decimal_all P digit e.0.req (omega (arith, small.1)),
    ))
    (star, decimal_all P digit e.1 lt)

entries_all : (P : ℕ → Type 0) → HasDigits P → P 46 → P 42 → (bag : Bag) → AllByRecursion IsSmallEntry bag → total bag < 2 ^ 64
    → AllByRecursion (AllBytes P) (map entry_text bag)
entries_all P digit dot star [] small lt = tt
entries_all P digit dot star (e ∷ bag) small lt =
    (entry_all P digit dot star e small.0 (omega arith), entries_all P digit dot star bag small.1 (omega arith))

follow_all : (P : ℕ → Type 0) (c : ℕ) → P c → (ws : List (List ℕ)) → AllByRecursion (AllBytes P) ws → AllBytes P (follow c ws)
follow_all P c at [] all = tt
follow_all P c at (w ∷ ws) all = (at, all-append P w (follow c ws) all.0 (follow_all P c at ws all.1))

bag_all : (P : ℕ → Type 0) → HasDigits P → P 46 → P 42 → P 44 → (bag : Bag) → AllByRecursion IsSmallEntry bag → total bag < 2 ^ 64
    → AllBytes P (bag_text bag)
bag_all P digit dot star comma [] small lt = tt
bag_all P digit dot star comma (e ∷ bag) small lt =
    let all = entries_all P digit dot star (e ∷ bag) small lt in
    all-append P (entry_text e) (follow 44 (map entry_text bag)) all.0 (follow_all P 44 comma (map entry_text bag) all.1)

group_all : (P : ℕ → Type 0) → HasDigits P → P 46 → P 42 → P 44 → P 91 → P 93 → (g : Group) → IsSmallGroup g → total g.bag < 2 ^ 64
    → AllBytes P (group_text g)
group_all P digit dot star comma opening closing g small lt =
    let bag = bag_all P digit dot star comma g.bag small.1 lt in
    all-append P (decimal g.op ++ 91 ∷ bag_text g.bag) (93 ∷ [])
    (all-append P (decimal g.op) (91 ∷ bag_text g.bag) (decimal_all P digit g.op (omega (arith, small.0))) (opening, bag))
    (closing, tt)

groups_all : (P : ℕ → Type 0) → HasDigits P → P 46 → P 42 → P 44 → P 91 → P 93 → (groups : List Group) → AllByRecursion IsSmallGroup groups
    → weight_in groups < 2 ^ 64 → AllByRecursion (AllBytes P) (map group_text groups)
groups_all P digit dot star comma opening closing [] small lt = tt
groups_all P digit dot star comma opening closing (g ∷ groups) small lt = (
  group_all P digit dot star comma opening closing g small.0 (omega arith),
  groups_all P digit dot star comma opening closing groups small.1 (omega arith),
)

-- Every byte of the names of bases is of the kind.
pub record HasNames (P : ℕ → Type 0) : Type 0 where
  pub raw : AllBytes P (codes "raw")
  pub init : AllBytes P (codes "init")
  pub ident : AllBytes P (codes "ident")
  pub const : AllBytes P (codes "const:")
  pub out : AllBytes P (codes "out:")

base_all : (P : ℕ → Type 0) → HasDigits P → HasNames P → (b : Base) → IsSmallBase b → AllBytes P (base_text b)
base_all P digit names Raw small = names.raw
base_all P digit names Init small = names.init
base_all P digit names Ident small = names.ident
base_all P digit names (Const n) small = all-append P (codes "const:") (decimal n) names.const
    (decimal_all P digit n (omega (arith, small)))
base_all P digit names (Out t) small = all-append P (codes "out:") (decimal t) names.out (decimal_all P digit t (omega (arith, small)))

-- The bytes of a value's text are digits, dots, stars, commas, brackets, plus signs and those of the names of bases.
pub value_all : (P : ℕ → Type 0) → HasDigits P → HasNames P → P 46 → P 42 → P 44 → P 91 → P 93 → P 43 → (v : Value) → IsHeld v
    → AllBytes P (value_text v)
unfolding value_text
value_all P digit names dot star comma opening closing plus v held =
    all-append P (base_text v.base) (follow 43 (map group_text v.groups)) (base_all P digit names v.base held.small_base)
    (follow_all P 43 plus (map group_text v.groups)
    (groups_all P digit dot star comma opening closing v.groups held.small_groups held.weight))

-- What a test tells of each byte of a fixed text.
pub all_by_test : (P : ℕ → Type 0) (p : ℕ → Bool) → ((b : ℕ) → p b ≡ true → P b) → (w : List ℕ) → list_all p w ≡ true → AllBytes P w
all_by_test P p tells [] e = tt
all_by_test P p tells (b ∷ w) e =
    let rest : list_all p w ≡ true = grind (arith, nat_tests) in
    (tells b (grind (arith, nat_tests)), all_by_test P p tells w rest)

-- ---- texts, cut at a byte

-- A text has no such byte.
abbrev Lacks : ℕ → List ℕ → Type 0
Lacks c w = AllBytes (λ b. eqb b c ≡ false) w

lacks_by_test : (c : ℕ) (w : List ℕ) → list_all (λ b. not (eqb b c)) w ≡ true → Lacks c w
lacks_by_test c w e = all_by_test (λ b. eqb b c ≡ false) (λ b. not (eqb b c)) (λ b h. not-true (eqb b c) h) w e

digit_differs : (c : ℕ) → (c < 48) ⊎ (57 < c) → HasDigits (λ b. eqb b c ≡ false)
digit_differs c (inl lt) b digit = ne_eqb b c (λ e. let d = digit_is b digit in absurd (omega arith))
digit_differs c (inr lt) b digit = ne_eqb b c (λ e. let d = digit_is b digit in absurd (omega arith))

digit_not_in : (c : ℕ) → (c < 48) ⊎ (57 < c) → (n : ℕ) → n < 2 ^ 64 → Lacks c (decimal n)
digit_not_in c other n lt = decimal_all (λ b. eqb b c ≡ false) (digit_differs c other) n lt

cut_none : (c : ℕ) (w : List ℕ) → Lacks c w → parts c w ≡ w ∷ []
cut_none c w lacks = slice_split_none (λ b. eqb b c) w (All-from_recursion _ w lacks)

cut_at : (c : ℕ) (w rest : List ℕ) → Lacks c w → parts c (w ++ c ∷ rest) ≡ w ∷ parts c rest
cut_at c w rest lacks = slice_split_at (λ b. eqb b c) w c rest (All-from_recursion _ w lacks) (eq-eqb c c refl)

cut_follow : (c : ℕ) (w : List ℕ) (ws : List (List ℕ)) → Lacks c w → AllByRecursion (Lacks c) ws → parts c (w ++ follow c ws) ≡ w ∷ ws
cut_follow c w [] lacks all = ap (parts c) (append-nil w) ∙ cut_none c w lacks
cut_follow c w (v ∷ ws) lacks all = cut_at c w (v ++ follow c ws) lacks
    ∙ ap (λ (xs : List (List ℕ)). w ∷ xs) (cut_follow c v ws all.0 all.1)

-- ---- each part says what it was written of

base_again : (b : Base) → IsSmallBase b → base_at (base_text b) ≡ b
unfolding base_at
base_again Raw small = refl
base_again Init small = refl
base_again Ident small = refl
base_again (Const n) small = rw (
  cut_at 58 (codes "const") (decimal n) (lacks_by_test 58 (codes "const") refl),
  cut_none 58 (decimal n) (digit_not_in 58 (inr (omega arith)) n (omega (arith, small))),
  small_again n small,
) refl
base_again (Out t) small = rw (
  cut_at 58 (codes "out") (decimal t) (lacks_by_test 58 (codes "out") refl),
  cut_none 58 (decimal t) (digit_not_in 58 (inr (omega arith)) t (omega (arith, small))),
  small_again t small,
) refl

entry_again : (e : Contribution × ℕ) → IsSmallEntry e → e.1 < 2 ^ 64 → entry_at (entry_text e) ≡ e
unfolding entry_at
entry_again e small lt =
    let behind = decimal e.0.req ++ 42 ∷ decimal e.1 in
    let whole : entry_text e ≡ decimal e.0.task ++ 46 ∷ behind =
    append_assoc (decimal e.0.task) (46 ∷ decimal e.0.req) (42 ∷ decimal e.1) in
    let lacks : Lacks 46 behind = all-append _ (decimal e.0.req) (42 ∷ decimal e.1)
    (digit_not_in 46 (inl (omega arith)) e.0.req (omega (arith, small.1))) (refl, digit_not_in 46 (inl (omega arith)) e.1 lt) in
    let halves : parts 46 (entry_text e) ≡ decimal e.0.task ∷ behind ∷ [] =
    ap (parts 46) whole ∙ cut_at 46 (decimal e.0.task) behind (digit_not_in 46 (inl (omega arith)) e.0.task (omega (arith, small.0)))
    ∙ ap (λ (xs : List (List ℕ)). decimal e.0.task ∷ xs) (cut_none 46 behind lacks) in
    let numbers : parts 42 behind ≡ decimal e.0.req ∷ decimal e.1 ∷ [] =
    cut_at 42 (decimal e.0.req) (decimal e.1) (digit_not_in 42 (inl (omega arith)) e.0.req (omega (arith, small.1)))
    ∙ ap (λ (xs : List (List ℕ)). decimal e.0.req ∷ xs) (cut_none 42 (decimal e.1) (digit_not_in 42 (inl (omega arith)) e.1 lt)) in
    rw (halves, numbers, small_again e.0.task small.0, small_again e.0.req small.1, large_again e.1 lt) refl

taken : (op : ℕ) (e : Contribution × ℕ) (v : Value) → 1 ≤ e.1 → weight_of v + e.1 < 2 ^ 64 → with_entry op e v ≡ add op (e ∷ []) v
taken op e v some fits = let room : has_room v e.1 ≡ true = grind (arith, nat_tests) in rw room refl

entries_again : (op : ℕ) (bag : Bag) (v : Value) → AllByRecursion IsSmallEntry bag → CountsEach bag → weight_of v + total bag < 2 ^ 64
    → with_entries op (map entry_text bag) v ≡ values.with_bag op bag v
entries_again op [] v small counts fits = refl
entries_again op (e ∷ bag) v small counts fits =
    let weighs = weight_added op (e ∷ []) v in
    let first : with_entry op (entry_at (entry_text e)) v ≡ add op (e ∷ []) v =
    ap (λ (f : Contribution × ℕ). with_entry op f v) (entry_again e small.0 (omega arith)) ∙ taken op e v counts.0 (omega arith) in
    ap (with_entries op (map entry_text bag)) first ∙ entries_again op bag (add op (e ∷ []) v) small.1 counts.1 (omega arith)

group_again : (g : Group) (v : Value) → IsSmallGroup g → g.bag ≢ [] → CountsEach g.bag → weight_of v + total g.bag < 2 ^ 64
    → with_group (group_text g) v ≡ values.with_bag g.op g.bag v
unfolding with_group
group_again g v small some counts fits =
    let bag = bag_text g.bag in
    let whole : group_text g ≡ decimal g.op ++ 91 ∷ (bag ++ 93 ∷ []) = append_assoc (decimal g.op) (91 ∷ bag) (93 ∷ []) in
    let not_open : Lacks 91 bag = bag_all _ (digit_differs 91 (inr (omega arith))) refl refl refl g.bag small.1 (omega arith) in
    let not_closed : Lacks 93 bag = bag_all _ (digit_differs 93 (inr (omega arith))) refl refl refl g.bag small.1 (omega arith) in
    let lacks : Lacks 91 (bag ++ 93 ∷ []) = all-append _ bag (93 ∷ []) not_open (refl, tt) in
    let halves : parts 91 (group_text g) ≡ decimal g.op ∷ (bag ++ 93 ∷ []) ∷ [] =
    ap (parts 91) whole ∙ cut_at 91 (decimal g.op) (bag ++ 93 ∷ []) (digit_not_in 91 (inr (omega arith)) g.op (omega (arith, small.0)))
    ∙ ap (λ (xs : List (List ℕ)). decimal g.op ∷ xs) (cut_none 91 (bag ++ 93 ∷ []) lacks) in
    let inside : parts 93 (bag ++ 93 ∷ []) ≡ bag ∷ [] ∷ [] = cut_at 93 bag [] not_closed in
    rw (
      halves,
      inside,
      bag_parted g.bag some (entries_all _ (digit_differs 44 (inl (omega arith))) refl refl g.bag small.1 (omega arith)),
      small_again g.op small.0,
    ) (entries_again g.op g.bag v small.1 counts fits)
  where
    bag_parted : (bag : Bag) → bag ≢ [] → AllByRecursion (Lacks 44) (map entry_text bag) → parts 44 (bag_text bag) ≡ map entry_text bag
    bag_parted [] some all = absurd (some refl)
    bag_parted (e ∷ bag) some all = cut_follow 44 (entry_text e) (map entry_text bag) all.0 all.1

groups_again : (groups : List Group) (v : Value) → AllByRecursion IsSmallGroup groups → AllByRecursion (λ g. g.bag ≢ []) groups
    → AllByRecursion (λ g. IsWellFormedBag g.bag) groups → weight_of v + weight_in groups < 2 ^ 64
    → with_groups (map group_text groups) v ≡ values.with_groups groups v
groups_again [] v small some bags fits = refl
groups_again (g ∷ groups) v small some bags fits =
    let weighs = weight_added g.op g.bag v in
    let added = ap weight_of (bag_sums g.op g.bag v) in
    ap (with_groups (map group_text groups)) (group_again g v small.0 some.0 bags.0.counts (omega arith))
    ∙ groups_again groups (values.with_bag g.op g.bag v) small.1 some.1 bags.1 (omega arith)

-- What is read of the text of a value is that value.
pub value_again : (v : Value) → IsHeld v → value_at (value_text v) ≡ v
unfolding value_at value_text
value_again v held =
    let base : Lacks 43 (base_text v.base) = base_all _ (digit_differs 43 (inl (omega arith))) no_plus v.base held.small_base in
    let groups : AllByRecursion (Lacks 43) (map group_text v.groups) =
    groups_all _ (digit_differs 43 (inl (omega arith))) refl refl refl refl refl v.groups held.small_groups held.weight in
    rw (cut_follow 43 (base_text v.base) (map group_text v.groups) base groups, base_again v.base held.small_base)
    (groups_again v.groups (plain v.base) held.small_groups held.well_formed.no_bag_is_empty held.well_formed.bags
    (omega (arith, held.weight)) ∙ value_sums v held.well_formed)
  where
    no_plus : HasNames (λ b. eqb b 43 ≡ false)
    no_plus = record {
      raw = lacks_by_test 43 (codes "raw") refl;
      init = lacks_by_test 43 (codes "init") refl;
      ident =
          lacks_by_test 43 (codes "ident") refl;
      const = lacks_by_test 43 (codes "const:") refl;
      out = lacks_by_test 43 (codes "out:") refl;
    }
