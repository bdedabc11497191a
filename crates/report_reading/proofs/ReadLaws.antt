-- What is read of the text of a report is that report.
use Rattle.std.proofs.Common.{◌≡◌, ℕ, ◌-◌, ◌<◌, ◌≤◌, ltb, eqb, Bool, true, false, cond, List, [], ◌∷◌, ◌++◌, map, length, take, get_or, codes, refl, sym, ap, ap₂, ◌∙◌, arith, append-nil, length-append}
use Rattle.std.specs.Prelude.{◌&&◌, ◌==◌, drop, decimal}
use Rattle.std.specs.List.{AllByRecursion, list_all}
use Rattle.std.specs.Str.{bytes_eq}
use Rattle.std.specs.Str.Parse.{AllDigits}
use Rattle.std.proofs.lemmas.Bool.{false≢true, eqb-true, ne_eqb}
use Rattle.std.proofs.lemmas.Bool.Decides.{nat_tests}
use Rattle.std.proofs.lemmas.Fmt.{digits_decimal}
use Rattle.std.proofs.lemmas.List.Elements.{All-from_recursion}
use Rattle.std.proofs.lemmas.List.Splits.{slice_split_none, slice_split_at}
use Rattle.std.proofs.Math.Seq.{take-append_seam}
use Rattle.spy_grammar.specs.declared.code.Code.{Code}
use Rattle.spy_grammar.specs.declared.code.Code.TheVariants.{TooLong}
use Rattle.spy_words.specs.Reading.{parts}
use Rattle.findings.specs.declared.finding.Dep.{Dep}
use Rattle.findings.specs.declared.finding.Finding.{Finding}
use Rattle.findings.specs.declared.finding.Finding.TheVariants.{Accepted, Ordered, Deps, Spare, Nested, Cycle, Race, Unordered, Differ, NoRead, Unlicensed, Why, Fault, Usage, CannotRead}
use Rattle.findings.specs.declared.finding.WhyAsk.{WhyAsk}
use Rattle.findings.specs.declared.finding.WhyKind.{WhyKind}
use Rattle.findings.specs.declared.finding.WhyKind.TheVariants.{Write, Put, Copy, Start}
use Rattle.findings.specs.declared.finding.WhyLink.{WhyLink}
use Rattle.findings.specs.Codes.{code_text}
use Rattle.report_reading.specs.CodeReading.{code_at}
use Rattle.findings.specs.Texts.{Word, says, small, large, names, holds, Line, own_line, listed_lines, dep_line, spare_line, kind_text, event_words, link_line, is_headed, lines_with, lines_of, word_text, row_text, line_text, lines_text, report_text, has_its_event, is_chain, IsInRange, Fits, IsWhole, Good}
use Rattle.report_reading.specs.Numbers.{word_at}
use Rattle.report_reading.specs.Reading as says
use Rattle.report_reading.specs.Reading.{dep_at, spare_at, link_at, events_at, report_at, last_place, report_in, finding_at}
use Rattle.report_reading.proofs.NumberLaws.{own, digit_is, small_again, large_again}
use Rattle.report_reading.proofs.ValueLaws.{HasNames, value_all, value_again}

-- ---- words, which have no space

abbrev Plain : List ℕ → Type 0
Plain w = AllByRecursion (λ b. 32 < b) w

plain_by_test : (w : List ℕ) → list_all (λ b. ltb 32 b) w ≡ true → Plain w
plain_by_test [] e = tt
plain_by_test (b ∷ w) e =
    let rest : list_all (λ b. ltb 32 b) w ≡ true = grind (arith, nat_tests) in
    (grind (arith, nat_tests), plain_by_test w rest)

digits_plain : (w : List ℕ) → AllDigits 10 w → Plain w
digits_plain [] all = tt
digits_plain (b ∷ w) all = (let digit = digit_is b all.0 in omega arith, digits_plain w all.1)

code_plain : (c : Code) → Plain (code_text c)
code_plain TooLong = plain_by_test (code_text TooLong) refl
code_plain c = plain_by_test (code_text c) refl

names_plain : HasNames (λ b. 32 < b)
names_plain = record {
  raw = plain_by_test (codes "raw") refl;
  init = plain_by_test (codes "init") refl;
  ident =
      plain_by_test (codes "ident") refl;
  const = plain_by_test (codes "const:") refl;
  out = plain_by_test (codes "out:") refl;
}

-- no fixed text has a space
is_plain : Word → Bool
is_plain (says w) = list_all (λ b. ltb 32 b) w
is_plain w = true

word_plain : (w : Word) → is_plain w ≡ true → IsInRange w → Plain (word_text w)
unfolding is_plain
word_plain (says w) e fits = plain_by_test w e
word_plain (small n) e fits = digits_plain (decimal n) (digits_decimal own n (omega (arith, fits)))
word_plain (large n) e fits = digits_plain (decimal n) (digits_decimal own n fits)
word_plain (names c) e fits = code_plain c
word_plain (holds v) e fits = value_all (λ b. 32 < b) (λ b digit. let d = digit_is b digit in
    omega arith) names_plain (omega arith) (omega arith) (omega arith) (omega arith) (omega arith) (omega arith) v fits

-- ---- lines, parted into words

-- the name of a line and its other words have no space
abbrev PlainLine : Line → Type 0
PlainLine l = Plain l.name × AllByRecursion Plain (map word_text l.row)

row_plain : (ws : List Word) → list_all is_plain ws ≡ true → AllByRecursion IsInRange ws → AllByRecursion Plain (map word_text ws)
row_plain [] e fits = tt
row_plain (w ∷ ws) e fits =
    let first : is_plain w ≡ true = grind (arith, nat_tests) in
    let rest : list_all is_plain ws ≡ true = grind (arith, nat_tests) in
    (word_plain w first fits.0, row_plain ws rest fits.1)

events_plain : (ns : List ℕ) → list_all is_plain (map small ns) ≡ true
unfolding is_plain
events_plain [] = refl
events_plain (n ∷ ns) = events_plain ns

own_plain : (f : Finding) → Fits (own_line f) → PlainLine (own_line f)
unfolding is_plain
own_plain (Cycle events) fits = (plain_by_test (codes "cycle") refl, row_plain (map small events) (events_plain events) fits)
own_plain (Unlicensed leaf child req group tree point field) fits =
    (plain_by_test (codes "unlicensed") refl, row_plain (own_line (Unlicensed leaf child req group tree point field)).row (row leaf) fits)
  where
    row : (b : Bool) → list_all is_plain (own_line (Unlicensed b child req group tree point field)).row ≡ true
    row true = refl
    row false = refl
own_plain f fits = (plain_by_test (own_line f).name refl, row_plain (own_line f).row refl fits)

dep_plain : (d : Dep) → Fits (dep_line d) → PlainLine (dep_line d)
unfolding is_plain
dep_plain d fits = (name d.before, row_plain (dep_line d).row refl fits)
  where
    name : (b : Bool) → Plain (cond b (codes "before") (codes "turn"))
    name true = plain_by_test (codes "before") refl
    name false = plain_by_test (codes "turn") refl

spare_plain : (w : ℕ × ℕ) → Fits (spare_line w) → PlainLine (spare_line w)
unfolding is_plain
spare_plain w fits = (plain_by_test (codes "spare") refl, row_plain (spare_line w).row refl fits)

link_plain : (l : WhyLink) → Fits (link_line l) → PlainLine (link_line l)
unfolding is_plain
link_plain l fits = (name l.kind, row_plain (link_line l).row (row l.kind) fits)
  where
    name : (k : WhyKind) → Plain (kind_text k)
    name Write = plain_by_test (codes "write") refl
    name Put = plain_by_test (codes "put") refl
    name Copy = plain_by_test (codes "copy") refl
    name Start = plain_by_test (codes "start") refl

    row : (k : WhyKind) → list_all is_plain (event_words k l.done
        (says (codes "inst") ∷ small l.inst ∷ says (codes "adds") ∷ small l.adds ∷ [])) ≡ true
    row Start = refl
    row k = refl

lacks : (c : ℕ) (w : List ℕ) → c ≤ 32 → Plain w → AllByRecursion (λ b. eqb b c ≡ false) w
lacks c [] le plain = tt
lacks c (b ∷ w) le plain = (ne_eqb b c (λ e. absurd (omega (arith, plain.0, e, le))), lacks c w le plain.1)

words_parted : (w : List ℕ) (ws : List Word) → Plain w → AllByRecursion Plain (map word_text ws)
    → parts 32 (w ++ row_text ws) ≡ w ∷ map word_text ws
words_parted w [] plain all = ap (parts 32) (append-nil w)
    ∙ slice_split_none (λ b. eqb b 32) w (All-from_recursion _ w (lacks 32 w (omega arith) plain))
words_parted w (v ∷ vs) plain all =
    slice_split_at (λ b. eqb b 32) w 32 (word_text v ++ row_text vs) (All-from_recursion _ w (lacks 32 w (omega arith) plain)) refl
    ∙ ap (λ (xs : List (List ℕ)). w ∷ xs) (words_parted (word_text v) vs all.0 all.1)

line_parted : (l : Line) → PlainLine l → parts 32 (line_text l) ≡ l.name ∷ map word_text l.row
line_parted l plain = words_parted l.name l.row plain.0 plain.1

-- ---- a text, parted into lines

abbrev OneLine : List ℕ → Type 0
OneLine w = AllByRecursion (λ b. eqb b 10 ≡ false) w

one_line-append : (v w : List ℕ) → OneLine v → OneLine w → OneLine (v ++ w)
one_line-append [] w p q = q
one_line-append (b ∷ v) w p q = (p.0, one_line-append v w p.1 q)

row_one_line : (ws : List Word) → AllByRecursion Plain (map word_text ws) → OneLine (row_text ws)
row_one_line [] all = tt
row_one_line (w ∷ ws) all =
    (refl, one_line-append (word_text w) (row_text ws) (lacks 10 (word_text w) (omega arith) all.0) (row_one_line ws all.1))

one_line : (l : Line) → PlainLine l → OneLine (line_text l)
one_line l plain = one_line-append l.name (row_text l.row) (lacks 10 l.name (omega arith) plain.0) (row_one_line l.row plain.1)

lines_parted : (ls : List Line) → AllByRecursion PlainLine ls → parts 10 (lines_text ls) ≡ map line_text ls ++ [] ∷ []
lines_parted [] all = refl
lines_parted (l ∷ ls) all =
    slice_split_at (λ b. eqb b 10) (line_text l) 10 (lines_text ls) (All-from_recursion _ (line_text l) (one_line l all.0)) refl
    ∙ ap (λ (xs : List (List ℕ)). line_text l ∷ xs) (lines_parted ls all.1)

-- the words of a line
abbrev words_of : Line → List (List ℕ)
words_of l = l.name ∷ map word_text l.row

all_parted : (ls : List Line) → AllByRecursion PlainLine ls → map (parts 32) (map line_text ls) ≡ map words_of ls
all_parted [] all = refl
all_parted (l ∷ ls) all = rw (line_parted l all.0, all_parted ls all.1) refl

-- ---- lines of one kind, which a report lists

lines_plain : {A : Type 0} (line : A → Line) → ((x : A) → Fits (line x) → PlainLine (line x)) → (xs : List A)
    → AllByRecursion Fits (map line xs) → AllByRecursion PlainLine (map line xs)
lines_plain line plain [] fits = tt
lines_plain line plain (x ∷ xs) fits = (plain x fits.0, lines_plain line plain xs fits.1)

lines_again : {A : Type 0} (line : A → Line) (said : List (List ℕ) → A) → ((x : A) → Fits (line x) → said (words_of (line x)) ≡ x)
    → (xs : List A) → AllByRecursion Fits (map line xs)
    → map said (map words_of (map line xs)) ≡ xs
lines_again line said again [] fits = refl
lines_again line said again (x ∷ xs) fits = ap₂ (λ y ys. y ∷ ys) (again x fits.0) (lines_again line said again xs fits.1)

-- ---- each line says what it was written of

dep_again : (d : Dep) → Fits (dep_line d) → dep_at (words_of (dep_line d)) ≡ d
unfolding dep_at
dep_again d fits =
    rw (
      named d.before,
      small_again d.a fits.0,
      small_again d.b fits.1.0,
      small_again d.tree fits.1.1.1.0,
      large_again d.point fits.1.1.1.1.1.0,
      small_again d.field fits.1.1.1.1.1.1.1.0,
    ) refl
  where
    named : (b : Bool) → bytes_eq (cond b (codes "before") (codes "turn")) (codes "before") ≡ b
    named true = refl
    named false = refl

spare_again : (w : ℕ × ℕ) → Fits (spare_line w) → spare_at (words_of (spare_line w)) ≡ w
unfolding spare_at
spare_again w fits = rw (small_again w.0 fits.0, small_again w.1 fits.1.0) refl

link_again : (l : WhyLink) → Fits (link_line l) → has_its_event l ≡ true → link_at (words_of (link_line l)) ≡ l
unfolding link_at
link_again l = again l.kind l.done l.inst l.adds
  where
    again : (kind : WhyKind) (done inst adds : ℕ) → Fits (link_line (record { kind = kind; done = done; inst = inst; adds = adds }))
        → has_its_event (record { kind = kind; done = done; inst = inst; adds = adds }) ≡ true
        → link_at (words_of (link_line (record { kind = kind; done = done; inst = inst; adds = adds }))) ≡ record {
          kind = kind;
          done =
              done;
          inst = inst;
          adds = adds;
        }
    again Start done inst adds fits kept =
        let none : done ≡ 0 = grind (arith, nat_tests) in
        rw (none, small_again inst fits.1.0, small_again adds fits.1.1.1.0) refl
    again kind done inst adds fits kept = rw (small_again done fits.0, small_again inst fits.1.1.0, small_again adds fits.1.1.1.1.0) refl

and_both : {a b : Bool} → (a && b) ≡ true → (a ≡ true) × (b ≡ true)
and_both {a = true} e = (refl, e)
and_both {a = false} e = absurd (false≢true e)

-- each link of a chain has its event
chain_kept : (ls : List WhyLink) → is_chain ls ≡ true → AllByRecursion (λ (l : WhyLink). has_its_event l ≡ true) ls
chain_kept [] chain = tt
chain_kept (l ∷ ls) chain = let both = and_both chain in (both.0, behind l.kind ls (chain_kept ls) both.1)
  where
    behind : (kind : WhyKind) (ls : List WhyLink) → (is_chain ls ≡ true → AllByRecursion (λ (l : WhyLink). has_its_event l ≡ true) ls)
        → (elim kind [
          | Copy ↦ is_chain ls
          | _ ↦ length ls == 0
        ]) ≡ true → AllByRecursion (λ (l : WhyLink). has_its_event l ≡ true) ls
    behind Copy ls later chain = later chain
    behind kind [] later chain = tt
    behind kind (l ∷ ls) later chain = absurd (omega (arith, eqb-true _ _ chain))

links_again : (ls : List WhyLink) → AllByRecursion Fits (map link_line ls) → AllByRecursion (λ (l : WhyLink). has_its_event l ≡ true) ls
    → map link_at (map words_of (map link_line ls)) ≡ ls
links_again [] fits kept = refl
links_again (l ∷ ls) fits kept = ap₂ (λ m ms. m ∷ ms) (link_again l fits.0 kept.0) (links_again ls fits.1 kept.1)

ask_again : (ask : WhyAsk) (ls : List WhyLink) → Fits (own_line (Why ask ls)) → says.ask_at (words_of (own_line (Why ask ls))) ≡ ask
ask_again ask ls fits = rw (
  small_again ask.task fits.1.0,
  small_again ask.req fits.1.1.1.0,
  large_again ask.point fits.1.1.1.1.1.0,
  small_again ask.field fits.1.1.1.1.1.1.1.0,
) refl

code_again : (c : Code) → code_at (code_text c) ≡ c
unfolding code_at
code_again TooLong = refl
code_again c = refl

events_again : (ns : List ℕ) → AllByRecursion IsInRange (map small ns) → events_at (map word_text (map small ns)) ≡ ns
events_again [] fits = refl
events_again (n ∷ ns) fits = rw (small_again n fits.0, events_again ns fits.1) refl

report_again : (f : Finding) → AllByRecursion Fits (listed_lines f) → Fits (own_line f) → IsWhole f
    → report_at (map words_of (listed_lines f)) (words_of (own_line f)) ≡ f
unfolding report_at
report_again (Accepted tasks operations reads) listed fits whole =
    rw (small_again tasks fits.1.0, small_again operations fits.1.1.1.0, large_again reads fits.1.1.1.1.1.0) refl
report_again (Ordered tasks pairs) listed fits whole = rw (small_again tasks fits.1.0, large_again pairs fits.1.1.1.0) refl
report_again (Deps list items before turn) listed fits whole =
    rw (
      lines_again dep_line dep_at dep_again list listed,
      small_again items fits.1.0,
      large_again before fits.1.1.1.0,
      large_again turn fits.1.1.1.1.1.0,
    ) refl
report_again (Spare list waits) listed fits whole =
    rw (lines_again spare_line spare_at spare_again list listed, large_again waits fits.1.1.1.0) refl
report_again (Nested tasks groups free) listed fits whole =
    rw (small_again tasks fits.1.0, small_again groups fits.1.1.1.0, large_again free fits.1.1.1.1.1.0) refl
report_again (Cycle events) listed fits whole = rw (events_again events fits) refl
report_again (Race a b inst point field) listed fits whole =
    rw (
      small_again a fits.0,
      small_again b fits.1.0,
      small_again inst fits.1.1.1.0,
      large_again point fits.1.1.1.1.1.0,
      small_again field fits.1.1.1.1.1.1.1.0,
    ) refl
report_again (Unordered t u tree point field) listed fits whole =
    rw (
      small_again t fits.0,
      small_again u fits.1.0,
      small_again tree fits.1.1.1.0,
      large_again point fits.1.1.1.1.1.0,
      small_again field fits.1.1.1.1.1.1.1.0,
    ) refl
report_again (Differ task req point field got want) listed fits whole =
    rw (
      small_again task fits.1.0,
      small_again req fits.1.1.1.0,
      large_again point fits.1.1.1.1.1.0,
      small_again field fits.1.1.1.1.1.1.1.0,
      value_again got fits.1.1.1.1.1.1.1.1.1.0,
      value_again want fits.1.1.1.1.1.1.1.1.1.1.1.0,
    ) refl
report_again (NoRead task req point field) listed fits whole =
    rw (
      small_again task fits.1.1.0,
      small_again req fits.1.1.1.1.0,
      large_again point fits.1.1.1.1.1.1.0,
      small_again field fits.1.1.1.1.1.1.1.1.0,
    ) refl
report_again (Unlicensed leaf child req group tree point field) listed fits whole =
    rw (
      named leaf,
      small_again child fits.1.0,
      small_again req fits.1.1.1.0,
      small_again group fits.1.1.1.1.1.0,
      small_again tree fits.1.1.1.1.1.1.1.0,
      large_again point fits.1.1.1.1.1.1.1.1.1.0,
      small_again field fits.1.1.1.1.1.1.1.1.1.1.1.0,
    ) refl
  where
    named : (b : Bool) → bytes_eq (cond b (codes "task") (codes "group")) (codes "task") ≡ b
    named true = refl
    named false = refl
report_again (Why ask links) listed fits whole = rw (links_again links listed (chain_kept links whole), ask_again ask links fits) refl
report_again (Fault line code) listed fits whole = rw (small_again line fits.0, code_again code) refl
report_again Usage listed fits whole = refl
report_again CannotRead listed fits whole = refl

-- ---- reports

behind : (xs : List (List ℕ)) (y : List ℕ) (ys : List (List ℕ)) → get_or (xs ++ y ∷ ys) (length xs) [] ≡ y
behind [] y ys = refl
behind (x ∷ xs) y ys = behind xs y ys

listed_plain : (f : Finding) → AllByRecursion Fits (listed_lines f) → AllByRecursion PlainLine (listed_lines f)
listed_plain (Deps list items before turn) fits = lines_plain dep_line dep_plain list fits
listed_plain (Spare list waits) fits = lines_plain spare_line spare_plain list fits
listed_plain (Why ask links) fits = lines_plain link_line link_plain links fits
listed_plain _ fits = tt

-- what holds of all lines of a report holds of those that it lists and of its own
parted : (P : Line → Type 0) (headed : Bool) (ls : List Line) (l : Line) → AllByRecursion P (lines_with headed l ls) → AllByRecursion P ls
    × P l
parted P true ls l all = (all.1, all.0)
parted P false [] l all = (tt, all.0)
parted P false (k ∷ ls) l all = let rest = parted P false ls l all.1 in ((all.0, rest.0), rest.1)

joined : (P : Line → Type 0) (headed : Bool) (ls : List Line) (l : Line) → AllByRecursion P ls → P l
    → AllByRecursion P (lines_with headed l ls)
joined P true ls l all here = (here, all)
joined P false [] l all here = (here, tt)
joined P false (k ∷ ls) l all here = (all.0, joined P false ls l all.1 here)

ends : (ls : List Line) (l : Line) → map line_text (ls ++ l ∷ []) ++ [] ∷ [] ≡ map line_text ls ++ line_text l ∷ [] ∷ []
ends [] l = refl
ends (k ∷ ls) l = ap (λ (xs : List (List ℕ)). line_text k ∷ xs) (ends ls l)

-- ---- the first line, by which a report is known whose own line it is

abbrev first_line : List Line → Line → Line
first_line [] line = line
first_line (l ∷ ls) line = l

named_why : (f : Finding) → is_headed f ≡ true → bytes_eq (own_line f).name (codes "why") ≡ true
named_why (Why ask links) headed = refl
named_why f headed = absurd (false≢true headed)

not_why : (f : Finding) → is_headed f ≡ false → bytes_eq (first_line (listed_lines f) (own_line f)).name (codes "why") ≡ false
not_why (Deps (d ∷ ds) items before turn) last = name d.before
  where
    name : (b : Bool) → bytes_eq (cond b (codes "before") (codes "turn")) (codes "why") ≡ false
    name true = refl
    name false = refl
not_why (Deps [] items before turn) last = refl
not_why (Spare (w ∷ ws) waits) last = refl
not_why (Spare [] waits) last = refl
not_why (Why ask links) last = absurd (false≢true (sym last))
not_why f last = refl

first_parted : (ls : List Line) (line : Line) → AllByRecursion PlainLine ls → PlainLine line
    → parts 32 (word_at (map line_text ls ++ line_text line ∷ [] ∷ []) 0) ≡ words_of (first_line ls line)
first_parted [] line all plain = line_parted line plain
first_parted (l ∷ ls) line all plain = line_parted l all.0

-- lines of which the first is a report's own, and lines of which the last is
read_first : (line : Line) (ls : List Line) → bytes_eq line.name (codes "why") ≡ true → AllByRecursion PlainLine ls → PlainLine line
    → report_in (line_text line ∷ map line_text ls ++ [] ∷ []) ≡ report_at (map words_of ls) (words_of line)
read_first line ls named all plain =
    let lines = map line_text ls in
    let place : last_place (line_text line ∷ lines ++ [] ∷ []) ≡ length lines = omega (arith, length-append lines ([] ∷ [])) in
    rw (line_parted line plain, named, place, take-append_seam lines ([] ∷ []), all_parted ls all, line_parted line plain) refl

read_last : (line : Line) (ls : List Line) → bytes_eq (first_line ls line).name (codes "why") ≡ false → AllByRecursion PlainLine ls
    → PlainLine line
    → report_in (map line_text ls ++ line_text line ∷ [] ∷ []) ≡ report_at (map words_of ls) (words_of line)
read_last line ls named all plain =
    let lines = map line_text ls in
    let last = line_text line in
    let place : last_place (lines ++ last ∷ [] ∷ []) ≡ length lines = omega (arith, length-append lines (last ∷ [] ∷ [])) in
    rw (
      first_parted ls line all plain,
      named,
      place,
      take-append_seam lines (last ∷ [] ∷ []),
      behind lines last ([] ∷ []),
      all_parted ls all,
      line_parted line plain,
    ) refl

read_lines : (f : Finding) (headed : Bool) → is_headed f ≡ headed → AllByRecursion PlainLine (listed_lines f) → PlainLine (own_line f)
    → report_in (map line_text (lines_with headed (own_line f) (listed_lines f)) ++ [] ∷ [])
    ≡ report_at (map words_of (listed_lines f)) (words_of (own_line f))
read_lines f true is all plain = read_first (own_line f) (listed_lines f) (named_why f is) all plain
read_lines f false is all plain = ap report_in (ends (listed_lines f) (own_line f))
    ∙ read_last (own_line f) (listed_lines f) (not_why f is) all plain

pub read_again : (f : Finding) → Good f → finding_at (report_text f) ≡ f
unfolding finding_at report_text
read_again f good =
    let fit = parted Fits (is_headed f) (listed_lines f) (own_line f) good.0 in
    let plain = listed_plain f fit.0 in
    let own = own_plain f fit.1 in
    ap report_in (lines_parted (lines_of f) (joined PlainLine (is_headed f) (listed_lines f) (own_line f) plain own))
    ∙ read_lines f (is_headed f) refl plain own ∙ report_again f fit.0 fit.1 good.1

-- what lines say that a program holds, of which the words of the first are `first`: it is a report's own
pub first_told : (lines first listed words : List (List ℕ)) (last : ℕ) → last ≡ length lines - 2 → first ≡ parts 32 (word_at lines 0)
    → bytes_eq (word_at first 0) (codes "why") ≡ true
    → listed ≡ take last (drop 1 lines) → words ≡ parts 32 (word_at lines 0) → report_at (map (parts 32) listed) words ≡ report_in lines
first_told lines first listed words last is begun named told said =
    let headed : says.is_headed lines ≡ true = sym (ap (λ (w : List (List ℕ)). bytes_eq (word_at w 0) (codes "why")) begun) ∙ named in
    rw (headed, told, said, is) refl

-- or the last is
pub last_told : (lines first listed words : List (List ℕ)) (last : ℕ) → last ≡ length lines - 2 → first ≡ parts 32 (word_at lines 0)
    → bytes_eq (word_at first 0) (codes "why") ≡ false
    → listed ≡ take last lines → words ≡ parts 32 (word_at lines last) → report_at (map (parts 32) listed) words ≡ report_in lines
last_told lines first listed words last is begun named told said =
    let headed : says.is_headed lines ≡ false = sym (ap (λ (w : List (List ℕ)). bytes_eq (word_at w 0) (codes "why")) begun) ∙ named in
    rw (headed, told, said, is) refl

pub texts_apart : (f g : Finding) → Good f → Good g → report_text f ≡ report_text g → f ≡ g
texts_apart f g good fine e = sym (read_again f good) ∙ ap finding_at e ∙ read_again g fine

pub codes_apart : (c d : Code) → code_text c ≡ code_text d → c ≡ d
codes_apart c d e = sym (code_again c) ∙ ap code_at e ∙ code_again d
