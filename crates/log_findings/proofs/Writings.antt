-- The dependences of a log, written one after another.
use Rattle.std.proofs.Common.{◌≡◌, ℕ, ◌+◌, ◌-◌, ◌<◌, ◌^◌, Bool, true, false, List, [], ◌∷◌, ◌++◌, length, map, filter, refl, sym, ap, ◌∙◌, subst, arith, Option, append_assoc, if◌then◌else◌}
use Rattle.std.specs.Prelude.{Result, Ok, Err, OnErr, None, not}
use Rattle.std.specs.Option.{option_or}
use Rattle.std.proofs.lemmas.List.{map-append, length-map, length-append, length_push}
use Rattle.std.proofs.lemmas.List.Elements.{filter-append}
use Rattle.std.proofs.lemmas.List.Filters.{length-filter_both}
use Rattle.std.specs.Io.KnownBytes.{Appends}
use Rattle.spy_io.specs.Causes.{Grows}
use Rattle.buffered_writes.specs.Sending.{IsSent}
use Rattle.buffered_writes.proofs.lemmas.Sent.{all_kept, part_longer, part_more, sent_all, sent_more}
use Rattle.vocabulary.specs.Prelude.{Tables}
use Rattle.findings.specs.declared.finding.Dep.{Dep}
use Rattle.findings.specs.declared.finding.Finding.TheVariants as findings
use Rattle.findings.specs.Texts.{Line, dep_line, line_text, lines_text, own_line, report_text}
use Rattle.semantics.specs.declared.command.Command.TheVariants as commands
use Rattle.semantics.specs.Faults.{serial_fault, map_fault}
use Rattle.interference.specs.declared.pair.Pair.{Pair}
use Rattle.interference.specs.Pairing.{all_pairs}
use Rattle.interference.proofs.lemmas.Turning.{pair_place}
use Rattle.outcomes.specs.Outcome.{before_count, dependences}
use Rattle.log_findings.specs.Findings.{deps_shown, IsFoundOf}
use Rattle.log_findings.specs.Listing.{dependence_of}
use Rattle.log_findings.proofs.Listings.{all_listed, one_listed}

-- What holds after an error, of a result of which no more is known.
pub in_err : {T E P : Type 0} (r : Result T E) → P → OnErr r P
in_err (Ok x) p = tt
in_err (Err e) p = p

-- ---- texts

lines_text-append : (ks ls : List Line) → lines_text (ks ++ ls) ≡ lines_text ks ++ lines_text ls
lines_text-append [] ls = refl
lines_text-append (k ∷ ks) ls = ap (λ (x : List ℕ). line_text k ++ 10 ∷ x) (lines_text-append ks ls)
    ∙ sym (append_assoc (line_text k) (10 ∷ lines_text ks) (lines_text ls))

-- The lines of some dependences, and one of them.
abbrev pub listed_text : List Dep → List ℕ
listed_text ds = lines_text (map dep_line ds)

abbrev pub one_text : Dep → List ℕ
one_text d = line_text (dep_line d) ++ 10 ∷ []

listed_text-append : (ds es : List Dep) → listed_text (ds ++ es) ≡ listed_text ds ++ listed_text es
listed_text-append ds es = ap lines_text (map-append dep_line ds es) ∙ lines_text-append (map dep_line ds) (map dep_line es)

text_more : (ds : List Dep) (d : Dep) → listed_text (ds ++ d ∷ []) ≡ listed_text ds ++ one_text d
text_more ds d = listed_text-append ds (d ∷ [])

-- ---- counts

count_one : (d : Dep) → before_count (d ∷ []) ≡ (if d.before then 1 else 0)
count_one d = by d.before refl
  where
    by : (b : Bool) → d.before ≡ b → before_count (d ∷ []) ≡ (if d.before then 1 else 0)
    by true is = rw is refl
    by false is = rw is refl

count_more : (ds : List Dep) (d : Dep) → before_count (ds ++ d ∷ []) ≡ before_count ds + (if d.before then 1 else 0)
count_more ds d =
    ap length (filter-append (λ (e : Dep). e.before) ds (d ∷ []))
    ∙ length-append (filter (λ (e : Dep). e.before) ds) (filter (λ (e : Dep). e.before) (d ∷ []))
    ∙ ap (λ n. before_count ds + n) (count_one d)

-- ---- the loop

-- Some dependences were listed and counted, and these pairs are left.
pub record IsListing (t : Tables) (start now : Option (List ℕ)) (kept : List ℕ) (before turn : ℕ) (left : List Pair) : Type 0 where
  pub listed : List Dep
  pub whole : listed ++ map (dependence_of t) left ≡ dependences t
  pub sent : IsSent start now (listed_text listed) kept
  pub before_is : before ≡ before_count listed
  pub all_is : before + turn ≡ length listed

pub listing_none : (t : Tables) (start : Option (List ℕ)) (kept : List ℕ) (before turn : ℕ) (left : List Pair) → kept ≡ [] → before ≡ 0
    → turn ≡ 0 → left ≡ all_pairs t → IsListing t start start kept before turn left
listing_none t start kept before turn left none no_before no_turn same = record {
  listed = [];
  whole = all_listed t (pair_place t) [] left refl same;
  sent = all_kept start [] kept none;
  before_is = no_before;
  all_is = omega (arith, no_before, no_turn);
}

pub listing_more : (t : Tables) (start mid now : Option (List ℕ)) (kept rest : List ℕ) (before turn befores turns : ℕ)
    (left others : List Pair) (p : Pair) (d : Dep)
    → IsListing t start mid kept before turn left → left ≡ p ∷ others → d ≡ dependence_of t p
    → IsSent mid now (kept ++ one_text d) rest → befores ≡ before + (if d.before then 1 else 0) → befores + turns ≡ before + turn + 1
    → IsListing t start now rest befores turns others
listing_more t start mid now kept rest before turn befores turns left others p d l cut is sent_now count all = record {
  listed = l.listed ++ d ∷ [];
  whole = one_listed (dependence_of t) l.listed left others p (l.listed ++ d ∷ []) d (dependences t) l.whole cut refl is;
  sent = subst (λ x. IsSent start now x rest) (sym (text_more l.listed d))
      (sent_more start mid now (listed_text l.listed) kept (one_text d) rest l.sent sent_now);
  before_is = count ∙ ap (λ n. n + (if d.before then 1 else 0)) l.before_is ∙ sym (count_more l.listed d);
  all_is = omega (arith, all, l.all_is, length_push l.listed d);
}

-- A write of the next line failed.
pub listing_part : (t : Tables) (start mid now : Option (List ℕ)) (kept : List ℕ) (before turn : ℕ) (left others : List Pair) (p : Pair)
    (d : Dep) → IsListing t start mid kept before turn left → left ≡ p ∷ others → d ≡ dependence_of t p
    → Grows mid now (kept ++ one_text d) → (more : List ℕ) → Grows start now (listed_text (dependences t) ++ more)
listing_part t start mid now kept before turn left others p d l cut is part more =
    let so_far : Grows start now (listed_text (l.listed ++ d ∷ [])) =
    subst (Grows start now) (sym (text_more l.listed d)) (part_more start mid now (listed_text l.listed) kept (one_text d) l.sent part) in
    let rest = map (dependence_of t) others in
    let whole : l.listed ++ d ∷ [] ++ rest ≡ dependences t =
    one_listed (dependence_of t) l.listed left others p (l.listed ++ d ∷ []) d (dependences t) l.whole cut refl is in
    let parts : listed_text (l.listed ++ d ∷ []) ++ listed_text rest ≡ listed_text (dependences t) =
    sym (listed_text-append (l.listed ++ d ∷ []) rest) ∙ ap listed_text whole in
    part_longer start now (listed_text (dependences t)) more
    (subst (Grows start now) parts (part_longer start now (listed_text (l.listed ++ d ∷ [])) (listed_text rest) so_far))

-- There is room for one more in the counts.
pub listing_room : (t : Tables) (start now : Option (List ℕ)) (kept : List ℕ) (before turn : ℕ) (left others : List Pair) (p : Pair)
    → IsListing t start now kept before turn left → left ≡ p ∷ others → length (all_pairs t) < 2 ^ 64 → before + turn < 2 ^ 64 - 1
listing_room t start now kept before turn left others p l cut few =
    let one = ap length cut in
    let whole = ap length l.whole in
    let both = length-append l.listed (map (dependence_of t) left) in
    let many = length-map left (dependence_of t) in
    let all = ap length (all_listed t (pair_place t) [] (all_pairs t) refl refl) in
    let pairs = length-map (all_pairs t) (dependence_of t) in
    omega (arith, one, whole, both, many, all, pairs, few, l.all_is)

-- All were listed.
pub record AreAllListed (t : Tables) (start now : Option (List ℕ)) (kept : List ℕ) (before turn : ℕ) : Type 0 where
  pub sent : IsSent start now (listed_text (dependences t)) kept
  pub before_is : before ≡ before_count (dependences t)
  pub all_is : before + turn ≡ length (dependences t)

-- ---- the whole report

-- In tables without a fault of their serial order this is what `deps` finds.
pub shown_is_found : (t : Tables) → serial_fault t ≡ None → IsFoundOf commands.Deps t (deps_shown t)
shown_is_found t none = (
  ap (λ o. option_or o (map_fault commands.Deps t)) none,
  (refl, refl, refl, omega (arith, length-filter_both (λ (d : Dep). d.before) (λ (d : Dep). not d.before) (λ d. refl) (dependences t))),
)

-- The lines of all dependences, and then the report's own, are its text.
pub text_shown : (t : Tables) (items before turn : ℕ) → items ≡ length t.items → before ≡ before_count (dependences t)
    → before + turn ≡ length (dependences t)
    → listed_text (dependences t) ++ (line_text (own_line (findings.Deps [] items before turn)) ++ 10 ∷ [])
    ≡ report_text (deps_shown t)
unfolding report_text
text_shown t items before turn items_are before_is all_is =
    let turn_is : turn ≡ length (dependences t) - before_count (dependences t) = omega (arith, before_is, all_is) in
    let own : findings.Deps (dependences t) items before turn ≡ deps_shown t = rw (items_are, before_is, turn_is) refl in
    ap (λ f. listed_text (dependences t) ++ (line_text (own_line f) ++ 10 ∷ [])) own
    ∙ sym (lines_text-append (map dep_line (dependences t)) (own_line (deps_shown t) ∷ []))

pub all_shown : (t : Tables) (start mid now : Option (List ℕ)) (kept : List ℕ) (items before turn : ℕ)
    → AreAllListed t start mid kept before turn → items ≡ length t.items
    → Appends mid now (kept ++ (line_text (own_line (findings.Deps [] items before turn)) ++ 10 ∷ []))
    → Appends start now (report_text (deps_shown t))
all_shown t start mid now kept items before turn l items_are sent_now =
    let own = line_text (own_line (findings.Deps [] items before turn)) ++ 10 ∷ [] in
    subst (Appends start now) (text_shown t items before turn items_are l.before_is l.all_is)
    (sent_all start mid now (listed_text (dependences t) ++ own) (kept ++ own) (with_more start mid (listed_text (dependences t)) kept own l.sent) sent_now)
  where
    with_more : (start mid : Option (List ℕ)) (text kept own : List ℕ) → IsSent start mid text kept → IsSent start mid (text ++ own) (kept ++ own)
    with_more start mid text kept own s =
        record { sent = s.sent; parts = ap (λ x. x ++ own) s.parts ∙ append_assoc s.sent kept own; grown = s.grown }

pub part_shown : (t : Tables) (start mid now : Option (List ℕ)) (kept : List ℕ) (items before turn : ℕ)
    → AreAllListed t start mid kept before turn → items ≡ length t.items
    → Grows mid now (kept ++ (line_text (own_line (findings.Deps [] items before turn)) ++ 10 ∷ []))
    → Grows start now (report_text (deps_shown t))
part_shown t start mid now kept items before turn l items_are part =
    let own = line_text (own_line (findings.Deps [] items before turn)) ++ 10 ∷ [] in
    subst (Grows start now) (text_shown t items before turn items_are l.before_is l.all_is)
    (part_more start mid now (listed_text (dependences t)) kept own l.sent part)

-- A write of the lines failed.
pub lines_shown : (t : Tables) (start now : Option (List ℕ)) → ((more : List ℕ) → Grows start now (listed_text (dependences t) ++ more))
    → Grows start now (report_text (deps_shown t))
unfolding report_text
lines_shown t start now part =
    subst (Grows start now) (sym (lines_text-append (map dep_line (dependences t)) (own_line (deps_shown t) ∷ [])))
    (part (lines_text (own_line (deps_shown t) ∷ [])))
