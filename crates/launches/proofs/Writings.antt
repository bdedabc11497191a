-- What is known of written records, and of one more.
use Rattle.std.proofs.Common.{◌≡◌, ℕ, ◌+◌, ◌-◌, ◌^◌, ◌<◌, ◌==◌, ◌&&◌, nat_lt, Bool, true, false, cond, List, [], ◌∷◌, ◌++◌, find, filter, length, Option, IfSome, option_map, refl, sym, ap, ◌∙◌, subst, arith, append_assoc, length-append}
use Rattle.std.proofs.lemmas.Bool.Decides.{nat_tests}
use Rattle.std.proofs.lemmas.List.Elements.{recursion_from_All, filter-append, All-push}
use Rattle.std.proofs.lemmas.List.Sums.{fold-append}
use Rattle.vocabulary.specs.Prelude.{IsNumberFrom, Record, Lined, Good, spelling, Sub, lined, lined_from, text_of, Tables, tables_of, with_record, no_tables, PrivWord}
use Rattle.spy_grammar.specs.declared.record.Record.TheVariants as records
use Rattle.semantics.specs.declared.limits.TheConstants.{MOST_BYTES, MOST_RECORDS}
use Rattle.semantics.specs.Launches.{space_under}
use Rattle.launches.specs.Steps.{space_by}
use Rattle.launch_laws.proofs.lemmas.WrittenLogs
use Rattle.launches.specs.Written.{subs_by, with_sub, is_inner, capped, Tells}

lined_more : (n : ℕ) (xs : List Record) (y : Record)
    → lined_from n (xs ++ y ∷ []) ≡ lined_from n xs ++ record { line = n + length xs; rec = y } ∷ []
lined_more n [] y = ap (λ m. record { line = m; rec = y } ∷ []) (omega arith)
lined_more n (x ∷ xs) y = ap (λ ls. record { line = n; rec = x } ∷ ls) (lined_more (n + 1) xs y
    ∙ ap (λ m. lined_from (n + 1) xs ++ record { line = m; rec = y } ∷ []) (omega arith))

sub_more : (t : Tables) (line : ℕ) (r : Record) → (with_record t line r).subs ≡ with_sub t.subs r
sub_more t line (records.Sub part colour space) = refl
sub_more t line _ = refl

pub subs_more : (rs : List Record) (r : Record) → subs_by (rs ++ r ∷ []) ≡ with_sub (subs_by rs) r
unfolding subs_by
subs_more rs r =
    ap (λ ls. (tables_of ls).subs) (lined_more 1 rs r)
    ∙ ap (λ (t : Tables). t.subs) (fold-append (λ (t : Tables) (l : Lined). with_record t l.line l.rec) no_tables (lined rs)
    (record { line = 1 + length rs; rec = r } ∷ []))
    ∙ sub_more (tables_of (lined rs)) (1 + length rs) r

text_more : (rs : List Record) (r : Record) → text_of (rs ++ r ∷ []) ≡ text_of rs ++ (spelling r ++ 10 ∷ [])
text_more [] r = refl
text_more (x ∷ rs) r = ap (λ text. spelling x ++ 10 ∷ text) (text_more rs r)
    ∙ sym (append_assoc (spelling x) (10 ∷ text_of rs) (spelling r ++ 10 ∷ []))

counted_one : (r : Record) (b : Bool) → is_inner r ≡ b → length (filter is_inner (r ∷ [])) ≡ cond b 1 0
counted_one r true e = rw e refl
counted_one r false e = rw e refl

pub inner_more : (rs : List Record) (r : Record)
    → length (filter is_inner (rs ++ r ∷ [])) ≡ length (filter is_inner rs) + cond (is_inner r) 1 0
inner_more rs r =
    ap length (filter-append is_inner rs (r ∷ [])) ∙ length-append (filter is_inner rs) (filter is_inner (r ∷ []))
    ∙ ap (λ n. length (filter is_inner rs) + n) (counted_one r (is_inner r) refl)

capped_more : (n m : ℕ) → capped (capped n + m) ≡ capped (n + m)
capped_more n m = omega arith

-- With one record more.
pub tells_more : (rs ss : List Record) (r : Record) (d e : List Sub) (n m p q one many : ℕ) → Tells rs d n m → Good r
    → one ≡ cond (is_inner r) 1 0 → many ≡ length (spelling r ++ 10 ∷ [])
    → ss ≡ rs ++ r ∷ [] → e ≡ with_sub d r → p ≡ capped (n + one) → q ≡ capped (m + many) → Tells ss e p q
tells_more rs ss r d e n m p q one many told good is_one is_many more subs inner bytes = subst (λ xs. Tells xs e p q) (sym more) (record {
  declared = subs ∙ ap (λ f. with_sub f r) told.declared ∙ sym (subs_more rs r);
  inner =
      inner ∙ ap (λ k. capped (k + one)) told.inner ∙ capped_more (length (filter is_inner rs)) one
      ∙ ap (λ k. capped (length (filter is_inner rs) + k)) is_one ∙ ap capped (sym (inner_more rs r));
  bytes =
      bytes ∙ ap (λ k. capped (k + many)) told.bytes ∙ capped_more (length (text_of rs)) many
      ∙ ap (λ k. capped (length (text_of rs) + k)) is_many
      ∙ ap capped (sym (ap length (text_more rs r) ∙ length-append (text_of rs) (spelling r ++ 10 ∷ [])));
  good = All-push Good rs r told.good good;
})

-- Nothing is written.
pub none_written : Tells [] [] 0 0
unfolding subs_by
none_written = record { declared = refl; inner = refl; bytes = refl; good = λ k d lt. absurd (omega (arith, lt)) }

many_capped : (limit n : ℕ) → limit < 2 ^ 64 - 1 → nat_lt limit (capped n) ≡ nat_lt limit n
many_capped limit n lt = grind (arith, nat_tests)

pub many_where : (rs : List Record) (subs : List Sub) (inner bytes : ℕ) → Tells rs subs inner bytes
    → nat_lt MOST_RECORDS inner ≡ nat_lt MOST_RECORDS (length (filter is_inner rs))
many_where rs subs inner bytes told = ap (nat_lt MOST_RECORDS) told.inner
    ∙ many_capped MOST_RECORDS (length (filter is_inner rs)) (omega arith)

pub long_where : (rs : List Record) (subs : List Sub) (inner bytes : ℕ) → Tells rs subs inner bytes
    → nat_lt MOST_BYTES bytes ≡ nat_lt MOST_BYTES (length (text_of rs))
long_where rs subs inner bytes told = ap (nat_lt MOST_BYTES) told.bytes ∙ many_capped MOST_BYTES (length (text_of rs)) (omega arith)

pub space_found : (rs : List Record) (subs : List Sub) (inner bytes part colour : ℕ) → Tells rs subs inner bytes
    → option_map (λ (s : Sub). s.space) (find (λ (s : Sub). (s.part == part) && (s.colour == colour)) subs)
    ≡ space_under (tables_of (lined rs)) part colour
unfolding subs_by
space_found rs subs inner bytes part colour told =
    ap (λ (d : List Sub). option_map (λ (s : Sub). s.space) (find (λ (s : Sub). (s.part == part) && (s.colour == colour)) d)) told.declared

-- A requirement declares no subspace.
pub space_stays : (rs : List Record) (id tree space : ℕ) (fields : List ℕ) (access : PrivWord) (atomic : Bool) (part colour : ℕ)
    → space_by (rs ++ records.Req id tree space fields access atomic ∷ []) part colour ≡ space_by rs part colour
unfolding subs_by
space_stays rs id tree space fields access atomic part colour =
    ap (λ (d : List Sub). option_map (λ (s : Sub). s.space) (find (λ (s : Sub). (s.part == part) && (s.colour == colour)) d))
    (subs_more rs (records.Req id tree space fields access atomic))

-- ---- the spaces of subspaces

-- The space of a subspace has an id.
pub space_good : (rs : List Record) (d : List Sub) (n m part colour : ℕ) → Tells rs d n m → (o : Option ℕ)
    → o ≡ space_under (tables_of (lined rs)) part colour → IfSome o (IsNumberFrom 1)
space_good rs d n m part colour told = WrittenLogs.space_good rs part colour (recursion_from_All Good rs told.good)
