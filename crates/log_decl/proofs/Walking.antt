-- The walk, record by record.
use Rattle.std.proofs.Common.{◌≡◌, ℕ, zero, suc, ◌+◌, ◌-◌, ◌^◌, ◌<◌, ◌==◌, Bool, cond, Contains, List, [], ◌∷◌, ◌++◌, length, get_or, take, true, false, is_some, Option, Some, None, option_map, subst, refl, sym, ap, ◌∙◌, append_assoc, arith}
use Rattle.std.proofs.lemmas.Bool.{false≢true}
use Rattle.std.proofs.lemmas.Option.{none-some, slice_get-get_or}
use Rattle.std.proofs.lemmas.List.{append-nil, take_more, map-append}
use Rattle.std.proofs.lemmas.Grind.{flat_map-append}
use Rattle.std.proofs.lemmas.List.Elements.{Contains-append_left, Contains-append_right}
use Rattle.std.proofs.lemmas.List.Sums.{fold-append}
use Rattle.vocabulary.specs.Prelude.{Code, Record, Lined, Rect, records_of, Tables, tables_of, with_record, no_tables}
use Rattle.grid.specs.Corners.{cell_count}
use Rattle.grid.specs.Cuts.{Cuts, grid_of}
use Rattle.spy_grammar.specs.declared.code.Code.TheVariants as codes
use Rattle.spy_grammar.specs.declared.record.Record.TheVariants as records
use Rattle.semantics.specs.Faults.{header_fault}
use Rattle.semantics.specs.Rules.{is_planar}
use Rattle.semantics.proofs.lemmas.RecordRules.{none_passes}
use Rattle.semantics.proofs.lemmas.Versions.{flat_before, version_at}
use Rattle.log_rules.specs.declared.tally.Tally.{Tally}
use Rattle.log_rules.specs.Tallied.{AreListed, IsTally, MayCount, rects_in}
use Rattle.log_decl.specs.Sizes.{is_plane_log, opens_plane, plane_rects, rects_of_log}
use Rattle.log_decl.specs.Walk.{breaks_other, broken_of, other_broken, HasTally, Keep, IsWithin, HasWalked}

-- The code is that of the first rule that a record breaks, where the tally and the number of cells are right.
abbrev Tells : List Record → List Record → Tally → ℕ → Option Code → Tables → Record → Type 0
Tells log es tally cells code t r = HasTally es t tally → (is_planar t ≡ true → cells ≡ cell_count (t.rects ++ rects_in r))
    → code ≡ broken_of log es t r

-- What is told of a record as it is looked up is told of it.
pub told_of : (log es : List Record) (tally : Tally) (cells : ℕ) (code : Option Code) (t u : Tables) (r q : Record) → u ≡ t → q ≡ r
    → Tells log es tally cells code u q → Tells log es tally cells code t r
told_of log es tally cells code t u r q tables rec told =
    subst (Tells log es tally cells code t) rec (subst (λ (v : Tables). Tells log es tally cells code v q) tables told)

pub tables_more : (log : List Lined) (i : ℕ) (t : Tables) (l : Lined) → t ≡ tables_of (take i log) → i < length log → l ≡ get_or log i l
    → with_record t l.line l.rec ≡ tables_of (take (i + 1) log)
tables_more log i t l tables lt is =
    ap (λ (u : Tables). with_record u l.line l.rec) tables
    ∙ ap (λ (x : Lined). with_record (tables_of (take i log)) x.line x.rec) is
    ∙ sym (ap tables_of (take_more log i l lt) ∙ fold-append (λ (u : Tables) (x : Lined). with_record u x.line x.rec) no_tables (take i log)
    (get_or log i l ∷ []))

-- A log that is not of the second version after a record is not before it.
pub flat_here : (log : List Lined) (i : ℕ) (t : Tables) (l : Lined) → header_fault 0 log ≡ None → t ≡ tables_of (take i log)
    → i < length log → l ≡ get_or log i l → (line : ℕ) → is_planar (with_record t line l.rec) ≡ false → is_planar t ≡ false
flat_here log i t l e tables lt is line flat = ap is_planar tables
    ∙ flat_before log e i l lt is line (ap (λ (u : Tables). is_planar (with_record u line l.rec)) (sym tables) ∙ flat)

-- A record that breaks none of the rules may be counted.
pub may_count : (all : Option (List Rect)) (log es : List Record) (t : Tables) (r : Record)
    → ((line : ℕ) → is_planar (with_record t line r) ≡ false → is_planar t ≡ false)
    → length t.reqs + 1 < 2 ^ 32 - 1 → AreListed all r → broken_of log es t r ≡ None → MayCount all es t r
may_count all log es t r flat few listed e =
    let kept = none_passes (breaks_other (record { log = log; earlier = es; tables = t; rec = r })) e in
    record {
      version = flat;
      few = few;
      known = kept codes.UnknownId refl;
      points = kept codes.TooManyPoints refl;
      cells = kept codes.TooManyCells refl;
      accesses = kept codes.TooManyAccesses refl;
      listed = listed;
    }

-- The rectangles of each record are among those of the log.
in_log : (log : List Lined) (k : ℕ) (l : Lined) (q : Rect) → k < length log → get_or log k l ≡ l → Contains (rects_in l.rec) q
    → Contains (rects_of_log log) q
in_log [] k l q lt at c = absurd (omega arith)
in_log (x ∷ xs) zero l q lt at c =
    Contains-append_left (rects_in x.rec) (rects_of_log xs) q (subst (λ (y : Lined). Contains (rects_in y.rec) q) (sym at) c)
in_log (x ∷ xs) (suc k) l q lt at c = Contains-append_right (rects_in x.rec) (rects_of_log xs) q (in_log xs k l q (omega arith) at c)

pub log_rects_more : (log : List Lined) (i : ℕ) (l : Lined) (old more : List Rect) → i < length log → l ≡ get_or log i l
    → old ≡ rects_of_log (take i log) → more ≡ rects_in l.rec → old ++ more ≡ rects_of_log (take (i + 1) log)
log_rects_more log i l old more lt is before here =
    let of : Lined → List Rect = λ x. rects_in x.rec in
    ap (λ rects. rects ++ more) before
    ∙ ap (λ rects. rects_of_log (take i log) ++ rects) (here ∙ ap of is ∙ sym (append-nil (of (get_or log i l))))
    ∙ sym (ap rects_of_log (take_more log i l lt) ∙ flat_map-append of (take i log) (get_or log i l ∷ []))

-- They are given where the log is of the second version.
pub no_plane_rects : (log : List Lined) → is_plane_log log ≡ false → None ≡ option_map grid_of (plane_rects log)
no_plane_rects log flat = rw flat refl

pub some_plane_rects : (log : List Lined) (grid : Cuts) → is_plane_log log ≡ true → grid ≡ grid_of (rects_of_log log)
    → Some grid ≡ option_map grid_of (plane_rects log)
some_plane_rects log grid plane is = rw plane (ap (λ g. Some g) is)

pub listed_in : (log : List Lined) (i : ℕ) (l : Lined) → i < length log → l ≡ get_or log i l → AreListed (plane_rects log) l.rec
listed_in log i l lt is = by (is_plane_log log)
  where
    by : (b : Bool) → AreListed (cond b (Some (rects_of_log log)) None) l.rec
    by true = λ q c. in_log log i l q lt (sym is) c
    by false = tt

-- One record more.
pub keep_more : (log : List Record) (earlier xs : List Lined) (l : Lined) → Keep log earlier xs
    → other_broken log (earlier ++ xs) l.rec ≡ None → Keep log earlier (xs ++ l ∷ [])
keep_more log earlier [] l keep none = (subst (λ (ls : List Lined). other_broken log ls l.rec ≡ None) (append-nil earlier) none, tt)
keep_more log earlier (x ∷ xs) l keep none = (
  keep.0,
  keep_more log (earlier ++ x ∷ []) xs l keep.1
      (subst (λ (ls : List Lined). other_broken log ls l.rec ≡ None) (sym (append_assoc earlier (x ∷ []) xs)) none),
)

pub records_more : (log : List Lined) (i : ℕ) (l : Lined) → i < length log → l ≡ get_or log i l
    → records_of (take i log) ++ l.rec ∷ [] ≡ records_of (take (i + 1) log)
records_more log i l lt is =
    ap (λ (x : Lined). records_of (take i log) ++ x.rec ∷ []) is
    ∙ sym (ap records_of (take_more log i l lt) ∙ map-append (λ (x : Lined). x.rec) (take i log) (get_or log i l ∷ []))

pub keeps_more : (log : List Lined) (i : ℕ) (t : Tables) (l : Lined) → t ≡ tables_of (take i log) → Keep (records_of log) [] (take i log)
    → i < length log → l ≡ get_or log i l → broken_of (records_of log) (records_of (take i log)) t l.rec ≡ None
    → Keep (records_of log) [] (take (i + 1) log)
keeps_more log i t l tables keep lt is none =
    subst (Keep (records_of log) []) (ap (λ (x : Lined). take i log ++ x ∷ []) is ∙ sym (take_more log i l lt))
    (keep_more (records_of log) [] (take i log) l keep
    (subst (λ (u : Tables). broken_of (records_of log) (records_of (take i log)) u l.rec ≡ None) tables none))

pub stands : (log : List Lined) (k i : ℕ) (t : Tables) (code : Code) (l : Lined) → k ≡ i → t ≡ tables_of (take i log)
    → Keep (records_of log) [] (take i log) → IsWithin t (records_of (take i log))
    → i < length log → l ≡ get_or log i l → broken_of (records_of log) (records_of (take i log)) t l.rec ≡ Some code
    → HasWalked log k t (Some code)
stands log k i t code l at tables keep within lt is e =
    subst (λ n. HasWalked log n t (Some code)) (sym at) (record {
      in_log = omega (arith, lt);
      tables = tables;
      kept = keep;
      within = within;
      here = (
        l,
        slice_get-get_or log i l lt ∙ ap (λ (x : Lined). Some x) (sym is),
        subst (λ (u : Tables). broken_of (records_of log) (records_of (take i log)) u l.rec ≡ Some code) tables e,
      );
    })

-- ---- The size of the grid.

-- A record adds the rectangles of its space.
pub rects_more : (t : Tables) (line : ℕ) (r : Record) → (with_record t line r).rects ≡ t.rects ++ rects_in r
rects_more t line (records.Ispace id set) = refl
rects_more t line (records.Plane id quads) = refl
rects_more t line r = sym (append-nil t.rects)

-- Only a log whose first record says so is of the second version.
said : (line : ℕ) (r : Record) → is_planar (with_record no_tables line r) ≡ opens_plane r
said line (records.Header version) = refl
said line r = refl

pub plane_at : (log : List Lined) (i : ℕ) (t : Tables) → header_fault 0 log ≡ None → t ≡ tables_of (take i log) → is_planar t ≡ true
    → is_plane_log log ≡ true
plane_at log zero t e tables planar = absurd (false≢true (sym (ap is_planar tables) ∙ planar))
plane_at [] (suc i) t e tables planar = absurd (none-some _ (sym e))
plane_at (l ∷ log) (suc i) t e tables planar = sym (said l.line l.rec) ∙ ap (λ v. v == 2) (sym (version_at l log e i))
    ∙ sym (ap is_planar tables) ∙ planar

pub stands_where : (log : List Lined) (k i : ℕ) (t : Tables) (o : Option Code) (l : Lined) → k ≡ i → t ≡ tables_of (take i log)
    → Keep (records_of log) [] (take i log) → IsWithin t (records_of (take i log))
    → i < length log → l ≡ get_or log i l → is_some o ≡ true → o ≡ broken_of (records_of log) (records_of (take i log)) t l.rec
    → HasWalked log k t o
stands_where log k i t None l at tables keep within lt is some e = absurd (false≢true some)
stands_where log k i t (Some code) l at tables keep within lt is some e = stands log k i t code l at tables keep within lt is (sym e)

pub none_where : (o : Option Code) → is_some o ≡ false → o ≡ None
none_where None e = refl
none_where (Some code) e = absurd (false≢true (sym e))

-- What the tally was of a record as it is looked up, it was of the record.
pub tally_named : (all : Option (List Rect)) (es : List Record) (line : ℕ) (old new : Tally) (t u : Tables) (r q : Record) → u ≡ t → q ≡ r
    → (IsTally all es u old → MayCount all es u q → IsTally all (es ++ q ∷ []) (with_record u line q) new)
    → IsTally all es t old → MayCount all es t r → IsTally all (es ++ r ∷ []) (with_record t line r) new
tally_named all es line old new t u r q tables rec adds =
    let Adds = λ (v : Tables) (s : Record). IsTally all es v old → MayCount all es v s → IsTally all (es ++ s ∷ []) (with_record v line s) new in
    subst (Adds t) rec (subst (λ (v : Tables). Adds v q) tables adds)

pub tally_more : (all : Option (List Rect)) (es rs : List Record) (u v : Tables) (tally : Tally) → IsTally all es u tally → es ≡ rs → v ≡ u
    → IsTally all rs v tally
tally_more all es rs u v tally is same here = subst (λ (w : Tables). IsTally all rs w tally) (sym here)
    (subst (λ (xs : List Record). IsTally all xs u tally) same is)
