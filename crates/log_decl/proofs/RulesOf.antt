-- The rules that look at records of each kind, and the first of them that is broken.
use Rattle.std.proofs.Common.{◌≡◌, Bool, true, false, not, cond, ◌&&◌, ◌||◌, ◌==◌, List, [], ◌∷◌, find, length, Option, Some, None, is_some, refl, sym, ap, ◌∙◌}
use Rattle.std.specs.List.{list_any}
use Rattle.std.specs.Option.{option_map_or}
use Rattle.std.proofs.lemmas.Bool.{false≢true}
use Rattle.std.proofs.lemmas.List.{length-map}
use Rattle.vocabulary.specs.Prelude.{Code, Record, Lined, records_of, Tables}
use Rattle.spy_grammar.specs.declared.record.Record.TheVariants as records
use Rattle.semantics.specs.declared.tables.LogNode.{LogNode}
use Rattle.semantics.specs.Events.{Node}
use Rattle.semantics.specs.Rules.{completes, is_end, is_late, is_planar, node_of, repeats_event}
use Rattle.log_decl.specs.RulesOf.{of_ends, of_insts, of_maps, of_names, of_nodes, of_reqs, of_serials, of_spaces, of_subs}
use Rattle.log_decl.specs.Walk.{breaks_other, broken_of}

-- One rule more, before others.
pub rule : {A : Type 0} (first : A) {b c : Bool} {x y : A} → b ≡ c → x ≡ y → cond b first x ≡ cond c first y
rule {A} first {b} {c} {x} {y} is others = ap (λ (a : Bool). cond a first x) is ∙ ap (λ (z : A). cond c first z) others

-- Where one of two rules is broken, it is the first of these and others.
pub one_of_two : (a b : Bool) (first second : Code) (rest o : Option Code) → o ≡ cond a (Some first) (cond b (Some second) None)
    → is_some o ≡ true → o ≡ cond a (Some first) (cond b (Some second) rest)
one_of_two true b first second rest o is some = is
one_of_two false true first second rest o is some = is
one_of_two false false first second rest o is some = absurd (false≢true (sym (ap is_some is) ∙ some))

-- Where none of the two is, the first is one of the others.
pub none_of_two : (a b : Bool) (first second : Code) (rest o : Option Code) → o ≡ cond a (Some first) (cond b (Some second) None)
    → is_some o ≡ false → rest ≡ cond a (Some first) (cond b (Some second) rest)
none_of_two true b first second rest o is none = absurd (false≢true (sym none ∙ ap is_some is))
none_of_two false true first second rest o is none = absurd (false≢true (sym none ∙ ap is_some is))
none_of_two false false first second rest o is none = refl

-- A record is late after so many others.
pub late_after : (log : List Lined) (earlier : List Record) (r : Record) (b : Bool) → earlier ≡ records_of log → b ≡ is_late (length log) r
    → b ≡ is_late (length earlier) r
late_after log earlier r b same is = is ∙ ap (λ n. is_late n r) (sym (ap length same ∙ length-map log (λ (l : Lined). l.rec)))

pub no_end : (b : Bool) (r : Record) → is_end r ≡ false → (b && is_end r) ≡ false
no_end true r e = e
no_end false r e = refl

-- The rules that look at a record.
abbrev pub rules_of : Record → List Code
rules_of (records.Ispace id set) = of_spaces
rules_of (records.Plane id rects) = of_spaces
rules_of (records.Sub part colour space) = of_subs
rules_of (records.Req task tree space fields access atomic) = of_reqs
rules_of (records.Fill id tree space fields n) = of_reqs
rules_of (records.Serial ids) = of_serials
rules_of (records.Inst id tree space fields kind) = of_insts
rules_of (records.Map task number fields inst) = of_maps
rules_of (records.Run task done waits) = of_nodes
rules_of (records.Copy src dst space fields done waits) = of_nodes
rules_of (records.Put inst space fields n done waits) = of_nodes
rules_of (records.Reset inst space fields done waits) = of_nodes
rules_of (records.Fold src dst space fields done waits) = of_nodes
rules_of (records.Merge done waits) = of_nodes
rules_of (records.End n) = of_ends
rules_of _ = of_names

-- It is looked at by these, and it is not the end.
abbrev pub IsOf : Record → List Code → Type 0
IsOf r codes = (rules_of r ≡ codes) × (is_end r ≡ false)

-- What is declared of other kinds than spaces has no points.
and-false : (b : Bool) → (b && false) ≡ false
and-false true = refl
and-false false = refl

-- A record that completes no event repeats none.
none_is : (test : LogNode → Bool) (nodes : List LogNode) → ((n : LogNode) → test n ≡ false) → list_any test nodes ≡ false
none_is test [] fail = refl
none_is test (n ∷ nodes) fail = ap (λ b. b || list_any test nodes) (fail n) ∙ none_is test nodes fail

no_event : (t : Tables) (r : Record) → node_of r ≡ None → repeats_event t r ≡ false
no_event t r none = none_is (λ n. completes n.done r) t.nodes
    (λ n. ap (λ (o : Option Node). option_map_or (λ (m : Node). m.done == n.done) o false) none)

-- No other rule is broken.
only_these : (log es : List Record) (t : Tables) (r : Record)
    → find (breaks_other (record { log = log; earlier = es; tables = t; rec = r })) (rules_of r) ≡ broken_of log es t r
only_these log es t (records.Header version) = rw (and-false (not (is_planar t))) (rw (and-false (is_planar t)) (rw (no_event t (records.Header version) refl) refl))
only_these log es t (records.Ispace id set) = rw (no_event t (records.Ispace id set) refl) refl
only_these log es t (records.Plane id rects) = rw (no_event t (records.Plane id rects) refl) refl
only_these log es t (records.Part id space disjoint) = rw (and-false (not (is_planar t))) (rw (and-false (is_planar t)) (rw (no_event t (records.Part id space disjoint) refl) refl))
only_these log es t (records.Sub part colour space) = rw (and-false (not (is_planar t))) (rw (and-false (is_planar t)) (rw (no_event t (records.Sub part colour space) refl) refl))
only_these log es t (records.Fields id fields) = rw (and-false (not (is_planar t))) (rw (and-false (is_planar t)) (rw (no_event t (records.Fields id fields) refl) refl))
only_these log es t (records.Tree id space fspace) = rw (and-false (not (is_planar t))) (rw (and-false (is_planar t)) (rw (no_event t (records.Tree id space fspace) refl) refl))
only_these log es t (records.Redop id) = rw (and-false (not (is_planar t))) (rw (and-false (is_planar t)) (rw (no_event t (records.Redop id) refl) refl))
only_these log es t (records.Task id) = rw (and-false (not (is_planar t))) (rw (and-false (is_planar t)) (rw (no_event t (records.Task id) refl) refl))
only_these log es t (records.Req task tree space fields access atomic) = rw (and-false (not (is_planar t))) (rw (and-false (is_planar t)) (rw (no_event t (records.Req task tree space fields access atomic) refl) refl))
only_these log es t (records.Fill id tree space fields n) = rw (and-false (not (is_planar t))) (rw (and-false (is_planar t)) (rw (no_event t (records.Fill id tree space fields n) refl) refl))
only_these log es t (records.Serial ids) = rw (and-false (not (is_planar t))) (rw (and-false (is_planar t)) (rw (no_event t (records.Serial ids) refl) refl))
only_these log es t (records.Inst id tree space fields kind) = rw (and-false (not (is_planar t))) (rw (and-false (is_planar t)) (rw (no_event t (records.Inst id tree space fields kind) refl) refl))
only_these log es t (records.Map task number fields inst) = rw (and-false (not (is_planar t))) (rw (and-false (is_planar t)) (rw (no_event t (records.Map task number fields inst) refl) refl))
only_these log es t (records.Run task done waits) = rw (and-false (not (is_planar t))) (rw (and-false (is_planar t)) refl)
only_these log es t (records.Copy src dst space fields done waits) = rw (and-false (not (is_planar t))) (rw (and-false (is_planar t)) refl)
only_these log es t (records.Put inst space fields n done waits) = rw (and-false (not (is_planar t))) (rw (and-false (is_planar t)) refl)
only_these log es t (records.Reset inst space fields done waits) = rw (and-false (not (is_planar t))) (rw (and-false (is_planar t)) refl)
only_these log es t (records.Fold src dst space fields done waits) = rw (and-false (not (is_planar t))) (rw (and-false (is_planar t)) refl)
only_these log es t (records.Merge done waits) = rw (and-false (not (is_planar t))) (rw (and-false (is_planar t)) refl)
only_these log es t (records.End n) = rw (and-false (not (is_planar t))) (rw (and-false (is_planar t)) (rw (no_event t (records.End n) refl) refl))

pub of_all : (log es : List Record) (t : Tables) (r : Record) (code : Option Code) (codes : List Code) → rules_of r ≡ codes
    → code ≡ find (breaks_other (record { log = log; earlier = es; tables = t; rec = r })) codes → code ≡ broken_of log es t r
of_all log es t r code codes are told =
    told ∙ ap (find (breaks_other (record { log = log; earlier = es; tables = t; rec = r }))) (sym are) ∙ only_these log es t r
