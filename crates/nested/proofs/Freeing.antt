-- When groups are free of each other, by claims.
use Rattle.std.proofs.Common.{◌≡◌, ℕ, ◌==◌, Bool, true, false, not, inl, inr, List, [], ◌∷◌, None, filter, refl, sym, ap, ◌∙◌, subst}
use Rattle.std.specs.List.{list_any}
use mathlib.Core.Path.{fun_ext}
use Rattle.std.proofs.lemmas.Bool.{cases_Bool}
use Rattle.list_lemmas.proofs.lemmas.Places.{list_any_map}
use Rattle.privilege.specs.declared.kinds.Coherence.TheVariants.{Exclusive}
use Rattle.vocabulary.specs.Prelude.{Priv, Tables, agree, kind_of, is_free}
use Rattle.semantics.specs.declared.groups.GroupReq.{GroupReq}
use Rattle.semantics.specs.Nesting.{Nesting, as_req, privileges_of, interfere, are_free, nested_tables, shown_unlicensed}
use Rattle.licences.specs.Claims.{Claimed, conflict}
use Rattle.nest_laws.proofs.lemmas.Groups.{free_tasks}
use Rattle.nested.specs.Nested.{IsLicensed, TasksAreApart}
use Rattle.nested.specs.Rows.{claim_of, row_in}

free_where : (p q : Priv) → is_free (kind_of p Exclusive q Exclusive) ≡ agree p q
free_where p q = elim (cases_Bool (agree p q)) [ inl a ↦ rw a refl | inr n ↦ rw n refl ]

-- Two privileges of groups are exclusive.
same_conflict : (t : Tables) (q r : GroupReq) → conflict (claim_of t (as_req q)) (claim_of t (as_req r)) ≡ interfere t (as_req q) (as_req r)
same_conflict t q r = rw (free_where q.access r.access) refl

map_of : (t : Tables) (n : Nesting) (h : ℕ) (q : GroupReq)
    → list_any (conflict (claim_of t (as_req q))) (row_in t n h) ≡ list_any (interfere t (as_req q)) (privileges_of n h)
map_of t n h q =
    list_any_map (conflict (claim_of t (as_req q))) (λ (r : GroupReq). claim_of t (as_req r))
    (filter (λ (r : GroupReq). r.group == h) n.privileges)
    ∙ ap (λ (test : GroupReq → Bool). list_any test (filter (λ (r : GroupReq). r.group == h) n.privileges))
    (fun_ext (same_conflict t q))
    ∙ sym (list_any_map (interfere t (as_req q)) as_req (filter (λ (r : GroupReq). r.group == h) n.privileges))

pub free_told : (t : Tables) (n : Nesting) (g h : ℕ) (b : Bool) (ours theirs : List Claimed) → ours ≡ row_in t n g → theirs ≡ row_in t n h
    → b ≡ not (list_any (λ c. list_any (conflict c) theirs) ours) → b ≡ are_free t n g h
free_told t n g h b ours theirs ours_is theirs_is is =
    is ∙ ap (λ cs. not (list_any (λ c. list_any (conflict c) theirs) cs)) ours_is
    ∙ ap (λ cs. not (list_any (λ c. list_any (conflict c) cs) (row_in t n g))) theirs_is
    ∙ ap not (list_any_map (λ c. list_any (conflict c) (row_in t n h)) (λ (q : GroupReq). claim_of t (as_req q))
    (filter (λ (r : GroupReq). r.group == g) n.privileges)
    ∙ ap (λ (test : GroupReq → Bool). list_any test (filter (λ (r : GroupReq). r.group == g) n.privileges)) (fun_ext (map_of t n h))
    ∙ sym (list_any_map (λ q. list_any (interfere t q) (privileges_of n h)) as_req
    (filter (λ (r : GroupReq). r.group == g) n.privileges)))

pub free_of_none : (cs theirs : List Claimed) → theirs ≡ [] → true ≡ not (list_any (λ c. list_any (conflict c) theirs) cs)
free_of_none cs theirs is = sym (ap not (ap (λ ds. list_any (λ c. list_any (conflict c) ds) cs) is ∙ none cs))
  where
    none : (cs : List Claimed) → list_any (λ c. list_any (conflict c) []) cs ≡ false
    none [] = refl
    none (c ∷ cs) = none cs

-- Tasks below groups that are free of each other do not interfere.
pub tasks_apart : (t : Tables) (n : Nesting) (g h : ℕ) → IsLicensed t n → are_free t n g h ≡ true → TasksAreApart t n g h
tasks_apart t n g h l free =
    subst (λ (u : Tables). TasksAreApart u n g h) (sym l.tables)
    (subst (λ (m : Nesting). TasksAreApart (nested_tables l.log) m g h) (sym l.nesting)
    (free_tasks l.lines l.log l.faultless (subst (λ (m : Nesting). shown_unlicensed (nested_tables l.log) m ≡ None) l.nesting
    (subst (λ (u : Tables). shown_unlicensed u n ≡ None) l.tables l.licensed)) g h
    (subst (λ (m : Nesting). are_free (nested_tables l.log) m g h ≡ true) l.nesting
    (subst (λ (u : Tables). are_free u n g h ≡ true) l.tables free))))
