-- Each privilege is one of a group that there is, where no record breaks a rule on groups.
use Rattle.std.proofs.Common.{◌≡◌, ℕ, ◌==◌, Bool, true, false, not, ◌&&◌, List, [], ◌∷◌, ◌++◌, fold, Option, Some, None, ◌+◌, refl, sym, ◌∙◌, if◌then◌else◌}
use Rattle.std.specs.List.{list_any, list_all}
use Rattle.std.proofs.lemmas.Bool.{and_parts, not-false}
use Rattle.std.proofs.lemmas.Option.{none-some}
use Rattle.std.proofs.lemmas.List.Folds.{list_any-append}
use Rattle.vocabulary.specs.Prelude.{Code, Tables, privilege_of}
use Rattle.spy_grammar.specs.declared.code.Code.TheVariants as codes
use Rattle.spy_grammar.specs.declared.nested.NRecord.{NRecord}
use Rattle.spy_grammar.specs.declared.nested.NRecord.TheVariants as records
use Rattle.semantics.specs.declared.groups.Group as groups
use Rattle.semantics.specs.declared.groups.GroupReq.{GroupReq}
use Rattle.semantics.specs.Nesting.{Nesting, with_nested, is_group, is_late_nested, repeats_group, named_groups, privileges_before}
use Rattle.list_lemmas.proofs.lemmas.Contained.{both_none, unmapped_none}
use Rattle.nest_rules.specs.declared.pending.Pending.{Pending}
use Rattle.nest_rules.specs.Pending.{broken, with_pending, pending_fault}
use Rattle.nested.specs.Rows.{AreNamed}

all_push : {X : Type 0} (p : X → Bool) (xs : List X) (x : X) → list_all p xs ≡ true → p x ≡ true → list_all p (xs ++ x ∷ []) ≡ true
all_push p [] x e f = rw f refl
all_push p (y ∷ xs) x e f = let parts = and_parts (p y) (list_all p xs) e in rw parts.0 (all_push p xs x parts.1 f)

all_still : {X : Type 0} (p q : X → Bool) → ((x : X) → p x ≡ true → q x ≡ true) → (xs : List X) → list_all p xs ≡ true
    → list_all q xs ≡ true
all_still p q so [] e = refl
all_still p q so (x ∷ xs) e = let parts = and_parts (p x) (list_all p xs) e in rw (so x parts.0) (all_still p q so xs parts.1)

group_stays : (n : Nesting) (g : groups.Group) (id : ℕ) → is_group n id ≡ true
    → list_any (λ (x : groups.Group). x.id == id) (n.groups ++ g ∷ []) ≡ true
group_stays n g id e = list_any-append (λ (x : groups.Group). x.id == id) n.groups (g ∷ []) ∙ rw e refl

known_of : (late again unknown : Bool) (o : Option Code)
    → (if late then Some codes.TooManyRecords else if again then Some codes.RepeatedId else if unknown then Some codes.UnknownId else o)
    ≡ None → unknown ≡ false
known_of true again unknown o e = absurd (none-some _ (sym e))
known_of false true unknown o e = absurd (none-some _ (sym e))
known_of false false true o e = absurd (none-some _ (sym e))
known_of false false false o e = refl

has_groups : (t : Tables) (n : Nesting) (p : Pending) → broken t n p ≡ None → list_all (is_group n) (named_groups p.rec) ≡ true
has_groups t n p e =
    (and_parts (list_all (is_group n) (named_groups p.rec)) p.known
    (not-false _ (known_of (is_late_nested n p.rec) (repeats_group n p.rec)
    (not (list_all (is_group n) (named_groups p.rec) && p.known)) _ e))).0

named_with : (n : Nesting) (r : NRecord) → list_all (is_group n) (named_groups r) ≡ true → AreNamed n → AreNamed (with_nested n r)
named_with n (records.Greq group tree space fields access) known h =
    all_push (λ (q : GroupReq). is_group n q.group) n.privileges
    (record {
      group = group;
      number = privileges_before n.privileges group + 1;
      tree = tree;
      space = space;
      fields = fields;
      access =
          privilege_of access;
    }) h
    (and_parts (is_group n group) true known).0
named_with n (records.Group id parent) known h =
    all_still (λ (q : GroupReq). is_group n q.group) _ (λ q e. group_stays n (record { id = id; parent = parent }) q.group e) n.privileges h
named_with n _ known h = h

pub named_all : (t : Tables) (n : Nesting) (ps : List Pending) → pending_fault t n ps ≡ None → AreNamed n
    → AreNamed (fold with_pending n ps)
named_all t n [] e h = h
named_all t n (p ∷ ps) e h =
    let both = both_none _ (pending_fault t (with_pending n p) ps) e in
    named_all t (with_pending n p) ps both.1 (named_with n p.rec (has_groups t n p (unmapped_none _ _ both.0)) h)
