-- The fields of a tree that is declared stay, as a log without a fault goes on.
use Rattle.std.proofs.Common.{◌≡◌, ℕ, ◌==◌, true, List, [], ◌∷◌, ◌++◌, refl, sym, ap, ◌∙◌, subst, Some, None, append_assoc, Contains}
use Rattle.std.specs.List.{list_any}
use Rattle.std.specs.Option.{option_map_or}
use Rattle.std.proofs.lemmas.Bool.{and_parts}
use Rattle.std.proofs.lemmas.List.Elements.{recursion_from_All}
use Rattle.std.proofs.lemmas.List.Folds.{list_any-append}
use Rattle.vocabulary.specs.Prelude.{Record, Lined, Tables, records_of, with_record, tables_of, fields_in, tree_at}
use Rattle.spy_grammar.specs.declared.record.Record.TheVariants.{Fields, Tree}
use Rattle.semantics.specs.declared.tables.Tree as trees
use Rattle.semantics.specs.declared.tables.FieldSpace as fspaces
use Rattle.semantics.specs.Rules.{is_declared, tree_id, field_space_id, space_id, exceeds_tree}
use Rattle.semantics.specs.Faults.{records_fault}
use Rattle.list_lemmas.proofs.lemmas.Contained.{each_more, found_at, find_any, find_still, both_none, Contains-nil}
use Rattle.log_laws.proofs.lemmas.Admitted.{Unbroken, by_records, keeps_of}

-- The field space of each tree is declared.
abbrev AreFielded : Tables → Type 0
AreFielded t = (r : trees.Tree) → Contains t.trees r → is_declared t (field_space_id r.fspace) ≡ true

still_declared : (xs ys : List fspaces.FieldSpace) (id : ℕ) → list_any (λ (f : fspaces.FieldSpace). f.id == id) xs ≡ true
    → list_any (λ (f : fspaces.FieldSpace). f.id == id) (xs ++ ys) ≡ true
still_declared xs ys id e = list_any-append (λ (f : fspaces.FieldSpace). f.id == id) xs ys ∙ rw e refl

fielded_with : (log : List Record) (earlier : List Lined) (line : ℕ) (r : Record) → Unbroken log earlier r → AreFielded (tables_of earlier)
    → AreFielded (with_record (tables_of earlier) line r)
fielded_with log earlier line (Tree id space fspace) u h =
    let t : Tables = tables_of earlier in
    let named = and_parts (is_declared t (space_id space)) _ (keeps_of log earlier (Tree id space fspace) u).declared in
    each_more (λ (r : trees.Tree). is_declared t (field_space_id r.fspace) ≡ true) t.trees
    (record { id = id; space = space; fspace = fspace }) h (and_parts (is_declared t (field_space_id fspace)) true named.1).0
fielded_with log earlier line (Fields id fields) u h = λ r m. still_declared (tables_of earlier).field_spaces _ r.fspace (h r m)
fielded_with log earlier line _ u h = h

fielded : (log : List Record) (rest : List Lined) → records_fault log [] rest ≡ None → AreFielded (tables_of rest)
fielded log rest e = by_records (λ r. Unit {0}) AreFielded log (λ earlier l u _. fielded_with log earlier l.line l.rec u) [] rest
    (recursion_from_All _ (records_of rest) (λ k d lt. tt)) e (λ r m. absurd (Contains-nil m))

-- What is found of a tree is found later.
record IsKept (t u : Tables) : Type 0 where
  tree : (id : ℕ) (r : trees.Tree) → tree_at t id ≡ Some r → tree_at u id ≡ Some r
  fields : (id : ℕ) → is_declared t (field_space_id id) ≡ true → (is_declared u (field_space_id id) ≡ true)
      × (fields_in u id ≡ fields_in t id)

kept_with : (t u : Tables) (line : ℕ) (r : Record) → IsKept t u → IsKept t (with_record u line r)
kept_with t u line (Tree id space fspace) h = record {
  tree =
      λ k r e. find_still (λ (r : trees.Tree). r.id == k) u.trees _ r (h.tree k r e);
  fields = h.fields;
}
kept_with t u line (Fields id fields) h = record {
  tree = h.tree;
  fields = λ k e.
      let was = h.fields k e in
      let found = find_any (λ (f : fspaces.FieldSpace). f.id == k) u.field_spaces was.0 in (
        still_declared u.field_spaces _ k was.0,
        ap (λ o. option_map_or (λ (f : fspaces.FieldSpace). f.fields) o [])
            (find_still (λ (f : fspaces.FieldSpace). f.id == k) u.field_spaces (record { id = id; fields = fields } ∷ []) found.0 found.1
            ∙ sym found.1) ∙ was.1,
      );
}
kept_with t u line _ h = record { tree = h.tree; fields = h.fields }

kept : (earlier rest : List Lined) (log : List Record) → records_fault log earlier rest ≡ None
    → IsKept (tables_of earlier) (tables_of (earlier ++ rest))
kept earlier rest log e = by_records (λ r. Unit {0}) (IsKept (tables_of earlier)) log
    (λ before l u _. kept_with (tables_of earlier) (tables_of before) l.line l.rec) earlier rest
    (recursion_from_All _ (records_of rest) (λ k d lt. tt)) e
    (record { tree = λ id r e. e; fields = λ id e. (e, refl) })

-- Where no record breaks a rule, none of the first ones does, nor of the others.
parted : (log : List Record) (earlier first rest : List Lined) → records_fault log earlier (first ++ rest) ≡ None
    → (records_fault log earlier first ≡ None) × (records_fault log (earlier ++ first) rest ≡ None)
parted log earlier [] rest e = (refl, subst (λ ls. records_fault log ls rest ≡ None) (sym (nothing earlier)) e)
  where
    nothing : {X : Type 0} (xs : List X) → xs ++ [] ≡ xs
    nothing [] = refl
    nothing (x ∷ xs) = ap (λ ys. x ∷ ys) (nothing xs)
parted log earlier (l ∷ first) rest e =
    let here = both_none _ (records_fault log (earlier ++ l ∷ []) (first ++ rest)) e in
    let later = parted log (earlier ++ l ∷ []) first rest here.1 in
    (rw (here.0, later.0) refl, subst (λ ls. records_fault log ls rest ≡ None) (append_assoc earlier (l ∷ []) first) later.1)

-- So a tree that is declared early has the fields that it has at last.
pub same_fields : (log : List Record) (earlier rest : List Lined) (tree : ℕ) (fields : List ℕ)
    → records_fault log [] (earlier ++ rest) ≡ None → is_declared (tables_of earlier) (tree_id tree) ≡ true
    → exceeds_tree (tables_of earlier) tree fields ≡ exceeds_tree (tables_of (earlier ++ rest)) tree fields
same_fields log earlier rest tree fields e is =
    let t : Tables = tables_of earlier in
    let both = parted log [] earlier rest e in
    let stays = kept earlier rest log both.1 in
    let found = find_any (λ (r : trees.Tree). r.id == tree) t.trees is in
    let at : tree_at t tree ≡ Some found.0 = found.1 in
    let later = stays.tree tree found.0 at in
    let of = stays.fields found.0.fspace (fielded log earlier both.0 found.0
    (found_at (λ (r : trees.Tree). r.id == tree) t.trees found.0 at).0) in
    rw (at, later, of.1) refl
