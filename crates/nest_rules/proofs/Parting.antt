-- A nested log in its parts, one record more.
use Rattle.std.proofs.Common.{◌≡◌, ℕ, ◌==◌, Bool, true, false, ◌&&◌, inl, inr, List, [], ◌∷◌, ◌++◌, map, refl, sym, ap, ◌∙◌, append_assoc}
use Rattle.std.specs.List.{list_any, filter_map}
use Rattle.std.proofs.lemmas.Bool.{cases_Bool}
use Rattle.std.proofs.lemmas.List.Elements.{filter_map-append}
use Rattle.list_lemmas.proofs.lemmas.Places.{list_any_map}
use Rattle.vocabulary.specs.Prelude.{Record, Lined, Item, Tables, Space, with_record, is_in}
use Rattle.spy_grammar.specs.declared.record.Record.TheVariants.{Ispace, Plane, Tree, Task, Fill}
use Rattle.spy_grammar.specs.declared.nested.NRecord.{NRecord}
use Rattle.spy_grammar.specs.declared.nested.NRecord.TheVariants as records
use Rattle.spy_grammar.specs.declared.nested.NLined.{NLined}
use Rattle.semantics.specs.declared.tables.Tree as trees
use Rattle.semantics.specs.Rules.{is_task}
use Rattle.semantics.specs.Nesting.{plain_line, plain_log}
use Rattle.log_tables.specs.Runs.{task_named}
use Rattle.nest_rules.specs.declared.pending.Pending.{Pending}
use Rattle.nest_rules.specs.declared.ids.Ids.{Ids}
use Rattle.nest_rules.specs.Pending.{AreIds, with_ids, with_ids_of, knows_by, knows, pending_with, pending_by, pending_from, with_plain}

map_push : {X Y : Type 0} (f : X → Y) (xs : List X) (x : X) → map f (xs ++ x ∷ []) ≡ map f xs ++ f x ∷ []
map_push f [] x = refl
map_push f (y ∷ xs) x = ap (λ ys. f y ∷ ys) (map_push f xs x)

-- ---- the ids

ids_with : (t : Tables) (ids : Ids) (line : ℕ) (r : Record) → AreIds t ids → AreIds (with_record t line r) (with_ids ids r)
ids_with t ids line (Ispace id set) h = record {
  spaces =
      ap (λ (xs : List ℕ). xs ++ id ∷ []) h.spaces ∙ sym (map_push (λ (s : Space). s.id) t.spaces _);
  trees = h.trees;
  tasks = h.tasks;
}
ids_with t ids line (Plane id quads) h = record {
  spaces =
      ap (λ (xs : List ℕ). xs ++ id ∷ []) h.spaces ∙ sym (map_push (λ (s : Space). s.id) t.spaces _);
  trees = h.trees;
  tasks = h.tasks;
}
ids_with t ids line (Tree id space fspace) h =
    record {
      spaces = h.spaces;
      trees = ap (λ (xs : List ℕ). xs ++ id ∷ []) h.trees ∙ sym (map_push (λ (r : trees.Tree). r.id) t.trees _);
      tasks = h.tasks;
    }
ids_with t ids line (Task id) h = record {
  spaces = h.spaces;
  trees = h.trees;
  tasks =
      ap (λ (xs : List ℕ). xs ++ id ∷ []) h.tasks ∙ sym (filter_map-append task_named t.items _);
}
ids_with t ids line (Fill id tree space fields n) h =
    record {
      spaces = h.spaces;
      trees = h.trees;
      tasks =
          h.tasks ∙ sym (filter_map-append task_named t.items _ ∙ none (filter_map task_named t.items));
    }
  where
    none : (xs : List ℕ) → xs ++ [] ≡ xs
    none [] = refl
    none (x ∷ xs) = ap (λ ys. x ∷ ys) (none xs)
ids_with t ids line _ h = record { spaces = h.spaces; trees = h.trees; tasks = h.tasks }

pub ids_more : (t : Tables) (ids : Ids) (line : ℕ) (r : NRecord) → AreIds t ids
    → AreIds (with_plain t (record { line = line; rec = r })) (with_ids_of ids r)
ids_more t ids line (records.Plain r) h = ids_with t ids line r h
ids_more t ids line (records.Group id parent) h = h
ids_more t ids line (records.Greq group tree space fields access) h = h
ids_more t ids line (records.Member task group) h = h

has_task : (items : List Item) (id : ℕ) → is_in (filter_map task_named items) id
    ≡ list_any (λ (i : Item). (i.id == id) && is_task i.body) items
has_task [] id = refl
has_task (i ∷ items) id = elim (cases_Bool (is_task i.body)) [
  | inl task ↦ rw (task, has_task items id, and_true (i.id == id)) refl
  | inr other ↦ rw (other, has_task items id, and_false (i.id == id)) refl
]
  where
    and_true : (b : Bool) → (b && true) ≡ b
    and_true true = refl
    and_true false = refl

    and_false : (b : Bool) → (b && false) ≡ false
    and_false true = refl
    and_false false = refl

knows_told : (t : Tables) (ids : Ids) (r : NRecord) → AreIds t ids → knows_by ids r ≡ knows t r
knows_told t ids (records.Greq group tree space fields access) h =
    rw (
      h.trees,
      h.spaces,
      list_any_map (λ (n : ℕ). n == tree) (λ (r : trees.Tree). r.id) t.trees,
      list_any_map (λ (n : ℕ). n == space) (λ (s : Space). s.id) t.spaces,
    )
    (ap (λ b. list_any (λ (r : trees.Tree). r.id == tree) t.trees && b) (sym (and_true _)))
  where
    and_true : (b : Bool) → (b && true) ≡ b
    and_true true = refl
    and_true false = refl
knows_told t ids (records.Member task group) h = rw (h.tasks, has_task t.items task) (sym (and_true _))
  where
    and_true : (b : Bool) → (b && true) ≡ b
    and_true true = refl
    and_true false = refl
knows_told t ids _ h = refl

-- ---- the loop's step

pub nested_step : (t : Tables) (ids : Ids) (l : NLined) (rest : List NLined) (now next all : List Pending) → AreIds t ids
    → next ≡ now ++ pending_by ids l → now ++ pending_from t (l ∷ rest) ≡ all
    → next ++ pending_from (with_plain t l) rest ≡ all
nested_step t ids l rest now next all h more e =
    ap (λ (ps : List Pending). ps ++ pending_from (with_plain t l) rest) (more
    ∙ ap (λ known. now ++ pending_with known l) (knows_told t ids l.rec h))
    ∙ append_assoc now (pending_with (knows t l.rec) l) (pending_from (with_plain t l) rest) ∙ e

pub plain_step : (l : NLined) (rest : List NLined) (now next all : List Lined) → next ≡ now ++ plain_log (l ∷ [])
    → now ++ plain_log (l ∷ rest) ≡ all → next ++ plain_log rest ≡ all
plain_step l rest now next all more e =
    ap (λ (ps : List Lined). ps ++ plain_log rest) more ∙ append_assoc now (plain_log (l ∷ [])) (plain_log rest)
    ∙ ap (λ (ps : List Lined). now ++ ps) (sym (filter_map-append plain_line (l ∷ []) rest)) ∙ e
