-- What tables declare of regions stays, as they grow.
use Rattle.std.proofs.Common.{◌≡◌, ℕ, ◌==◌, Bool, true, List, [], ◌∷◌, ◌++◌, find, Option, refl, sym, ap, ◌∙◌, inl, inr, append_assoc}
use Rattle.std.specs.Prelude.{fold}
use Rattle.std.specs.List.{list_any}
use Rattle.std.specs.Option.{option_map_or}
use Rattle.std.proofs.lemmas.Bool.{cases_Bool, false≢true}
use Rattle.std.proofs.lemmas.List.{append-nil}
use Rattle.std.proofs.lemmas.List.Sums.{fold-append}
use Rattle.vocabulary.specs.Prelude.{Rect, Record, Lined, Tables, Space, with_space, with_record, no_tables, tables_of, points_in, part_at}
use Rattle.spy_grammar.specs.declared.record.Record.TheVariants.{Ispace, Plane, Part, Sub}
use Rattle.semantics.specs.declared.tables.Part as parts
use Rattle.semantics.specs.declared.tables.Sub as subs

-- The spaces, partitions and subspaces of the later tables begin with those of the earlier ones.
pub record Extends (t u : Tables) : Type 0 where
  pub more_spaces : List Space
  pub more_parts : List parts.Part
  pub more_subs : List subs.Sub
  pub spaces : u.spaces ≡ t.spaces ++ more_spaces
  pub parts : u.parts ≡ t.parts ++ more_parts
  pub subs : u.subs ≡ t.subs ++ more_subs

pub extends_itself : (t u : Tables) → u.spaces ≡ t.spaces → u.parts ≡ t.parts → u.subs ≡ t.subs → Extends t u
extends_itself t u s p b = record {
  more_spaces = [];
  more_parts = [];
  more_subs = [];
  spaces = s ∙ sym (append-nil t.spaces);
  parts = p ∙ sym (append-nil t.parts);
  subs = b ∙ sym (append-nil t.subs);
}

extends_space : (t : Tables) (id : ℕ) (points : List ℕ) (rects : List Rect) → Extends t (with_space t id points rects)
extends_space t id points rects = record {
  more_spaces = _;
  more_parts = [];
  more_subs = [];
  spaces = refl;
  parts =
      sym (append-nil t.parts);
  subs = sym (append-nil t.subs);
}

extends_with : (t : Tables) (line : ℕ) (r : Record) → Extends t (with_record t line r)
extends_with t line (Ispace id set) = extends_space t id _ _
extends_with t line (Plane id quads) = extends_space t id _ _
extends_with t line (Part id space disjoint) =
    record {
      more_spaces = [];
      more_parts = _;
      more_subs = [];
      spaces = sym (append-nil t.spaces);
      parts = refl;
      subs =
          sym (append-nil t.subs);
    }
extends_with t line (Sub part colour space) = record {
  more_spaces = [];
  more_parts = [];
  more_subs = _;
  spaces =
      sym (append-nil t.spaces);
  parts = sym (append-nil t.parts);
  subs = refl;
}
extends_with t line _ = extends_itself t _ refl refl refl

extends_on : (t u v : Tables) → Extends t u → Extends u v → Extends t v
extends_on t u v e f = record {
  more_spaces = e.more_spaces ++ f.more_spaces;
  more_parts = e.more_parts ++ f.more_parts;
  more_subs = e.more_subs ++ f.more_subs;
  spaces = f.spaces ∙ ap (λ (xs : List Space). xs ++ f.more_spaces) e.spaces ∙ append_assoc t.spaces e.more_spaces f.more_spaces;
  parts = f.parts ∙ ap (λ (xs : List parts.Part). xs ++ f.more_parts) e.parts ∙ append_assoc t.parts e.more_parts f.more_parts;
  subs = f.subs ∙ ap (λ (xs : List subs.Sub). xs ++ f.more_subs) e.subs ∙ append_assoc t.subs e.more_subs f.more_subs;
}

extends_by : (t : Tables) (log : List Lined) → Extends t (fold (λ (u : Tables) (l : Lined). with_record u l.line l.rec) t log)
extends_by t [] = extends_itself t t refl refl refl
extends_by t (l ∷ log) = extends_on t (with_record t l.line l.rec) _ (extends_with t l.line l.rec)
    (extends_by (with_record t l.line l.rec) log)

pub tables_by : (earlier rest : List Lined) → tables_of (earlier ++ rest)
    ≡ fold (λ (u : Tables) (l : Lined). with_record u l.line l.rec) (tables_of earlier) rest
tables_by earlier rest = fold-append (λ (u : Tables) (l : Lined). with_record u l.line l.rec) no_tables earlier rest

pub extends_tables : (earlier rest : List Lined) → Extends (tables_of earlier) (tables_of (earlier ++ rest))
extends_tables earlier rest = let e = extends_by (tables_of earlier) rest in record {
  more_spaces = e.more_spaces;
  more_parts = e.more_parts;
  more_subs = e.more_subs;
  spaces = ap (λ (u : Tables). u.spaces) (tables_by earlier rest) ∙ e.spaces;
  parts = ap (λ (u : Tables). u.parts) (tables_by earlier rest) ∙ e.parts;
  subs = ap (λ (u : Tables). u.subs) (tables_by earlier rest) ∙ e.subs;
}

-- What is found among the first is found among all.
find_kept : {X : Type 0} (p : X → Bool) (xs ys : List X) → list_any p xs ≡ true → find p (xs ++ ys) ≡ find p xs
find_kept p [] ys e = absurd (false≢true e)
find_kept p (x ∷ xs) ys e = elim (cases_Bool (p x)) [ inl hit ↦ rw hit refl | inr miss ↦ rw miss (find_kept p xs ys (rw miss at e)) ]

pub points_kept : (t u : Tables) → Extends t u → (id : ℕ) → list_any (λ (s : Space). s.id == id) t.spaces ≡ true
    → points_in u id ≡ points_in t id
points_kept t u e id has =
    ap (λ (xs : List Space). option_map_or (λ (s : Space). s.points) (find (λ (s : Space). s.id == id) xs) []) e.spaces
    ∙ ap (λ (o : Option Space). option_map_or (λ (s : Space). s.points) o [])
    (find_kept (λ (s : Space). s.id == id) t.spaces e.more_spaces has)

pub part_kept : (t u : Tables) → Extends t u → (id : ℕ) → list_any (λ (p : parts.Part). p.id == id) t.parts ≡ true
    → part_at u id ≡ part_at t id
part_kept t u e id has =
    ap (λ (xs : List parts.Part). find (λ (p : parts.Part). p.id == id) xs) e.parts
    ∙ find_kept (λ (p : parts.Part). p.id == id) t.parts e.more_parts has
