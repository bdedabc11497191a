-- A forest, record by record, as long as the rules but for the two of the forest are kept.
use Rattle.std.proofs.Common.{◌≡◌, ℕ, ◌==◌, Bool, true, false, ◌&&◌, List, [], ◌∷◌, map, All, IsSome, None, subst, refl, sym, ap, ◌∙◌, eq-eqb}
use Rattle.std.specs.List.{list_any}
use Rattle.std.proofs.lemmas.Bool.{and_from, and_parts, false≢true, not-false, or_parts}
use Rattle.std.proofs.lemmas.List.Elements.{All-nil, All-cons}
use Rattle.spy_grammar.specs.declared.code.Code.TheVariants as codes
use Rattle.vocabulary.specs.Prelude.{Rect, Record, Lined, Tables, Space, plane_points, points_of, rect_of, strip, with_space, with_record, tables_of}
use Rattle.spy_grammar.specs.declared.record.Record.TheVariants.{Ispace, Plane, Part, Sub}
use Rattle.log_tables.specs.declared.entries.Step.{Step}
use Rattle.log_tables.specs.Regions.{regions_of, space_of, part_of, step_of}
use Rattle.semantics.specs.declared.tables.Part as parts
use Rattle.semantics.specs.declared.tables.Sub as subs
use Rattle.semantics.specs.Faults.{record_in}
use Rattle.semantics.specs.Rules as rules
use Rattle.region_tree.specs.Growing.{IsGrown}
use Rattle.semantics.proofs.lemmas.RecordRules.{none_passes}
use Rattle.log_decl.specs.Walk.{breaks_other, other_broken}
use Rattle.log_decl.proofs.Depth.{depth_told}
use Rattle.region_tree.proofs.lemmas.Growth.{grown_space, grown_part, grown_sub}
use Rattle.list_lemmas.proofs.lemmas.Contained.{find_any}

-- Facts from tests.
none_like : {X : Type 0} (P : X → Type 0) (p : X → Bool) (xs : List X) → ((x : X) → P x → p x ≡ true) → list_any p xs ≡ false
    → All (λ x. ¬ P x) xs
none_like P p [] tells e = All-nil (λ x. ¬ P x)
none_like P p (x ∷ xs) tells e = let both = or_parts (p x) (list_any p xs) e in
    All-cons (λ x. ¬ P x) x xs (λ h. false≢true (sym both.0 ∙ tells x h)) (none_like P p xs tells both.1)

-- What is declared is found.
known_space : (t : Tables) (id : ℕ) → list_any (λ (s : Space). s.id == id) t.spaces ≡ true → IsSome (space_of (regions_of t) id)
known_space t id has =
    let h = find_any (λ (s : Space). s.id == id) t.spaces has in
    subst IsSome (sym h.1) refl

known_part : (t : Tables) (id : ℕ) → list_any (λ (p : parts.Part). p.id == id) t.parts ≡ true → IsSome (part_of (regions_of t) id)
known_part t id has =
    let h = find_any (λ (p : parts.Part). p.id == id) t.parts has in
    subst IsSome (sym h.1) refl

-- The rules before those of the forest, as facts.
pub record Keeps (t : Tables) (r : Record) : Type 0 where
  pub new : rules.repeats_id t r ≡ false
  pub known : rules.names_unknown t r ≡ false
  pub once : rules.is_sub_again t r ≡ false
  pub early : rules.is_late_sub t r ≡ false
  pub shallow : rules.is_too_deep t r ≡ false

pub keeps_of : (log : List Record) (earlier : List Lined) (r : Record) → other_broken log earlier r ≡ None → Keeps (tables_of earlier) r
keeps_of log earlier r e =
    let kept = none_passes (breaks_other (record_in log earlier r)) e in
    record {
      new = kept codes.RepeatedId refl;
      known = kept codes.UnknownId refl;
      once = kept codes.SpaceInTwo refl;
      early = kept codes.LateSub refl;
      shallow = kept codes.TooDeep refl;
    }

-- One record more.
space_step : (t : Tables) (id : ℕ) (points : List ℕ) (rects : List Rect) → IsGrown (regions_of t)
    → list_any (λ (x : Space). x.id == id) t.spaces ≡ false → IsGrown (regions_of (with_space t id points rects))
space_step t id points rects grown new =
    grown_space (regions_of t) (record { id = id; points = points }) grown
    (none_like (λ (x : Space). x.id ≡ id) (λ (x : Space). x.id == id) t.spaces (λ x same. eq-eqb x.id id same) new)

part_step : (t : Tables) (line id space : ℕ) (disjoint : Bool) → IsGrown (regions_of t) → Keeps t (Part id space disjoint)
    → IsGrown (regions_of (with_record t line (Part id space disjoint)))
part_step t line id space disjoint grown keeps =
    let named = not-false _ (or_parts _ _ keeps.known).0 in
    grown_part (regions_of t) (record { id = id; space = space; disjoint = disjoint }) grown
    (none_like (λ (x : parts.Part). x.id ≡ id) (λ (x : parts.Part). x.id == id) t.parts (λ x same. eq-eqb x.id id same)
    (or_parts _ _ keeps.new).0) (known_space t space (and_parts _ _ named).0)

sub_step : (t : Tables) (line part colour space : ℕ) → IsGrown (regions_of t) → Keeps t (Sub part colour space)
    → IsGrown (regions_of (with_record t line (Sub part colour space)))
sub_step t line part colour space grown keeps =
    let s : subs.Sub = record { part = part; colour = colour; space = space } in
    let named = and_parts _ _ (not-false _ (or_parts _ _ keeps.known).0) in
    let late = or_parts _ _ keeps.early in
    grown_sub (regions_of t) s grown (record {
      part = known_part t part named.0;
      space = known_space t space (and_parts _ _ named.1).0;
      step = none_like (λ (x : subs.Sub). step_of x ≡ step_of s) (λ (x : subs.Sub). (x.part == part) && (x.colour == colour)) t.subs
          (λ x same. and_from (x.part == part) (x.colour == colour) (eq-eqb x.part part (ap (λ (u : Step). u.part) same))
          (eq-eqb x.colour colour (ap (λ (u : Step). u.colour) same))) keeps.new;
      sub = none_like (λ (x : subs.Sub). x.space ≡ space) (λ (x : subs.Sub). x.space == space) t.subs
          (λ x same. eq-eqb x.space space same) keeps.once;
      whole = none_like (λ (p : parts.Part). p.space ≡ space) (λ (p : parts.Part). p.space == space) t.parts
          (λ p same. eq-eqb p.space space same) late.0;
      depth = depth_told t part colour space grown keeps.shallow;
    })

pub grown_with : (t : Tables) (line : ℕ) (r : Record) → IsGrown (regions_of t) → Keeps t r → IsGrown (regions_of (with_record t line r))
grown_with t line (Ispace id set) grown keeps = space_step t id (points_of set) (map strip set) grown (or_parts _ _ keeps.new).0
grown_with t line (Plane id quads) grown keeps = space_step t id (plane_points quads) (map rect_of quads) grown (or_parts _ _ keeps.new).0
grown_with t line (Part id space disjoint) grown keeps = part_step t line id space disjoint grown keeps
grown_with t line (Sub part colour space) grown keeps = sub_step t line part colour space grown keeps
grown_with t line _ grown keeps = grown
