-- What the forest says of the records that it judges.
use Rattle.std.proofs.Common.{◌≡◌, ℕ, ◌-◌, ◌<◌, List, [], length, slice_get, Some, None, sym, ap, ◌∙◌, arith}
use Rattle.std.proofs.lemmas.Option.{same_Some, slice_get_within}
use Rattle.vocabulary.specs.Prelude.{Code, Record, Lined, tables_of}
use Rattle.spy_grammar.specs.declared.code.Code.TheVariants as codes
use Rattle.region_tree.specs.Faults.{IsFaulty, FirstNotWithin, FirstNotDisjoint}
use Rattle.region_tree.specs.Growing.{IsGrown}
use Rattle.region_tree.proofs.lemmas.Growth.{grown_none}
use Rattle.semantics.specs.Faults.{at_line}
use Rattle.log_tables.specs.Regions.{regions_of}
use Rattle.log_decl.specs.SubLines.{sub_lines}
use Rattle.log_decl.specs.Walk.{Keep, spaces_fault}
use Rattle.log_decl.proofs.SpaceFaults.{ShownAt, outside, met, no_fault, first_fault, grown_all}

module _ (log : List Record) (kept : List Lined) (keep : Keep log [] kept) where
  pub grown_log : IsGrown (regions_of (tables_of kept))
  grown_log = grown_all log [] kept grown_none keep

  pub faultless : ((i : ℕ) → ¬ IsFaulty (regions_of (tables_of kept)) i) → spaces_fault [] kept ≡ None
  faultless sound = no_fault log [] kept grown_none keep (λ i _. sound i)

  pub not_within : (sub point : ℕ) → FirstNotWithin (regions_of (tables_of kept)) sub point → ShownAt [] kept sub codes.NotWithin
  not_within sub point first = first_fault log [] kept sub codes.NotWithin grown_none keep (omega arith) first.0.1 (outside point first.1.0)

  pub not_disjoint : (sub other point : ℕ) → FirstNotDisjoint (regions_of (tables_of kept)) sub other point
      → ShownAt [] kept sub codes.NotDisjoint
  not_disjoint sub other point first = first_fault log [] kept sub codes.NotDisjoint grown_none keep (omega arith) first.0.1
      (met other first.2.0 first.1)

shown_line : (kept : List Lined) (sub : ℕ) (code : Code) (shown : ShownAt [] kept sub code) → slice_get (sub_lines kept) sub ≡ Some shown.0
shown_line kept sub code shown = let all : sub ≡ sub - 0 = omega arith in ap (slice_get (sub_lines kept)) all ∙ shown.1

pub listed : (kept : List Lined) (sub : ℕ) (code : Code) → ShownAt [] kept sub code → sub < length (sub_lines kept)
listed kept sub code shown = slice_get_within (sub_lines kept) sub shown.0 (shown_line kept sub code shown)

pub told_at : (kept : List Lined) (sub : ℕ) (code : Code) (line : ℕ) → ShownAt [] kept sub code → Some line ≡ slice_get (sub_lines kept) sub
    → spaces_fault [] kept ≡ Some (at_line code line)
told_at kept sub code line shown e = shown.2 ∙ ap (λ n. Some (at_line code n))
    (same_Some shown.0 line (sym (shown_line kept sub code shown) ∙ sym e))
