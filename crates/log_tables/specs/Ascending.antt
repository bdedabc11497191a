-- Lists of fields that ascend.
use Rattle.std.specs.Prelude.{ℕ, List, [], All}
use Rattle.std.specs.List.Sorted.{IsStrictlyIncreasing}
use Rattle.vocabulary.specs.Prelude.{FieldSpace, Item, ItemBody, Req, Inst}
use Rattle.semantics.specs.declared.tables.ItemBody.TheVariants.{Task, Fill}

-- The fields that an item covers by itself: those of a fill.
abbrev pub body_fields : ItemBody → List ℕ
body_fields Task = []
body_fields (Fill tree space fields n) = fields

-- The fields of each field space, each fill, each requirement and each instance ascend.
pub record FieldsAscend (fs : List FieldSpace) (its : List Item) (rs : List Req)
    (is : List Inst) : Type 0 where
  pub spaces : All (λ (f : FieldSpace). IsStrictlyIncreasing f.fields) fs
  pub items : All (λ (i : Item). IsStrictlyIncreasing (body_fields i.body)) its
  pub reqs : All (λ (r : Req). IsStrictlyIncreasing r.fields) rs
  pub insts : All (λ (i : Inst). IsStrictlyIncreasing i.fields) is
