-- Lists of fields that ascend, with one more.
use Rattle.std.proofs.Common.{List, [], ◌∷◌, ◌++◌}
use Rattle.std.specs.List.Sorted.{IsStrictlyIncreasing}
use Rattle.std.proofs.lemmas.List.Elements.{All-push}
use Rattle.vocabulary.specs.Prelude.{FieldSpace, Item, Req, Inst}
use Rattle.log_tables.specs.Ascending.{FieldsAscend, body_fields}

pub space_more : (fs : List FieldSpace) (its : List Item) (rs : List Req) (is : List Inst) (f : FieldSpace) → FieldsAscend fs its rs is
    → IsStrictlyIncreasing f.fields → FieldsAscend (fs ++ f ∷ []) its rs is
space_more fs its rs is f all up = record {
  spaces =
      All-push (λ (x : FieldSpace). IsStrictlyIncreasing x.fields) fs f all.spaces up;
  items = all.items;
  reqs = all.reqs;
  insts = all.insts;
}

pub item_more : (fs : List FieldSpace) (its : List Item) (rs : List Req) (is : List Inst) (i : Item) → FieldsAscend fs its rs is
    → IsStrictlyIncreasing (body_fields i.body) → FieldsAscend fs (its ++ i ∷ []) rs is
item_more fs its rs is i all up = record {
  spaces = all.spaces;
  items =
      All-push (λ (x : Item). IsStrictlyIncreasing (body_fields x.body)) its i all.items up;
  reqs = all.reqs;
  insts = all.insts;
}

pub req_more : (fs : List FieldSpace) (its : List Item) (rs : List Req) (is : List Inst) (r : Req) → FieldsAscend fs its rs is
    → IsStrictlyIncreasing r.fields → FieldsAscend fs its (rs ++ r ∷ []) is
req_more fs its rs is r all up = record {
  spaces = all.spaces;
  items = all.items;
  reqs =
      All-push (λ (x : Req). IsStrictlyIncreasing x.fields) rs r all.reqs up;
  insts = all.insts;
}

pub inst_more : (fs : List FieldSpace) (its : List Item) (rs : List Req) (is : List Inst) (i : Inst) → FieldsAscend fs its rs is
    → IsStrictlyIncreasing i.fields → FieldsAscend fs its rs (is ++ i ∷ [])
inst_more fs its rs is i all up = record {
  spaces = all.spaces;
  items = all.items;
  reqs = all.reqs;
  insts =
      All-push (λ (x : Inst). IsStrictlyIncreasing x.fields) is i all.insts up;
}
