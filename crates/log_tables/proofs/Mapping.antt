-- Fields of requirements that are mapped.
use Rattle.std.proofs.Common.{◌≡◌, ℕ, ◌+◌, ◌<◌, ◌==◌, Bool, true, false, ◌&&◌, ◌||◌, cond, List, [], ◌∷◌, ◌++◌, take, get_or, length, find, Option, Some, None, refl, ap, ◌∙◌, sym}
use Rattle.std.specs.Option.{option_or, option_map}
use Rattle.std.proofs.lemmas.List.Folds.{list_any_more, find-append}
use Rattle.vocabulary.specs.Prelude.{Map, is_in}
use Rattle.log_tables.specs.declared.maps.FieldKey.{FieldKey}
use Rattle.log_tables.specs.Mapped.{same_field, names_field, inst_mapped}

joined : (o : Option ℕ) (v : ℕ) (b n x y : Bool)
    → option_or (option_or o (cond (b && (n && x)) (Some v) None)) (cond (b && (n && y)) (Some v) None)
    ≡ option_or o (cond (b && (n && (x || y))) (Some v) None)
joined (Some u) v b n x y = refl
joined None v false n x y = refl
joined None v true false x y = refl
joined None v true true true y = refl
joined None v true true false y = refl

-- one field more
pub fields_more : (o : Option ℕ) (item number inst : ℕ) (fields : List ℕ) (i d : ℕ) (k : FieldKey) → i < length fields
    → option_or (option_or o (cond (names_field item number (take i fields) k) (Some inst) None))
    (cond (same_field (record { item = item; number = number; field = get_or fields i d }) k) (Some inst) None)
    ≡ option_or o (cond (names_field item number (take (i + 1) fields) k) (Some inst) None)
fields_more o item number inst fields i d k lt =
    joined o inst (item == k.item) (number == k.number) (is_in (take i fields) k.field) (get_or fields i d == k.field)
    ∙ ap (λ b. option_or o (cond ((item == k.item) && ((number == k.number) && b)) (Some inst) None))
    (sym (list_any_more (λ m. m == k.field) fields i d lt))

or_map : (o p : Option Map) → option_map (λ (m : Map). m.inst) (option_or o p)
    ≡ option_or (option_map (λ (m : Map). m.inst) o) (option_map (λ (m : Map). m.inst) p)
or_map None p = refl
or_map (Some x) p = refl

one_map : (m : Map) (b : Bool) → option_map (λ (x : Map). x.inst) (cond b (Some m) None) ≡ cond b (Some m.inst) None
one_map m true = refl
one_map m false = refl

-- one map more
pub mapped_more : (maps : List Map) (m : Map) (k : FieldKey)
    → option_or (inst_mapped maps k) (cond (names_field m.item m.number m.fields k) (Some m.inst) None) ≡ inst_mapped (maps ++ m ∷ []) k
mapped_more maps m k =
    let p : Map → Bool = λ (x : Map). names_field x.item x.number x.fields k in
    sym (
    ap (option_map (λ (x : Map). x.inst)) (find-append p maps (m ∷ []))
    ∙ or_map (find p maps) (find p (m ∷ []))
    ∙ ap (option_or (inst_mapped maps k)) (one_map m (p m))
    )
