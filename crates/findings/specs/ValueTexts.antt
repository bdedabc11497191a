-- The text of a value.
use Rattle.std.specs.Prelude.{ℕ, List, [], ◌∷◌, ◌++◌, map, codes, decimal}
use Rattle.spy_words.specs.Classes.{follow}
use Rattle.value_terms.specs.declared.bag.Group.{Group}
use Rattle.value_terms.specs.declared.terms.Base.{Base}
use Rattle.value_terms.specs.declared.terms.Base.TheVariants.{Raw, Init, Ident, Const, Out}
use Rattle.value_terms.specs.declared.terms.Contribution.{Contribution}
use Rattle.value_terms.specs.Values.{Bag, Value}

-- A base.
abbrev pub base_text : Base → List ℕ
base_text Raw = codes "raw"
base_text Init = codes "init"
base_text Ident = codes "ident"
base_text (Const n) = codes "const:" ++ decimal n
base_text (Out t) = codes "out:" ++ decimal t

-- A contribution with its count: the task, the requirement and the count.
abbrev pub entry_text : Contribution × ℕ → List ℕ
entry_text e = decimal e.0.task ++ 46 ∷ decimal e.0.req ++ 42 ∷ decimal e.1

-- A bag: its contributions, with a comma between every two.
abbrev pub bag_text : Bag → List ℕ
bag_text [] = []
bag_text (e ∷ bag) = entry_text e ++ follow 44 (map entry_text bag)

-- A group: its operator, and its bag between brackets.
abbrev pub group_text : Group → List ℕ
group_text g = decimal g.op ++ 91 ∷ bag_text g.bag ++ 93 ∷ []

-- A value: its base, and each group after a plus sign.
unfoldable pub value_text : Value → List ℕ
value_text v = base_text v.base ++ follow 43 (map group_text v.groups)
