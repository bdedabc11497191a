-- What running the items one after the other gives: one value a place.
use Rattle.std.specs.Prelude.{ℕ, List, [], ◌∷◌, take, slice_get, if◌then◌else◌}
use Rattle.std.specs.Option.{option_map_or}
use Rattle.privilege.specs.declared.kinds.Priv.{Priv}
use Rattle.privilege.specs.declared.kinds.Priv.TheVariants.{Red}
use Rattle.privilege.specs.Allowed.{may_write}
use Rattle.value_terms.specs.declared.terms.Base.TheVariants.{Init, Const, Out}
use Rattle.value_terms.specs.Values.{Value, plain, add_one}
use Rattle.semantics.specs.declared.places.Place.{Place}
use Rattle.semantics.specs.declared.tables.Item.{Item}
use Rattle.semantics.specs.declared.tables.ItemBody.TheVariants.{Task, Fill}
use Rattle.semantics.specs.declared.tables.Req.{Req}
use Rattle.semantics.specs.Tables.{Tables}
use Rattle.semantics.specs.Kinds.{covers, uses_of}
use Rattle.semantics.specs.SerialOrder.{serial, serial_place}

-- What a task makes of a value by a requirement: a reduction adds one contribution, a write puts what the
-- task writes, a read leaves the value.
abbrev pub acted : ℕ → ℕ → Priv → Value → Value
acted task number (Red op) v = add_one op (record { task = task; req = number }) v
acted task number p v = if may_write p then plain (Out task) else v

-- What an item makes of a value by what it asks for at the value's place.
abbrev pub changed : Item → Req → Value → Value
changed i r v = elim i.body [
  | Task ↦ acted i.id r.number r.access v
  | Fill tree space fields n ↦
      plain (Const n)
]

-- The value at a place after some uses of an item, in the order of their numbers.
abbrev pub after_uses : Tables → Item → List Req → Place → Value → Value
after_uses t i [] p v = v
after_uses t i (r ∷ rs) p v = after_uses t i rs p (if covers t p r then changed i r v else v)

-- The value at a place after some items, one after the other.
abbrev pub after_items : Tables → List ℕ → Place → Value → Value
after_items t [] p v = v
after_items t (item ∷ items) p v = after_items t items p
    (option_map_or (λ i. after_uses t i (uses_of t item) p v) (slice_get t.items item) v)

-- The value of sequential execution at a place just before an item: what a read of that item should see
-- there.
abbrev pub wanted : Tables → ℕ → Place → Value
wanted t item p = after_items t (take (serial_place t item) (serial t)) p (plain Init)
