-- The one spelling of each record, and which records have one.
use Rattle.std.specs.Prelude.{◌≢◌, ℕ, List, [], ◌∷◌, ◌++◌, map, decimal}
use Rattle.std.specs.List.{join_with_byte, AllByRecursion}
use Rattle.spy_words.specs.Classes.{Class, Meaning, word_of, IsGood, IsNumberFrom}
use Rattle.spy_grammar.specs.declared.record.Record.{Record}
use Rattle.spy_grammar.specs.Rows.{Row, no_more, some_ids, ◌&◌, RowMeaning, Grammar, plain_log}

-- What stands after the first word: a word of a class, or ids, each a word.
pub data Item : Type 0 where
  word : (c : Class) → Meaning c → Item
  ids : List ℕ → Item

-- The items of a row.
abbrev pub row_items : (r : Row) → RowMeaning r → List Item
row_items no_more m = []
row_items some_ids ns = ids ns ∷ []
row_items (c & r) m = word c m.0 ∷ row_items r m.1

-- The items of a record.
abbrev pub items_of : {K R : Type 0} → Grammar K R → R → List Item
items_of g r = row_items (g.entry (g.parts_of r).0).row (g.parts_of r).1

-- The words of items.
abbrev pub words_in : List Item → List (List ℕ)
words_in [] = []
words_in (word c m ∷ is) = word_of c m ∷ words_in is
words_in (ids ns ∷ is) = map decimal ns ++ words_in is

-- A record's line, without its line feed: its words, with one space between every two.
unfoldable pub spelling_in : {K R : Type 0} → Grammar K R → R → List ℕ
spelling_in g r = join_with_byte 32 ((g.entry (g.parts_of r).0).name ∷ words_in (items_of g r))

-- The line of a record of a log.
unfoldable pub spelling : Record → List ℕ
unfolding spelling_in
spelling r = spelling_in plain_log r

-- An item has a spelling.
abbrev pub IsGoodItem : Item → Type 0
IsGoodItem (word c m) = IsGood c m
IsGoodItem (ids ns) = AllByRecursion (IsNumberFrom 1) ns × (ns ≢ [])

-- The record has a spelling.
abbrev pub GoodIn : {K R : Type 0} → Grammar K R → R → Type 0
GoodIn g r = AllByRecursion IsGoodItem (items_of g r)

-- The record of a log has a spelling.
abbrev pub Good : Record → Type 0
Good r = GoodIn plain_log r
