-- The numbers of a list, however they are kept.
use Rattle.std.specs.Prelude.{ℕ, List, []}
use Rattle.spy_words.specs.declared.short_lists.Items.{Items}
use Rattle.spy_words.specs.declared.short_lists.Items.TheVariants.{Few0, Few1, Few2, Few3, Few4, Many}

abbrev pub numbers_in : Items → List ℕ
numbers_in Few0 = []
numbers_in (Few1 numbers) = numbers
numbers_in (Few2 numbers) = numbers
numbers_in (Few3 numbers) = numbers
numbers_in (Few4 numbers) = numbers
numbers_in (Many numbers) = numbers.value.items
