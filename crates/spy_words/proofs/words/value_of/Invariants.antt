use Rattle.std.proofs.Common.{◌≡◌, ◌<◌, ◌^◌, take, true}
use Rattle.std.specs.Char.{is_ascii_digit}
use Rattle.std.specs.List.{list_all}
use Rattle.std.specs.Str.Parse.{digits_value}
use Rattle.spy_words.proofs.words.value_of.Given as goal

abbrev pub invariant-loop-k : goal.invariant-loop-k
invariant-loop-k l = record {
  digits : list_all is_ascii_digit (take l.k l.word) ≡ true;
  value : l.value ≡ digits_value 10 (take l.k l.word);
  small : l.value < 2 ^ 32;
}
