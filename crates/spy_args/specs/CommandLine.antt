-- The command line: which words are taken, by the stated function of `clap`, and what they give.
use Rattle.std.specs.Prelude.{Bool, List, [], ◌∷◌, Option, Some, None, true, codes, map, option_map, if◌then◌else◌}
use Rattle.std.specs.Borrow.{Bor}
use Rattle.clap.specs.Walk.{is_empty}
use Rattle.clap.specs.Words.{App, Row, Rule, Text, fault_of, first_of, matches_of, new_app, new_rule, with_rule}
use Rattle.clap.specs.Simple.{on_top}
use Rattle.spy_args.specs.declared.command_line.CommandWords.{CommandWords}
use Rattle.clap.specs.declared.builder.action.ArgAction.TheVariants.{Set}

-- One required positional, `command`, with one value.
abbrev pub command_rule : Rule
command_rule = record (new_rule (codes "command")) { required = true; action = Some Set }

-- An option with one value.
abbrev pub option_rule : Text → Rule
option_rule name = record (new_rule name) { long = Some name; action = Some Set }

-- A command line without the flag for help.
abbrev pub without_help : App → App
without_help app = on_top (λ s. record s { disable_help_flag = true }) app

-- The options: that of `demo`, and those of `why`.
abbrev pub options : List Text
options = codes "size" ∷ codes "task" ∷ codes "req" ∷ codes "point" ∷ codes "field" ∷ []

abbrev pub with_options : List Text → App → App
with_options [] app = app
with_options (name ∷ names) app = with_options names (with_rule app (option_rule name))

-- The command line of the program: it has no version, and no flag for help.
abbrev pub spy_app : App
spy_app = with_options options (with_rule (without_help (new_app (codes "spy"))) command_rule)

-- Whether words are taken: `clap` finds no fault. The first is the program's name.
unfoldable pub is_taken : List Text → Bool
is_taken words = is_empty (fault_of spy_app words)

-- What words give each argument.
unfoldable pub rows_in : List Text → List Row
rows_in words = matches_of spy_app words

-- A command, and the value of each option that is there.
pub record Words : Type 0 where
  pub command : Text
  pub size : Option Text
  pub task : Option Text
  pub req : Option Text
  pub point : Option Text
  pub field : Option Text

abbrev pub with_command : List Row → Text → Words
with_command rows command = record {
  command = command;
  size = first_of (codes "size") rows;
  task = first_of (codes "task") rows;
  req = first_of (codes "req") rows;
  point = first_of (codes "point") rows;
  field = first_of (codes "field") rows;
}

abbrev pub values_of : List Row → Option Words
values_of rows = option_map (with_command rows) (first_of (codes "command") rows)

-- The command that words give, and their options, where they are taken.
abbrev pub values_in : List Text → Option Words
values_in words = if is_taken words then values_of (rows_in words) else None

-- Texts that are borrowed.
abbrev pub texts_of : List (Bor Text) → List Text
texts_of words = map (λ (w : Bor Text). w.now) words

abbrev pub word_text : Option (Bor Text) → Option Text
word_text word = option_map (λ (w : Bor Text). w.now) word

abbrev pub given_words : CommandWords → Words
given_words g = record {
  command = g.command.now;
  size = word_text g.size;
  task = word_text g.task;
  req =
      word_text g.req;
  point = word_text g.point;
  field = word_text g.field;
}

abbrev pub given_texts : Option CommandWords → Option Words
given_texts given = option_map given_words given
