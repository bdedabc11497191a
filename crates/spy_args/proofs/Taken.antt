use Rattle.std.proofs.Common.{◌≡◌, ◌≢◌, inl, inr, true, false, List, [], ◌∷◌, Ok, Err, Result, refl, ap, sym, ◌∙◌, rules, Option, None, codes, option_map}
use Rattle.std.specs.Prelude.{IfOk, IfErr, if◌then◌else◌}
use Rattle.clap.specs.Walk.{is_empty}
use Rattle.clap.specs.Words.{Text, first_of, first_value, FailsBy, Kinds, IsAmong, fault_of, is_simple_and_free, is_simple, kind_of, HasMatchesOf, found_of, rows_of}
use Rattle.clap.specs.declared.parser.matches.Found.{Found}
use Rattle.clap.specs.declared.error.Error.{Error}
use Rattle.clap.specs.declared.error.kind.ErrorKind.{ErrorKind}
use Rattle.clap.specs.declared.error.kind.ErrorKind.TheVariants.{OutOfMemory}
use Rattle.clap.specs.declared.parser.matches.ArgMatches.{ArgMatches}
use Rattle.clap.proofs.WalkLemmas.{first_value-rows}
use Rattle.clap.proofs.OnLiterals.{clap_on_literals}
use Rattle.spy_args.specs.CommandLine.{Words, spy_app, is_taken, rows_in, values_of, values_in}

-- The command is one for which `clap` states what it takes.
pub spy_is_free : is_simple_and_free spy_app ≡ true
unfolding clap_on_literals
spy_is_free = refl

pub spy_is_simple : is_simple spy_app ≡ true
unfolding clap_on_literals
spy_is_simple = refl

-- A kind among some: they are not none.
some_kind : (k : ErrorKind) (kinds : Kinds) → IsAmong k kinds → is_empty kinds ≡ false
some_kind k [] h = absurd h
some_kind k (x ∷ xs) h = search rules

-- What the clauses of the parse say of words that are taken, and of those that are not.
pub taken_at_ok : (r : Result ArgMatches Error) (words : List Text) → FailsBy (fault_of spy_app words) r
    → IfOk r (λ _. is_taken words ≡ true)
unfolding is_taken
taken_at_ok (Ok m) words h = ap is_empty h
taken_at_ok (Err e) words h = tt

pub refused_at_err : (r : Result ArgMatches Error) (words : List Text) → FailsBy (fault_of spy_app words) r
    → IfErr r (λ e. kind_of e ≢ OutOfMemory → is_taken words ≡ false)
unfolding is_taken
refused_at_err (Ok m) words h = tt
refused_at_err (Err e) words (inl h) = λ n. absurd (n h)
refused_at_err (Err e) words (inr h) = λ n. some_kind (kind_of e) (fault_of spy_app words) h

pub rows_at_ok : (r : Result ArgMatches Error) (words : List Text) → IfOk r (HasMatchesOf spy_app words)
    → IfOk r (λ m. rows_of (found_of m) ≡ rows_in words)
unfolding rows_in
rows_at_ok (Ok m) words h = (h spy_is_simple).0
rows_at_ok (Err e) words h = tt

-- What the getters give is what the rows say.
pub values_by : (f : Found) (command size task req point field : Option Text) → command ≡ first_value f (codes "command")
    → size ≡ first_value f (codes "size")
    → task ≡ first_value f (codes "task") → req ≡ first_value f (codes "req") → point ≡ first_value f (codes "point")
    → field ≡ first_value f (codes "field")
    → option_map (λ c. record { command = c; size = size; task = task; req = req; point = point; field = field }) command
    ≡ values_of (rows_of f)
values_by f command size task req point field command_is size_is task_is req_is point_is field_is =
    let read : (id : Text) → first_value f id ≡ first_of id (rows_of f) = first_value-rows f in
    rw (
      command_is ∙ read (codes "command"),
      size_is ∙ read (codes "size"),
      task_is ∙ read (codes "task"),
      req_is ∙ read (codes "req"),
      point_is ∙ read (codes "point"),
      field_is ∙ read (codes "field"),
    ) refl

pub answered : (m : ArgMatches) (words : List Text) (given : Option Words) → is_taken words ≡ true → rows_of (found_of m) ≡ rows_in words
    → given ≡ values_of (rows_of (found_of m)) → given ≡ values_in words
answered m words given taken rows is = is ∙ ap values_of rows ∙ sym (ap (λ t. if t then values_of (rows_in words) else None) taken)
