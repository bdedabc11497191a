-- Logs in which nothing is nested, and tasks below groups. Items are named by position.
use Rattle.std.specs.Prelude.{◌≡◌, ℕ, true, List, map, Contains}
use Rattle.spy_grammar.specs.declared.nested.NLined.{NLined}
use Rattle.spy_grammar.specs.declared.nested.NRecord.TheVariants.{Plain}
use Rattle.vocabulary.specs.Prelude.{Lined, Tables, place_of}
use Rattle.semantics.specs.declared.groups.GroupMember.{GroupMember}
use Rattle.semantics.specs.Nesting.{Nesting, is_below}

-- A log as a nested log, in which nothing is nested.
abbrev pub as_nested : List Lined → List NLined
as_nested log = map (λ (l : Lined). record { line = l.line; rec = Plain l.rec }) log

-- An item is below a group: it is the task of a member that is.
pub record IsTaskBelow (t : Tables) (n : Nesting) (g item : ℕ) : Type 0 where
  pub member : GroupMember
  pub of : Contains n.members member
  pub below : is_below n g member ≡ true
  pub item_is : item ≡ place_of t.items member.task
