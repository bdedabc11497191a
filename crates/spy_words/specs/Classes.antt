-- The classes of words: what a word of each class means, how it is spelled, and which meanings have a
-- spelling.
use Rattle.std.specs.Prelude.{◌≢◌, ℕ, ◌^◌, ◌<◌, ◌≤◌, ◌==◌, ◌&&◌, ◌||◌, nat_lt, Bool, true, false, IsTrue, List, [], ◌∷◌, ◌++◌, map, codes, decimal, if◌then◌else◌}
use Rattle.std.specs.List.{join_with_byte, AllByRecursion}
use Rattle.spy_words.specs.declared.access.PrivWord.{PrivWord}
use Rattle.spy_words.specs.declared.access.PrivWord.TheVariants as privileges
use Rattle.spy_words.specs.declared.access.InstKind.{InstKind}
use Rattle.spy_words.specs.declared.access.InstKind.TheVariants as instances
use Rattle.spy_words.specs.declared.lists.Quad.{Quad}
use Rattle.spy_words.specs.declared.lists.Extent.{Extent}
use Rattle.spy_words.specs.declared.lists.Extent.TheVariants.{Runs, Plane}

-- The classes of words. The numbers of a class begin at a least one.
pub data Class : Type 0 where
  number : ℕ → Class
  extent : Class
  fields : Class
  waits : Class
  split : Class
  access : Class
  coherence : Class
  layout : Class

-- Any number, an id, and an event.
abbrev pub any_number : Class
any_number = number 0

abbrev pub id : Class
id = number 1

abbrev pub event : Class
event = number 1

-- Words, each after such a byte.
abbrev pub follow : ℕ → List (List ℕ) → List ℕ
follow c [] = []
follow c (w ∷ ws) = c ∷ w ++ follow c ws

-- A run of points: one number, or the first and the last with a dash between.
abbrev pub span_word : ℕ × ℕ → List ℕ
span_word p = if p.0 == p.1 then decimal p.0 else decimal p.0 ++ 45 ∷ decimal p.1

-- A rectangle of points: its columns and its rows, each as a run is, with a colon between.
abbrev pub quad_word : Quad → List ℕ
quad_word q = span_word (q.x0, q.x1) ++ 58 ∷ span_word (q.y0, q.y1)

-- A list: its parts, with one comma between every two, or a dash for none.
abbrev pub list_word : {A : Type 0} → (A → List ℕ) → List A → List ℕ
list_word spell [] = 45 ∷ []
list_word spell (x ∷ xs) = join_with_byte 44 (map spell (x ∷ xs))

-- The points of a space: runs or rectangles.
abbrev pub extent_word : Extent → List ℕ
extent_word (Runs ps) = list_word span_word ps
extent_word (Plane qs) = list_word quad_word qs

-- Whether a partition is disjoint.
abbrev pub split_word : Bool → List ℕ
split_word true = codes "disjoint"
split_word false = codes "aliased"

-- A privilege.
abbrev pub access_word : PrivWord → List ℕ
access_word privileges.Ro = codes "ro"
access_word privileges.Rw = codes "rw"
access_word privileges.Wd = codes "wd"
access_word (privileges.Red op) = codes "red:" ++ decimal op

-- Whether coherence is atomic.
abbrev pub coherence_word : Bool → List ℕ
coherence_word true = codes "at"
coherence_word false = codes "ex"

-- A kind of instance.
abbrev pub layout_word : InstKind → List ℕ
layout_word instances.Plain = codes "plain"
layout_word instances.Home = codes "home"
layout_word (instances.Red op) = codes "red:" ++ decimal op

-- A number of a log, from a least number on.
abbrev pub IsNumberFrom : ℕ → ℕ → Type 0
IsNumberFrom least n = (least ≤ n) × (n < 2 ^ 32)

-- A run of points goes upward.
abbrev pub IsSpan : ℕ × ℕ → Type 0
IsSpan p = (p.0 ≤ p.1) × (p.1 < 2 ^ 32)

-- A run of points goes upward from a least number on.
abbrev pub IsSpanFrom : ℕ → ℕ × ℕ → Type 0
IsSpanFrom least p = (least ≤ p.0) × IsSpan p

-- The columns and the rows of a rectangle go upward.
abbrev pub IsQuad : Quad → Type 0
IsQuad q = IsSpan (q.x0, q.x1) × IsSpan (q.y0, q.y1)

-- They go upward from a least number on.
abbrev pub IsQuadFrom : ℕ → Quad → Type 0
IsQuadFrom least q = IsSpanFrom least (q.x0, q.x1) × IsSpanFrom least (q.y0, q.y1)

-- Each element of a list stands before the next.
abbrev pub ascends : {A : Type 0} → (A → A → Bool) → List A → Bool
ascends before [] = true
ascends before (x ∷ []) = true
ascends before (x ∷ y ∷ xs) = before x y && ascends before (y ∷ xs)

-- A run of points ends before another begins.
abbrev pub span_before : ℕ × ℕ → ℕ × ℕ → Bool
span_before p q = nat_lt p.1 q.0

-- A rectangle ends left of the columns of another, or it has the same columns and ends below its rows.
abbrev pub quad_before : Quad → Quad → Bool
quad_before q r = nat_lt q.x1 r.x0 || (q.x0 == r.x0 && q.x1 == r.x1 && nat_lt q.y1 r.y0)

-- Runs have a word where each goes upward and they ascend. So have rectangles, of which there is at least
-- one, since no rectangle is no run.
abbrev pub IsExtent : Extent → Type 0
IsExtent (Runs ps) = AllByRecursion IsSpan ps × IsTrue (ascends span_before ps)
IsExtent (Plane qs) = AllByRecursion IsQuad qs × IsTrue (ascends quad_before qs) × (qs ≢ [])

-- An operator, where there is one, has an id. The same for a kind of instance.
abbrev pub HasOperator : PrivWord → Type 0
HasOperator (privileges.Red op) = IsNumberFrom 1 op
HasOperator _ = Unit {0}

abbrev pub HoldsOperator : InstKind → Type 0
HoldsOperator (instances.Red op) = IsNumberFrom 1 op
HoldsOperator _ = Unit {0}

-- What is said of a class: what its words mean, the one word that has a meaning, which meanings have a word,
-- and what stands in where there is none.
pub record About : Type 1 where
  pub Meaning : Type 0
  pub word : Meaning → List ℕ
  pub IsGood : Meaning → Type 0
  pub stand_in : Meaning

-- The table of the classes.
abbrev pub about : Class → About
about (number least) = record { Meaning = ℕ; word = decimal; IsGood = IsNumberFrom least; stand_in = 0 }
about extent = record { Meaning = Extent; word = extent_word; IsGood = IsExtent; stand_in = Runs [] }
about fields = record {
  Meaning = List ℕ;
  word = list_word decimal;
  IsGood =
      λ ns. AllByRecursion (IsNumberFrom 0) ns × IsTrue (ascends nat_lt ns) × (ns ≢ []);
  stand_in = [];
}
about waits = record {
  Meaning = List ℕ;
  word = list_word decimal;
  IsGood =
      AllByRecursion (IsNumberFrom 1);
  stand_in = [];
}
about split = record { Meaning = Bool; word = split_word; IsGood = λ b. Unit {0}; stand_in = false }
about access = record {
  Meaning = PrivWord;
  word = access_word;
  IsGood = HasOperator;
  stand_in =
      privileges.Ro;
}
about coherence = record { Meaning = Bool; word = coherence_word; IsGood = λ b. Unit {0}; stand_in = false }
about layout = record {
  Meaning = InstKind;
  word = layout_word;
  IsGood = HoldsOperator;
  stand_in =
      instances.Plain;
}

-- What a word of a class means.
abbrev pub Meaning : Class → Type 0
Meaning c = (about c).Meaning

-- The one word of a class that has this meaning.
abbrev pub word_of : (c : Class) → Meaning c → List ℕ
word_of c m = (about c).word m

-- What a class can mean.
abbrev pub IsGood : (c : Class) → Meaning c → Type 0
IsGood c m = (about c).IsGood m
