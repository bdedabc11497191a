-- What the items of a log ask for.
use Rattle.std.specs.Prelude.{ℕ, List, [], map, length, slice_index_or}
use Rattle.std.specs.List.{range_with_len}
use Rattle.vocabulary.specs.Prelude.{Priv, Coherence, Req, Tables, points_in, uses_of}

-- What a requirement asks for, with the points of its space.
pub record Usage : Type 0 where
  pub tree : ℕ
  pub space : ℕ
  pub points : List ℕ
  pub fields : List ℕ
  pub access : Priv
  pub coherence : Coherence

abbrev pub usage : ℕ → ℕ → List ℕ → List ℕ → Priv → Coherence → Usage
usage tree space points fields access coherence =
    record {
      tree = tree;
      space = space;
      points = points;
      fields = fields;
      access = access;
      coherence =
          coherence;
    }

abbrev pub usage_of : Tables → Req → Usage
usage_of t r = usage r.tree r.space (points_in t r.space) r.fields r.access r.coherence

-- What an item asks for.
abbrev pub usages_of : Tables → ℕ → List Usage
usages_of t item = map (usage_of t) (uses_of t item)

-- What each item asks for.
abbrev pub usages : Tables → List (List Usage)
usages t = map (usages_of t) (range_with_len 0 (length t.items))

-- What the item at a position asks for.
abbrev pub usages_at : List (List Usage) → ℕ → List Usage
usages_at us item = slice_index_or us item []
