-- The requirements that written records state, with the points of their spaces. Beside a record stands the
-- line of the record that writes it.
use Rattle.std.specs.Prelude.{ℕ, ◌+◌, ◌==◌, List, length, Option, Some, None, option_map, find}
use Rattle.vocabulary.specs.Prelude.{Priv, Record, points_of, plane_points, privilege_of}
use Rattle.spy_grammar.specs.declared.record.Record.TheVariants as records
use Rattle.semantics.specs.Launches.{TaskLaunch}
use Rattle.launch_claims.specs.declared.requirement.LaunchTasks.{LaunchTasks}
use Rattle.launch_claims.specs.declared.requirement.Requirement.{Requirement}
use Rattle.launches.specs.declared.uses.Space.{Space}

-- A declared space: its points, and the line of the record that declares it.
pub record DeclaredSpace : Type 0 where
  pub id : ℕ
  pub points : List ℕ
  pub line : ℕ

-- A requirement on a declared space.
pub record Use : Type 0 where
  pub task : ℕ
  pub tree : ℕ
  pub points : List ℕ
  pub fields : List ℕ
  pub access : Priv
  pub line : ℕ
  pub declared : ℕ

-- A space, as definitions see it, where each set has its points.
abbrev pub space_seen : {P : Type 0} → (P → List ℕ) → Space P → DeclaredSpace
space_seen points s = record { id = s.id; points = points s.set; line = s.line }

-- A requirement, as definitions see it.
abbrev pub use_seen : {P : Type 0} → (P → List ℕ) → Requirement P → Use
use_seen points r = record {
  task = r.task;
  tree = r.tree;
  points = points r.set;
  fields = r.fields.now;
  access =
      r.access;
  line = r.record;
  declared = r.declared;
}

-- The space that a record declares.
abbrev pub space_by_record : ℕ × Record → Option DeclaredSpace
space_by_record (line, records.Ispace id set) = Some (record { id = id; points = points_of set; line = line })
space_by_record (line, records.Plane id quads) = Some (record { id = id; points = plane_points quads; line = line })
space_by_record (line, _) = None

-- The requirement that a record states, if its space is declared.
abbrev pub asked_by : List DeclaredSpace → ℕ × Record → Option Use
asked_by spaces (line, records.Req task tree space fields access atomic) =
    option_map (λ (s : DeclaredSpace). record {
      task = task;
      tree = tree;
      points = s.points;
      fields =
          fields;
      access = privilege_of access;
      line = line;
      declared = s.line;
    })
    (find (λ (s : DeclaredSpace). s.id == space) spaces)
asked_by spaces (line, _) = None

-- The tasks of a launch.
abbrev pub tasks_by : ℕ × TaskLaunch → LaunchTasks
tasks_by l = record { base = l.1.base; end = l.1.base + length l.1.colours; number = l.0 }
