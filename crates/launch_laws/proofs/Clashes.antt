-- What it means that two records do not clash.
use Rattle.std.proofs.Common.{◌≡◌, ℕ, ◌==◌, Bool, true, false, not, List, refl, Option, Some, None}
use Rattle.std.proofs.lemmas.Bool.{and_parts}
use Rattle.vocabulary.specs.Prelude.{Kind, kind_of, PrivWord, Record, Tables, privilege_of, coherence_of, points_in, meets, is_free}
use Rattle.privilege.specs.declared.kinds.Kind.TheVariants.{Free, Turn, Before}
use Rattle.spy_grammar.specs.declared.record.Record.TheVariants as records
use Rattle.semantics.specs.Launches.{TaskLaunch, clash, is_launched}

-- The task and the space of a requirement.
abbrev pub asked_by : Record → Option (ℕ × ℕ)
asked_by (records.Req task tree space fields access atomic) = Some (task, space)
asked_by _ = None

-- What clashes is a requirement of a task of the launch.
pub clash_asks : (t : Tables) (l : TaskLaunch) (q x : Record) → clash t l q x ≡ true → (p : ℕ × ℕ) × (asked_by q ≡ Some p)
    × (is_launched l p.0 ≡ true)
clash_asks t l (records.Req task tree space fields access atomic)
    (records.Req other its_tree its_space its_fields its_access its_atomic) e =
    let parts = and_parts _ _ e in
    let tasks = and_parts (is_launched l task) _ parts.0 in
    ((task, space), refl, tasks.0)
clash_asks t l _ _ e = absurd cc

-- Tables in which the two spaces have the same points do not differ in whether two records clash.
pub clash_same : (s t : Tables) (l : TaskLaunch) (q x : Record) → ((p : ℕ × ℕ) → asked_by q ≡ Some p → points_in s p.1 ≡ points_in t p.1)
    → ((p : ℕ × ℕ) → asked_by x ≡ Some p → points_in s p.1 ≡ points_in t p.1)
    → clash s l q x ≡ clash t l q x
clash_same s t l (records.Req task tree space fields access atomic)
    (records.Req other its_tree its_space its_fields its_access its_atomic) f g = rw (f (task, space) refl, g (other, its_space) refl) refl
clash_same s t l _ _ f g = refl

free_kind : (k : Kind) → not (is_free k) ≡ false → k ≡ Free
free_kind Free e = refl
free_kind Turn e = absurd cc
free_kind Before e = absurd cc

-- Requirements of two tasks of a launch that share a place and do not clash are free of each other.
pub no_clash : (t : Tables) (l : TaskLaunch) (task tree space : ℕ) (fields : List ℕ) (access : PrivWord) (atomic : Bool)
    (other its_tree its_space : ℕ) (its_fields : List ℕ) (its_access : PrivWord) (its_atomic : Bool)
    → clash t l (records.Req task tree space fields access atomic) (records.Req other its_tree its_space its_fields its_access its_atomic)
    ≡ false
    → is_launched l task ≡ true → is_launched l other ≡ true → (task == other) ≡ false → (tree == its_tree) ≡ true
    → meets fields its_fields ≡ true → meets (points_in t space) (points_in t its_space) ≡ true
    → kind_of (privilege_of access) (coherence_of atomic) (privilege_of its_access) (coherence_of its_atomic) ≡ Free
no_clash t l task tree space fields access atomic other its_tree its_space its_fields its_access its_atomic none one two differ same fields_meet points_meet =
    free_kind (kind_of (privilege_of access) (coherence_of atomic) (privilege_of its_access) (coherence_of its_atomic))
    (rw (one, two, differ, same, fields_meet, points_meet) at none)
