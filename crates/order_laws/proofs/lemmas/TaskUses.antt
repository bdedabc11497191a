-- What a task asks for is its requirements.
use Rattle.std.proofs.Common.{◌≡◌, ℕ, ◌<◌, inl, inr, true, false, not, ◌&&◌, ◌==◌, List, [], ◌∷◌, Option, Some, None, sym, subst, refl, slice_get, Contains, length}
use Rattle.std.specs.Option.{option_map_or}
use Rattle.std.proofs.lemmas.Bool.{true≢false, eqb-true, and_parts}
use Rattle.std.proofs.lemmas.Option.{slice_get_within}
use Rattle.privilege.specs.declared.kinds.Priv.TheVariants.{Wd}
use Rattle.privilege.specs.declared.kinds.Coherence.TheVariants.{Exclusive}
use Rattle.vocabulary.specs.Prelude.{Item, ItemBody, Req, Tables, uses_of, uses_of_item, reqs_of, item_kind, is_free}
use Rattle.semantics.specs.declared.tables.ItemBody.TheVariants.{Task, Fill}
use Rattle.semantics.specs.Rules.{is_task}
use Rattle.semantics.specs.Shown.{is_task_at}
use Rattle.order_laws.specs.Turns.{do_interfere}
use Rattle.list_lemmas.proofs.lemmas.Filtered.{of_filter}
use Rattle.list_lemmas.proofs.lemmas.Firsts.{cases_option}

body_case : (b : ItemBody) (own : List Req) (other : ℕ → ℕ → List ℕ → ℕ → List Req) → is_task b ≡ true
    → (elim b [ Task ↦ own | Fill tree space fields n ↦ other tree space fields n ]) ≡ own
body_case Task own other e = refl
body_case (Fill tree space fields n) own other e = absurd (true≢false (sym e))

body_uses : (t : Tables) (a : ℕ) (i : Item) → is_task i.body ≡ true → uses_of_item t a i ≡ reqs_of t a
body_uses t a i e = body_case i.body (reqs_of t a) (λ tree space fields n. record {
  item = a;
  number = 0;
  line = i.line;
  tree =
      tree;
  space = space;
  fields = fields;
  access = Wd;
  coherence = Exclusive;
} ∷ []) e

pub task_uses : (t : Tables) (a : ℕ) → is_task_at t a ≡ true → uses_of t a ≡ reqs_of t a
task_uses t a = by (slice_get t.items a)
  where
    by : (o : Option Item) → option_map_or (λ (i : Item). is_task i.body) o false ≡ true
        → option_map_or (uses_of_item t a) o [] ≡ reqs_of t a
    by None e = absurd (true≢false (sym e))
    by (Some i) e = body_uses t a i e

pub own_req : (t : Tables) (a : ℕ) (r : Req) → is_task_at t a ≡ true → Contains (uses_of t a) r → Contains t.reqs r × (r.item ≡ a)
own_req t a r task m =
    let f = of_filter (λ (r : Req). r.item == a) t.reqs r (subst (λ rs. Contains rs r) (task_uses t a task) m) in
    (f.0, eqb-true r.item a f.1)

pub task_within : (t : Tables) (a : ℕ) → is_task_at t a ≡ true → a < length t.items
task_within t a e = elim (cases_option (slice_get t.items a)) [
  | inl none ↦ absurd (true≢false (sym (rw none at e)))
  | inr some ↦ slice_get_within t.items a some.0 some.1
]

-- Items that interfere are there.
pub interfering_within : (t : Tables) (a b : ℕ) → do_interfere t a b ≡ true → b < length t.items
interfering_within t a b e =
    let tasks = and_parts (is_task_at t a && is_task_at t b) (not (is_free (item_kind t a b))) e in
    task_within t b (and_parts (is_task_at t a) (is_task_at t b) tasks.0).1
