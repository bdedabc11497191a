-- In a log without a fault the requirements of each task agree.
use Rattle.std.proofs.Common.{◌≡◌, ℕ, true, ◌==◌, List, filter, sym, ◌∙◌, subst, refl, AllPairs, None}
use Rattle.std.proofs.lemmas.Bool.{eqb-true}
use Rattle.std.proofs.lemmas.List.Kept.{AllPairs-filter}
use Rattle.vocabulary.specs.Prelude.{agree, Lined, Req, Tables, tables_of, points_in, reqs_of, covers}
use Rattle.semantics.specs.declared.command.Command.TheVariants.{Ordered}
use Rattle.semantics.specs.Faults.{declaration_fault}
use Rattle.list_lemmas.proofs.lemmas.Filtered.{of_filter}
use Rattle.list_lemmas.proofs.lemmas.Pairs.{AllPairs-so}
use Rattle.log_laws.proofs.lemmas.Apart.{grid_member}
use Rattle.log_laws.proofs.lemmas.Consistent.{AreConsistent, AgreeWhere}
use Rattle.log_laws.proofs.lemmas.Admitted.{consistent, no_broken_rule}
use Rattle.item_uses.proofs.lemmas.ItemKinds.{covers_tells}
use Rattle.order_laws.specs.Turns.{AgreeWithThemselves}
use Rattle.order_laws.proofs.lemmas.TaskUses.{task_uses}

-- Requirements of one item agree where they share a place.
abbrev AgreeInItem : Tables → Req → Req → Type 0
AgreeInItem t q r = q.item ≡ r.item → AgreeWhere t q r

pub agree_with_themselves : (t : Tables) → AreConsistent t → AgreeWithThemselves t
agree_with_themselves t h a p task =
    let here = filter (covers t p) (reqs_of t a) in
    let pairs = AllPairs-filter (AgreeInItem t) (covers t p) (reqs_of t a)
    (AllPairs-filter (AgreeInItem t) (λ (r : Req). r.item == a) t.reqs (λ i j d lt within same. (h.reqs i j d lt within same).1)) in
    subst (λ rs. AllPairs (λ (q : Req) (r : Req). agree q.access r.access ≡ true) (filter (covers t p) rs)) (sym (task_uses t a task))
    (AllPairs-so (AgreeInItem t) (λ (q : Req) (r : Req). agree q.access r.access ≡ true) here (λ q r m n fit.
    let in_q = of_filter (covers t p) (reqs_of t a) q m in
    let in_r = of_filter (covers t p) (reqs_of t a) r n in
    let of_q = of_filter (λ (r : Req). r.item == a) t.reqs q in_q.0 in
    let of_r = of_filter (λ (r : Req). r.item == a) t.reqs r in_r.0 in
    let c = covers_tells t p q in_q.1 in
    let d = covers_tells t p r in_r.1 in
    fit (eqb-true q.item a of_q.1 ∙ sym (eqb-true r.item a of_r.1)) (p.point, p.field)
    (grid_member (points_in t q.space) q.fields p.point p.field c.1 c.2)
    (grid_member (points_in t r.space) r.fields p.point p.field d.1 d.2)
    (c.0 ∙ sym d.0)) pairs)

pub declared_agree : (lines : ℕ) (log : List Lined) → declaration_fault lines log ≡ None → AgreeWithThemselves (tables_of log)
declared_agree lines log e = agree_with_themselves (tables_of log)
    (consistent Ordered log (record { records = no_broken_rule lines log e; maps = refl }))
