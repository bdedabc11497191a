use Rattle.std.proofs.Common.{◌≡◌, ◌-◌, ◌∙◌, All, List, ℕ, ap, inl, inr, length, subst, sym}
use Rattle.vocabulary.specs.Prelude.{Before}
use Rattle.cell_races.specs.Groups.{asked}
use Rattle.cell_races.specs.Questions.{AreAnswered, Asking, part}
use Rattle.cell_races.proofs.Asked.{asked_part, both_answered}
use Rattle.cell_races.proofs.questions.Asking.ask.Goals.{then-conflicts, else-conflicts}
use Rattle.cell_races.proofs.questions.Asking.ask.Goals as goal

pub returns-then-all_lead_to-clause-asked : goal.returns-then-all_lead_to-clause-asked
returns-then-all_lead_to-clause-asked c = λ h.
    let s = c.self.inside in
    let f = c.if-conflicts.from in
    let is : part s.members.items f.0 f.1 ≡ asked c.args.self.now.groups c.args.node_access =
    asked_part s.members.items s.earlier s.group s.access c.args.node_access f.0 f.1 (elim c.if-conflicts.branch [
      | then-conflicts w ↦ inl (
        sym c.conflicts.ensures ∙ w.if-conflicts.true,
        ap (λ (p : ℕ × ℕ). p.0) w.from-is,
        ap (λ (p : ℕ × ℕ). p.1) w.from-is ∙ ap (λ (ms : List ℕ). length ms) c.as_slice-members.ensures.value,
      )
      | else-conflicts w ↦ inr (sym c.conflicts.ensures ∙ w.if-conflicts.false, ap (λ (p : ℕ × ℕ). p.0) w.from-is, ap (λ (p : ℕ × ℕ). p.1) w.from-is)
    ]) ∙ ap (λ (a : Asking). asked a.groups c.args.node_access) c.self.view_is in (
      h,
      subst (All (λ a. Before c.args.graph.now a c.args.node_access.node)) is
          (subst (λ (ms : List ℕ). All (λ a. Before c.args.graph.now a c.args.node_access.node) (part ms f.0 f.1)) c.as_slice-members.ensures.value
          (c.all_lead_to.ensures c.if-all_lead_to.true)),
    )

pub returns-clause-asked : goal.returns-clause-asked
returns-clause-asked c = λ h.
    let s = c.self.inside in
    let f = c.if-conflicts.from in
    let is : part s.members.items f.0 f.1 ≡ asked c.args.self.now.groups c.args.node_access =
    asked_part s.members.items s.earlier s.group s.access c.args.node_access f.0 f.1 (elim c.if-conflicts.branch [
      | then-conflicts w ↦ inl (
        sym c.conflicts.ensures ∙ w.if-conflicts.true,
        ap (λ (p : ℕ × ℕ). p.0) w.from-is,
        ap (λ (p : ℕ × ℕ). p.1) w.from-is ∙ ap (λ (ms : List ℕ). length ms) c.as_slice-members.ensures.value,
      )
      | else-conflicts w ↦ inr (sym c.conflicts.ensures ∙ w.if-conflicts.false, ap (λ (p : ℕ × ℕ). p.0) w.from-is, ap (λ (p : ℕ × ℕ). p.1) w.from-is)
    ]) ∙ ap (λ (a : Asking). asked a.groups c.args.node_access) c.self.view_is in
    let both = both_answered c.args.graph.now s.members.items s.asked.items (record { node = c.args.node_access.node; from = f.0; end = f.1 })
    (rw c.in_ok-push.ensures.items at h) in (
      subst (AreAnswered c.args.graph.now) (ap (λ (a : Asking). a.asked) c.self.view_is) both.0,
      subst (All (λ a. Before c.args.graph.now a c.args.node_access.node)) is both.1,
    )
