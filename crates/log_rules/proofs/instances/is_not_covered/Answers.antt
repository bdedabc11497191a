use Rattle.std.proofs.Common.{◌≡◌, ◌∙◌, ◌||◌, ap, sym, inl, inr, [], false}
use Rattle.std.proofs.Math.Bool.{or-false}
use Rattle.std.specs.Option.{option_copied, option_map_or}
use Rattle.vocabulary.specs.Prelude.{Record, Req, inst_at, points_in}
use Rattle.semantics.specs.Rules.{is_not_covered}
use Rattle.log_rules.specs.Instances.{is_lacking}
use Rattle.log_rules.specs.Lookups.{inst_named, req_named, target_named}
use Rattle.log_rules.proofs.instances.is_not_covered.Goals as goal

pub returns-in-Some : goal.returns-in-Some
returns-in-Some g c = λ all earlier is.
    let n = c.args.named.now in
    let t = n.tables.now in
    c.lacks.ensures all is.kept
    ∙ ap (λ o. is_lacking t (points_in t c.in-Some.req.now.space) c.in-Map.fields o) (n.is_inst ∙ ap (inst_named t) c.in-Map.is)
    ∙ ap (λ o. is_lacking t (option_map_or (λ (r : Req). points_in t r.space) o []) c.in-Map.fields (inst_at t c.in-Map.inst))
    (sym (ap option_copied c.in-Some.is) ∙ n.is_req ∙ ap (req_named t) c.in-Map.is)
    ∙ ap (is_not_covered t) (sym c.in-Map.is)

pub returns-in-None : goal.returns-in-None
returns-in-None g c = λ all earlier is.
    let n = c.args.named.now in
    let t = n.tables.now in
    c.lacks_field.ensures t
    ∙ ap (λ o. is_lacking t [] c.in-Map.fields o) (n.is_inst ∙ ap (inst_named t) c.in-Map.is)
    ∙ ap (λ o. is_lacking t (option_map_or (λ (r : Req). points_in t r.space) o []) c.in-Map.fields (inst_at t c.in-Map.inst))
    (sym (ap option_copied c.in-None.is) ∙ n.is_req ∙ ap (req_named t) c.in-Map.is)
    ∙ ap (is_not_covered t) (sym c.in-Map.is)

pub returns-then-lacks : goal.returns-then-lacks
returns-then-lacks g c = λ all earlier is.
    let n = c.args.named.now in
    let t = n.tables.now in
    let rule = is_not_covered t in
    let f = is_lacking t (points_in t c.in-Copy.space) c.in-Copy.fields in
    let either = λ (r : Record). f (inst_named t r) || (f (target_named t r) || false) in
    let told : c.lacks-in-Copy.result ≡ either n.rec.now = c.if-lacks.true
    ∙ ap (λ b. b || (f (target_named t n.rec.now) || false)) (sym c.if-lacks.true ∙ c.lacks-in-Copy.ensures all is.kept ∙ ap f n.is_inst) in
    elim c.in-Copy.is [
      | inl copy ↦ told ∙ ap either copy.4 ∙ ap rule (sym copy.4)
      | inr fold ↦ told ∙ ap either fold.4 ∙ ap rule (sym fold.4)
    ]

pub returns-else-lacks : goal.returns-else-lacks
returns-else-lacks g c = λ all earlier is.
    let n = c.args.named.now in
    let t = n.tables.now in
    let rule = is_not_covered t in
    let f = is_lacking t (points_in t c.in-Copy.space) c.in-Copy.fields in
    let either = λ (r : Record). f (inst_named t r) || (f (target_named t r) || false) in
    let told : c.lacks-else-lacks.result ≡ either n.rec.now =
    c.lacks-else-lacks.ensures all is.kept ∙ ap f n.is_target ∙ sym (or-false _)
    ∙ ap (λ b. b || (f (target_named t n.rec.now) || false)) (sym c.if-lacks.false ∙ c.lacks-in-Copy.ensures all is.kept ∙ ap f n.is_inst) in
    elim c.in-Copy.is [
      | inl copy ↦ told ∙ ap either copy.4 ∙ ap rule (sym copy.4)
      | inr fold ↦ told ∙ ap either fold.4 ∙ ap rule (sym fold.4)
    ]

pub returns-in-Put : goal.returns-in-Put
returns-in-Put g c = λ all earlier is.
    let n = c.args.named.now in
    let t = n.tables.now in
    let rule = is_not_covered t in
    let f = is_lacking t (points_in t c.in-Put.space) c.in-Put.fields in
    let told = c.lacks-in-Put.ensures all is.kept ∙ ap f n.is_inst ∙ sym (or-false _) in
    let one = λ (r : Record). f (inst_named t r) || false in
    elim c.in-Put.is [
      | inl put ↦ told ∙ ap one put.4 ∙ ap rule (sym put.4)
      | inr reset ↦ told ∙ ap one reset.3 ∙ ap rule (sym reset.3)
    ]
