use Rattle.std.proofs.Common.{◌≡◌, ◌+◌, [], ◌∷◌, ◌++◌, map, length, ap, ap₂, ◌∙◌, arith}
use Rattle.std.proofs.lemmas.List.{length-append}
use Rattle.pair_rows.specs.Spans.{users_between}
use Rattle.pair_rows.proofs.Pushed.{places_more}
use Rattle.pair_rows.proofs.places.Places.push.Goals as goal

pub returns-clause-ok : goal.returns-clause-ok
returns-clause-ok c =
    let users = c.self.inside.users.items in
    let spans = c.self.inside.spans.items in
    let more = c.args.users.now in
    let grown : c.extend_from_slice.new.self.items ≡ users ++ more = c.in_ok-extend_from_slice.ensures.items in
    let end : c.len.result ≡ length users + length more =
    omega (arith, c.len.ensures, c.extend_from_slice.new.self.ok, ap length grown, length-append users more) in
    let from : c.len-from.result ≡ length users = omega (arith, c.len-from.ensures, c.self.inside.users.ok) in
    let spanned : c.push.new.self.items ≡ spans ++ (length users, c.len.result) ∷ [] =
    c.in_ok-push.ensures.items ∙ ap₂ (λ ss n. ss ++ (n, c.len.result) ∷ []) c.in_ok-reserve.ensures.items from in
    ap₂ (λ us ss. map (users_between us) ss) grown spanned
    ∙ places_more users more spans c.len.result c.self.invariant end
    ∙ ap (λ ps. ps ++ more ∷ []) c.self.view_is
