use Rattle.std.proofs.Common.{◌≡◌, ◌∙◌, ◌+◌, ap, sym, subst, None, Some, drop, position, List}
use Rattle.std.proofs.lemmas.List.{take_rest}
use Rattle.std.proofs.lemmas.List.Quantifiers.{position-Some}
use Rattle.vocabulary.specs.Prelude.{Ask, Link, Tables}
use Rattle.semantics.specs.Links.{AreLinksOf, IsNoRead, is_asked}
use Rattle.provenance.specs.declared.taking.Taken.{Taken}
use Rattle.provenance.specs.Tracing.{links_behind}
use Rattle.provenance.proofs.Traced.{Keeps, keeps, asked_reads, none_asked, traced}
use Rattle.provenance.proofs.tracing.trace.Goals as goal

pub returns-in-None-clause-none : goal.returns-in-None-clause-none
returns-in-None-clause-none g c =
    let t = c.args.log.now in
    let k : Keeps t = keeps t c.is_declared.ensures c.requires.mapped c.requires.order.free c.requires.free in
    λ _. none_asked t c.args.ask.now c.in_ok-taken.taken.items k.replay c.in_ok-taken.ensures.steps
    (subst (λ xs. position (λ (x : Taken). is_asked c.args.ask.now x.step) xs ≡ None) c.as_slice.ensures.value (sym c.in-None.ensures))

pub unreachable-requires : goal.unreachable-requires
unreachable-requires g c =
    let found = position-Some (λ (x : Taken). is_asked c.args.ask.now x.step) c.in_ok-taken.taken.items c.in-Some.place c.index.result.now
    (subst (λ xs. position (λ (x : Taken). is_asked c.args.ask.now x.step) xs ≡ Some c.in-Some.place) c.as_slice.ensures.value
    (sym c.in-Some.ensures)) in
    let reads = asked_reads c.args.ask.now c.index.result.now.step (ap (λ (y : Taken). is_asked c.args.ask.now y.step) c.index.ensures
    ∙ found.1) in
    c.in_default.not-Read reads.0 reads.1 reads.2 reads.3

pub returns-clause-links : goal.returns-clause-links
returns-clause-links g c =
    let t = c.args.log.now in
    let k : Keeps t = keeps t c.is_declared.ensures c.requires.mapped c.requires.order.free c.requires.free in
    let rest = take_rest c.deref.result.now (c.in-Some.place + 1) ∙ ap (drop (c.in-Some.place + 1)) c.deref.ensures.value in
    traced t k c.args.ask.now c.in_ok-taken.taken.items c.in-Some.place c.index.result.now c.in-Read.task c.in-Read.req c.in-Read.cell c.in_ok-links.links.items c.in_ok-taken.ensures.steps
    (subst (λ xs. position (λ (x : Taken). is_asked c.args.ask.now x.step) xs ≡ Some c.in-Some.place) c.as_slice.ensures.value
    (sym c.in-Some.ensures))
    c.index.ensures c.in-Read.is (c.in_ok-links.ensures ∙ ap (λ xs. links_behind t xs c.in-Read.cell) rest)

pub returns-clause-value : goal.returns-clause-value
returns-clause-value g c =
    let t = c.args.log.now in
    let k : Keeps t = keeps t c.is_declared.ensures c.requires.mapped c.requires.order.free c.requires.free in
    k.value c.args.ask.now c.in_ok-links.links.items (returns-clause-links g c)

pub returns-clause-ends : goal.returns-clause-ends
returns-clause-ends g c =
    let t = c.args.log.now in
    let k : Keeps t = keeps t c.is_declared.ensures c.requires.mapped c.requires.order.free c.requires.free in
    k.ends c.args.ask.now c.in_ok-links.links.items (returns-clause-links g c)

pub returns-clause-starts : goal.returns-clause-starts
returns-clause-starts g c =
    let t = c.args.log.now in
    let k : Keeps t = keeps t c.is_declared.ensures c.requires.mapped c.requires.order.free c.requires.free in
    k.starts c.args.ask.now c.in_ok-links.links.items (returns-clause-links g c)

pub returns-clause-read : goal.returns-clause-read
returns-clause-read g c = links_are_of_a_read c.args.log.now c.args.ask.now c.in_ok-links.links.items (returns-clause-links g c)
  where
    links_are_of_a_read : (t : Tables) (ask : Ask) (ls : List Link) → AreLinksOf t ask ls → IsNoRead t ask → ⊥
    links_are_of_a_read t ask ls a no_read = let e = sym a.asked ∙ no_read a.read a.is_step in cc
