-- Whether a record lists items badly, by the set of those that are listed.
use Rattle.std.proofs.Common.{◌≡◌, ℕ, ◌+◌, ◌==◌, Bool, not, ◌&&◌, ◌||◌, List, length, ap, ◌∙◌, sym}
use Rattle.std.specs.List.{list_all}
use Rattle.std.proofs.lemmas.List.Folds.{list_any-append}
use Rattle.vocabulary.specs.Prelude.{Record, Tables, is_in, meets}
use Rattle.spy_grammar.specs.declared.record.Record.TheVariants.{Serial}
use Rattle.semantics.specs.SerialOrder.{listed}
use Rattle.semantics.specs.Rules.{has_repeat, items_declared, is_bad_serial}
use Rattle.log_rules.specs.Gathered.{list_count}
use Rattle.log_rules.specs.Listing.{IsSetOf, is_listed, lists_badly}
use Rattle.log_rules.proofs.ListTests.{list_any-alike, list_all-alike}

pub lists_badly-is : (log : List Record) (t : Tables) (set : ℕ → Bool) (ids : List ℕ) → IsSetOf (listed t) set
    → lists_badly log (length t.serials) set ids ≡ is_bad_serial log t (Serial ids)
lists_badly-is log t set ids is =
    ap (λ b. has_repeat ids || b || ((list_count log == length t.serials + 1) && not (list_all (is_listed set (is_in ids)) log)))
    (list_any-alike set (is_in (listed t)) ids is)
    ∙ ap (λ b. has_repeat ids || meets ids (listed t) || ((list_count log == length t.serials + 1) && not b))
    (list_all-alike _ _ log (λ r.
    list_all-alike _ _ (items_declared r) (λ id.
    ap (λ b. b || is_in ids id) (is id) ∙ sym (list_any-append (λ m. m == id) (listed t) ids)
    ))
    )
