-- How two items interfere: what is found of them, and what is remembered.
use Rattle.std.proofs.Common.{◌≡◌, ℕ, ◌<◌, ◌≤◌, true, false, not, List, length, refl, sym, ap, ◌∙◌, Option, Some, None, get_or}
use Rattle.std.specs.Prelude.{IfNone, IfSome}
use Rattle.std.proofs.lemmas.Bool.{and_from}
use Rattle.vocabulary.specs.Prelude.{Place, is_free}
use Rattle.item_uses.specs.declared.between.Interference.{Interference}
use Rattle.item_uses.specs.Usages.{Usage, usages_at}
use Rattle.item_uses.specs.Sharing.{kind_between, place_between}
use Rattle.item_uses.specs.Representatives.{AreRepresentatives}
use Rattle.item_uses.proofs.lemmas.Bounded.{none_free, some_not}
use Rattle.interference.specs.declared.pair.Pair.{Pair}
use Rattle.interference.specs.Pairing.{is_asked, met_at, IsMeeting, StartsRow}
use Rattle.interference.specs.Remembering.{IsHow, pair_found}
use Rattle.interference.proofs.Rows.{free_not_met, row_starts}

-- ---- items that stand for items

pub how_same : (us : List (List Usage)) (standing : List ℕ) (a b : ℕ) (found : Interference) → AreRepresentatives standing us
    → a < length us → b < length us
    → IsHow us (get_or standing a 0) (get_or standing b 0) found → IsHow us a b found
how_same us standing a b found stand la lb how = record {
  kind = how.kind ∙ ap (λ u. kind_between u (usages_at us (get_or standing b 0))) (stand.same a la)
      ∙ ap (kind_between (usages_at us a)) (stand.same b lb);
  place = how.place ∙ ap (λ u. place_between u (usages_at us (get_or standing b 0))) (stand.same a la)
      ∙ ap (place_between (usages_at us a)) (stand.same b lb);
}

-- ---- the pair of two items

found_meets : (asked : Option (List ℕ)) (us : List (List Usage)) (a b : ℕ) (found : Interference) (p : Pair) → is_asked asked a b ≡ true
    → IsHow us a b found → pair_found a b found ≡ Some p → IsMeeting asked us a b p
found_meets asked us a b found p asks how is = by found.place refl
  where
    by : (o : Option Place) → found.place ≡ o → IsMeeting asked us a b p
    by None e = absurd (let bad = rw e at is in cc)
    by (Some place) e =
        let here : place_between (usages_at us a) (usages_at us b) ≡ Some place = sym how.place ∙ e in
        let same = rw e at is in
        record {
          met = and_from (is_asked asked a b) (not (is_free (kind_between (usages_at us a) (usages_at us b)))) asks
              (ap not (some_not (usages_at us a) (usages_at us b) place here));
          pair = rw (← how.kind, here) (cc);
        }

found_free : (asked : Option (List ℕ)) (us : List (List Usage)) (a b : ℕ) (found : Interference) → IsHow us a b found
    → pair_found a b found ≡ None → met_at asked us a b ≡ false
found_free asked us a b found how is = by found.place refl
  where
    by : (o : Option Place) → found.place ≡ o → met_at asked us a b ≡ false
    by None e = free_not_met asked us a b (none_free (usages_at us a) (usages_at us b) (sym how.place ∙ e))
    by (Some place) e = absurd (let bad = rw e at is in cc)

pub none_met : (asked : Option (List ℕ)) (us : List (List Usage)) (a b : ℕ) (found : Interference) (o : Option Pair) → IsHow us a b found
    → o ≡ pair_found a b found → IfNone o (met_at asked us a b ≡ false)
none_met asked us a b found None how is = found_free asked us a b found how (sym is)
none_met asked us a b found (Some p) how is = tt

pub some_met : (asked : Option (List ℕ)) (us : List (List Usage)) (a b : ℕ) (found : Interference) (o : Option Pair)
    → is_asked asked a b ≡ true → IsHow us a b found → o ≡ pair_found a b found → IfSome o (IsMeeting asked us a b)
some_met asked us a b found None asks how is = tt
some_met asked us a b found (Some p) asks how is = found_meets asked us a b found p asks how (sym is)

pub some_starts : (asked : Option (List ℕ)) (us : List (List Usage)) (a b : ℕ) (found : Interference) (o : Option Pair) → a ≤ b
    → b < length us → is_asked asked a b ≡ true → IsHow us a b found → o ≡ pair_found a b found
    → IfSome o (StartsRow asked us a b)
some_starts asked us a b found None order lt asks how is = tt
some_starts asked us a b found (Some p) order lt asks how is =
    row_starts asked us a b b p order lt refl (found_meets asked us a b found p asks how (sym is))
