-- What plain words ask for has no size, so that none is out of range.
use Rattle.std.proofs.Common.{Bool, true, false, List, [], ◌∷◌, rules}
use Rattle.std.specs.Prelude.{IfSome, if◌then◌else◌, Some}
use Rattle.std.specs.List.{AllByRecursion}
use Rattle.std.specs.Str.{bytes_eq}
use Rattle.clap.specs.Walk.{Text}
use Rattle.spy_args.specs.declared.request.Request.{Request}
use Rattle.spy_args.specs.Asked.{IsSized, plain_words, request_among, plain_request}

among_sized : (rows : List (Text × Request)) (word : Text) → AllByRecursion (λ (row : Text × Request). IsSized row.1) rows
    → IfSome (request_among rows word) IsSized
among_sized [] word all = tt
among_sized (row ∷ rows) word all = by (bytes_eq word row.0) (among_sized rows word all.1)
  where
    by : (same : Bool) → IfSome (request_among rows word) IsSized → IfSome (if same then Some row.1 else request_among rows word) IsSized
    by true later = all.0
    by false later = later

pub plain_sized : (word : Text) → IfSome (plain_request word) IsSized
plain_sized word = among_sized plain_words word (search rules)
