-- What is found by going back along steps.
use Rattle.std.specs.Prelude.{List, map}
use Rattle.vocabulary.specs.Prelude.{Link, Cell, Tables}
use Rattle.semantics.specs.Links as links
use Rattle.provenance.specs.declared.taking.Taken.{Taken}
use Rattle.provenance.specs.declared.flows.Flow.{Flow}
use Rattle.provenance.specs.declared.flows.Flow.TheVariants.{Leaves, Adds, Puts, Takes}
use Rattle.provenance.specs.Listing.{step_of}

-- What a flow that is found means.
abbrev pub meant : Flow → links.Flow
meant Leaves = links.Leaves
meant Adds = links.Adds
meant Puts = links.Puts
meant (Takes from) = links.Takes from

-- The links behind a cell after some steps, the latest first.
abbrev pub links_behind : Tables → List Taken → Cell → List Link
links_behind t earlier c = map (links.link_of t) (links.sources_of (map step_of earlier) c 0)
