-- A crowded log, as far as its records are read.
use Rattle.std.specs.Prelude.{◌≡◌, List, ◌++◌}
use Rattle.vocabulary.specs.Prelude.{Lined, records_of}
use Rattle.crowded_logs.specs.Crowded.{Answer}
use Rattle.crowded_logs.specs.Noted.{frame_of}
use Rattle.log_input.specs.AskedIds.{IsAskedBy}
use Rattle.log_input.specs.Answered.{IsAnsweredBy}
use Rattle.log_input.specs.declared.crowding.Crowding.{Crowding}

-- After the first records these later ones are read, of which some are kept that answer what those ask.
pub record IsCrowding (first later : List Lined) (c : Crowding) : Type 0 where
  pub kept_later : List Lined
  pub kept_is : c.kept.items ≡ first ++ kept_later
  pub asked : IsAskedBy (records_of first) c.asked
  pub answered : IsAnsweredBy (records_of first) (records_of kept_later) c.answered
  pub answer : Answer (records_of first) (records_of later) (records_of kept_later)
  pub frame_is : c.frame ≡ frame_of (first ++ later)
