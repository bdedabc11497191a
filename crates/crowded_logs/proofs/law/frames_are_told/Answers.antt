use Rattle.crowded_logs.proofs.Framing.{frame_told}
use Rattle.crowded_logs.proofs.law.frames_are_told.Goals as goal

pub returns : goal.returns
returns c = frame_told
