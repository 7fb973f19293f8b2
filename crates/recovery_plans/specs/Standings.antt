-- What a recovery counts on while it is at a stage.
use Rattle.std.specs.Prelude.{List}
use Rattle.recovery_plans.specs.Prelude.{Line, ServerNo}
use Rattle.recovery_plans.specs.declared.task.Way.{Way}

pub data Standing : Type 0 where
  -- it is in a dead master's place, or a takeover
  InMastersPlace : Standing
  InTakeover : Standing
  -- what becomes of the drained ones is to be decided
  Undecided : Standing
  -- the chosen one
  Chosen : (p : ServerNo) → Standing
  -- it is promoted, too, and nothing else is left to do
  Last : (p : ServerNo) → Standing
  -- a server is promoted in a master's place, and nothing else is left to do
  Crowned : (n : ServerNo) → Standing
  -- the designated one is to take this master's place
  Giving : (m d : ServerNo) → Standing
  -- it is at its end, and these are its lines
  Closed : Standing
  Told : (lines : List Line) → Standing
  -- a follower, and a lost one
  Follower : (q : ServerNo) → Standing
  Lost : (n : ServerNo) → Standing
  -- the server has a source if its reading showed one; the reading of the way's bridge shows the bridge's source
  AsSeen : (n : ServerNo) → Standing
  WayRead : (by : Way) → Standing
  -- the server has a source; is attached to another; is detached; has none; and takes writes, too
  Sourced : (n : ServerNo) → Standing
  Under : (n p : ServerNo) → Standing
  Apart : (n : ServerNo) → Standing
  Free : (n : ServerNo) → Standing
  Ruling : (n : ServerNo) → Standing
