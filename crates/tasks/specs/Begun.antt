-- Which job a command began.
use Rattle.std.specs.Prelude.{ℕ, Option, Some, None}
use Rattle.tasks.specs.Prelude.{Reply}
use Rattle.tasks.specs.Prelude.answered

-- the job that began by a reply
abbrev pub begun_by : Reply → Option ℕ
begun_by (answered.Begun job) = Some job
begun_by (answered.Write a) = None
begun_by (answered.Fetch a) = None
begun_by (answered.Apply a) = None
begun_by answered.Done = None
begun_by (answered.Rotate a) = None
begun_by (answered.Purge a) = None
begun_by (answered.Now t) = None
begun_by (answered.Read n) = None
begun_by (answered.ReadUnreachable n) = None
begun_by answered.Unknown = None
begun_by answered.Stored = None
begun_by (answered.Old n) = None
begun_by answered.Nothing = None
begun_by (answered.Told lines) = None
begun_by (answered.Refused r) = None
begun_by answered.Going = None
begun_by (answered.Failed cause) = None
begun_by answered.NoJob = None
begun_by (answered.Held until) = None
begun_by (answered.Taken node until) = None
begun_by answered.Released = None
begun_by answered.NotHeld = None
begun_by answered.Lapsed = None
