-- Replies that hold nothing on the heap.
use Rattle.std.specs.Prelude.{Bool, true, false}
use Rattle.turns.specs.declared.reply.Reply.{Reply}
use Rattle.turns.specs.declared.reply.Reply.TheVariants as answered

abbrev pub is_plain : Reply → Bool
is_plain (answered.Write a) = true
is_plain (answered.Fetch a) = true
is_plain (answered.Apply a) = true
is_plain answered.Done = true
is_plain (answered.Rotate a) = true
is_plain (answered.Purge a) = true
is_plain (answered.Now t) = true
is_plain (answered.Read n) = true
is_plain (answered.ReadUnreachable n) = true
is_plain answered.Unknown = true
is_plain answered.Stored = true
is_plain (answered.Old n) = true
is_plain answered.Nothing = true
is_plain (answered.Told lines) = false
is_plain (answered.Refused refusal) = false
is_plain (answered.Begun job) = true
is_plain answered.Going = true
is_plain (answered.Failed failure) = false
is_plain answered.NoJob = true
is_plain (answered.Held until) = true
is_plain (answered.Taken node until) = true
is_plain answered.Released = true
is_plain answered.NotHeld = true
is_plain answered.Lapsed = true
