-- What a recovery is asked to begin with, and what the ask comes to.
use Rattle.std.specs.Prelude.{Result}
use Rattle.recovery_core.specs.Prelude.{Refusal, ServerNo}
use Rattle.recovery_core.specs.declared.attempt.Attempt.{Attempt}
use Rattle.recovery_core.specs.declared.ask.Ask.{Ask}
use Rattle.recovery_core.specs.Tries.{Begins, kind_try, recovery_try, takeover_try}

-- what its checks go by, beside the book, the audit and the servers' settings
abbrev pub attempt_by : Ask → Attempt
attempt_by a = record {
  by_master = a.by_master;
  by_intermediate = a.by_intermediate;
  enabled = a.enabled;
  by_hand = a.by_hand;
  block = a.block;
  now = a.moment;
}

abbrev pub recovery_try_of : Ask → Result Begins Refusal
recovery_try_of a = recovery_try a.world.now a.book.now a.audit.now.audit (attempt_by a) a.wait a.job a.failed

abbrev pub takeover_try_of : Ask → ServerNo → Result Begins Refusal
takeover_try_of a d = takeover_try a.world.now a.book.now a.audit.now.audit (attempt_by a) a.wait a.job a.failed d

-- what begins as it is asked for, or what refuses it
abbrev pub try_of : Ask → Result Begins Refusal
try_of a = kind_try a.world.now a.book.now a.audit.now.audit (attempt_by a) a.wait a.job a.failed a.designated a.kind
