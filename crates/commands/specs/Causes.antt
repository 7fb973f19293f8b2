-- The causes' names.
use Rattle.server_words.specs.OrchBase.declared.recovery.CauseName.{CauseName}
use Rattle.server_words.specs.OrchBase.declared.recovery.CauseName.TheVariants as named
use Rattle.commands.specs.declared.cause.Cause.{Cause}
use Rattle.commands.specs.declared.cause.Cause.TheVariants as cause

abbrev pub cause_name : Cause → CauseName
cause_name (cause.Unreachable n) = named.Unreachable
cause_name (cause.WaitSpent n) = named.WaitSpent
cause_name (cause.Interfered n expected found) = named.Interfered
cause_name (cause.Running n) = named.Running
cause_name (cause.Loop n) = named.Loop
cause_name (cause.Errant n set) = named.Errant
cause_name (cause.Moved n source) = named.Moved
cause_name (cause.Reachable n) = named.Reachable
cause_name cause.NoCandidate = named.NoCandidate
cause_name (cause.Purged n first) = named.Purged
cause_name (cause.NoMark n) = named.NoMark
cause_name (cause.Mismatch n entry) = named.Mismatch
cause_name (cause.HookFailed number exit) = named.HookFailed
