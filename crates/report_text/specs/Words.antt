-- Names of one value each.
use Rattle.std.specs.Prelude.{ℕ, Bool, List, codes, if◌then◌else◌}
use Rattle.commands.specs.declared.line.HookPhase.{HookPhase}
use Rattle.commands.specs.declared.line.HookPhase.TheVariants as phase
use Rattle.commands.specs.declared.line.StateWord.{StateWord}
use Rattle.commands.specs.declared.line.StateWord.TheVariants as state

-- the state of an instance
abbrev pub state_text : StateWord → List ℕ
state_text state.Ok = codes "ok"
state_text state.Stopped = codes "stopped"
state_text state.Detached = codes "detached"
state_text state.Unreachable = codes "unreachable"

-- read-only or writable
abbrev pub mode_text : Bool → List ℕ
mode_text read_only = if read_only then codes "ro" else codes "rw"

-- when a hook runs
abbrev pub phase_text : HookPhase → List ℕ
phase_text phase.PreFailover = codes "pre_failover"
phase_text phase.PostFailover = codes "post_failover"
phase_text phase.PostUnsuccessful = codes "post_unsuccessful"

-- whether a recovery is acknowledged
abbrev pub acked_text : Bool → List ℕ
acked_text acked = if acked then codes "acked" else codes "unacked"
