use Rattle.recovery_turns.specs.Prelude.{Line, Purpose, ServerNo}
use Rattle.recovery_turns.specs.Prelude.line
use Rattle.recovery_turns.specs.Prelude.purpose

-- the line of the new source
abbrev pub source_line : Purpose → ServerNo → Line
source_line purpose.Regroup n = line.Server n
source_line purpose.Master n = line.Promoted n
source_line (purpose.Intermediate s) n = line.Successor n
source_line (purpose.Takeover d) n = line.Promoted n
