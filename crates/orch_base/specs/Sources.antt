-- The number of a source.
use Rattle.std.specs.Prelude.{ℕ, Option, Some, None}
use Rattle.orch_base.specs.declared.server.SourceState.{SourceState}
use Rattle.orch_base.specs.declared.server.SourceState.TheVariants.{Without, Attached, Detached}

-- the server that a server is attached to or detached from
abbrev pub source_no : SourceState → Option ℕ
source_no Without = None
source_no (Attached m) = Some m.0
source_no (Detached m) = Some m.0
