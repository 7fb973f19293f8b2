-- The texts of causes.
use Rattle.std.specs.Prelude.{ℕ, List, [], ◌++◌, codes, decimal, Option, Some, None}
use Rattle.server_words.specs.OrchBase.Names.{HostPort}
use Rattle.server_words.specs.OrchBase.declared.server.ServerNo.{ServerNo}
use Rattle.server_words.specs.OrchBase.declared.server.SourceState.{SourceState}
use Rattle.server_words.specs.OrchBase.declared.server.SourceState.TheVariants.{Without, Attached, Detached}
use Rattle.server_words.specs.BinlogCoords.Text.{coord_text}
use Rattle.server_words.specs.GtidSets.Printed.{printed}
use Rattle.server_words.specs.declared.attach.Spot.{Spot}
use Rattle.server_words.specs.declared.attach.Spot.TheVariants.{At, OwnEnd, Nowhere}
use Rattle.commands.specs.declared.cause.Cause.{Cause}
use Rattle.commands.specs.declared.cause.Cause.TheVariants as cause
use Rattle.commands.specs.Causes.{cause_name}
use Rattle.report_text.specs.Names.{name_text, given_text}
use Rattle.server_words.specs.OrchBase.Words.{cause_name_text}

-- the position of a server
abbrev pub spot_text : List HostPort → Spot → List ℕ
spot_text names (At source c) = name_text names source ++ codes " " ++ coord_text c
spot_text names (OwnEnd c) = codes "end " ++ coord_text c
spot_text names Nowhere = codes "nowhere"

-- `expected SPOT found SPOT`
abbrev pub spots_text : List HostPort → Spot → Spot → List ℕ
spots_text names expected found =
    codes " expected " ++ spot_text names expected ++ codes " found " ++ spot_text names found

abbrev pub source_text : List HostPort → SourceState → List ℕ
source_text names Without = codes "none"
source_text names (Attached source) = name_text names source
source_text names (Detached source) = name_text names source ++ codes " detached"

-- the server that the cause speaks of
abbrev pub server_of : Cause → Option ServerNo
server_of (cause.Unreachable n) = Some n
server_of (cause.WaitSpent n) = Some n
server_of (cause.Interfered n expected found) = Some n
server_of (cause.Running n) = Some n
server_of (cause.Loop n) = Some n
server_of (cause.Errant n set) = Some n
server_of (cause.Moved n source) = Some n
server_of (cause.Reachable n) = Some n
server_of cause.NoCandidate = None
server_of (cause.Purged n first) = Some n
server_of (cause.NoMark n) = Some n
server_of (cause.Mismatch n entry) = Some n
server_of (cause.HookFailed number exit) = None

-- what else it speaks of, each value after a space
abbrev pub details_text : List HostPort → Cause → List ℕ
details_text names (cause.Unreachable n) = []
details_text names (cause.WaitSpent n) = []
details_text names (cause.Interfered n expected found) = spots_text names expected found
details_text names (cause.Running n) = []
details_text names (cause.Loop n) = []
details_text names (cause.Errant n set) = codes " " ++ printed set
details_text names (cause.Moved n source) = codes " " ++ source_text names source
details_text names (cause.Reachable n) = []
details_text names cause.NoCandidate = []
details_text names (cause.Purged n first) = codes " " ++ decimal first
details_text names (cause.NoMark n) = []
details_text names (cause.Mismatch n entry) = codes " " ++ decimal entry
details_text names (cause.HookFailed number exit) = codes " " ++ decimal number ++ codes " exit " ++ decimal exit

-- the cause's name, the server and what else it speaks of
abbrev pub cause_text : List HostPort → Cause → List ℕ
cause_text names c =
    cause_name_text (cause_name c) ++ given_text names (server_of c) ++ details_text names c

-- the same without the server
abbrev pub unnamed_text : List HostPort → Cause → List ℕ
unnamed_text names c = cause_name_text (cause_name c) ++ details_text names c
