-- The lines of what is done.
use Rattle.std.specs.Prelude.{ℕ, zero, suc, Bool, List, [], ◌∷◌, ◌++◌, codes, decimal, if◌then◌else◌}
use Rattle.server_words.specs.OrchBase.Names.{HostPort}
use Rattle.server_words.specs.OrchBase.declared.server.ServerNo.{ServerNo}
use Rattle.server_words.specs.OrchBase.declared.server.Version.{Version}
use Rattle.server_words.specs.BinlogCoords.Text.{coord_text}
use Rattle.commands.specs.declared.line.Line.{Line}
use Rattle.commands.specs.declared.line.Line.TheVariants as line
use Rattle.commands.specs.declared.line.Lost.{Lost}
use Rattle.commands.specs.declared.line.Lost.TheVariants as lost
use Rattle.commands.specs.declared.line.StateWord.{StateWord}
use Rattle.commands.specs.declared.line.HookPhase.{HookPhase}
use Rattle.report_text.specs.Causes.{spot_text, unnamed_text}
use Rattle.report_text.specs.Names.{name_text}
use Rattle.report_text.specs.Recoveries.{recovery_text}
use Rattle.report_text.specs.Refusals.{refusal_text}
use Rattle.report_text.specs.Words.{mode_text, phase_text, state_text}
use Rattle.server_words.specs.OrchBase.Words.{code_text, rule_text, version_text}

-- two spaces for each level
abbrev pub levels_text : ℕ → List ℕ
levels_text zero = []
levels_text (suc k) = codes "  " ++ levels_text k

-- what is before an instance so far below its tree's root
abbrev pub depth_text : ℕ → List ℕ
depth_text zero = []
depth_text (suc k) = levels_text k ++ codes "+ "

-- [STATE,VERSION,rw|ro]
abbrev pub marks_text : StateWord → Version → Bool → List ℕ
marks_text word v read_only = codes " [" ++ state_text word ++ codes "," ++ version_text v ++ codes "," ++ mode_text read_only ++ codes "]"

-- why a replica isn't below the promoted server
abbrev pub lost_text : List HostPort → Lost → List ℕ
lost_text names (lost.Ahead c) = codes " ahead " ++ coord_text c
lost_text names (lost.Behind c) = codes " behind " ++ coord_text c
lost_text names (lost.Purged c) = codes " purged " ++ coord_text c
lost_text names lost.Unreachable = codes " unreachable"
lost_text names (lost.Moved spot) = codes " moved " ++ spot_text names spot
lost_text names lost.NotLogging = codes " not logging"
lost_text names lost.MustNot = codes " must not"

abbrev pub detached_text : Bool → List ℕ
detached_text detached = if detached then codes " detached" else []

-- two names, each with its number
abbrev pub two_text : List ℕ → ℕ → List ℕ → ℕ → List ℕ
two_text first a second b = first ++ decimal a ++ (second ++ decimal b)

-- replicas N valid N replicating N lagging N
abbrev pub counts_text : ℕ → ℕ → ℕ → ℕ → List ℕ
counts_text replicas valid replicating lagging =
    two_text (codes " replicas ") replicas (codes " valid ") valid ++ two_text (codes " replicating ") replicating (codes " lagging ") lagging

-- the name, a space and the word
abbrev pub named_text : List HostPort → ServerNo → List ℕ → List ℕ
named_text names n word = name_text names n ++ codes " " ++ word

-- hook PHASE TEXT exit E
abbrev pub hook_text : HookPhase → List ℕ → ℕ → List ℕ
hook_text phase text exit = codes "hook " ++ phase_text phase ++ codes " " ++ text ++ codes " exit " ++ decimal exit

abbrev pub told_text : List HostPort → Line → List ℕ
told_text names (line.Server n) = name_text names n
told_text names line.NoMaster = codes "none"
told_text names (line.Cluster label) = label
told_text names (line.Instance depth n word v read_only) = depth_text depth ++ name_text names n ++ marks_text word v read_only
told_text names (line.Follows n source) = name_text names n ++ codes "<" ++ name_text names source
told_text names (line.Promoted n) = codes "promoted " ++ name_text names n
told_text names (line.Successor n) = codes "successor " ++ name_text names n
told_text names (line.Lost n why detached) = name_text names n ++ lost_text names why ++ detached_text detached
told_text names (line.Analysis n code replicas valid replicating lagging) =
    named_text names n (code_text code) ++ counts_text replicas valid replicating lagging
told_text names (line.Downtime n until) = name_text names n ++ codes " until " ++ decimal until.0
told_text names (line.Candidate n rule until) = named_text names n (rule_text rule) ++ codes " until " ++ decimal until.0
told_text names (line.Acknowledged count) = codes "acknowledged " ++ decimal count
told_text names line.Enabled = codes "enabled"
told_text names line.Disabled = codes "disabled"
told_text names (line.Recovery recovery) = recovery_text names recovery
told_text names (line.Begun n code job) = named_text names n (code_text code) ++ codes " begun " ++ decimal job
told_text names (line.Refused n code refusal) = named_text names n (code_text code) ++ codes " refused " ++ refusal_text names refusal
told_text names (line.Hook phase text exit) = hook_text phase text exit
told_text names (line.Unmatched n why) = name_text names n ++ codes " " ++ unnamed_text names why

-- each line after an indentation
abbrev pub told_lines : List ℕ → List HostPort → List Line → List ℕ
told_lines indent names [] = []
told_lines indent names (l ∷ ls) = indent ++ told_text names l ++ codes "\n" ++ told_lines indent names ls
