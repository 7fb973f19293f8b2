-- The texts of refusals.
use Rattle.std.specs.Prelude.{ℕ, List, [], ◌++◌, codes, decimal}
use Rattle.server_words.specs.OrchBase.Names.{HostPort}
use Rattle.server_words.specs.GtidSets.Printed.{printed}
use Rattle.commands.specs.declared.refusal.Refusal.{Refusal}
use Rattle.commands.specs.declared.refusal.Refusal.TheVariants as refused
use Rattle.commands.specs.Refusals.{number_of}
use Rattle.report_text.specs.Names.{name_text}
use Rattle.server_words.specs.OrchBase.Words.{code_text}

abbrev pub refusal_name : Refusal → List ℕ
refusal_name refused.UnknownInstance = codes "UnknownInstance"
refusal_name refused.SameInstance = codes "SameInstance"
refusal_name (refused.Busy n job) = codes "Busy"
refusal_name (refused.Unreachable n) = codes "Unreachable"
refusal_name refused.NoSource = codes "NoSource"
refusal_name refused.NotDetached = codes "NotDetached"
refusal_name refused.AlreadyDetached = codes "AlreadyDetached"
refusal_name refused.OtherCluster = codes "OtherCluster"
refusal_name refused.Below = codes "Below"
refusal_name refused.SourceHasNoSource = codes "SourceHasNoSource"
refusal_name refused.NotSibling = codes "NotSibling"
refusal_name refused.NotSameLog = codes "NotSameLog"
refusal_name refused.DestNotLogging = codes "DestNotLogging"
refusal_name (refused.SameServerId n) = codes "SameServerId"
refusal_name (refused.VersionLower n) = codes "VersionLower"
refusal_name refused.GtidOff = codes "GtidOff"
refusal_name (refused.Errant set) = codes "Errant"
refusal_name refused.NoPath = codes "NoPath"
refusal_name (refused.NotActionable code) = codes "NotActionable"
refusal_name refused.GloballyDisabled = codes "GloballyDisabled"
refusal_name (refused.Downtimed until) = codes "Downtimed"
refusal_name refused.FilteredOut = codes "FilteredOut"
refusal_name (refused.OpenRecovery id) = codes "OpenRecovery"
refusal_name (refused.Blocked id until) = codes "Blocked"
refusal_name refused.NoCandidate = codes "NoCandidate"
refusal_name refused.NotMaster = codes "NotMaster"
refusal_name refused.NotReplica = codes "NotReplica"
refusal_name (refused.NotQuiet count) = codes "NotQuiet"
refusal_name (refused.Purged n first) = codes "Purged"
refusal_name refused.PseudoOff = codes "PseudoOff"
refusal_name (refused.MovedNotLogging n) = codes "MovedNotLogging"

-- what the refusal speaks of, each value after a space
abbrev pub values_text : List HostPort → Refusal → List ℕ
values_text names refused.UnknownInstance = []
values_text names refused.SameInstance = []
values_text names (refused.Busy n job) = codes " " ++ name_text names n ++ codes " " ++ decimal job
values_text names (refused.Unreachable n) = codes " " ++ name_text names n
values_text names refused.NoSource = []
values_text names refused.NotDetached = []
values_text names refused.AlreadyDetached = []
values_text names refused.OtherCluster = []
values_text names refused.Below = []
values_text names refused.SourceHasNoSource = []
values_text names refused.NotSibling = []
values_text names refused.NotSameLog = []
values_text names refused.DestNotLogging = []
values_text names (refused.SameServerId n) = codes " " ++ name_text names n
values_text names (refused.VersionLower n) = codes " " ++ name_text names n
values_text names refused.GtidOff = []
values_text names (refused.Errant set) = codes " " ++ printed set
values_text names refused.NoPath = []
values_text names (refused.NotActionable code) = codes " " ++ code_text code
values_text names refused.GloballyDisabled = []
values_text names (refused.Downtimed until) = codes " until " ++ decimal until.0
values_text names refused.FilteredOut = []
values_text names (refused.OpenRecovery id) = codes " " ++ decimal id
values_text names (refused.Blocked id until) = codes " " ++ decimal id ++ codes " until " ++ decimal until.0
values_text names refused.NoCandidate = []
values_text names refused.NotMaster = []
values_text names refused.NotReplica = []
values_text names (refused.NotQuiet count) = codes " " ++ decimal count
values_text names (refused.Purged n first) = codes " " ++ name_text names n ++ codes " " ++ decimal first
values_text names refused.PseudoOff = []
values_text names (refused.MovedNotLogging n) = codes " " ++ name_text names n

-- the refusal's number, its name, and what it speaks of
abbrev pub refusal_text : List HostPort → Refusal → List ℕ
refusal_text names r = decimal (number_of r) ++ codes " " ++ refusal_name r ++ values_text names r
