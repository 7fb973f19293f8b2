-- The refusals' numbers.
use Rattle.std.specs.Prelude.{ℕ}
use Rattle.commands.specs.declared.refusal.Refusal.{Refusal}
use Rattle.commands.specs.declared.refusal.Refusal.TheVariants.{UnknownInstance, SameInstance, Busy, Unreachable, NoSource, NotDetached, AlreadyDetached, OtherCluster, Below, SourceHasNoSource, NotSibling, NotSameLog, DestNotLogging, SameServerId, VersionLower, GtidOff, Errant, NoPath, NotActionable, GloballyDisabled, Downtimed, FilteredOut, OpenRecovery, Blocked, NoCandidate, NotMaster, NotReplica, NotQuiet, Purged, PseudoOff, MovedNotLogging}

abbrev pub number_of : Refusal → ℕ
number_of UnknownInstance = 2
number_of SameInstance = 3
number_of (Busy server job) = 4
number_of (Unreachable server) = 5
number_of NoSource = 6
number_of NotDetached = 7
number_of AlreadyDetached = 8
number_of OtherCluster = 9
number_of Below = 10
number_of SourceHasNoSource = 11
number_of NotSibling = 12
number_of NotSameLog = 13
number_of DestNotLogging = 14
number_of (SameServerId server) = 15
number_of (VersionLower server) = 16
number_of GtidOff = 17
number_of (Errant set) = 18
number_of NoPath = 19
number_of (NotActionable code) = 20
number_of GloballyDisabled = 21
number_of (Downtimed until) = 22
number_of FilteredOut = 23
number_of (OpenRecovery id) = 24
number_of (Blocked id until) = 25
number_of NoCandidate = 26
number_of NotMaster = 27
number_of NotReplica = 28
number_of (NotQuiet count) = 29
number_of (Purged server first) = 30
number_of PseudoOff = 31
number_of (MovedNotLogging server) = 32
