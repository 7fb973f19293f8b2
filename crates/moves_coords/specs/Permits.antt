-- What refuses these commands: the rows of the permission table, and what their checks are about.
use Rattle.std.specs.Prelude.{Bool, true, false, ◌&&◌, List, [], ◌∷◌, Option, Some, None}
use Rattle.std.specs.Option.{option_or, option_to_list}
use Rattle.permission.specs.OrchBase.declared.server.ServerNo.{ServerNo}
use Rattle.permission.specs.Commands.declared.refusal.Refusal.{Refusal}
use Rattle.permission.specs.Commands.declared.turn.Command.{Command}
use Rattle.permission.specs.InstanceKeeper.Book.{BookState}
use Rattle.permission.specs.BookViews.Sources.{replicas_of}
use Rattle.permission.specs.ServerModel.Worlds.{World}
use Rattle.permission.specs.Checks.{Case, first_refusal}
use Rattle.permission.specs.Replicas.{siblings_of}
use Rattle.permission.specs.Rows.{about, going_by, moving, refused, swapping}
use Rattle.permission.specs.Views.{is_auto, source_above, source_of}
use Rattle.permission.specs.declared.case.Check.{Check}
use Rattle.permission.specs.declared.case.Check.TheVariants.{SameInstance, Busy, Unreachable, NoSource, NotDetached, AlreadyDetached, OtherCluster, Below, SourceHasNoSource, NotSibling, NotSameLog, DestNotLogging, SameServerId, VersionLower, Errant, PurgedPlace, PurgedSet}
use Rattle.permission.specs.declared.case.Lead.{Lead}
use Rattle.permission.specs.declared.case.Lead.TheVariants as lead
use Rattle.permission.specs.Commands.declared.kinds.CoordsCommand.{CoordsCommand}
use Rattle.permission.specs.Commands.declared.kinds.CoordsCommand.TheVariants as command
use Rattle.moves_coords.specs.Commands.{coords_command}

-- a repoint goes by GTIDs if they are used and the instance was seen to find its place by them
abbrev pub by_gtids : World → BookState → ServerNo → Bool
by_gtids w b i = w.gtid && is_auto b i

abbrev pub repoint_row : Bool → List Check
repoint_row true =
    SameInstance ∷ Busy ∷ Unreachable ∷ NoSource ∷ AlreadyDetached ∷ OtherCluster ∷ Below ∷ DestNotLogging ∷ SameServerId ∷ VersionLower ∷ Errant ∷ PurgedSet ∷ []
repoint_row false = SameInstance ∷ Busy ∷ Unreachable ∷ NoSource ∷ AlreadyDetached ∷ NotSameLog ∷ PurgedPlace ∷ []

-- the checks of an instance that is attached
abbrev pub attached_row : List Check
attached_row = Busy ∷ Unreachable ∷ NoSource ∷ AlreadyDetached ∷ []

-- the row of a command, after the check that its instances are known; a repoint has two
abbrev pub row_of : Bool → CoordsCommand → List Check
row_of gtids command.MoveUp = Busy ∷ Unreachable ∷ NoSource ∷ AlreadyDetached ∷ SourceHasNoSource ∷ SameServerId ∷ VersionLower ∷ PurgedPlace ∷ []
row_of gtids command.MoveUpReplicas = Busy ∷ Unreachable ∷ NoSource ∷ AlreadyDetached ∷ SameServerId ∷ VersionLower ∷ PurgedPlace ∷ []
row_of gtids command.MoveBelow =
    SameInstance ∷ Busy ∷ Unreachable ∷ NoSource ∷ AlreadyDetached ∷ OtherCluster ∷ Below ∷ NotSibling ∷ DestNotLogging ∷ SameServerId ∷ VersionLower ∷ []
row_of gtids command.Repoint = repoint_row gtids
row_of gtids command.TakeSiblings = Busy ∷ Unreachable ∷ NoSource ∷ AlreadyDetached ∷ DestNotLogging ∷ SameServerId ∷ VersionLower ∷ []
row_of gtids command.TakeMaster =
    Busy ∷ Unreachable ∷ NoSource ∷ AlreadyDetached ∷ SourceHasNoSource ∷ DestNotLogging ∷ SameServerId ∷ VersionLower ∷ PurgedPlace ∷ []
row_of gtids command.DetachReplica = attached_row
row_of gtids command.ReattachReplica = Busy ∷ Unreachable ∷ NoSource ∷ NotDetached ∷ []
row_of gtids command.ResetReplica = Busy ∷ Unreachable ∷ NoSource ∷ []
row_of gtids command.StartReplica = attached_row
row_of gtids command.StopReplica = attached_row
row_of gtids command.RestartReplica = attached_row
row_of gtids command.SetReadOnly = Busy ∷ Unreachable ∷ []
row_of gtids command.SetWriteable = Busy ∷ Unreachable ∷ []

-- which checks of its row come first, after the one that its instances are known
abbrev pub lead_of : CoordsCommand → Lead
lead_of command.MoveUp = lead.Held
lead_of command.MoveUpReplicas = lead.Held
lead_of command.MoveBelow = lead.Apart
lead_of command.Repoint = lead.Apart
lead_of command.TakeSiblings = lead.Held
lead_of command.TakeMaster = lead.Held
lead_of command.DetachReplica = lead.Held
lead_of command.ReattachReplica = lead.Held
lead_of command.ResetReplica = lead.Held
lead_of command.StartReplica = lead.Held
lead_of command.StopReplica = lead.Held
lead_of command.RestartReplica = lead.Held
lead_of command.SetReadOnly = lead.Held
lead_of command.SetWriteable = lead.Held

-- Which servers move to which source, by the destination that is given, of which the job takes the leases, and by whose
-- coordinates the moves go. A server goes up by that of its source, and goes on or lets its replicas up by its own.
abbrev pub case_of : BookState → CoordsCommand → ServerNo → Option ServerNo → Case
case_of b command.MoveUp i d = going_by (option_to_list (source_of b i)) (moving i (i ∷ []) (source_above b i) (i ∷ option_to_list (source_of b i)))
case_of b command.MoveUpReplicas i d = going_by (i ∷ []) (moving i (replicas_of b i) (source_of b i) (i ∷ replicas_of b i))
case_of b command.MoveBelow i d = moving i (i ∷ []) d (i ∷ option_to_list d)
case_of b command.Repoint i d = going_by (i ∷ []) (moving i (i ∷ []) (option_or d (source_of b i)) (i ∷ []))
case_of b command.TakeSiblings i d = moving i (siblings_of b i) (Some i) (i ∷ siblings_of b i)
case_of b command.TakeMaster i d = going_by (option_to_list (source_of b i)) (swapping b i (source_of b i) (source_above b i))
case_of b command.DetachReplica i d = moving i [] None (i ∷ [])
case_of b command.ReattachReplica i d = moving i [] None (i ∷ [])
case_of b command.ResetReplica i d = moving i [] None (i ∷ [])
case_of b command.StartReplica i d = moving i [] None (i ∷ [])
case_of b command.StopReplica i d = moving i [] None (i ∷ [])
case_of b command.RestartReplica i d = moving i [] None (i ∷ [])
case_of b command.SetReadOnly i d = moving i [] None (i ∷ [])
case_of b command.SetWriteable i d = moving i [] None (i ∷ [])

-- what refuses a command about an instance
abbrev pub refusal_about : World → BookState → CoordsCommand → ServerNo → Option ServerNo → Option Refusal
refusal_about w b c i d = first_refusal w b (case_of b c i d) (row_of (by_gtids w b i) c)

-- the refusal with the lowest number that applies to one of these commands
abbrev pub refusal_of : World → BookState → Command → Option Refusal
refusal_of w b given = refused b (refusal_about w b) (coords_command given.name) given

-- the servers of which the job takes the leases
abbrev pub list_of : BookState → CoordsCommand → ServerNo → Option ServerNo → List ServerNo
list_of b c i d = (case_of b c i d).leased

abbrev pub leased_by : BookState → Command → List ServerNo
leased_by b given = about [] (list_of b) (coords_command given.name) given
