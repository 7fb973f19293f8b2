-- What refuses these commands: the rows of the permission table, and what their checks are about.
use Rattle.std.specs.Prelude.{List, [], ◌∷◌, ◌++◌, Option}
use Rattle.std.specs.Option.{option_to_list}
use Rattle.permission.specs.OrchBase.declared.server.ServerNo.{ServerNo}
use Rattle.permission.specs.Commands.declared.refusal.Refusal.{Refusal}
use Rattle.permission.specs.Commands.declared.turn.Command.{Command}
use Rattle.permission.specs.InstanceKeeper.Book.{BookState}
use Rattle.permission.specs.ServerModel.Worlds.{World}
use Rattle.permission.specs.Checks.{Case, first_refusal}
use Rattle.permission.specs.Replicas.{replicas_but}
use Rattle.permission.specs.Rows.{about, going_by, moving, refused}
use Rattle.permission.specs.Views.{source_of}
use Rattle.permission.specs.declared.case.Check.{Check}
use Rattle.permission.specs.declared.case.Check.TheVariants.{SameInstance, Busy, Unreachable, NoSource, AlreadyDetached, OtherCluster, Below, DestNotLogging, SameServerId, VersionLower, GtidOff, Errant, PurgedPlace, PurgedSet}
use Rattle.permission.specs.declared.case.Lead.{Lead}
use Rattle.permission.specs.declared.case.Lead.TheVariants as lead
use Rattle.permission.specs.Commands.declared.kinds.GtidCommand.{GtidCommand}
use Rattle.permission.specs.Commands.declared.kinds.GtidCommand.TheVariants as command
use Rattle.moves_gtid.specs.Commands.{gtid_command}

-- the checks of servers that go below any other
abbrev pub move_row : List Check
move_row = SameInstance ∷ Busy ∷ Unreachable ∷ OtherCluster ∷ Below ∷ DestNotLogging ∷ SameServerId ∷ VersionLower ∷ GtidOff ∷ Errant ∷ PurgedSet ∷ []

-- the row of a command, after the check that its instances are known
abbrev pub row_of : GtidCommand → List Check
row_of command.MoveGtid = move_row
row_of command.MoveReplicasGtid = move_row
row_of command.EnableGtid = Busy ∷ Unreachable ∷ NoSource ∷ AlreadyDetached ∷ GtidOff ∷ Errant ∷ PurgedSet ∷ []
row_of command.DisableGtid = Busy ∷ Unreachable ∷ NoSource ∷ AlreadyDetached ∷ GtidOff ∷ PurgedPlace ∷ []

-- which checks of its row come first, after the one that its instances are known
abbrev pub lead_of : GtidCommand → Lead
lead_of command.MoveGtid = lead.Apart
lead_of command.MoveReplicasGtid = lead.Other
lead_of command.EnableGtid = lead.Held
lead_of command.DisableGtid = lead.Held

-- Which servers move to which source, by the destination that is given, and of which the job takes the leases. One that
-- finds its place anew keeps its source, and one that goes on by coordinates goes by its own.
abbrev pub case_of : BookState → GtidCommand → ServerNo → Option ServerNo → Case
case_of b command.MoveGtid i d = moving i (i ∷ []) d (i ∷ option_to_list d)
case_of b command.MoveReplicasGtid i d = moving i (replicas_but b i d) d (replicas_but b i d ++ option_to_list d)
case_of b command.EnableGtid i d = moving i (i ∷ []) (source_of b i) (i ∷ option_to_list (source_of b i))
case_of b command.DisableGtid i d = going_by (i ∷ []) (moving i (i ∷ []) (source_of b i) (i ∷ []))

-- what refuses a command about an instance
abbrev pub refusal_about : World → BookState → GtidCommand → ServerNo → Option ServerNo → Option Refusal
refusal_about w b c i d = first_refusal w b (case_of b c i d) (row_of c)

-- the refusal with the lowest number that applies to one of these commands
abbrev pub refusal_of : World → BookState → Command → Option Refusal
refusal_of w b given = refused b (refusal_about w b) (gtid_command given.name) given

-- the servers of which the job takes the leases
abbrev pub list_of : BookState → GtidCommand → ServerNo → Option ServerNo → List ServerNo
list_of b c i d = (case_of b c i d).leased

abbrev pub leased_by : BookState → Command → List ServerNo
leased_by b given = about [] (list_of b) (gtid_command given.name) given
