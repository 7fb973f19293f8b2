-- What refuses these commands: the rows of the permission table, and what their checks are about.
use Rattle.std.specs.Prelude.{Bool, true, false, not, is_some, List, [], ◌∷◌, ◌++◌, Option, None}
use Rattle.regroup.specs.Prelude.{AlreadyDetached, Below, BookState, Busy, Case, Check, Command, DestNotLogging, Errant, GtidOff, Moment, NoPath}
use Rattle.regroup.specs.Prelude.{Lead, NoSource, OtherCluster, PathCommand, PurgedPlace, PurgedSet, Refusal, SameInstance, SameServerId, ServerNo}
use Rattle.regroup.specs.Prelude.{Unreachable, VersionLower, World, about, first_about, first_refusal, flat_map, going_by, moving, only_if, option_or}
use Rattle.regroup.specs.Prelude.{option_to_list, refused, replicas_but, replicas_of, without_candidate}
use Rattle.regroup.specs.Prelude.command
use Rattle.regroup.specs.Prelude.lead
use Rattle.regroup.specs.Commands.{regroup_command}
use Rattle.regroup.specs.Ways.{crossed_in, passed_in, path_to}

abbrev pub relocate_row : Bool → List Check
relocate_row true = SameInstance ∷ Busy ∷ Unreachable ∷ OtherCluster ∷ Below ∷ DestNotLogging ∷ SameServerId ∷ VersionLower ∷ GtidOff ∷ Errant ∷ PurgedSet ∷ []
relocate_row false = SameInstance ∷ Busy ∷ Unreachable ∷ NoSource ∷ AlreadyDetached ∷ OtherCluster ∷ Below ∷ DestNotLogging ∷ SameServerId ∷ VersionLower ∷ []

abbrev pub replicas_row : Bool → List Check
replicas_row true = SameInstance ∷ Busy ∷ Unreachable ∷ OtherCluster ∷ Below ∷ DestNotLogging ∷ SameServerId ∷ VersionLower ∷ Errant ∷ PurgedSet ∷ []
replicas_row false = SameInstance ∷ Busy ∷ Unreachable ∷ OtherCluster ∷ Below ∷ DestNotLogging ∷ SameServerId ∷ VersionLower ∷ []

-- the row of a command, after the check that its instances are known and before its own one, by whether the servers use
-- GTIDs: then no path is looked for
abbrev pub row_of : Bool → PathCommand → List Check
row_of gtid command.Relocate = relocate_row gtid
row_of gtid command.RelocateReplicas = replicas_row gtid
row_of gtid command.RegroupReplicas = Busy ∷ []

-- which checks of its row come first, after the one that its instances are known
abbrev pub lead_of : PathCommand → Lead
lead_of command.Relocate = lead.Apart
lead_of command.RelocateReplicas = lead.Other
lead_of command.RegroupReplicas = lead.Held

-- the row after a command's own check
abbrev pub places_row : Bool → List Check
places_row true = []
places_row false = PurgedPlace ∷ []

abbrev pub last_row_of : Bool → PathCommand → List Check
last_row_of gtid command.Relocate = places_row gtid
last_row_of gtid command.RelocateReplicas = places_row gtid
last_row_of gtid command.RegroupReplicas = []

-- the servers that move, by name
abbrev pub movers_of : BookState → PathCommand → ServerNo → Option ServerNo → List ServerNo
movers_of b command.Relocate i d = i ∷ []
movers_of b command.RelocateReplicas i d = replicas_but b i d
movers_of b command.RegroupReplicas i d = []

-- the sources that servers pass on their paths; with GTIDs they pass none
abbrev pub passed_by : Bool → BookState → List ServerNo → Option ServerNo → List ServerNo
passed_by true b movers d = []
passed_by false b movers d = flat_map (λ n. passed_in (path_to b d n)) movers

-- the servers by whose coordinates the servers go their paths
abbrev pub crossed_by : Bool → BookState → List ServerNo → Option ServerNo → List ServerNo
crossed_by true b movers d = []
crossed_by false b movers d = flat_map (λ n. crossed_in n (path_to b d n)) movers

-- servers that move, their new source, and the sources that they pass
abbrev pub moving_list : World → BookState → List ServerNo → Option ServerNo → List ServerNo
moving_list w b movers d = movers ++ (option_to_list d ++ passed_by w.gtid b movers d)

-- servers go their paths to the destination that is given
abbrev pub relocating : World → BookState → ServerNo → List ServerNo → Option ServerNo → Case
relocating w b i movers d = going_by (crossed_by w.gtid b movers d) (moving i movers d (moving_list w b movers d))

-- which servers move to the destination that is given, the servers of which the job takes the leases, and those by
-- whose coordinates the moves go
abbrev pub case_of : World → BookState → PathCommand → ServerNo → Option ServerNo → Case
case_of w b command.Relocate i d = relocating w b i (i ∷ []) d
case_of w b command.RelocateReplicas i d = relocating w b i (replicas_but b i d) d
case_of w b command.RegroupReplicas i d = moving i [] None (i ∷ replicas_of b i)

-- a server has no path to the destination
abbrev pub without_path : BookState → Option ServerNo → ServerNo → Option Refusal
without_path b d n = only_if (not (is_some (path_to b d n))) NoPath

abbrev pub astray : Bool → BookState → List ServerNo → Option ServerNo → Option Refusal
astray true b movers d = None
astray false b movers d = first_about (without_path b d) movers

-- a command's own check: with GTIDs no path is looked for
abbrev pub own_refusal : World → BookState → Moment → PathCommand → ServerNo → Option ServerNo → Option Refusal
own_refusal w b now command.Relocate i d = astray w.gtid b (i ∷ []) d
own_refusal w b now command.RelocateReplicas i d = astray w.gtid b (replicas_but b i d) d
own_refusal w b now command.RegroupReplicas i d = without_candidate w b now i

-- the first check of a command's row that doesn't pass
abbrev pub row_refusal : World → BookState → PathCommand → ServerNo → Option ServerNo → Option Refusal
row_refusal w b c i d = first_refusal w b (case_of w b c i d) (row_of w.gtid c)

-- the first check after a command's own that doesn't pass
abbrev pub last_refusal : World → BookState → PathCommand → ServerNo → Option ServerNo → Option Refusal
last_refusal w b c i d = first_refusal w b (case_of w b c i d) (last_row_of w.gtid c)

-- what refuses a command after its row
abbrev pub rest_refusal : World → BookState → Moment → PathCommand → ServerNo → Option ServerNo → Option Refusal
rest_refusal w b now c i d = option_or (own_refusal w b now c i d) (last_refusal w b c i d)

-- what refuses a command about an instance
abbrev pub refusal_about : World → BookState → Moment → PathCommand → ServerNo → Option ServerNo → Option Refusal
refusal_about w b now c i d = option_or (row_refusal w b c i d) (rest_refusal w b now c i d)

-- the refusal with the lowest number that applies to one of these commands at a moment
abbrev pub refusal_of : World → BookState → Moment → Command → Option Refusal
refusal_of w b now given = refused b (refusal_about w b now) (regroup_command given.name) given

-- the servers of which the job takes the leases
abbrev pub list_of : World → BookState → PathCommand → ServerNo → Option ServerNo → List ServerNo
list_of w b c i d = (case_of w b c i d).leased

abbrev pub leased_by : World → BookState → Command → List ServerNo
leased_by w b given = about [] (list_of w b) (regroup_command given.name) given
