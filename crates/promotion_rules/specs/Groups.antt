-- How drained replicas of a source go below the one that is promoted (orchestrator's documentation, "Topology
-- recovery").
use Rattle.std.specs.Prelude.{if◌then◌else◌, List, filter_map, Option, None, Some}
use Rattle.instance_keeper.specs.BinlogCoords.declared.Coord.{Coord}
use Rattle.instance_keeper.specs.BinlogCoords.Log.{is_before, same_coord}
use Rattle.instance_keeper.specs.OrchBase.declared.server.ServerNo.{ServerNo}
use Rattle.instance_keeper.specs.declared.bridge.Bridge.{Bridge}
use Rattle.instance_keeper.specs.Bridges.{has_exec, latest_that, ring_at}
use Rattle.promotion_rules.specs.declared.drained.Drained.{Drained}
use Rattle.promotion_rules.specs.declared.groups.Group.{Group}
use Rattle.promotion_rules.specs.declared.groups.Group.TheVariants as group

abbrev pub by_bridge : Option Bridge → Group
by_bridge None = group.Behind
by_bridge (Some b) = group.Follow b.own

-- A replica at the promoted one's position goes to its own end. One that is after it is ahead. One that is before it
-- goes by the latest kept bridge of the promoted one under the source at that coordinate, if there is one.
abbrev pub group_of : List (List Bridge) → ServerNo → Coord → Coord → ServerNo → Coord → Group
group_of rings promoted own_end exec source at =
    if same_coord at exec then group.Follow own_end
    else if is_before exec at then group.Ahead
    else by_bridge (latest_that (has_exec source at) (ring_at rings promoted))

-- ---- the groups of a list, by the group of each coordinate

abbrev pub follow_at : ServerNo → Group → Option (ServerNo × Coord)
follow_at n (group.Follow at) = Some (n, at)
follow_at n group.Ahead = None
follow_at n group.Behind = None

abbrev pub ahead_at : ServerNo → Coord → Group → Option (ServerNo × Coord)
ahead_at n exec (group.Follow at) = None
ahead_at n exec group.Ahead = Some (n, exec)
ahead_at n exec group.Behind = None

abbrev pub behind_at : ServerNo → Coord → Group → Option (ServerNo × Coord)
behind_at n exec (group.Follow at) = None
behind_at n exec group.Ahead = None
behind_at n exec group.Behind = Some (n, exec)

abbrev pub follow_in : (Coord → Group) → List Drained → List (ServerNo × Coord)
follow_in group_at list = filter_map (λ d. follow_at d.no (group_at d.exec)) list

abbrev pub ahead_in : (Coord → Group) → List Drained → List (ServerNo × Coord)
ahead_in group_at list = filter_map (λ d. ahead_at d.no d.exec (group_at d.exec)) list

abbrev pub behind_in : (Coord → Group) → List Drained → List (ServerNo × Coord)
behind_in group_at list = filter_map (λ d. behind_at d.no d.exec (group_at d.exec)) list
