-- The plans of these commands.
use Rattle.std.specs.Prelude.{Bool, true, false, List, [], ◌∷◌, ◌++◌, Option, Some, None}
use Rattle.regroup.specs.Prelude.{BookState, Command, Op, PathCommand, ServerNo, World, about, again, autos, finished, flat_map, following}
use Rattle.regroup.specs.Prelude.{replicas_but, under, up}
use Rattle.regroup.specs.Prelude.command
use Rattle.regroup.specs.Commands.{regroup_command}
use Rattle.regroup.specs.Ways.{Path, path_of}

-- the first of some sources, or the one after them
abbrev pub next_of : List ServerNo → ServerNo → ServerNo
next_of [] to = to
next_of (x ∷ xs) to = x

-- n goes up past these sources, one after another, until it is below the one after them
abbrev pub climbed : ServerNo → List ServerNo → ServerNo → List Op
climbed n [] to = []
climbed n (x ∷ xs) to = up n x (next_of xs to) ++ climbed n xs to

-- n goes up past these sources to d, or if there are none goes on below d by coordinates, its source
abbrev pub ascended : ServerNo → ServerNo → List ServerNo → List Op
ascended n d [] = again n d
ascended n d (x ∷ xs) = climbed n (x ∷ xs) d

-- n goes past these sources below d, under which or beside which it comes
abbrev pub arrived : ServerNo → ServerNo → List ServerNo → Option ServerNo → List Op
arrived n d passed None = ascended n d passed
arrived n d passed (Some s) = climbed n passed s ++ under n d s

-- n goes below d by its path
abbrev pub travelled : ServerNo → ServerNo → Option Path → List Op
travelled n d None = []
travelled n d (Some p) = arrived n d p.passed p.under

-- servers go below d one after another, with GTIDs by what was executed, else each by its path
abbrev pub moved_by : Bool → BookState → List ServerNo → ServerNo → List Op
moved_by true b movers d = autos movers d
moved_by false b movers d = flat_map (λ n. travelled n d (path_of b n d)) movers

-- with a line for each
abbrev pub relocated : Bool → BookState → List ServerNo → Option ServerNo → List Op
relocated gtid b movers None = []
relocated gtid b movers (Some d) = finished (moved_by gtid b movers d) (following movers d)

-- the operations of regroup-replicas aren't known before its job begins: they go by what its replicas turn out to have
abbrev pub is_planned : PathCommand → Bool
is_planned command.Relocate = true
is_planned command.RelocateReplicas = true
is_planned command.RegroupReplicas = false

abbrev pub has_plan : Option PathCommand → Bool
has_plan None = false
has_plan (Some kind) = is_planned kind

-- a command's operations, by the instance and the destination that is given; none of regroup-replicas, whose operations
-- go by what its replicas turn out to have
abbrev pub ops_of : World → BookState → PathCommand → ServerNo → Option ServerNo → List Op
ops_of w b command.Relocate i d = relocated w.gtid b (i ∷ []) d
ops_of w b command.RelocateReplicas i d = relocated w.gtid b (replicas_but b i d) d
ops_of w b command.RegroupReplicas i d = []

-- the operations of relocate and relocate-replicas, if nothing refuses them
abbrev pub plan_of : World → BookState → Command → List Op
plan_of w b given = about [] (ops_of w b) (regroup_command given.name) given
