-- The table of commands: what each is, in one place.
use Rattle.std.specs.Prelude.{ℕ, Bool, true, false, List, [], ◌∷◌, codes}
use Rattle.commands.specs.declared.name.CommandName.{CommandName}
use Rattle.commands.specs.declared.name.CommandName.TheVariants as name
use Rattle.commands.specs.declared.arguments.Arguments.{Arguments}
use Rattle.commands.specs.declared.arguments.Arguments.TheVariants.{Nothing, Instance, AnyServer, Destination, OptionalDestination, Rule, Downtime, Pattern}
use Rattle.commands.specs.declared.arguments.Needs.{Needs}
use Rattle.commands.specs.declared.arguments.Uses.{Uses}
use Rattle.commands.specs.declared.kinds.CoordsCommand.TheVariants as coords
use Rattle.commands.specs.declared.kinds.GtidCommand.TheVariants as gtid
use Rattle.commands.specs.declared.kinds.MatchCommand.TheVariants as matching
use Rattle.commands.specs.declared.kinds.PathCommand.TheVariants as path
use Rattle.commands.specs.declared.route.Decision.TheVariants as decision
use Rattle.commands.specs.declared.route.Planner.TheVariants.{Coordinates, Gtids, Paths, Matches}
use Rattle.commands.specs.declared.route.Question.TheVariants as question
use Rattle.commands.specs.declared.route.Route.{Route}
use Rattle.commands.specs.declared.route.Route.TheVariants.{Discovers, Forgets, Asks, Decides, Begins, Recovers, TakesOver}

-- ---- arguments

abbrev pub nothing : Needs
nothing = record { i = false; d = false; rule = false; pattern = false }

-- the keys that must be there
abbrev pub needed : Arguments → Needs
needed Nothing = nothing
needed Instance = record nothing { i = true }
needed AnyServer = record nothing { i = true }
needed Destination = record nothing { i = true; d = true }
needed OptionalDestination = record nothing { i = true }
needed Rule = record nothing { i = true; rule = true }
needed Downtime = record nothing { i = true }
needed Pattern = record nothing { pattern = true }

abbrev pub unused : Uses
unused = record { i = false; d = false; rule = false; duration = false; reason = false; owner = false; pattern = false }

-- the keys that make a difference if they are there
abbrev pub used : Arguments → Uses
used Nothing = unused
used Instance = record unused { i = true }
used AnyServer = record unused { i = true }
used Destination = record unused { i = true; d = true }
used OptionalDestination = record unused { i = true; d = true }
used Rule = record unused { i = true; rule = true }
used Downtime = record unused { i = true; duration = true; reason = true; owner = true }
used Pattern = record unused { pattern = true }

-- the server may be one that is no instance yet
abbrev pub is_any : Arguments → Bool
is_any Nothing = false
is_any Instance = false
is_any AnyServer = true
is_any Destination = false
is_any OptionalDestination = false
is_any Rule = false
is_any Downtime = false
is_any Pattern = false

-- ---- commands

-- a command's word, what it is given, and what it does
pub record Row : Type 0 where
  pub word : List ℕ
  pub arguments : Arguments
  pub route : Route

abbrev pub row : CommandName → Row
row name.MoveUp = record { word = codes "move-up"; arguments = Instance; route = Begins (Coordinates coords.MoveUp) }
row name.MoveUpReplicas = record { word = codes "move-up-replicas"; arguments = Instance; route = Begins (Coordinates coords.MoveUpReplicas) }
row name.MoveBelow = record { word = codes "move-below"; arguments = Destination; route = Begins (Coordinates coords.MoveBelow) }
row name.Repoint = record { word = codes "repoint"; arguments = OptionalDestination; route = Begins (Coordinates coords.Repoint) }
row name.TakeSiblings = record { word = codes "take-siblings"; arguments = Instance; route = Begins (Coordinates coords.TakeSiblings) }
row name.TakeMaster = record { word = codes "take-master"; arguments = Instance; route = Begins (Coordinates coords.TakeMaster) }
row name.MoveGtid = record { word = codes "move-gtid"; arguments = Destination; route = Begins (Gtids gtid.MoveGtid) }
row name.MoveReplicasGtid = record { word = codes "move-replicas-gtid"; arguments = Destination; route = Begins (Gtids gtid.MoveReplicasGtid) }
row name.EnableGtid = record { word = codes "enable-gtid"; arguments = Instance; route = Begins (Gtids gtid.EnableGtid) }
row name.DisableGtid = record { word = codes "disable-gtid"; arguments = Instance; route = Begins (Gtids gtid.DisableGtid) }
row name.Relocate = record { word = codes "relocate"; arguments = Destination; route = Begins (Paths path.Relocate) }
row name.RelocateReplicas = record { word = codes "relocate-replicas"; arguments = Destination; route = Begins (Paths path.RelocateReplicas) }
row name.RegroupReplicas = record { word = codes "regroup-replicas"; arguments = Instance; route = Begins (Paths path.RegroupReplicas) }
row name.Match = record { word = codes "match"; arguments = Destination; route = Begins (Matches matching.Match) }
row name.MatchUp = record { word = codes "match-up"; arguments = Instance; route = Begins (Matches matching.MatchUp) }
row name.MatchReplicas = record { word = codes "match-replicas"; arguments = Destination; route = Begins (Matches matching.MatchReplicas) }
row name.RegroupReplicasPgtid = record { word = codes "regroup-replicas-pgtid"; arguments = Instance; route = Begins (Matches matching.RegroupReplicas) }
row name.DetachReplica = record { word = codes "detach-replica"; arguments = Instance; route = Begins (Coordinates coords.DetachReplica) }
row name.ReattachReplica = record { word = codes "reattach-replica"; arguments = Instance; route = Begins (Coordinates coords.ReattachReplica) }
row name.ResetReplica = record { word = codes "reset-replica"; arguments = Instance; route = Begins (Coordinates coords.ResetReplica) }
row name.StartReplica = record { word = codes "start-replica"; arguments = Instance; route = Begins (Coordinates coords.StartReplica) }
row name.StopReplica = record { word = codes "stop-replica"; arguments = Instance; route = Begins (Coordinates coords.StopReplica) }
row name.RestartReplica = record { word = codes "restart-replica"; arguments = Instance; route = Begins (Coordinates coords.RestartReplica) }
row name.SetReadOnly = record { word = codes "set-read-only"; arguments = Instance; route = Begins (Coordinates coords.SetReadOnly) }
row name.SetWriteable = record { word = codes "set-writeable"; arguments = Instance; route = Begins (Coordinates coords.SetWriteable) }
row name.Discover = record { word = codes "discover"; arguments = AnyServer; route = Discovers }
row name.Forget = record { word = codes "forget"; arguments = Instance; route = Forgets }
row name.BeginDowntime = record { word = codes "begin-downtime"; arguments = Downtime; route = Decides decision.BeginDowntime }
row name.EndDowntime = record { word = codes "end-downtime"; arguments = Instance; route = Decides decision.EndDowntime }
row name.RegisterCandidate = record { word = codes "register-candidate"; arguments = Rule; route = Decides decision.RegisterCandidate }
row name.Recover = record { word = codes "recover"; arguments = Instance; route = Recovers }
row name.GracefulMasterTakeover = record { word = codes "graceful-master-takeover"; arguments = Destination; route = TakesOver }
row name.AckClusterRecoveries = record { word = codes "ack-cluster-recoveries"; arguments = Instance; route = Decides decision.AckRecoveries }
row name.Topology = record { word = codes "topology"; arguments = Instance; route = Asks question.Topology }
row name.WhichMaster = record { word = codes "which-master"; arguments = Instance; route = Asks question.WhichMaster }
row name.WhichReplicas = record { word = codes "which-replicas"; arguments = Instance; route = Asks question.WhichReplicas }
row name.WhichCluster = record { word = codes "which-cluster"; arguments = Instance; route = Asks question.WhichCluster }
row name.WhichClusterInstances = record { word = codes "which-cluster-instances"; arguments = Instance; route = Asks question.WhichClusterInstances }
row name.Clusters = record { word = codes "clusters"; arguments = Nothing; route = Asks question.Clusters }
row name.AllInstances = record { word = codes "all-instances"; arguments = Nothing; route = Asks question.AllInstances }
row name.Find = record { word = codes "find"; arguments = Pattern; route = Asks question.Find }
row name.ReplicationAnalysis = record { word = codes "replication-analysis"; arguments = Nothing; route = Asks question.Analysis }
row name.AuditRecoveries = record { word = codes "audit-recoveries"; arguments = Nothing; route = Asks question.Recoveries }
row name.DisableGlobalRecoveries = record { word = codes "disable-global-recoveries"; arguments = Nothing; route = Decides decision.DisableRecoveries }
row name.EnableGlobalRecoveries = record { word = codes "enable-global-recoveries"; arguments = Nothing; route = Decides decision.EnableRecoveries }
row name.CheckGlobalRecoveries = record { word = codes "check-global-recoveries"; arguments = Nothing; route = Asks question.Switch }

-- all commands
abbrev pub names : List CommandName
names =
    name.MoveUp ∷ name.MoveUpReplicas ∷ name.MoveBelow ∷ name.Repoint ∷ name.TakeSiblings ∷ name.TakeMaster ∷ name.MoveGtid
    ∷ name.MoveReplicasGtid ∷ name.EnableGtid ∷ name.DisableGtid ∷ name.Relocate ∷ name.RelocateReplicas ∷ name.RegroupReplicas ∷ name.Match
    ∷ name.MatchUp ∷ name.MatchReplicas ∷ name.RegroupReplicasPgtid ∷ name.DetachReplica ∷ name.ReattachReplica ∷ name.ResetReplica
    ∷ name.StartReplica ∷ name.StopReplica ∷ name.RestartReplica ∷ name.SetReadOnly ∷ name.SetWriteable ∷ name.Discover ∷ name.Forget
    ∷ name.BeginDowntime ∷ name.EndDowntime ∷ name.RegisterCandidate ∷ name.Recover ∷ name.GracefulMasterTakeover ∷ name.AckClusterRecoveries
    ∷ name.Topology ∷ name.WhichMaster ∷ name.WhichReplicas ∷ name.WhichCluster ∷ name.WhichClusterInstances ∷ name.Clusters ∷ name.AllInstances
    ∷ name.Find ∷ name.ReplicationAnalysis ∷ name.AuditRecoveries ∷ name.DisableGlobalRecoveries ∷ name.EnableGlobalRecoveries
    ∷ name.CheckGlobalRecoveries ∷ []
