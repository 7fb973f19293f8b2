-- What a plan has, beside the job that its command would begin.
use Rattle.std.specs.Prelude.{◌≡◌, List, Some, None}
use Rattle.plan_laws.specs.Prelude.{BegunJob, CommandTurn, Docket, HostPort, IsState, Job, Planned, Recovery, ServerNo, State, Unended, begun_of}
use Rattle.plan_laws.specs.Prelude.{begun_state, but, ground_in, has_branches, lasting, means_of, plan_answer, recovery_plan, replicas_of, route_of}
use Rattle.plan_laws.specs.Prelude.{straight, straight_lines, takeover_lines, told_plan}
use Rattle.plan_laws.specs.Prelude.purpose
use Rattle.plan_laws.specs.Prelude.unended

-- nobody's claim lasts, and the command begins this job
pub record WouldBegin (s : State) (c : CommandTurn) (job : Unended) : Type 0 where
  pub state : IsState s
  pub free : lasting s ≡ None
  pub begun : BegunJob
  pub is_begun : begun_of s c.command ≡ Some begun
  pub job_is : begun.job ≡ job

-- its plan is printed so, for servers of these names
abbrev pub IsToldAs : List HostPort → State → CommandTurn → Planned → Type 0
IsToldAs names s c p = plan_answer c names s ≡ told_plan names p

-- a move's has a line for each operation of its job
abbrev pub MovesAreToldWhole : Type 0
MovesAreToldWhole = (names : List HostPort) (s : State) (c : CommandTurn) (job : Job) → WouldBegin s c (unended.Plan job)
    → IsToldAs names s c (straight (straight_lines (begun_state c s).book job.ops))

-- a recovery's is of the branch that is expected, for its purpose, by the book and the moment of its start
abbrev pub RecoveriesAreToldAsExpected : Type 0
RecoveriesAreToldAsExpected = (names : List HostPort) (s : State) (c : CommandTurn) (r : Recovery) (k : Docket) (f : ServerNo) → WouldBegin s c (unended.Recovery r k)
    → c.command.i ≡ Some f
    → IsToldAs names s c (record {
      branches = has_branches r.purpose;
      lines = recovery_plan (ground_in (begun_state c s)) r.purpose (means_of (route_of c.command.name)) f;
    })

-- and a takeover's is that of one in which nobody is lost, with the replicas that the book has then
abbrev pub TakeoversAreToldWhole : Type 0
TakeoversAreToldWhole = (names : List HostPort) (s : State) (c : CommandTurn) (r : Recovery) (k : Docket) (m d : ServerNo) → WouldBegin s c (unended.Recovery r k)
    → c.command.i ≡ Some m → r.purpose ≡ purpose.Takeover d
    → IsToldAs names s c (straight (takeover_lines m d (but (replicas_of (begun_state c s).book m) d)))
