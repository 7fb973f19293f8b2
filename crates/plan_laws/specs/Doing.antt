-- What the turns of a recovery or a regroup do that a command begins.
use Rattle.std.specs.Prelude.{◌≡◌, ◌+◌, ℕ, false, List, Some}
use Rattle.plan_laws.specs.Prelude.{CommandTurn, Course, Docket, Event, Follows, Means, Recovery, ServerNo, State, begun_recovery, begun_state}
use Rattle.plan_laws.specs.Prelude.{ground_in, is_takeover, means_of, recovery_plan, replicas_of, route_of}
use Rattle.plan_laws.specs.Prelude.means
use Rattle.plan_laws.specs.Prelude.unended
use Rattle.plan_laws.specs.Begun.{WouldBegin}
use Rattle.plan_laws.specs.Followed.{AreApart, GoesAsPlanned, IsAsPlanned}

-- a plan doesn't print how many entries may lie between two marks
abbrev pub told_means : Means → Means
told_means means.Bridges = means.Bridges
told_means (means.Matches every) = means.Matches 0

-- A recovery of this server with these replicas begins as the job of this number. None of them is named twice. Its plan
-- goes by these means.
pub record IsOf (id wait : ℕ) (f : ServerNo) (ns : List ServerNo) (by : Means) (r : Recovery) : Type 0 where
  pub order : List ServerNo
  pub is : r ≡ begun_recovery r.purpose r.means id wait f ns order
  pub apart : AreApart ns
  pub means : told_means r.means ≡ by

-- it is one of the given instance, with the replicas that the book has of it then
abbrev pub RecoveriesAreOfTheirInstances : Type 0
RecoveriesAreOfTheirInstances = (s : State) (c : CommandTurn) (r : Recovery) (k : Docket) (f : ServerNo) → WouldBegin s c (unended.Recovery r k) → c.command.i ≡ Some f
    → IsOf (s.last_job + 1) s.configuration.wait f (replicas_of (begun_state c s).book f) (means_of (route_of c.command.name)) r

-- its turns do its plan, if everything is found as the plan assumes
abbrev pub RecoveriesAreDoneAsTold : Type 0
RecoveriesAreDoneAsTold = (s : State) (c : CommandTurn) (r : Recovery) (k : Docket) (f : ServerNo) (es : List Event) → WouldBegin s c (unended.Recovery r k)
    → c.command.i ≡ Some f → is_takeover r.purpose ≡ false
    → Course (IsAsPlanned (ground_in (begun_state c s)) r.means f (replicas_of (begun_state c s).book f)) (GoesAsPlanned (begun_state c s).book) r es
    → Follows es (recovery_plan (ground_in (begun_state c s)) r.purpose r.means f)
