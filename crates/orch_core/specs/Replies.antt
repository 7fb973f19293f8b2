-- What each turn answers.
use Rattle.std.specs.Prelude.{Option, Some, None, is_some, if◌then◌else◌}
use Rattle.orch_core.specs.Prelude.{Act, ClaimAnswer, Observation, ReleaseAnswer, Reply, Step, Turn, World, apply, fetch, instance_at, job_reply}
use Rattle.orch_core.specs.Prelude.{purge, release_answer, rotate, stored_reply, write}
use Rattle.orch_core.specs.Prelude.act
use Rattle.orch_core.specs.Prelude.answered
use Rattle.orch_core.specs.Prelude.claim
use Rattle.orch_core.specs.Prelude.release
use Rattle.orch_core.specs.Prelude.step
use Rattle.orch_core.specs.Prelude.turn
use Rattle.orch_core.specs.Nodes.{act_in, claimed}
use Rattle.orch_core.specs.States.{State}
use Rattle.orch_core.specs.Polls.{command_outcome, reading, scan_outcome, slot_at}
use Rattle.orch_core.specs.Jobs.{turned_at}
use Rattle.orch_core.specs.TurnExchanges.{later}

-- the number of a reading, and whether it reached the server
abbrev pub read_reply : Observation → Reply
read_reply o = if is_some o.seen then answered.Read o.read else answered.ReadUnreachable o.read

-- what a step answers in a world
abbrev pub step_reply : World → Step → Reply
step_reply w (step.Write n size) = answered.Write (write w n.0 size).0
step_reply w (step.Fetch n) = answered.Fetch (fetch w n.0).0
step_reply w (step.Apply n) = answered.Apply (apply w n.0).0
step_reply w (step.Fail n) = answered.Done
step_reply w (step.Heal n) = answered.Done
step_reply w (step.Cut n link) = answered.Done
step_reply w (step.Join n link) = answered.Done
step_reply w (step.Rotate n) = answered.Rotate (rotate w n.0).0
step_reply w (step.Purge n file) = answered.Purge (purge w n.0 file).0

-- what orchestrator answers
abbrev pub act_reply : State → Act → Reply
act_reply s (act.PollRead p n) = if is_some (instance_at s.book n) then read_reply (reading s n) else answered.Unknown
act_reply s (act.PollStore p) = stored_reply s.book (slot_at s p)
act_reply s (act.Command c) = (command_outcome s c).reply
act_reply s (act.Job job) = job_reply (turned_at s job)
act_reply s act.Scan = (scan_outcome s).reply
act_reply s act.Restart = answered.Done

-- what one of several answers that is to do something; one that doesn't remember that it is active lapsed
abbrev pub done_reply : State → Option Act → Reply
done_reply s None = answered.Lapsed
done_reply s (Some a) = act_reply s a

abbrev pub claim_reply : ClaimAnswer → Reply
claim_reply (claim.Taken node until) = answered.Taken node until
claim_reply (claim.Held until) = answered.Held until

abbrev pub release_reply : ReleaseAnswer → Reply
release_reply release.NotHeld = answered.NotHeld
release_reply release.Released = answered.Released

-- what a turn answers
abbrev pub reply_of : State → Turn → Reply
reply_of s (turn.Step x) = step_reply s.world x
reply_of s (turn.Tick seconds) = answered.Now (record { 0 = later s.moment seconds })
reply_of s (turn.Act a) = act_reply s a
reply_of s (turn.As node a) = done_reply s (act_in s (turn.As node a))
reply_of s (turn.Claim node) = claim_reply (claimed s node)
reply_of s (turn.Release node) = release_reply (release_answer s.claims node)
