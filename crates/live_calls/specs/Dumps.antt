-- What a call with `--dump` writes: the servers that its command leaves.
use Rattle.std.specs.Prelude.{◌≡◌, ℕ, Bool, true, List, [], Ok}
use Rattle.live_calls.specs.Prelude.{Call, ComesTo, CommandTurn, IsQuiet, IsWhole, Places, Recorded, Refusal, Reports, Row, State, Takes, Turn, Work}
use Rattle.live_calls.specs.Prelude.{course_of, dump_text, is_alone, places_of, reply_of}
use Rattle.live_calls.specs.Prelude.act
use Rattle.live_calls.specs.Prelude.answered
use Rattle.live_calls.specs.Prelude.asked
use Rattle.live_calls.specs.Prelude.turn

-- the command line is accepted, and asks for the servers after its command
pub record AskDump (words : List (List ℕ)) : Type 0 where
  pub places : Places
  pub taken : places_of words ≡ Ok places
  pub dump : places.dump ≡ true

-- This is a state of a run of the scenario. If no server with a source has accepted a write in it, out took its servers
-- as a scenario, and else nothing.
pub record HasDumped (c : Call) (w : Work) (now : State) : Type 0 where
  pub xs : List (List Row × Turn)
  pub comes : ComesTo w.scenario xs now
  pub quiet : IsQuiet now.world → Takes c.out (dump_text now.world w.scenario now.moment)
  pub errant : (IsQuiet now.world → ⊥) → Takes c.out []

-- a call whose report is written has dumped the state after the scenario's turns and all of the command's own
abbrev pub DumpsAreOfWhatIsLeft : Type 0
DumpsAreOfWhatIsLeft = (c : Call) (refused : Bool) (r : Reports c refused) → AskDump c.words → HasDumped c r.work r.written.run.state

-- a command that is refused leaves the state that the scenario's turns left, if there is one orchestrator
abbrev pub RefusedCommandsLeaveTheState : Type 0
RefusedCommandsLeaveTheState = (w : Work) (run : Recorded) (whole : IsWhole (course_of w) run) (c : CommandTurn) (r : Refusal) → w.task.asked ≡ asked.Turn c
    → is_alone whole.mid.state ≡ true → reply_of whole.mid.state (turn.Act (act.Command c)) ≡ answered.Refused r
    → run.state ≡ whole.mid.state
