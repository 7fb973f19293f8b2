-- What a recovery makes of its job's turn.
use Rattle.std.specs.Prelude.{Bool, [], ◌∷◌, List, Option, Some, None}
use Rattle.recovery_turns.specs.Prelude.{Cause, Exchange, Job, JobStep, Look, Observation, Op, Recovery, Taken, Turned, World, barred_by, deed_of}
use Rattle.recovery_turns.specs.Prelude.{ended, ends, fails, fate, foretold, goes_on, met}
use Rattle.recovery_turns.specs.Prelude.step
use Rattle.recovery_turns.specs.Steps.{followed}

abbrev pub going_unless : World → Recovery → Bool → Option Observation → List Exchange → Job → Option Cause → Taken
going_unless w r ending o es j None = goes_on o es (followed r ending j)
going_unless w r ending o es j (Some c) = fails w r c o

-- its job goes on, by an operation that ended the stage or didn't
abbrev pub going_by : World → Recovery → Bool → Option Observation → List Exchange → Job → Taken
going_by w r ending o es j = going_unless w r ending o es j (barred_by r.stage r.failed j.seen)

abbrev pub stepped_to : World → Recovery → Bool → Turned → JobStep → Taken
stepped_to w r ending t step.Going = going_by w r ending t.observation t.exchanges t.job
stepped_to w r ending t (step.Failed c lines) = met w r c t.observation (fate w r.purpose r.stage c)
stepped_to w r ending t (step.Done lines) = record { step = step.Done lines; observation = None; exchanges = []; recovery = record r { core = ended r.core } }

abbrev pub turned_by : World → Recovery → Bool → Turned → Taken
turned_by w r ending t = stepped_to w r ending t t.step

-- as its job's look foretells
abbrev pub looked_by : World → Recovery → Bool → Look → Taken
looked_by w r ending l = turned_by w r ending (foretold r.core l)

-- whether the operation that is due ends the stage
abbrev pub ending_at : Recovery → List Op → Option Bool
ending_at r [] = None
ending_at r (o ∷ rest) = Some (ends r.stage (deed_of o))
