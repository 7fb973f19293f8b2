-- What a turn is to do, as it was looked up before it.
use Rattle.std.specs.Prelude.{[], Option, None}
use Rattle.unended_jobs.specs.Prelude.{CanTake, CanTurn, JobStep, Observation, Recovery, World, checked, foretold as recovery_foretold}
use Rattle.unended_jobs.specs.Prelude.Acts.{foretold as plan_foretold}
use Rattle.unended_jobs.specs.declared.unended.Unended.{Unended}
use Rattle.unended_jobs.specs.declared.unended.Unended.TheVariants as unended
use Rattle.unended_jobs.specs.declared.look.UnendedLook.{UnendedLook}
use Rattle.unended_jobs.specs.declared.look.UnendedLook.TheVariants as look
use Rattle.unended_jobs.specs.declared.docket.Docket.{Docket}
use Rattle.unended_jobs.specs.Hooked.{after_place, quiet, with_hooks_of, CanRun, Hooked}
use Rattle.unended_jobs.specs.Unended.{Flown, by_plan, by_recovery}

abbrev pub step_of : UnendedLook → JobStep
step_of (look.Plan l) = l.step
step_of (look.Recovery l) = l.step
step_of (look.Hook s at) = s

abbrev pub observation_of : UnendedLook → Option Observation
observation_of (look.Plan l) = l.observation
observation_of (look.Recovery l) = l.observation
observation_of (look.Hook s at) = None

-- the turn that a look foretells for a recovery; by a plan's nothing is done
abbrev pub hooked_by : Recovery → Docket → UnendedLook → Hooked
hooked_by r d (look.Plan l) = record { taken = record (quiet r l.step) { observation = l.observation }; docket = d }
hooked_by r d (look.Recovery l) = record { taken = recovery_foretold r l; docket = with_hooks_of d checked }
hooked_by r d (look.Hook s at) = record { taken = quiet r s; docket = with_hooks_of d (after_place at) }

-- the turn that a look of the job's own kind foretells; by another kind's nothing is done
abbrev pub foretold : Unended → UnendedLook → Flown
foretold (unended.Plan j) (look.Plan l) = by_plan (plan_foretold j l)
foretold (unended.Plan j) (look.Recovery l) = record { step = l.step; observation = l.observation; exchanges = []; next = unended.Plan j }
foretold (unended.Plan j) (look.Hook s at) = record { step = s; observation = None; exchanges = []; next = unended.Plan j }
foretold (unended.Recovery r docket) x = by_recovery (hooked_by r docket x)

-- a turn may do what was looked up, on this world
abbrev pub CanGo : World → Unended → UnendedLook → Type 0
CanGo w (unended.Plan j) (look.Plan l) = CanTurn w j l
CanGo w (unended.Recovery r docket) (look.Recovery l) = CanTake w r l
CanGo w (unended.Recovery r docket) (look.Hook s at) = CanRun docket.hooks at
CanGo w (unended.Plan j) (look.Recovery l) = ⊥
CanGo w (unended.Plan j) (look.Hook s at) = ⊥
CanGo w (unended.Recovery r docket) (look.Plan l) = ⊥
