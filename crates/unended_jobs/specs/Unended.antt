-- Unended jobs of both kinds, and what a turn of one does.
use Rattle.std.specs.Prelude.{◌<◌, ◌≤◌, ◌+◌, ◌^◌, ℕ, List, Option, IfSome}
use Rattle.unended_jobs.specs.Prelude.{BookState, Exchange, IsInRange, IsNamed, IsNamedRecovery, IsShaped, Job, JobStep, Moment, Observation}
use Rattle.unended_jobs.specs.Prelude.{Recovery, Turned, World, turned, turns_left, turns_to_end}
use Rattle.unended_jobs.specs.Hooked.{hooked, left_of, Hooked}
use Rattle.unended_jobs.specs.declared.unended.Unended.{Unended}
use Rattle.unended_jobs.specs.declared.unended.Unended.TheVariants as unended

-- the operations that are left, what was seen and what is in the hands: of a recovery those of its stage
abbrev pub core_of : Unended → Job
core_of (unended.Plan j) = j
core_of (unended.Recovery r docket) = r.core

abbrev pub number_of : Unended → ℕ
number_of u = (core_of u).id

-- what a turn comes to, what it observed for the book, the exchanges that changed servers, and the job after it
pub record Flown : Type 0 where
  pub step : JobStep
  pub observation : Option Observation
  pub exchanges : List Exchange
  pub next : Unended

abbrev pub by_plan : Turned → Flown
by_plan t = record { step = t.step; observation = t.observation; exchanges = t.exchanges; next = unended.Plan t.job }

abbrev pub by_recovery : Hooked → Flown
by_recovery h = record {
  step = h.taken.step;
  observation = h.taken.observation;
  exchanges = h.taken.exchanges;
  next = unended.Recovery h.taken.recovery h.docket;
}

-- one turn, on a world and a book, with the read number and the moment of what it observes
abbrev pub flown : World → BookState → ℕ → Moment → Unended → Flown
flown w b read now (unended.Plan j) = by_plan (turned w read now j)
flown w b read now (unended.Recovery r docket) = by_recovery (hooked w b read now r docket)

-- a job's operations and hands are of so many servers, and it has waited within its bound
pub record IsReadyJob (count : ℕ) (j : Job) : Type 0 where
  pub named : IsNamed count j
  pub waited : j.waited ≤ j.wait

-- the servers that a recovery names are of so many, the promoted one too, and it comes to an end
pub record IsReadyRecovery (count : ℕ) (r : Recovery) : Type 0 where
  pub named : IsNamedRecovery count r
  pub promoted : IfSome r.outcome.promoted (λ n. n.0 < count)
  pub shaped : IsShaped r

-- a turn over so many servers can be taken
abbrev pub IsReady : ℕ → Unended → Type 0
IsReady count (unended.Plan j) = IsReadyJob count j
IsReady count (unended.Recovery r docket) = IsReadyRecovery count r

-- a recovery's number fits its type
pub record IsRecoveryOf (count : ℕ) (r : Recovery) : Type 0 where
  pub id : r.core.id < 2 ^ 64
  pub ready : IsReadyRecovery count r

-- so do a job's numbers
abbrev pub IsUnended : ℕ → Unended → Type 0
IsUnended count (unended.Plan j) = IsInRange count j
IsUnended count (unended.Recovery r docket) = IsRecoveryOf count r

-- how many turns it has at most before it ends: a recovery those of its hooks beside its own
abbrev pub turns_of : Unended → ℕ
turns_of (unended.Plan j) = turns_left j
turns_of (unended.Recovery r docket) = turns_to_end r + left_of docket.hooks
