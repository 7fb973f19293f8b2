use Rattle.orch_core.specs.States.{State, IsState}
use Rattle.orch_core.specs.declared.engine.Engine.TheInside.{Inside}

-- what contracts see of an engine
abbrev pub state_of : Inside → State
state_of a = record {
  world = a.world;
  moment = a.moment.0;
  book = a.knowledge.book;
  audit = a.knowledge.audit.audit;
  slots = a.slots.items;
  reads = a.reads;
  jobs = a.knowledge.jobs.items;
  last_job = a.knowledge.last_job;
  configuration = a.configuration;
  claims = a.claims;
  last_holder = a.last_holder;
}

abbrev pub IsStateInside : Inside → Type 0
IsStateInside a = IsState (state_of a)
