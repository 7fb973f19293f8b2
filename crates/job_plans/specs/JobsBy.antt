use Rattle.std.specs.Prelude.{◌≤◌, ◌+◌, length, drop, vec_capacity}
use Rattle.job_plans.specs.Prelude.{Job}
use Rattle.job_plans.specs.declared.job.Job.TheInside.{Inside}

abbrev pub job_of : Inside → Job
job_of a = record {
  id = a.id;
  wait = a.wait;
  ops = drop a.done a.ops.items;
  seen = a.seen.items;
  matches = a.matches.items;
  waited = a.waited;
  hands = a.hands.items;
}

-- there is room for what the operations that are left may see
pub record HasRoom (a : Inside) : Type 0 where
  pub within : a.done ≤ length a.ops.items
  pub room : length a.seen.items + length (drop a.done a.ops.items) ≤ vec_capacity a.seen
