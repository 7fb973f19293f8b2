-- A job as its turn is looked up.
use Rattle.std.specs.Prelude.{ℕ, ◌==◌, if◌then◌else◌, List, [], ◌∷◌, Option, Some, None}
use Rattle.job_plans.specs.Prelude.{Job, Position, Sight, with_seen}
use Rattle.job_plans.specs.declared.view.JobView.TheInside.{Inside}

-- what was seen of servers after these were seen, in order
abbrev pub seen_after : List Sight → List Sight → List Sight
seen_after xs [] = xs
seen_after xs (y ∷ ys) = seen_after (with_seen xs y.no y.seen) ys

abbrev pub or_seen : Option Position → Option Position → Option Position
or_seen None other = other
or_seen (Some s) other = Some s

-- the last that was seen of a server, in order
abbrev pub seen_last : List Sight → ℕ → Option Position
seen_last [] n = None
seen_last (y ∷ ys) n = or_seen (seen_last ys n) (if y.no.0 == n then Some y.seen else None)

abbrev pub job_seen : Inside → Job
job_seen a = record {
  id = a.id;
  wait = a.wait;
  ops = a.ops.now;
  seen = seen_after a.seen.now a.more.now;
  matches = a.matches.now;
  waited = a.waited;
  hands = a.hands.now;
}
