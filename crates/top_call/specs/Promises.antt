-- What is promised for each run of the turns that a command line takes over the scenario that bytes are, whatever rows
-- the row store hands back.
use Rattle.std.specs.Prelude.{ℕ, List}
use Rattle.top_call.specs.Runs.{ActAlone, BeginApart, FinishWell, IsSafeRun, KeepTime, LookFirst, ObeysTable, StoresReadings, TellHooks, TellTruly}

pub record Promises (words : List (List ℕ)) (bytes : List ℕ) : Type 0 where
  -- Every state has the invariant `Held` with its jobs, and its recoveries don't overlap. Each that isn't ended has its
  -- unended job, and a job's turn leaves the servers of others as they are. Every state with `IsQuiet` has `Sound` and
  -- so `Safe`. Every command turn answers by the permission table, with the lowest number that applies, and a refused
  -- one changes nothing.
  pub safe : IsSafeRun words bytes
  pub commands : ObeysTable words bytes
  -- Recoveries begin without overlap by their block periods, as a command or a scan asked for them. No entry is changed
  -- except by its own job's end or an acknowledgement. The first turn of one looks at its failed server, and ends it if
  -- that is reached. Then come the hooks before it, and until all have run it changes no server.
  pub begins : BeginApart words bytes
  pub looks : LookFirst words bytes
  -- One that is done leaves each replica that the book had attached to the failed server when it began promoted,
  -- following or lost for a true reason. Its lines report so. Whom it drained, chose and promoted is so by what its
  -- turns observed and by the book that they had. One that ends reports the scenario's hooks that ran, in order.
  pub finishes : FinishWell words bytes
  pub losses : TellTruly words bytes
  pub hooks : TellHooks words bytes
  -- At most one of several orchestrators is active, and takes their turns, as one alone would. If a claim passes from
  -- one to another, nothing of the other is left.
  pub alone : ActAlone words bytes
  -- What is read of servers is stored. Time passes by ticks alone. Jobs may wait as often as the command line allows.
  pub readings : StoresReadings
  pub keeps_time : KeepTime words bytes
