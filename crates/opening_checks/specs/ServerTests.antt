-- The tests of one server by which flaws are found without memory.
use Rattle.std.specs.Prelude.{ℕ, Bool, List, Option, Some, None, slice_get}
use Rattle.opening_checks.specs.Prelude.{Flaw, ServerInit, ServerNo, below_itself, both_given, other_cluster, source_not_logging, too_many}
use Rattle.opening_checks.specs.Prelude.flaw
use Rattle.opening_checks.specs.declared.flaws.Test.{Test}
use Rattle.opening_checks.specs.declared.flaws.Test.TheVariants as test

-- the server that is named as a source
abbrev pub named_in : List ServerInit → Option ServerNo → Option ServerInit
named_in servers None = None
named_in servers (Some m) = slice_get servers m.0

-- what a test answers for a server
abbrev pub met_by : List ServerInit → Test → ℕ → ServerInit → Bool
met_by servers test.BothGiven n i = both_given i
met_by servers test.SourceNotLogging n i = source_not_logging servers i
met_by servers test.Loop n i = below_itself servers n
met_by servers test.OtherCluster n i = other_cluster servers i
met_by servers test.TooMany n i = too_many servers i

-- the flaw that a test finds
abbrev pub flaw_by : Test → Flaw
flaw_by test.BothGiven = flaw.BothGiven
flaw_by test.SourceNotLogging = flaw.SourceNotLogging
flaw_by test.Loop = flaw.Loop
flaw_by test.OtherCluster = flaw.OtherCluster
flaw_by test.TooMany = flaw.TooMany
