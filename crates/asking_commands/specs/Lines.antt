-- The lines of recoveries.
use Rattle.std.specs.Prelude.{List, map}
use Rattle.asking_commands.specs.Prelude.{Line, Recovery, RecoveryLine}
use Rattle.asking_commands.specs.Prelude.line

abbrev pub line_of : Recovery → RecoveryLine
line_of r = record {
  id = r.id;
  cluster = r.cluster;
  kind = r.kind;
  failed = r.failed;
  begun = r.begun;
  ended = r.ended;
  outcome = r.outcome;
  acked = r.acked;
}

abbrev pub recovery_line : Recovery → Line
recovery_line r = line.Recovery (line_of r)

-- a line for each recovery, in their order
abbrev pub recovery_lines : List Recovery → List Line
recovery_lines recoveries = map recovery_line recoveries
