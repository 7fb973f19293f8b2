use Rattle.std.proofs.Common.{length}
use Rattle.replication_laws.proofs.Prelude.{sources}
use Rattle.replication_laws.proofs.Chains.{walk-finds_all, walk-met}
use Rattle.replication_laws.proofs.Loops.{loop-answered, loop-only, loop_auto-answered, loop_auto-only}
use Rattle.replication_laws.proofs.placed.loops_are_found.Goals as goal

pub returns : goal.returns
returns c = record {
  met = λ w n to placed some h. walk-finds_all w placed some n to h;
  missed = λ w n to r. walk-met (sources w) to n (length w.servers) r;
  answered = λ w n expect to at ready r. loop-answered w n expect to.0 at ready r;
  only = λ w n expect to at placed h. loop-only w n expect to.0 at placed h;
  auto_answered = λ w n observed to ready r. loop_auto-answered w n observed to.0 ready r;
  auto_only = λ w n observed to placed h. loop_auto-only w n observed to.0 placed h;
}
