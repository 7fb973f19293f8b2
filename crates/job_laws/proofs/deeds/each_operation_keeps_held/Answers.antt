use Rattle.job_laws.proofs.Prelude.{turn-allowed}
use Rattle.job_laws.proofs.Turns.{goes-kept, turn-kept, deed-kept, Held-run}
use Rattle.job_laws.proofs.Leased.{turn-leased}
use Rattle.job_laws.proofs.deeds.each_operation_keeps_held.Goals as goal

pub returns : goal.returns
returns c = record {
  allowed = turn-allowed;
  turn = turn-kept;
  deed = λ w read now j rest d next. deed-kept w read now j rest d next.placed next.shown next.ends next.due;
  goes = λ w read now j k rest d o es next is. goes-kept w read now j k rest d o es next.placed next.shown next.ends next.due is;
  leases = turn-leased;
  others = Held-run;
}
