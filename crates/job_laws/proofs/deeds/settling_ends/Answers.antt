use Rattle.job_laws.proofs.Settling.{settle-unreached, settle-settled, settle-last, settle-waits}
use Rattle.job_laws.proofs.deeds.settling_ends.Goals as goal

pub returns : goal.returns
returns c = record {
  unreached = settle-unreached;
  settled = settle-settled;
  last = settle-last;
  waits = settle-waits;
}
