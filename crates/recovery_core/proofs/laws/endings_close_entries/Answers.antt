use Rattle.recovery_core.proofs.Ended.{acknowledged-done, ending-apart, ending-closed, going-unended, unended-going}
use Rattle.recovery_core.proofs.laws.endings_close_entries.Goals as goal

pub returns : goal.returns
returns c = record {
  closed = ending-closed;
  apart = ending-apart;
  going = going-unended;
  ends = unended-going;
  acknowledged = acknowledged-done;
}
