use Rattle.std.proofs.Common.{refl}
use Rattle.run_laws.proofs.Lines.{scan-told, scan-tries, scanned-counts}
use Rattle.run_laws.proofs.Prelude.{scan_in}
use Rattle.run_laws.proofs.Unasked.{scans-unasked}
use Rattle.run_laws.proofs.answering.scans_tell_each_try.Goals as goal

pub returns : goal.returns
returns c = record {
  lines = λ s. ((scan_in s).lines, refl, scan-told s);
  table = scan-tries;
  unasked = scans-unasked;
  joins = λ rows s. refl;
  last = λ rows s. scanned-counts s;
  leases = λ rows s. refl;
  kept = λ rows s. refl;
}
