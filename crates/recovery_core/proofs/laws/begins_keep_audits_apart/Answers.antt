use Rattle.recovery_core.proofs.Prelude.{begun-apart}
use Rattle.recovery_core.proofs.InTurn.{apart-after, scan-apart, scan-next}
use Rattle.recovery_core.proofs.laws.begins_keep_audits_apart.Goals as goal

pub returns : goal.returns
returns c = record {
  one = λ count leases audit last x can apart. begun-apart audit x.entry can.may apart;
  several = apart-after;
  scan = scan-apart;
  next = λ w b audit by wait last. scan-next w b by wait audit last;
}
