use Rattle.run_laws.proofs.Naming.{recovery-names, regroup-are, scan-names, takeover-names}
use Rattle.run_laws.proofs.replicas.begins_name_replicas_once.Goals as goal

pub returns : goal.returns
returns c = record {
  recovery = recovery-names;
  takeover = takeover-names;
  scan = λ w b audit by wait last. scan-names w b by wait audit last;
  regroup = regroup-are;
}
