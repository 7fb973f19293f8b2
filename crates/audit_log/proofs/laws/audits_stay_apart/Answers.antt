use Rattle.audit_log.proofs.Parting.{acknowledged-apart, acknowledged_at-apart, begun-apart, closed-apart, ended-apart}
use Rattle.audit_log.proofs.laws.audits_stay_apart.Goals as goal

pub returns : goal.returns
returns c = record {
  begun = begun-apart;
  ended = ended-apart;
  acknowledged = acknowledged-apart;
  acknowledged_at = acknowledged_at-apart;
  closed = closed-apart;
}
