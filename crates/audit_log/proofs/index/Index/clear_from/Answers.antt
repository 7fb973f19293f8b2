use Rattle.audit_log.proofs.Linking.{clear-all}
use Rattle.audit_log.proofs.index.Index.clear_from.Goals as goal

pub returns-in-Some : goal.returns-in-Some
returns-in-Some c = clear-all c.args.recoveries.now c.args.self.now c.requires c.args.cluster.now c.in-Some.i c.clear_with.result c.in-Some.ensures c.clear_with.ensures
