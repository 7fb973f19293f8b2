use Rattle.std.proofs.Common.{refl, codes}
use Rattle.scenario_servers.proofs.Prelude.{view}
use Rattle.scenario_servers.proofs.Absent.{replication-absent}
use Rattle.scenario_servers.proofs.server.replication_in.Goals as goal

pub returns-then-lacks : goal.returns-then-lacks
returns-then-lacks c =
    let absent = c.lacks.ensures.absent c.if-lacks.true in
    replication-absent c.args.gtid (view c.args.object.now) (absent (codes "executed") refl) (absent (codes "at") refl) (absent (codes "read") refl) (absent (codes "io") refl) (absent (codes "sql") refl)
    (absent (codes "auto") refl) (absent (codes "detached") refl) (absent (codes "until") refl)
