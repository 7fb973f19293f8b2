use Rattle.std.proofs.Common.{refl, codes}
use Rattle.scenario_servers.proofs.Prelude.{view}
use Rattle.scenario_servers.proofs.Absent.{setup-absent}
use Rattle.scenario_servers.proofs.server.setup_in.Goals as goal

pub returns-then-lacks : goal.returns-then-lacks
returns-then-lacks c =
    let absent = c.lacks.ensures.absent c.if-lacks.true in
    rw c.plain_setup.ensures (setup-absent (view c.args.object.now) (absent (codes "logs") refl) (absent (codes "read_only") refl) (absent (codes "limit") refl) (absent (codes "up") refl) (absent (codes "desk") refl)
    (absent (codes "feed") refl))
