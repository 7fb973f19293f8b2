use Rattle.std.proofs.Common.{rules}
use Rattle.scenario_servers.proofs.UuidTables.{next_tabled}
use Rattle.scenario_servers.proofs.uuids.Uuids.of.Goals as goal

pub loop-number-preserved : goal.loop-number-preserved
loop-number-preserved c =
    next_tabled c.args.items.now c.loop-number.number c.index-items-number.result c.in_ok-uuid.uuid c.loop-number.listed.items c.push.new.self.items c.loop-number.numbers c.add_uuid.new.numbers
    (search rules) (search rules) c.index-items-number.is (search rules) (search rules) c.loop-number.invariant
