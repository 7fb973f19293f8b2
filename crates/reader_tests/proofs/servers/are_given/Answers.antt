use Rattle.std.proofs.Common.{◌<◌, length, arith}
use Rattle.std.proofs.lemmas.Bool.Decides.{nat_tests}
use Rattle.scenario_reader.proofs.ScenarioServers.Apartness.{given-from_apart}
use Rattle.reader_tests.proofs.servers.are_given.Goals as goal

pub returns : goal.returns
returns c = λ apart.
    let some : 0 < length c.args.servers.now = grind (arith, nat_tests, c.is_empty.ensures, c.if-is_empty.false) in
    given-from_apart c.args.gtid c.args.servers.now some c.if-servers-gt1000.false (c.are_servers.ensures c.if-not-are_servers.false) (c.are_apart.ensures apart)
