use Rattle.std.proofs.Common.{◌<◌, ◌≤◌, length, arith}
use Rattle.std.proofs.lemmas.Bool.Decides.{nat_tests}
use Rattle.made_openings.proofs.Limits.{listed-from_tests}
use Rattle.made_openings.proofs.listed.are_listed.Goals as goal

pub returns : goal.returns
returns c = λ apart.
    let some : 0 < length c.args.servers.now = grind (arith, nat_tests, c.is_empty.ensures, c.if-is_empty.false) in
    let few : length c.args.servers.now ≤ 1000 = omega (arith, c.if-servers-gt1000.false) in
    listed-from_tests c.args.servers.now c.args.gtid some few (c.are_few.ensures c.if-not-are_few.false) (c.are_servers.ensures c.if-not-are_servers.false) (c.are_apart.ensures apart)
