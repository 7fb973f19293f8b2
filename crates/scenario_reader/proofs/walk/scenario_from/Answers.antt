use Rattle.std.proofs.Common.{◌≡◌, ◌∙◌, Ok, Option, ap, sym, codes}
use Rattle.scenario_reader.proofs.Prelude.{Data, needed, needed-ok, needed_in, read_given, servers_in, view}
use Rattle.scenario_reader.proofs.walk.scenario_from.Goals as goal

pub scenario_with-requires-clause-given : goal.scenario_with-requires-clause-given
scenario_with-requires-clause-given c =
    let gtid = c.in_ok-head.head.gtid in
    let listed = c.in_ok-listed.listed in
    let found : needed (codes "servers") (servers_in gtid) (view c.args.value) ≡ Ok (listed.names, listed.given.items) =
    sym (ap (λ (o : Option Data). needed_in (codes "servers") (servers_in gtid) o) c.lists_of-servers.ensures.servers) ∙ c.in_ok-listed.ensures in
    let read = needed-ok (codes "servers") (servers_in gtid) (view c.args.value) (listed.names, listed.given.items) found in
    read_given gtid read.0 (listed.names, listed.given.items) read.2
