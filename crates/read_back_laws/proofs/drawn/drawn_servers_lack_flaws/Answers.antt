use Rattle.read_back_laws.proofs.Prelude.{counts_few, placed, servers_from}
use Rattle.read_back_laws.proofs.Scenarios.{flawless}
use Rattle.read_back_laws.proofs.drawn.drawn_servers_lack_flaws.Goals as goal

pub returns : goal.returns
returns c = λ seed servers. flawless (servers_from seed servers).drawn (placed seed servers) (counts_few seed servers)
