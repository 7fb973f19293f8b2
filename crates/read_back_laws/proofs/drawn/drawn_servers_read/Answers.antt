use Rattle.read_back_laws.proofs.DrawnServers.{servers_read}
use Rattle.read_back_laws.proofs.drawn.drawn_servers_read.Goals as goal

pub returns : goal.returns
returns c = servers_read
