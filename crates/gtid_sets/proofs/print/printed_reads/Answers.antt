use Rattle.gtid_sets.proofs.RoundTrip.{printed_reads_lem}
use Rattle.gtid_sets.proofs.print.printed_reads.Goals as goal

pub returns : goal.returns
returns c = printed_reads_lem
