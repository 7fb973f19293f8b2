use Rattle.binlog_coords.proofs.RoundTrip.{printed_reads_lem, only_printed_reads}
use Rattle.binlog_coords.proofs.text.printed_reads.Goals as goal

pub returns-clause-printed : goal.returns-clause-printed
returns-clause-printed c = printed_reads_lem

pub returns-clause-only : goal.returns-clause-only
returns-clause-only c = only_printed_reads
