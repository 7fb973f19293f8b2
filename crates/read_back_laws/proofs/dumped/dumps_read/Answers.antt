use Rattle.read_back_laws.proofs.Dumps.{dump-reads}
use Rattle.read_back_laws.proofs.dumped.dumps_read.Goals as goal

pub returns : goal.returns
returns c = dump-reads c.printed_reads.ensures.printed c.dumps_read_as_json.ensures.read c.dumps_read_as_json.ensures.utf8
