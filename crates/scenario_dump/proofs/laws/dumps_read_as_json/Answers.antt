use Rattle.scenario_dump.proofs.Lines.{dump_utf8}
use Rattle.scenario_dump.proofs.Reading.{dump_reads}
use Rattle.scenario_dump.proofs.laws.dumps_read_as_json.Goals as goal

pub returns-clause-read : goal.returns-clause-read
returns-clause-read c = dump_reads

pub returns-clause-utf8 : goal.returns-clause-utf8
returns-clause-utf8 c = dump_utf8
