use Rattle.std.proofs.Common.{refl}
use Rattle.scenario_generator.proofs.Prelude.{digits, server_name}
use Rattle.scenario_generator.proofs.Names.{name_reads}
use Rattle.scenario_generator.proofs.Promises.{names_apart}
use Rattle.scenario_generator.proofs.laws.names_are_numbered.Goals as goal

pub returns-clause-first : goal.returns-clause-first
unfolding server_name digits
returns-clause-first c = refl

pub returns-clause-four : goal.returns-clause-four
unfolding server_name digits
returns-clause-four c = refl

pub returns-clause-five : goal.returns-clause-five
unfolding server_name digits
returns-clause-five c = refl

pub returns-clause-apart : goal.returns-clause-apart
returns-clause-apart c = names_apart

pub returns-clause-read : goal.returns-clause-read
returns-clause-read c = name_reads
