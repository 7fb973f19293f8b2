use Rattle.std.proofs.Common.{refl}
use Rattle.recovery_turns.proofs.Parts.{passed}
use Rattle.recovery_turns.proofs.job_parts.JobParts.pass.Goals as goal

pub returns-clause-core : goal.returns-clause-core
returns-clause-core c = passed c.args.self.now _ refl
