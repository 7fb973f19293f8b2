use Rattle.recovery_hooks.proofs.Running.{all-before, all-behind, all-stopped}
use Rattle.recovery_hooks.proofs.laws.all_hooks_run.Goals as goal

pub returns-clause-before : goal.returns-clause-before
returns-clause-before c = all-before

pub returns-clause-stopped : goal.returns-clause-stopped
returns-clause-stopped c = all-stopped

pub returns-clause-after : goal.returns-clause-after
returns-clause-after c = all-behind
