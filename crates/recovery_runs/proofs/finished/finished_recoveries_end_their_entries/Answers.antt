use Rattle.recovery_runs.proofs.Entries.{audit-ends, entry-kept}
use Rattle.recovery_runs.proofs.finished.finished_recoveries_end_their_entries.Goals as goal

pub returns-clause-audit : goal.returns-clause-audit
returns-clause-audit c rows s id e r docket lines n entry is promoted = audit-ends s id e r docket lines n entry is promoted rows

pub returns-clause-kept : goal.returns-clause-kept
returns-clause-kept c had s id e r docket lines n k entry is promoted at = entry-kept s id e r docket lines n entry is promoted had k at
