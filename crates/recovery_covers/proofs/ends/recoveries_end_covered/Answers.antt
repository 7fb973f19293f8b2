use Rattle.recovery_covers.proofs.Done.{turn-chain, turn-done}
use Rattle.recovery_covers.proofs.ends.recoveries_end_covered.Goals as goal

pub returns-clause-told : goal.returns-clause-told
returns-clause-told c = turn-done

pub returns-clause-chain : goal.returns-clause-chain
returns-clause-chain c = turn-chain
