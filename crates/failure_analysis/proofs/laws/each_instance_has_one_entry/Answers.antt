use Rattle.failure_analysis.proofs.Prelude.{analysis, by_name}
use Rattle.failure_analysis.proofs.Counting.{tally-parts}
use Rattle.failure_analysis.proofs.Entries.{count-is-length, entries-servers}
use Rattle.failure_analysis.proofs.laws.each_instance_has_one_entry.Goals as goal

pub returns-clause-entries : goal.returns-clause-entries
unfolding analysis
returns-clause-entries c b = entries-servers b (by_name b.names)

pub returns-clause-counts : goal.returns-clause-counts
returns-clause-counts c b n i =
    let parts = tally-parts b.instances n in
    record { lagging = parts.lagging; replicating = parts.replicating; valid = parts.valid }

pub returns-clause-replicas : goal.returns-clause-replicas
returns-clause-replicas c = count-is-length
