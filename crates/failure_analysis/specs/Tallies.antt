-- How replicas are counted, server by server.
use Rattle.std.specs.Prelude.{ℕ, ◌+◌, ◌≤◌, Bool, List, if◌then◌else◌, Option, is_some}
use Rattle.instance_keeper.specs.OrchBase.declared.server.ServerNo.{ServerNo}
use Rattle.instance_keeper.specs.KeptRows.declared.observation.Instance.{Instance}
use Rattle.book_views.specs.Sources.{source_in}
use Rattle.failure_analysis.specs.declared.code.Counts.{Counts}
use Rattle.failure_analysis.specs.declared.tally.Tally.{Tally}
use Rattle.failure_analysis.specs.Analysis.{count_of, is_any, is_valid, lags, replicates}

abbrev pub no_replicas : Tally
no_replicas = record { replicas = 0; valid = 0; replicating = 0; lagging = 0 }

-- the counts of a server
abbrev pub tally_of : List (Option Instance) → ServerNo → Tally
tally_of instances n = record {
  replicas = count_of is_any instances n;
  valid = count_of is_valid instances n;
  replicating = count_of replicates instances n;
  lagging = count_of lags instances n;
}

abbrev pub one_if : Bool → ℕ
one_if b = if b then 1 else 0

-- with one more replica
abbrev pub raised : Tally → Instance → Tally
raised t i = record {
  replicas = t.replicas + 1;
  valid = t.valid + one_if (is_valid i);
  replicating = t.replicating + one_if (replicates i);
  lagging = t.lagging + one_if (lags i);
}

-- each count is a part of the one before it
pub record AreParts (t : Tally) : Type 0 where
  pub lagging : t.lagging ≤ t.replicating
  pub replicating : t.replicating ≤ t.valid
  pub valid : t.valid ≤ t.replicas

abbrev pub counts_by : Instance → Tally → Counts
counts_by i t = record {
  has_source = is_some (source_in i.seen.source);
  valid = i.valid;
  replicas = t.replicas;
  valid_replicas = t.valid;
  replicating = t.replicating;
  lagging = t.lagging;
}
