-- The summary of a run.
use Rattle.std.specs.Prelude.{ℕ, List, ◌++◌, length, codes, decimal, sum_by}
use Rattle.server_model.specs.Worlds.{World}
use Rattle.report_text.specs.declared.totals.Tally.{Tally}
use Rattle.report_text.specs.Tables.{errant_text}

-- turns N refused R failed F
abbrev pub tally_text : Tally → List ℕ
tally_text t = codes "turns " ++ decimal t.turns ++ (codes " refused " ++ decimal t.refused) ++ (codes " failed " ++ decimal t.failed) ++ codes "\n"

-- how many transactions the servers have executed, all together
abbrev pub executed_in : World → ℕ
executed_in w = sum_by (λ s. length s.history.txns) w.servers

-- executed S
abbrev pub executed_text : World → List ℕ
executed_text w = codes "executed " ++ decimal (executed_in w) ++ codes "\n"

-- recoveries N
abbrev pub recoveries_text : ℕ → List ℕ
recoveries_text recoveries = codes "recoveries " ++ decimal recoveries ++ codes "\n"

-- a line of the replies, one of what the servers have executed, one of how many recoveries were begun, and the count of
-- errant writes
abbrev pub summary_text : Tally → World → ℕ → List ℕ
summary_text t w recoveries = tally_text t ++ executed_text w ++ recoveries_text recoveries ++ errant_text w
