-- The recoveries of the audit that aren't ended, and the unended jobs.
use Rattle.std.specs.Prelude.{◌≡◌, ℕ, List, [], ◌∷◌, ◌++◌, filter, map}
use Rattle.run_laws.specs.Prelude.{AuditState, State, Unended, entry_id, is_unended, option_to_list}

-- the ids of those that aren't ended
abbrev pub open_ids : AuditState → List ℕ
open_ids a = map (λ r. r.id) (filter is_unended a.recoveries)

-- the ids that jobs have of their entries
abbrev pub entries_in : List Unended → List ℕ
entries_in [] = []
entries_in (u ∷ us) = option_to_list (entry_id u) ++ entries_in us

-- each recovery that isn't ended has its unended job, and each unended job's entry isn't ended: one for one, in order
abbrev pub EntriesHaveJobs : State → Type 0
EntriesHaveJobs s = open_ids s.audit ≡ entries_in s.jobs
