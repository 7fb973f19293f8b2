-- What an operator's decision answers, and what it makes of what is known.
use Rattle.std.specs.Prelude.{ℕ, ◌+◌, Bool, true, false, List, [], ◌∷◌, map, Option, None, Some, is_some, unwrap_or, if◌then◌else◌}
use Rattle.book_commands.specs.Prelude.{AuditState, BookState, Candidate, Change, Decision, Downtime, Keys, Line, Moment, ServerNo, acking}
use Rattle.book_commands.specs.Prelude.{acknowledged, after_change, count_new, downtime_at, label_at, put_change, put_recovery, switch_line}
use Rattle.book_commands.specs.Prelude.change
use Rattle.book_commands.specs.Prelude.decision
use Rattle.book_commands.specs.Prelude.key
use Rattle.book_commands.specs.Prelude.line
use Rattle.book_commands.specs.Prelude.row
use Rattle.book_commands.specs.Prelude.rule
use Rattle.book_commands.specs.Prelude.table
use Rattle.book_commands.specs.declared.decided.Decided.{Decided}
use Rattle.book_commands.specs.declared.decided.Effect.{Effect}
use Rattle.book_commands.specs.declared.decided.Effect.TheVariants as effect

-- so many seconds after a moment
abbrev pub after : Moment → ℕ → Moment
after now seconds = record { 0 = now.0 + seconds }

-- a change, or nothing if it is kept already
abbrev pub effect_by : Option Change → Effect
effect_by None = effect.Stays
effect_by (Some c) = effect.Change c

-- one line, and what is made of what is known
abbrev pub decided_with : Line → Effect → Decided
decided_with line made = record { lines = line ∷ []; effect = made }

-- no instance is given
abbrev pub undecided : Decided
undecided = record { lines = []; effect = effect.Stays }

-- ---- downtimes

-- without a duration 600 seconds
abbrev pub downtime_of : Moment → Keys → ServerNo → Downtime
downtime_of now k i = record { no = i; begun = now; until = after now (unwrap_or k.duration 600); owner = unwrap_or k.owner []; reason = unwrap_or k.reason [] }

abbrev pub downtime_begun : BookState → Downtime → Decided
downtime_begun b d = decided_with (line.Downtime d.no d.until) (effect_by (put_change b (row.Downtime d)))

-- a downtime that is kept is removed, whether or not it still lasts; one that ends at moment 0, which no command keeps,
-- never lasts
abbrev pub downtime_removal : BookState → ServerNo → Option Change
downtime_removal b i = if is_some (downtime_at b i (record { 0 = 0 })) then Some (change.Remove table.Downtime (key.Server i)) else None

abbrev pub downtime_ended : BookState → ServerNo → Decided
downtime_ended b i = decided_with (line.Server i) (effect_by (downtime_removal b i))

-- ---- candidates: registered for 3600 seconds

abbrev pub candidate_of : Moment → Keys → ServerNo → Candidate
candidate_of now k i = record { no = i; rule = unwrap_or k.rule rule.Neutral; until = after now 3600 }

abbrev pub registered : BookState → Candidate → Decided
registered b c = decided_with (line.Candidate c.no c.rule c.until) (effect_by (put_change b (row.Candidate c)))

-- ---- the switch

abbrev pub switched : BookState → Bool → Decided
switched b enabled = decided_with (switch_line enabled) (effect_by (put_change b (row.Switch enabled)))

-- ---- acknowledgements

-- how many recoveries of the instance's cluster weren't acknowledged
abbrev pub acked : BookState → AuditState → ServerNo → Decided
acked b a i = decided_with (line.Acknowledged (count_new a (label_at b i))) (effect.Acks (label_at b i))

-- ---- all

abbrev pub about : (ServerNo → Decided) → Option ServerNo → Decided
about decided None = undecided
about decided (Some i) = decided i

-- by what the command is given
abbrev pub decided_of : BookState → AuditState → Moment → Keys → Option ServerNo → Decision → Decided
decided_of b a now k i decision.BeginDowntime = about (λ n. downtime_begun b (downtime_of now k n)) i
decided_of b a now k i decision.EndDowntime = about (downtime_ended b) i
decided_of b a now k i decision.RegisterCandidate = about (λ n. registered b (candidate_of now k n)) i
decided_of b a now k i decision.DisableRecoveries = switched b false
decided_of b a now k i decision.EnableRecoveries = switched b true
decided_of b a now k i decision.AckRecoveries = about (acked b a) i

-- ---- effects

-- the changes of the kept rows
abbrev pub rows_of : AuditState → Effect → List Change
rows_of a effect.Stays = []
rows_of a (effect.Change c) = c ∷ []
rows_of a (effect.Acks cluster) = map put_recovery (acking a cluster)

abbrev pub book_after : BookState → Effect → BookState
book_after b effect.Stays = b
book_after b (effect.Change c) = after_change b c
book_after b (effect.Acks cluster) = b

abbrev pub audit_after : AuditState → Effect → AuditState
audit_after a effect.Stays = a
audit_after a (effect.Change c) = a
audit_after a (effect.Acks cluster) = acknowledged a cluster
