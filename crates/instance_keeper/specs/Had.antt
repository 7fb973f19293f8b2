-- Rows that a book has, as the code tests it.
use Rattle.std.specs.Prelude.{◌==◌, ◌&&◌, Bool, true, false, if◌then◌else◌, nat_eq, slice_index_or, Option, None, Some}
use Rattle.instance_keeper.specs.Prelude.{Candidate, Change, Downtime, Row, Rule, ServerNo, pointwise, same_bool, same_instance}
use Rattle.instance_keeper.specs.Prelude.change
use Rattle.instance_keeper.specs.Prelude.row
use Rattle.instance_keeper.specs.Prelude.rule
use Rattle.instance_keeper.specs.Book.{BookState, instance_at}

abbrev pub same_downtime : Downtime → Downtime → Bool
same_downtime a b =
    (a.no.0 == b.no.0) && ((a.begun.0 == b.begun.0) && ((a.until.0 == b.until.0) && (pointwise nat_eq a.owner b.owner && pointwise nat_eq a.reason b.reason)))

abbrev pub same_rule : Rule → Rule → Bool
same_rule rule.Prefer rule.Prefer = true
same_rule rule.Prefer rule.Neutral = false
same_rule rule.Prefer rule.PreferNot = false
same_rule rule.Prefer rule.MustNot = false
same_rule rule.Neutral rule.Prefer = false
same_rule rule.Neutral rule.Neutral = true
same_rule rule.Neutral rule.PreferNot = false
same_rule rule.Neutral rule.MustNot = false
same_rule rule.PreferNot rule.Prefer = false
same_rule rule.PreferNot rule.Neutral = false
same_rule rule.PreferNot rule.PreferNot = true
same_rule rule.PreferNot rule.MustNot = false
same_rule rule.MustNot rule.Prefer = false
same_rule rule.MustNot rule.Neutral = false
same_rule rule.MustNot rule.PreferNot = false
same_rule rule.MustNot rule.MustNot = true

abbrev pub same_candidate : Candidate → Candidate → Bool
same_candidate a b = (a.no.0 == b.no.0) && (same_rule a.rule b.rule && (a.until.0 == b.until.0))

-- a server's downtime and its registration as they are kept, whether or not they still last
abbrev pub downtime_kept : BookState → ServerNo → Option Downtime
downtime_kept b n = slice_index_or b.downtimes n.0 None

abbrev pub candidate_kept : BookState → ServerNo → Option Candidate
candidate_kept b n = slice_index_or b.candidates n.0 None

-- what is kept is equal to this
abbrev pub had : {A : Type 0} → (A → A → Bool) → Option A → A → Bool
had same None x = false
had same (Some kept) x = same kept x

-- the book has this very row
abbrev pub has_row : BookState → Row → Bool
has_row b (row.Instance i) = had same_instance (instance_at b i.no) i
has_row b (row.Downtime d) = had same_downtime (downtime_kept b d.no) d
has_row b (row.Candidate c) = had same_candidate (candidate_kept b c.no) c
has_row b (row.Recovery r) = false
has_row b (row.Switch enabled) = had same_bool b.switch enabled
has_row b (row.Active node until) = false

-- the change by which the book gets a row: none if it has it
abbrev pub put_change : BookState → Row → Option Change
put_change b r = if has_row b r then None else Some (change.Put r)
