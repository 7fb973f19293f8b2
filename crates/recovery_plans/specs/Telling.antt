-- What a recovery reports when it is done.
use Rattle.std.specs.Prelude.{Bool, ◌==◌, List, ◌++◌, filter_map, find, Option, Some, None, option_map}
use Rattle.recovery_plans.specs.Prelude.{Line, ServerNo, option_to_list}
use Rattle.recovery_plans.specs.Prelude.line
use Rattle.recovery_plans.specs.declared.purpose.Purpose.{Purpose}
use Rattle.recovery_plans.specs.declared.purpose.Purpose.TheVariants as purpose
use Rattle.recovery_plans.specs.declared.why.Why.{Why}
use Rattle.recovery_plans.specs.declared.why.Why.TheVariants as why
use Rattle.recovery_plans.specs.Recoveries.{Outcome, Recovery}
use Rattle.recovery_plans.specs.Whys.{cause_of}

abbrev pub follower_line : Outcome → ServerNo → Option Line
follower_line o n = option_map (λ x. line.Follows x.no x.source) (find (λ x. x.no.0 == n.0) o.followers)

-- the line of a lost one, detached or not; that of one that met a cause has that cause
abbrev pub told_why : ServerNo → Bool → Why → Line
told_why n detached (why.Lost l) = line.Lost n l detached
told_why n detached (why.Unmatched m) = line.Unmatched n (cause_of n m)

abbrev pub lost_line : Outcome → ServerNo → Option Line
lost_line o n = option_map (λ x. told_why x.no x.detached x.why) (find (λ x. x.no.0 == n.0) o.lost)

abbrev pub or_line : Option Line → Option Line → Option Line
or_line None other = other
or_line (Some l) other = Some l

-- the line of a replica that follows or is lost
abbrev pub replica_line : Outcome → ServerNo → Option Line
replica_line o n = or_line (follower_line o n) (lost_line o n)

-- the followers' lines, then those of the lost, each in the order of the list
abbrev pub lines_apart : Outcome → List ServerNo → List Line
lines_apart o order = filter_map (follower_line o) order ++ filter_map (lost_line o) order

abbrev pub told_by : Purpose → Outcome → List ServerNo → List Line
told_by purpose.Regroup o order = option_to_list (option_map line.Server o.promoted) ++ filter_map (replica_line o) order
told_by purpose.Master o order = option_to_list (option_map line.Promoted o.promoted) ++ lines_apart o order
told_by (purpose.Intermediate s) o order = option_to_list (option_map line.Successor o.promoted) ++ lines_apart o order
told_by (purpose.Takeover d) o order = option_to_list (option_map line.Promoted o.promoted) ++ lines_apart o order

-- the new source, then the others in name order
abbrev pub result_lines : Recovery → List Line
result_lines r = told_by r.purpose r.outcome r.order
