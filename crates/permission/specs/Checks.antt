-- The checks of the permission table: what each is about, and the refusal of one that doesn't pass.
use Rattle.std.specs.Prelude.{ℕ, Bool, true, false, ◌==◌, not, nat_lt, List, [], ◌∷◌, Option, Some, None, Result, Ok, Err, is_some}
use Rattle.permission.specs.Prelude.{BookState, Command, Interval, Refusal, ServerNo, World, instance_at, is_instance, is_within, lease_at}
use Rattle.permission.specs.Prelude.{option_and_then, seen_source, unknown_of}
use Rattle.permission.specs.Prelude.refusal
use Rattle.permission.specs.declared.case.Check.{Check}
use Rattle.permission.specs.declared.case.Check.TheVariants as check
use Rattle.permission.specs.declared.case.Lead.{Lead}
use Rattle.permission.specs.declared.case.Lead.TheVariants as lead
use Rattle.permission.specs.declared.case.Move.{Move}
use Rattle.permission.specs.declared.row.PermitFault.{PermitFault}
use Rattle.permission.specs.declared.row.PermitFault.TheVariants as fault
use Rattle.permission.specs.Errants.{own_missing}
use Rattle.permission.specs.Lists.{first_about, only_if}
use Rattle.permission.specs.Views.{attached_of, exec_seen, first_seen, has_log, is_attached_in, is_below, is_detached_in, is_lower, is_valid, purged_seen, same_id, same_label, set_seen, source_of, uuid_of}

-- What the checks of a command are about: the instance, its new source, the servers of which the job takes the leases,
-- and those that must be reached. Then which servers move to which source, the new sources, which must log, and the
-- servers by whose coordinates under their sources the moves go.
pub record Case : Type 0 where
  pub i : ServerNo
  pub to : Option ServerNo
  pub leased : List ServerNo
  pub reached : List ServerNo
  pub moves : List Move
  pub sources : List ServerNo
  pub crossed : List ServerNo

abbrev pub is_given : ServerNo → Option ServerNo → Bool
is_given n None = false
is_given n (Some m) = m.0 == n.0

-- another server is given as the destination
abbrev pub goes_elsewhere : ServerNo → Option ServerNo → Bool
goes_elsewhere i None = false
goes_elsewhere i (Some d) = not (is_given i (Some d))

-- whether no check but that of the instance's lease is left of those that come first
abbrev pub looks_at : Lead → ServerNo → Option ServerNo → Bool
looks_at lead.Held i d = true
looks_at lead.Apart i d = goes_elsewhere i d
looks_at lead.Other i d = false

-- both are there and equal
abbrev pub are_one : Option ServerNo → Option ServerNo → Bool
are_one None other = false
are_one (Some n) other = is_given n other

abbrev pub busy_by : ServerNo → Option ℕ → Option Refusal
busy_by n None = None
busy_by n (Some job) = Some (refusal.Busy n job)

-- a job has the server's lease
abbrev pub busy : BookState → ServerNo → Option Refusal
busy b n = busy_by n (lease_at b n)

-- the server isn't a valid instance
abbrev pub unreached : BookState → ServerNo → Option Refusal
unreached b n = only_if (not (is_valid b n)) (refusal.Unreachable n)

abbrev pub of_other_cluster : World → Move → Option Refusal
of_other_cluster w m = only_if (not (same_label w m.no m.source)) refusal.OtherCluster

-- the new source is below the server that moves
abbrev pub of_below : BookState → Move → Option Refusal
of_below b m = only_if (is_below b m.source m.no) refusal.Below

-- the new source has no binary log
abbrev pub without_log : World → ServerNo → Option Refusal
without_log w n = only_if (not (has_log w n)) refusal.DestNotLogging

abbrev pub of_same_id : World → Move → Option Refusal
of_same_id w m = only_if (same_id w m.no m.source) (refusal.SameServerId m.no)

abbrev pub of_lower_version : World → Move → Option Refusal
of_lower_version w m = only_if (is_lower w m.no m.source) (refusal.VersionLower m.no)

abbrev pub errant_by : List Interval → Option Refusal
errant_by [] = None
errant_by (s ∷ xs) = Some (refusal.Errant (s ∷ xs))

-- what the server has executed of its own, as it was seen, and its new source lacks
abbrev pub errant : World → BookState → Move → Option Refusal
errant w b m = errant_by (own_missing (uuid_of w m.no) (set_seen b m.no) (set_seen b m.source))

-- the server that moves has no binary log
abbrev pub unlogged : World → Move → Option Refusal
unlogged w m = only_if (not (has_log w m.no)) (refusal.MovedNotLogging m.no)

-- a server's source was seen to have purged the file of the coordinate that was seen of the server
abbrev pub purged_under : BookState → ServerNo → Option ServerNo → Option Refusal
purged_under b n None = None
purged_under b n (Some s) = only_if (nat_lt (exec_seen b n).file (first_seen b s)) (refusal.Purged s (first_seen b s))

abbrev pub place_purged : BookState → ServerNo → Option Refusal
place_purged b n = purged_under b n (source_of b n)

-- the new source was seen to have purged what wasn't seen of the server that moves
abbrev pub set_purged : BookState → Move → Option Refusal
set_purged b m = only_if (not (is_within (purged_seen b m.source) (set_seen b m.no))) (refusal.Purged m.source (first_seen b m.source))

-- The refusal of a check, none if it passes. Over several servers it is that of the first. 31 is only in the rows of
-- scenarios without marks.
abbrev pub refusal_by : World → BookState → Case → Check → Option Refusal
refusal_by w b c check.SameInstance = only_if (is_given c.i c.to) refusal.SameInstance
refusal_by w b c check.Busy = first_about (busy b) c.leased
refusal_by w b c check.Unreachable = first_about (unreached b) c.reached
refusal_by w b c check.NoSource = only_if (not (is_some (source_of b c.i))) refusal.NoSource
refusal_by w b c check.NotDetached = only_if (is_attached_in (seen_source (instance_at b c.i))) refusal.NotDetached
refusal_by w b c check.AlreadyDetached = only_if (is_detached_in (seen_source (instance_at b c.i))) refusal.AlreadyDetached
refusal_by w b c check.OtherCluster = first_about (of_other_cluster w) c.moves
refusal_by w b c check.Below = first_about (of_below b) c.moves
refusal_by w b c check.SourceHasNoSource = only_if (not (is_some (option_and_then (attached_of b) (source_of b c.i)))) refusal.SourceHasNoSource
refusal_by w b c check.NotSibling = only_if (not (are_one (source_of b c.i) (option_and_then (attached_of b) c.to))) refusal.NotSibling
refusal_by w b c check.NotSameLog = only_if (not (are_one (source_of b c.i) c.to)) refusal.NotSameLog
refusal_by w b c check.DestNotLogging = first_about (without_log w) c.sources
refusal_by w b c check.SameServerId = first_about (of_same_id w) c.moves
refusal_by w b c check.VersionLower = first_about (of_lower_version w) c.moves
refusal_by w b c check.GtidOff = only_if (not w.gtid) refusal.GtidOff
refusal_by w b c check.Errant = first_about (errant w b) c.moves
refusal_by w b c check.PurgedPlace = first_about (place_purged b) c.crossed
refusal_by w b c check.PurgedSet = first_about (set_purged b) c.moves
refusal_by w b c check.PseudoOff = Some refusal.PseudoOff
refusal_by w b c check.MovedNotLogging = first_about (unlogged w) c.moves

-- a check's number is that of the refusal of one that doesn't pass
abbrev pub check_number : Check → ℕ
check_number check.SameInstance = 3
check_number check.Busy = 4
check_number check.Unreachable = 5
check_number check.NoSource = 6
check_number check.NotDetached = 7
check_number check.AlreadyDetached = 8
check_number check.OtherCluster = 9
check_number check.Below = 10
check_number check.SourceHasNoSource = 11
check_number check.NotSibling = 12
check_number check.NotSameLog = 13
check_number check.DestNotLogging = 14
check_number check.SameServerId = 15
check_number check.VersionLower = 16
check_number check.GtidOff = 17
check_number check.Errant = 18
check_number check.PurgedPlace = 30
check_number check.PurgedSet = 30
check_number check.PseudoOff = 31
check_number check.MovedNotLogging = 32

-- the refusal of the first check that doesn't pass; a row has its checks by rising number
abbrev pub first_refusal : World → BookState → Case → List Check → Option Refusal
first_refusal w b c row = first_about (refusal_by w b c) row

-- ---- 2: the instances that a command names

abbrev pub is_known : BookState → Option ServerNo → Bool
is_known b None = false
is_known b (Some n) = is_instance b n

abbrev pub unknown_in : BookState → Command → Option Refusal
unknown_in b c = unknown_of c (is_known b c.i) (is_known b c.d)

-- ---- the answer of a permit

abbrev pub permitted : Option Refusal → Result Unit Refusal
permitted None = Ok tt
permitted (Some r) = Err r

-- nothing if memory runs out
abbrev pub permit_fault : PermitFault → Option Refusal
permit_fault (fault.Refused r) = Some r
permit_fault fault.Memory = None
