-- The flaws that the servers of a scenario may have, and the first of them.
use Rattle.std.specs.Prelude.{ℕ, ◌+◌, ◌==◌, ◌&&◌, ◌||◌, not, Bool, false, nat_lt, nat_eq, if◌then◌else◌, List, [], ◌∷◌, length, Option, Some, None, is_some, is_none, slice_get}
use Rattle.openings.specs.Prelude.{Coord, Log, is_before, list_any, place, pointwise}
use Rattle.openings.specs.declared.init.ServerInit.{ServerInit}
use Rattle.openings.specs.declared.opening.Flaw.{Flaw}
use Rattle.openings.specs.declared.opening.Flaw.TheVariants as flaw
use Rattle.openings.specs.Listed.{listed_history}
use Rattle.openings.specs.Servers.{number_of, sources, parts_of, count_of, log_at, exec_of, read_of}
use Rattle.openings.specs.Kin.{is_kin}
pub use Rattle.binlog_coords.specs.OrchBase.Chains.{is_reached, is_reached_on}

-- a test of the server that is at a number
abbrev pub at_server : (ServerInit → Bool) → Option ServerInit → Bool
at_server test None = false
at_server test (Some i) = test i

-- a test of the server's source
abbrev pub at_source : List ServerInit → (ℕ → ServerInit → Bool) → Option ℕ → Bool
at_source servers test None = false
at_source servers test (Some m) = at_server (test m) (slice_get servers m)

abbrev pub of_source : List ServerInit → (ℕ → ServerInit → Bool) → ServerInit → Bool
of_source servers test i = at_source servers test (number_of i.source)

abbrev pub both_given : ServerInit → Bool
both_given i = is_some i.history && is_some i.source

abbrev pub source_not_logging : List ServerInit → ServerInit → Bool
source_not_logging servers i = of_source servers (λ m s. not s.settings.logs) i

-- a server that comes back to itself by following sources; that takes no more steps than there are servers
abbrev pub below_itself : List ServerInit → ℕ → Bool
below_itself servers n = is_reached (sources servers) (length servers) n n

abbrev pub same_cluster : ServerInit → ServerInit → Bool
same_cluster i j = pointwise nat_eq i.settings.cluster j.settings.cluster

abbrev pub origin_elsewhere : List ServerInit → ServerInit → Bool
origin_elsewhere servers i = list_any (λ p. at_server (λ s. not (same_cluster i s)) (slice_get servers p.origin.0)) (parts_of i)

abbrev pub other_cluster : List ServerInit → ServerInit → Bool
other_cluster servers i = of_source servers (λ m s. not (same_cluster i s)) i || origin_elsewhere servers i

abbrev pub too_many : List ServerInit → ServerInit → Bool
too_many servers i = of_source servers (λ m s. nat_lt (count_of s) i.executed) i

-- the counts fall somewhere, or pass a bound
abbrev pub falls_or_passes : ℕ → ℕ → List ℕ → Bool
falls_or_passes bound least [] = false
falls_or_passes bound least (k ∷ ks) = nat_lt k least || nat_lt bound k || falls_or_passes bound k ks

abbrev pub bad_flushes : ServerInit → Bool
bad_flushes i = if i.settings.logs then falls_or_passes (count_of i) 0 i.flushes else nat_lt 0 (length i.flushes)

-- the first kept file is above the number of the log's files, or above 1 at a server without a log
abbrev pub bad_purged : List ServerInit → ℕ → ServerInit → Bool
bad_purged servers n i = if i.settings.logs then nat_lt (log_at servers n).files i.purged else nat_lt 1 i.purged

-- the flush points or the first kept file are out of place
abbrev pub bad_files : List ServerInit → ℕ → ServerInit → Bool
bad_files servers n i = bad_flushes i || bad_purged servers n i

abbrev pub has_place_of : Option ℕ → ℕ → Bool
has_place_of None k = false
has_place_of (Some j) k = j == k

-- the executed coordinate hasn't the place of what was executed, or the read one has none or is before it
abbrev pub bad_coords_in : Log → ℕ → Coord → Coord → Bool
bad_coords_in log executed exec read = not (has_place_of (place log exec) executed) || is_none (place log read) || is_before read exec

abbrev pub bad_coords : List ServerInit → ServerInit → Bool
bad_coords servers i = of_source servers (λ m s. bad_coords_in (log_at servers m) i.executed (exec_of servers i) (read_of servers i)) i

abbrev pub not_kin : List ServerInit → ℕ → ServerInit → Bool
not_kin servers n i = is_none i.source && not (is_kin servers n (listed_history (parts_of i)))

-- each flaw with its test of a server, in the order in which they are looked for
abbrev pub flaws : List ServerInit → List (Flaw × (ℕ → ServerInit → Bool))
flaws servers =
    (flaw.BothGiven, λ n i. both_given i)
    ∷ (flaw.SourceNotLogging, λ n i. source_not_logging servers i)
    ∷ (flaw.Loop, λ n i. below_itself servers n)
    ∷ (flaw.OtherCluster, λ n i. other_cluster servers i)
    ∷ (flaw.TooMany, λ n i. too_many servers i)
    ∷ (flaw.BadPlace, λ n i. bad_files servers n i)
    ∷ (flaw.BadPlace, λ n i. bad_coords servers i)
    ∷ (flaw.NotKin, λ n i. not_kin servers n i)
    ∷ []

-- the first server that a test meets, counted from n
abbrev pub first_met : (ℕ → ServerInit → Bool) → ℕ → List ServerInit → Option ℕ
first_met test n [] = None
first_met test n (i ∷ is) = if test n i then Some n else first_met test (n + 1) is

abbrev pub flaw_or : Flaw → Option (Flaw × ℕ) → Option ℕ → Option (Flaw × ℕ)
flaw_or flaw rest None = rest
flaw_or flaw rest (Some n) = Some (flaw, n)

-- the first of these flaws that a server has, and the first server that has it
abbrev pub first_flaw : List ServerInit → List (Flaw × (ℕ → ServerInit → Bool)) → Option (Flaw × ℕ)
first_flaw servers [] = None
first_flaw servers (f ∷ fs) = flaw_or f.0 (first_flaw servers fs) (first_met f.1 0 servers)

abbrev pub flaw_in : List ServerInit → Option (Flaw × ℕ)
flaw_in servers = first_flaw servers (flaws servers)
