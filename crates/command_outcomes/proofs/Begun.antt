-- A command that isn't refused begins a job over servers that are there and free.
use Rattle.std.proofs.Common.{◌≡◌, ℕ, ◌<◌, ◌^◌, true, List, [], length, refl, Option, Some, None, arith, All}
use Rattle.command_outcomes.proofs.Prelude.{All-nil, AllWithin, BookState, Command, Coordinates, Gtids, IsBook, IsInRange, IsReady, IsReadyJob}
use Rattle.command_outcomes.proofs.Prelude.{IsUnended, Matches, Means, Moment, Op, Paths, Planner, ServerNo, Within, World, about-free, about-is}
use Rattle.command_outcomes.proofs.Prelude.{are_named, begun-of, begun-shaped, busy, first_about, first_busy, given-within, is_within, job_by, job_in}
use Rattle.command_outcomes.proofs.Prelude.{job_with, leases_by, list_of, means_of, neither, none-within, number_of, plan_by, refusal_about}
use Rattle.command_outcomes.proofs.Prelude.{refusal_by, regroup_about, replicas-within, replicas_of}
use Rattle.command_outcomes.proofs.Prelude.free_coords
use Rattle.command_outcomes.proofs.Prelude.free_gtids
use Rattle.command_outcomes.proofs.Prelude.free_matches
use Rattle.command_outcomes.proofs.Prelude.free_paths
use Rattle.command_outcomes.proofs.Prelude.named_coords
use Rattle.command_outcomes.proofs.Prelude.named_gtids
use Rattle.command_outcomes.proofs.Prelude.named_matches
use Rattle.command_outcomes.proofs.Prelude.named_paths
use Rattle.command_outcomes.proofs.Prelude.matches
use Rattle.command_outcomes.proofs.Prelude.paths
use Rattle.command_outcomes.proofs.Prelude.purpose

checks-free : (w : World) (b : BookState) (now : Moment) (every : ℕ) (p : Planner) (i : ServerNo) (d : Option ServerNo) → refusal_about w b now every p i d ≡ None
    → first_about (busy b) (list_of w b p i d) ≡ None
checks-free w b now every (Coordinates k) i d h = free_coords.checks-free w b i k d h
checks-free w b now every (Gtids k) i d h = free_gtids.checks-free w b i k d h
checks-free w b now every (Paths k) i d h = free_paths.checks-free w b i k d (neither (paths.row_refusal w b k i d) (paths.rest_refusal w b now k i d) h).0
checks-free w b now every (Matches k) i d h = free_matches.checks-free w b i k d (neither (matches.row_refusal w b k i d) (matches.rest_refusal w b now every k i d) h).0

pub leases-free : (w : World) (b : BookState) (now : Moment) (every : ℕ) (c : Command) (p : Planner) → refusal_by w b now every c p ≡ None
    → first_busy b.leases (leases_by w b c p) ≡ None
leases-free w b now every c p h = about-free (refusal_about w b now every) (list_of w b) b c (λ k i. checks-free w b now every k i c.d) (Some p) h

module _ (w : World) (b : BookState) (c : Command) (is : IsBook b) (i_there : is_within (length b.names) c.i ≡ true) (d_there : is_within (length b.names) c.d ≡ true) where
  list-within : (p : Planner) (i : ServerNo) (d : Option ServerNo) → i.0 < length b.names → Within b d → AllWithin b (list_of w b p i d)
  list-within (Coordinates k) = named_coords.list-within b is k
  list-within (Gtids k) = named_gtids.list-within b is k
  list-within (Paths k) = named_paths.list-within w b k
  list-within (Matches k) = named_matches.list-within b is k

  pub leases-within : (p : Planner) → All (λ n. n.0 < length b.names) (leases_by w b c p)
  leases-within p =
      about-is (AllWithin b) [] (list_of w b) b c (none-within b) (given-within b c.i i_there) (λ k i at. list-within k i c.d at (given-within b c.d d_there)) (Some p)

  plan-named : (every : ℕ) (p : Planner) → are_named (length b.names) (plan_by w b every c p) ≡ true
  plan-named every (Coordinates k) = named_coords.plan-named w b (Some k) c is i_there d_there
  plan-named every (Gtids k) = named_gtids.plan-named b (Some k) c is i_there d_there
  plan-named every (Paths k) = named_paths.plan-named w b (Some k) c i_there d_there
  plan-named every (Matches k) = named_matches.plan-named b every (Some k) c i_there

  in-range : (id wait : ℕ) (ops : List Op) → id < 2 ^ 64 → wait < 2 ^ 32 → are_named (length b.names) ops ≡ true → IsInRange (length b.names) (job_with id wait ops)
  in-range id wait ops id_fits wait_fits named = record {
    id = id_fits;
    wait = wait_fits;
    waited = omega arith;
    named = record { ops = named; hands = All-nil _ };
  }

  -- a regroup names its instance and that one's replicas, and comes to an end
  regrouped : (i : Option ServerNo) → is_within (length b.names) i ≡ true → (by : Means) (id wait : ℕ) → id < 2 ^ 64 → wait < 2 ^ 32 → IsUnended (length b.names) (regroup_about b by id wait i)
  regrouped None h by id wait id_fits wait_fits = in-range id wait [] id_fits wait_fits refl
  regrouped (Some i) h by id wait id_fits wait_fits = record {
    id = id_fits;
    ready = record {
      named = begun-of (λ n. n < length b.names) (λ n. n < length b.names) purpose.Regroup by id wait i (replicas_of b i) (replicas_of b i) (replicas-within b i) (given-within b (Some i) h) tt;
      promoted = tt;
      shaped = begun-shaped purpose.Regroup by id wait i (replicas_of b i) (replicas_of b i);
    };
  }

  ready-by : (id wait : ℕ) (ops : List Op) → are_named (length b.names) ops ≡ true → IsReadyJob (length b.names) (job_with id wait ops)
  ready-by id wait ops named = record { named = record { ops = named; hands = All-nil _ }; waited = omega arith }

  regroup-ready : (i : Option ServerNo) → is_within (length b.names) i ≡ true → (by : Means) (id wait : ℕ) → IsReady (length b.names) (regroup_about b by id wait i)
  regroup-ready None h by id wait = ready-by id wait [] refl
  regroup-ready (Some i) h by id wait = record {
    named = begun-of (λ n. n < length b.names) (λ n. n < length b.names) purpose.Regroup by id wait i (replicas_of b i) (replicas_of b i) (replicas-within b i) (given-within b (Some i) h) tt;
    promoted = tt;
    shaped = begun-shaped purpose.Regroup by id wait i (replicas_of b i) (replicas_of b i);
  }

  -- a turn of the job can be taken, whatever its number
  pub job-ready : (p : Planner) (id wait every : ℕ) → IsReady (length b.names) (job_by w b c p id wait every)
  job-ready p id wait every = go (means_of every p)
    where
      go : (by : Option Means) → IsReady (length b.names) (job_in w b c p id wait every by)
      go None = ready-by id wait (plan_by w b every c p) (plan-named every p)
      go (Some by) = regroup-ready c.i i_there by id wait

  -- the numbers of the job, and the servers that it names, are in their ranges
  pub job-unended : (p : Planner) (id wait every : ℕ) → id < 2 ^ 64 → wait < 2 ^ 32 → IsUnended (length b.names) (job_by w b c p id wait every)
  job-unended p id wait every id_fits wait_fits = go (means_of every p)
    where
      go : (by : Option Means) → IsUnended (length b.names) (job_in w b c p id wait every by)
      go None = in-range id wait (plan_by w b every c p) id_fits wait_fits (plan-named every p)
      go (Some by) = regrouped c.i i_there by id wait id_fits wait_fits

regroup-number : (b : BookState) (by : Means) (id wait : ℕ) (i : Option ServerNo) → number_of (regroup_about b by id wait i) ≡ id
regroup-number b by id wait None = refl
regroup-number b by id wait (Some i) = refl

-- it has that number
pub job-number : (w : World) (b : BookState) (c : Command) (p : Planner) (id wait every : ℕ) → number_of (job_by w b c p id wait every) ≡ id
job-number w b c p id wait every = go (means_of every p)
  where
    go : (by : Option Means) → number_of (job_in w b c p id wait every by) ≡ id
    go None = refl
    go (Some by) = regroup-number b by id wait c.i
