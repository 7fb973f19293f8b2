-- Each recovery after a turn was there before it, or begins in it.
use Rattle.std.proofs.Common.{◌≡◌, ℕ, true, List, [], ◌++◌, refl, Option, Some, None, ◌==◌, All, Contains}
use Rattle.recovery_runs.proofs.Prelude.{Act, All-contains_itself, All-find, All-nil, All-weaker, ComesOf, Contains-append_left}
use Rattle.recovery_runs.proofs.Prelude.{Contains-append_right, IsReady, Ready, Row, SameAim, State, Turn, Unended, act_in, after_act, after_done}
use Rattle.recovery_runs.proofs.Prelude.{all-turned, command_outcome, flown-number, hooked-has, is_going, job_at, jobs_begun, jobs_done, jobs_in_act}
use Rattle.recovery_runs.proofs.Prelude.{jobs_of, jobs_turned, known_of, moment_at, next_count, number_of, of-docket, option_map, promoted_in}
use Rattle.recovery_runs.proofs.Prelude.{same-aim, scan_outcome, step, taken, taken-aim, turn_of, updated}
use Rattle.recovery_runs.proofs.Prelude.act
use Rattle.recovery_runs.proofs.Prelude.turn
use Rattle.recovery_runs.proofs.Prelude.unended
use Rattle.recovery_runs.proofs.Joining.{joined, outcome-joins}

of-itself : (us : List Unended) (u : Unended) → Contains us u → ComesOf us u
of-itself us (unended.Plan j) among = tt
of-itself us (unended.Recovery r docket) among = record { was = r; had = docket; among = among; number = refl; aim = same-aim r; same = record { entry = refl; hooks = refl } }

module _ (us vs : List Unended) where
  all-stay : All (ComesOf (us ++ vs)) us
  all-stay = All-weaker (Contains us) (ComesOf (us ++ vs)) (λ u among. of-itself (us ++ vs) u (Contains-append_left us vs u among)) us (All-contains_itself us)

  all-join : All (ComesOf (us ++ vs)) vs
  all-join = All-weaker (Contains vs) (ComesOf (us ++ vs)) (λ u among. of-itself (us ++ vs) u (Contains-append_right us vs u among)) vs (All-contains_itself vs)

come-joined : (us vs ws : List Unended) → ws ≡ us ++ vs → All (ComesOf (us ++ vs)) ws
come-joined us vs ws is = joined (ComesOf (us ++ vs)) us vs ws is (all-stay us vs) (all-join us vs)

-- ---- a job's turn

module _ (count : ℕ) (s : State) (id : ℕ) (ready : Ready count s) where
  next-comes : (u : Unended) → Contains s.jobs u → IsReady count u → is_going (turn_of s u).step ≡ true → ComesOf (s.jobs ++ []) (turn_of s u).next
  next-comes (unended.Plan j) among is going = tt
  next-comes (unended.Recovery r docket) among is going = record {
    was = r;
    had = docket;
    among = Contains-append_left s.jobs [] (unended.Recovery r docket) among;
    number = flown-number count s.world s.book (next_count s.reads) (moment_at s) (unended.Recovery r docket) is going;
    aim =
        let t = taken s.world s.book (next_count s.reads) (moment_at s) r in
        hooked-has (λ x. SameAim r x.recovery) docket (promoted_in s.book t) r t (λ told g. taken-aim s.world s.book (next_count s.reads) (moment_at s) r) (λ told. same-aim r);
    same =
        let t = taken s.world s.book (next_count s.reads) (moment_at s) r in
        of-docket docket (promoted_in s.book t) r t;
  }

  turn-come : (o : Option Unended) → job_at s.jobs id ≡ o → All (ComesOf (s.jobs ++ [])) (jobs_turned s.jobs id (option_map (turn_of s) o))
  turn-come None at = all-stay s.jobs []
  turn-come (Some u) at =
      all-turned (Contains s.jobs) (ComesOf (s.jobs ++ [])) id (λ k apart among. of-itself (s.jobs ++ []) k (Contains-append_left s.jobs [] k among)) s.jobs (turn_of s u)
      (next-comes u (All-find (Contains s.jobs) (λ (k : Unended). number_of k == id) s.jobs u (All-contains_itself s.jobs) at)
      (All-find (IsReady count) (λ (k : Unended). number_of k == id) s.jobs u ready.jobs at)) (All-contains_itself s.jobs)

-- ---- any turn

act-come : (count : ℕ) (rows : List Row) (s : State) (a : Act) → Ready count s → All (ComesOf (s.jobs ++ jobs_in_act s a)) (after_act rows s a).jobs
act-come count rows s (act.PollRead p n) ready = all-stay s.jobs []
act-come count rows s (act.PollStore p) ready = all-stay s.jobs []
act-come count rows s (act.Command c) ready = come-joined s.jobs (jobs_of s (command_outcome s c)) (updated (known_of s) (command_outcome s c).book).jobs (outcome-joins s (command_outcome s c))
act-come count rows s (act.Job id) ready = turn-come count s id ready (job_at s.jobs id) refl
act-come count rows s act.Scan ready = come-joined s.jobs (jobs_of s (scan_outcome s)) (updated (known_of s) (scan_outcome s).book).jobs (outcome-joins s (scan_outcome s))
act-come count rows s act.Restart ready = All-nil (ComesOf (s.jobs ++ []))

done-come : (count : ℕ) (rows : List Row) (s : State) (o : Option Act) → Ready count s → All (ComesOf (s.jobs ++ jobs_done s o)) (after_done rows s o).jobs
done-come count rows s None ready = all-stay s.jobs []
done-come count rows s (Some a) ready = act-come count rows s a ready

pub all-come : (count : ℕ) (rows : List Row) (s : State) (t : Turn) → Ready count s → All (ComesOf (s.jobs ++ jobs_begun s t)) (step rows s t).jobs
all-come count rows s (turn.Act a) ready = act-come count rows s a ready
all-come count rows s (turn.As node a) ready = done-come count rows s (act_in s (turn.As node a)) ready
all-come count rows s (turn.Claim node) ready = done-come count rows s (act_in s (turn.Claim node)) ready
all-come count rows s _ ready = all-stay s.jobs []
