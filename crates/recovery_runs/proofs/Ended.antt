-- A recovery that a hook ended has changed no server.
use Rattle.std.proofs.Common.{◌≡◌, ℕ, List, subst, Some, None, ◌⊎◌, inl, inr, ◌==◌}
use Rattle.recovery_runs.proofs.Prelude.{All-find, BookState, Cause, ComesTo, Docket, FailsTruly, FailsWell, Fatal, HookState, IsEarly, IsEndedByHook}
use Rattle.recovery_runs.proofs.Prelude.{IsFailing, IsFailure, Line, Moment, Nobody, Reached, Recovery, Row, Scenario, Sourced, State, StaysStill}
use Rattle.recovery_runs.proofs.Prelude.{StopsTruly, Unended, World, decided, found-number, front_hook, ground_of, moment_at, next_count, number_of}
use Rattle.recovery_runs.proofs.Prelude.cause
use Rattle.recovery_runs.proofs.Prelude.unended
use Rattle.recovery_runs.proofs.Failing.{fail-comes}
use Rattle.recovery_runs.proofs.HookTellings.{early-still, failure-tells, failure-told}
use Rattle.recovery_runs.proofs.Origins.{Step}
use Rattle.recovery_runs.proofs.Still.{HasStill}
use Rattle.recovery_runs.proofs.Tending.{begun, tends-comes}

module _ (w : World) (b : BookState) (read : ℕ) (now : Moment) (r d : Recovery) (number exit : ℕ) where
  no-hook : (c : Cause) → c ≡ cause.HookFailed number exit → FailsTruly w b read now r d c → ⊥
  no-hook c is (Nobody none has) = cc
  no-hook c is (Reached seen at shows) = cc
  no-hook c is (Sourced x seen at shows has) = cc
  no-hook c is (Fatal stops fatal ends) = (subst (λ (k : Cause). StopsTruly w read now d k) is stops).befell

module _ (s : Scenario) (xs : List Step) (now : State) (comes : ComesTo s xs now) where
  -- one of the hooks before it was due
  hook-early : (id : ℕ) (r : Recovery) (docket : Docket) (c : Cause) (lines : List Line) (number exit : ℕ) → c ≡ cause.HookFailed number exit → IsFailure now id r docket c lines
      → (h : HookState) × (docket.hooks ≡ Some h) × IsEarly h
  hook-early id r docket c lines number exit same is =
      go (fail-comes s xs now comes id r docket (record { cause = c; lines = lines }) is.found (failure-told now id r docket (tends-comes s xs now comes).cares.tended c lines is))
    where
      go : ((front_hook docket.hooks ≡ None) × IsFailing now.world now.book (next_count now.reads) (moment_at now) r c) ⊎ IsEndedByHook docket c → (h : HookState) × (docket.hooks ≡ Some h) × IsEarly h
      go (inl (front, failing)) = absurd (no-hook now.world now.book (next_count now.reads) (moment_at now) r (decided (ground_of now.world now.book (moment_at now)) r) number exit c same failing)
      go (inr ended) = (ended.hooks, ended.runs, inr (ended.hook, ended.due))

  -- what the turn in which one fails answers
  pub failure-comes : (rows : List Row) (id : ℕ) (r : Recovery) (docket : Docket) (c : Cause) (lines : List Line) → IsFailure now id r docket c lines
      → FailsWell (begun s xs now comes) xs rows now id r docket c lines
  failure-comes rows id r docket c lines is =
      let t = tends-comes s xs now comes in
      let mine = All-find (HasStill (begun s xs now comes) xs) (λ (k : Unended). number_of k == id) now.jobs (unended.Recovery r docket) t.stills is.found in
      record {
        reply = failure-told now id r docket t.cares.tended c lines is;
        hooks = failure-tells now id r docket t.cares.tended c lines is;
        began = mine.0;
        still = λ number exit same.
            let early = hook-early id r docket c lines number exit same is in (
              subst (λ (n : ℕ). StaysStill mine.0.place n (begun s xs now comes) xs) (found-number now.jobs id (unended.Recovery r docket) is.found) (mine.1 early.0 early.1 early.2),
              early-still now id r docket t.cares.tended rows early.0 is.found early.1 early.2,
            );
      }
