-- The turn of a recovery in a state is one of its `Flight`.
use Rattle.std.proofs.Common.{◌≡◌, ◌∙◌, ◌++◌, ℕ, Bool, List, refl, sym, ap, subst, Option, Some, ◌==◌, All}
use Rattle.recovery_runs.proofs.Prelude.{AimedState, All-find, AllFit, CoveredState, Docket, ExplainsTruly, Fact, HeldState, Hooked, IsBeginning, UpState}
use Rattle.recovery_runs.proofs.Prelude.{IsExplained, IsFinish, IsNamedRecovery, IsReady, IsSpeakingBeside, IsTold, JobStep, Keeps, KeepsHistories}
use Rattle.recovery_runs.proofs.Prelude.{KeptState, Line, OwesNothing, Ready, Recovery, RecoveryTurn, Row, Safe, SameAim, SoundState, SpeakingState}
use Rattle.recovery_runs.proofs.Prelude.{State, Unended, World, done-chain, done-fit, done-named, done-old, done-placed, done-promoted, done-told}
use Rattle.recovery_runs.proofs.Prelude.{flight_of, job_at, job_exchanges, job_reply, last-aim, moment_at, next_count, number_of, option_map}
use Rattle.recovery_runs.proofs.Prelude.{own_lines, own_turn, promoted_then, ran_lines, recovery_after, reply_of, run, step, step_reply, turn-aim}
use Rattle.recovery_runs.proofs.Prelude.{KeepsUp, done-ups, found-number, turn-explained, turn_hooked, turn_of, turn_taken}
use Rattle.recovery_runs.proofs.Prelude.act
use Rattle.recovery_runs.proofs.Prelude.answered
use Rattle.recovery_runs.proofs.Prelude.job_step
use Rattle.recovery_runs.proofs.Prelude.turn
use Rattle.recovery_runs.proofs.Prelude.unended
use Rattle.recovery_runs.proofs.Hooks.{done-own, done-with}

module _ (s : State) (id : ℕ) (r : Recovery) (docket : Docket) where
  module _ (found : job_at s.jobs id ≡ Some (unended.Recovery r docket)) where
    abbrev pub turn_in : RecoveryTurn (flight_of s) s.jobs
    turn_in = record { id = id; recovery = r; docket = docket; found = found; book = s.book; rings = refl; at_read = next_count s.reads; at_moment = moment_at s }

    pub world-hooked : (rows : List Row) → (step rows s (turn.Act (act.Job id))).world ≡ run s.world (turn_hooked s r docket).taken.exchanges
    world-hooked rows = ap (λ (o : Option Unended). run s.world (job_exchanges (option_map (turn_of s) o))) found

    -- its servers are there
    named-at : (count : ℕ) → Ready count s → IsNamedRecovery count r
    named-at count ready = (All-find (IsReady count) (λ (k : Unended). number_of k == id) s.jobs (unended.Recovery r docket) ready.jobs found).named

    pub aim-at : SameAim r (recovery_after s r)
    aim-at = turn-aim (flight_of s) s.jobs turn_in

    pub facts-true : (P : Fact → Bool) → HeldState s → SpeakingState s → ExplainsTruly s.world s.book (moment_at s) r P → IsExplained P r
        → IsExplained P (recovery_after s r)
    facts-true P held speaking explains lost = turn-explained (flight_of s) s.jobs turn_in held P speaking explains lost

  module _ (lines : List Line) (is : IsFinish s id r docket lines) where
    -- its turn is its own
    pub own-turned : turn_hooked s r docket ≡ own_turn docket (promoted_then s r) (turn_taken s r)
    own-turned = done-own docket (promoted_then s r) r (turn_taken s r) lines is.done

    own-done : (own_turn docket (promoted_then s r) (turn_taken s r)).taken.step ≡ job_step.Done lines
    own-done = subst (λ (h : Hooked). h.taken.step ≡ job_step.Done lines) own-turned is.done

    pub taken-done : (turn_taken s r).step ≡ job_step.Done (own_lines s r)
    taken-done = (done-with docket.hooks (promoted_then s r) (turn_taken s r).step lines own-done).0

    -- nobody is lost because none may be promoted
    pub lost-fit : SpeakingState s → AllFit (recovery_after s r).outcome.lost
    lost-fit speaking =
        done-fit s.world s.book (next_count s.reads) (moment_at s) r
        (All-find IsSpeakingBeside (λ (k : Unended). number_of k == id) s.jobs (unended.Recovery r docket) speaking.jobs is.found).way (own_lines s r) taken-done

    pub lines-own : lines ≡ own_lines s r ++ ran_lines docket.hooks (promoted_then s r)
    lines-own = (done-with docket.hooks (promoted_then s r) (turn_taken s r).step lines own-done).1

    world-then : (rows : List Row) → (step rows s (turn.Act (act.Job id))).world ≡ run s.world (turn_taken s r).exchanges
    world-then rows = world-hooked is.found rows ∙ ap (λ (h : Hooked). run s.world h.taken.exchanges) own-turned

    pub reply-told : reply_of s (turn.Act (act.Job id)) ≡ answered.Told lines
    reply-told = ap (λ (o : Option Unended). job_reply (option_map (turn_of s) o)) is.found ∙ ap (λ (x : JobStep). step_reply x) is.done

    pub owes-nothing : (count : ℕ) (rows : List Row) → Ready count s → HeldState s → CoveredState s → OwesNothing count (step rows s (turn.Act (act.Job id))).world r (recovery_after s r) (own_lines s r)
    owes-nothing count rows ready held covered = record {
      aim = aim-at is.found;
      told =
          subst (λ (w : World). IsTold w (recovery_after s r) (own_lines s r)) (sym (world-then rows))
          (done-told (flight_of s) s.jobs (turn_in is.found) held covered (own_lines s r) taken-done);
      chain = done-chain (flight_of s) s.jobs (turn_in is.found) held covered (own_lines s r) taken-done;
      placed = done-placed (flight_of s) s.jobs (turn_in is.found) held covered (own_lines s r) taken-done;
      named = done-named (flight_of s) s.jobs (turn_in is.found) held covered (own_lines s r) taken-done count (named-at is.found count ready);
    }

    pub keeps-histories : (rows : List Row) → HeldState s → SoundState s → CoveredState s → KeptState s → Safe (step rows s (turn.Act (act.Job id))).world
        → KeepsHistories (step rows s (turn.Act (act.Job id))).world r (recovery_after s r)
    keeps-histories rows held sound covered kept safe = record {
      promoted = λ n has.
          subst (λ (w : World). All (λ x. Keeps w r.failed.0 x.exec n.0) (recovery_after s r).eligible) (sym (world-then rows))
          (done-promoted (flight_of s) s.jobs (turn_in is.found) held covered (own_lines s r) taken-done n sound kept (subst Safe (world-then rows) safe) has);
      old = λ d has.
          subst (λ (w : World). IsBeginning w r.failed.0 d.0) (sym (world-then rows))
          (done-old (flight_of s) s.jobs (turn_in is.found) held covered (own_lines s r) taken-done d (subst Safe (world-then rows) safe) has);
    }

    pub keeps-up : (rows : List Row) (P : Fact → Bool) → HeldState s → CoveredState s → SpeakingState s → ExplainsTruly s.world s.book (moment_at s) r P → UpState P id s
        → KeepsUp P (step rows s (turn.Act (act.Job id))).world (recovery_after s r)
    keeps-up rows P held covered speaking explains up =
        subst (λ (w : World). KeepsUp P w (recovery_after s r)) (sym (world-then rows))
        (done-ups P id (flight_of s) s.jobs (turn_in is.found) held covered speaking explains up (found-number s.jobs id (unended.Recovery r docket) is.found) (own_lines s r) taken-done)

    pub aim-began : (begun : ℕ → Recovery) → HeldState s → AimedState begun s → SameAim (begun id) (recovery_after s r)
    aim-began begun held aimed = last-aim (flight_of s) s.jobs (turn_in is.found) held begun aimed
