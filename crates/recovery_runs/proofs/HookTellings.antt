-- The lines of recoveries' hooks in a state in which the hooks are in order.
use Rattle.std.proofs.Common.{◌≡◌, ◌∙◌, ℕ, List, ◌++◌, refl, sym, ap, Option, Some, None, ◌==◌}
use Rattle.recovery_runs.proofs.Prelude.{All-find, Cause, Docket, Exchange, HookState, IsEarly, IsFailure, IsFinish, IsTended, IsTendedBeside}
use Rattle.recovery_runs.proofs.Prelude.{JobStep, Line, Recovery, Row, State, TellsFailed, TendedState, Unended, all_before, all_behind, done-docket}
use Rattle.recovery_runs.proofs.Prelude.{done_with, failed-docket, job_at, job_reply, moment_at, next_count, none-docket, number_of, option_map}
use Rattle.recovery_runs.proofs.Prelude.{own_lines, promoted_then, ran_lines, reached-docket, reply_of, run, step, step_reply, tended-still}
use Rattle.recovery_runs.proofs.Prelude.{told_hooks, turn_of}
use Rattle.recovery_runs.proofs.Prelude.act
use Rattle.recovery_runs.proofs.Prelude.answered
use Rattle.recovery_runs.proofs.Prelude.turn
use Rattle.recovery_runs.proofs.Prelude.unended
use Rattle.recovery_runs.proofs.Finishing.{lines-own, world-hooked}

module _ (s : State) (id : ℕ) (r : Recovery) (docket : Docket) (tended : TendedState s) where
  mine : job_at s.jobs id ≡ Some (unended.Recovery r docket) → (h : HookState) → docket.hooks ≡ Some h → IsTended r h
  mine found = All-find IsTendedBeside (λ (k : Unended). number_of k == id) s.jobs (unended.Recovery r docket) tended.jobs found

  pub finish-tells : (lines : List Line) → IsFinish s id r docket lines → lines ≡ own_lines s r ++ told_hooks docket.hooks (promoted_then s r)
  finish-tells lines is = go docket.hooks refl
    where
      go : (o : Option HookState) → docket.hooks ≡ o → lines ≡ own_lines s r ++ told_hooks o (promoted_then s r)
      go None none =
          lines-own s id r docket lines is ∙ ap (λ (o : Option HookState). own_lines s r ++ ran_lines o (promoted_then s r)) none
      go (Some h) has =
          let told = done-docket s.world s.book (next_count s.reads) (moment_at s) r docket h has (mine is.found h has) lines is.done in
          told.2 ∙ ap (λ (ls : List Line). ls ++ (all_before h ++ all_behind h (promoted_then s r))) (sym (ap done_with told.1))

  module _ (c : Cause) (lines : List Line) (is : IsFailure s id r docket c lines) where
    pub failure-told : reply_of s (turn.Act (act.Job id)) ≡ answered.Failed (record { cause = c; lines = lines })
    failure-told = ap (λ (o : Option Unended). job_reply (option_map (turn_of s) o)) is.found ∙ ap (λ (x : JobStep). step_reply x) is.failed

    pub failure-tells : TellsFailed docket.hooks r.failed c lines
    failure-tells = go docket.hooks refl
      where
        go : (o : Option HookState) → docket.hooks ≡ o → TellsFailed o r.failed c lines
        go None none = none-docket s.world s.book (next_count s.reads) (moment_at s) r docket c lines none is.failed
        go (Some h) has = record {
          looked = λ looked. failed-docket s.world s.book (next_count s.reads) (moment_at s) r docket h has (mine is.found h has) looked c lines is.failed;
          reached = λ fresh. reached-docket s.world s.book (next_count s.reads) (moment_at s) r docket h has (mine is.found h has) fresh c lines is.failed;
        }

  pub early-still : (rows : List Row) (h : HookState) → job_at s.jobs id ≡ Some (unended.Recovery r docket) → docket.hooks ≡ Some h → IsEarly h
      → (step rows s (turn.Act (act.Job id))).world ≡ s.world
  early-still rows h found has early =
      world-hooked s id r docket found rows
      ∙ ap (λ (es : List Exchange). run s.world es) (tended-still s.world s.book (next_count s.reads) (moment_at s) r docket h has (mine found h has) early)
