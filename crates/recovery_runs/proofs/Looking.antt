-- What the first turn of a recovery answers, and those of the hooks before it.
use Rattle.std.proofs.Common.{All, Bool, List, None, Option, Some, [], ap, cond, false, refl, subst, suc, sym, take, true, zero, ℕ, ◌+◌, ◌==◌, ◌∙◌, ◌∷◌, ◌≡◌, if◌then◌else◌, slice_get}
use Rattle.recovery_runs.proofs.Prelude.{AnswersHook, BookState, Cause, Docket, Hook, Hooked, HookState, HostPort, IsAtCheck, IsFresh, IsTended}
use Rattle.recovery_runs.proofs.Prelude.{JobStep, Line, LooksFirst, MeetsMaster, Moment, Observation, Op, Passes, Purpose, Recovery, ServerNo, Stage}
use Rattle.recovery_runs.proofs.Prelude.{State, Status, Taken, Unended, World, after_look, attempted, barred_by, by_queue, checked, decided, due_at}
use Rattle.recovery_runs.proofs.Prelude.{due_before, eq-eqb, failed_lines, fate, first_ops, first_stage, front_hook, front_turn, ground_of}
use Rattle.recovery_runs.proofs.Prelude.{false_from_ne_true, has_source, job_at, job_reply, moment_at, ne_eqb, next, next_count, observed, on_going, once}
use Rattle.recovery_runs.proofs.Prelude.{option_map, own_turn, position_of, promoted_in, ran_after, ran_before, reached-docket, rear_hook, rear_turn}
use Rattle.recovery_runs.proofs.Prelude.{reply_of, same_Some, saw, seen-at, seen_in, seen_of, source_cause, status, step_before, step_reply}
use Rattle.recovery_runs.proofs.Prelude.{step_with, taken, told_before, told_with, turn_hooked, turn_of, unsuccessful, with_hooks, working}
use Rattle.recovery_runs.proofs.Prelude.act
use Rattle.recovery_runs.proofs.Prelude.answered
use Rattle.recovery_runs.proofs.Prelude.cause
use Rattle.recovery_runs.proofs.Prelude.job_step
use Rattle.recovery_runs.proofs.Prelude.op
use Rattle.recovery_runs.proofs.Prelude.purpose
use Rattle.recovery_runs.proofs.Prelude.stage
use Rattle.recovery_runs.proofs.Prelude.taking
use Rattle.recovery_runs.proofs.Prelude.turn
use Rattle.recovery_runs.proofs.Prelude.unended

-- ---- an operation that looks at a server

module _ (w : World) (b : BookState) (read : ℕ) (now : Moment) (r : Recovery) (n : ServerNo) (due : r.core.ops ≡ op.Status n None ∷ []) where
  abbrev look : Op
  look = op.Status n None

  stays-so : once (ground_of w b now) r ≡ r
  stays-so = ap (λ (xs : List Op). by_queue (ground_of w b now) r xs r.queue) due

  decides-so : decided (ground_of w b now) r ≡ r
  decides-so =
      ap (λ (x : Recovery). once (ground_of w b now) (once (ground_of w b now) (once (ground_of w b now) x))) stays-so
      ∙ (ap (λ (x : Recovery). once (ground_of w b now) (once (ground_of w b now) x)) stays-so ∙ (ap (once (ground_of w b now)) stays-so ∙ stays-so))

  abbrev sight : Observation
  sight = observed w read now n

  -- it comes to what its status shows
  looks-so : (o : Option Status) → seen_in (status w n.0) ≡ o → taken w b read now r ≡ attempted w r look (after_look r.core [] n None sight o)
  looks-so o is =
      ap (taking.settled w read now) decides-so
      ∙ (ap (taking.acted w read now r) due ∙ ap (λ (x : Option Status). attempted w r look (after_look r.core [] n None sight x)) is)

-- ---- the look at a failed server

module _ (w : World) (b : BookState) (read : ℕ) (now : Moment) (r : Recovery) (at : IsAtCheck r) where
  pub check-away : seen_in (status w r.failed.0) ≡ None → taken w b read now r ≡ taking.goes_on (Some (observed w read now r.failed)) [] (working r stage.Idle [])
  check-away away =
      looks-so w b read now r r.failed at.ops None away
      ∙ ap (λ (x : Stage). taking.met w r (cause.Unreachable r.failed) (Some (observed w read now r.failed)) (fate w r.purpose x (cause.Unreachable r.failed))) at.stage

  pub check-reached : (x : Status) → seen_in (status w r.failed.0) ≡ Some x → (taken w b read now r).step ≡ job_step.Failed (cause.Reachable r.failed) []
  check-reached x shows =
      ap (λ (t : Taken). t.step) (looks-so w b read now r r.failed at.ops (Some x) shows)
      ∙ ap (λ (y : Stage). (on_going w r (op.Status r.failed None) (Some (observed w read now r.failed)) [] (next (saw r.core r.failed x) []) (barred_by y r.failed (next (saw r.core r.failed x) []).seen)).step) at.stage

-- ---- with hooks

module _ (d : Docket) (h : HookState) (promoted : Option HostPort) (r : Recovery) (t : Taken) (has : d.hooks ≡ Some h) where
  -- before it has looked its own turn comes
  front-none : h.checked ≡ false → front_hook d.hooks ≡ None
  front-none fresh = ap front_hook has ∙ ap (λ (c : Bool). if c then slice_get h.hooks.pre_failover h.before else None) fresh

  behind-none : h.checked ≡ false → (x : JobStep) → due_at h x ≡ None
  behind-none fresh (job_step.Done lines) = ap (λ (c : Bool). if c then slice_get h.hooks.post_failover h.after else None) fresh
  behind-none fresh _ = refl

  own-comes : h.checked ≡ false → with_hooks d promoted r t ≡ own_turn d promoted t
  own-comes fresh =
      ap (front_turn d promoted r t) (front-none fresh)
      ∙ ap (rear_turn d promoted r t) (ap (λ (o : Option HookState). rear_hook o t.step) has ∙ behind-none fresh t.step)

  own-goes : h.checked ≡ false → t.step ≡ job_step.Going → (with_hooks d promoted r t).taken.step ≡ job_step.Going
  own-goes fresh goes =
      ap (λ (x : Hooked). x.taken.step) (own-comes fresh) ∙ (ap (λ (o : Option HookState). step_with o promoted t.step) has ∙ ap (told_with h promoted) goes)

  pub own-fails : h.checked ≡ false → (c : Cause) (ls : List Line) → t.step ≡ job_step.Failed c ls → (with_hooks d promoted r t).taken.step ≡ job_step.Failed c (failed_lines h)
  own-fails fresh c ls fails =
      ap (λ (x : Hooked). x.taken.step) (own-comes fresh) ∙ (ap (λ (o : Option HookState). step_with o promoted t.step) has ∙ ap (told_with h promoted) fails)

  pub own-recovery : h.checked ≡ false → (with_hooks d promoted r t).taken.recovery ≡ t.recovery
  own-recovery fresh = ap (λ (x : Hooked). x.taken.recovery) (own-comes fresh)

  -- and a hook's turn before it answers by its exit
  hook-comes : (k : Hook) → due_before h ≡ Some k → (with_hooks d promoted r t).taken.step ≡ told_before h k
  hook-comes k due =
      ap (λ (o : Option Hook). (front_turn d promoted r t o).taken.step) (ap front_hook has ∙ due) ∙ ap (λ (o : Option HookState). step_before o k) has

  -- after any of its turns it has looked
  pub then-checked : (k : HookState) → (with_hooks d promoted r t).docket.hooks ≡ Some k → k.checked ≡ true
  then-checked k is = front (front_hook d.hooks) refl
    where
      when : (b : Bool) (o : Option Hook) (x : Hook) → (if b then o else None) ≡ Some x → b ≡ true
      when true o x e = refl
      when false o x e = absurd cc

      after : (f : HookState → HookState) → (with_hooks d promoted r t).docket.hooks ≡ option_map f d.hooks → (f h).checked ≡ true → k.checked ≡ true
      after f same looked = sym (ap (λ (x : HookState). x.checked) (same_Some (f h) k (sym (ap (option_map f) has) ∙ (sym same ∙ is)))) ∙ looked

      behind : (x : JobStep) (g : Hook) → due_at h x ≡ Some g → h.checked ≡ true
      behind (job_step.Done lines) g due = when h.checked (slice_get h.hooks.post_failover h.after) g due
      behind _ g due = absurd cc

      rear : front_hook d.hooks ≡ None → (o : Option Hook) → rear_hook d.hooks t.step ≡ o → k.checked ≡ true
      rear none None due = after checked (ap (λ (x : Hooked). x.docket.hooks) (ap (front_turn d promoted r t) none ∙ ap (rear_turn d promoted r t) due)) refl
      rear none (Some g) due =
          after ran_after (ap (λ (x : Hooked). x.docket.hooks) (ap (front_turn d promoted r t) none ∙ ap (rear_turn d promoted r t) due))
          (behind t.step g (sym (ap (λ (o : Option HookState). rear_hook o t.step) has) ∙ due))

      front : (o : Option Hook) → front_hook d.hooks ≡ o → k.checked ≡ true
      front None none = rear none (rear_hook d.hooks t.step) refl
      front (Some g) due =
          after ran_before (ap (λ (x : Hooked). x.docket.hooks) (ap (front_turn d promoted r t) due))
          (when h.checked (slice_get h.hooks.pre_failover h.before) g (sym (ap front_hook has) ∙ due))

-- ---- in a state

module _ (s : State) (id : ℕ) (r : Recovery) (docket : Docket) (found : job_at s.jobs id ≡ Some (unended.Recovery r docket)) where
  abbrev at_read : ℕ
  at_read = next_count s.reads

  abbrev mine : Taken
  mine = taken s.world s.book at_read (moment_at s) r

  replied : (x : JobStep) → (turn_hooked s r docket).taken.step ≡ x → reply_of s (turn.Act (act.Job id)) ≡ step_reply x
  replied x is = ap (λ (o : Option Unended). job_reply (option_map (turn_of s) o)) found ∙ ap step_reply is

  pub looks-first : (h : HookState) → docket.hooks ≡ Some h → h.checked ≡ false → IsTended r h → LooksFirst s id r docket
  looks-first h has fresh tended = record {
    reached = λ x shows.
        let fails = own-fails docket h (promoted_in s.book mine) r mine has fresh (cause.Reachable r.failed) [] (check-reached s.world s.book at_read (moment_at s) r (tended.first fresh) x shows) in
        let told = (reached-docket s.world s.book at_read (moment_at s) r docket h has tended fresh (cause.Reachable r.failed) (failed_lines h) fails).1 in
        replied (job_step.Failed (cause.Reachable r.failed) (failed_lines h)) fails
        ∙ ap (λ (ls : List Line). answered.Failed (record { cause = cause.Reachable r.failed; lines = ls })) (told ∙ sym (ap unsuccessful has));
    away = λ none.
        replied job_step.Going (own-goes docket h (promoted_in s.book mine) r mine has fresh (ap (λ (t : Taken). t.step) (check-away s.world s.book at_read (moment_at s) r (tended.first fresh) none)));
  }

  pub answers-hook : (h : HookState) (k : Hook) → docket.hooks ≡ Some h → due_before h ≡ Some k → AnswersHook s id h k
  answers-hook h k has due =
      let told = hook-comes docket h (promoted_in s.book mine) r mine has k due in
      record {
        passes = λ zero-exit. replied job_step.Going (told ∙ ap (λ (b : Bool). if b then job_step.Going else job_step.Failed (cause.HookFailed (h.before + 1) k.exit) (failed_lines (ran_before h))) (eq-eqb k.exit 0 zero-exit));
        ends = λ other. (
          failed_lines (ran_before h),
          replied (job_step.Failed (cause.HookFailed (h.before + 1) k.exit) (failed_lines (ran_before h)))
              (told ∙ ap (λ (b : Bool). if b then job_step.Going else job_step.Failed (cause.HookFailed (h.before + 1) k.exit) (failed_lines (ran_before h))) (ne_eqb k.exit 0 other)),
        );
      }

  -- ---- a takeover's master

  module _ (d : ServerNo) (is : r.purpose ≡ purpose.Takeover d) (fresh : IsFresh r) (none : docket.hooks ≡ None) where
    begun-ops : r.core.ops ≡ op.Status r.failed None ∷ []
    begun-ops = ap (λ (x : Recovery). x.core.ops) fresh ∙ ap (λ (u : Purpose). first_ops u r.failed) is

    begun-stage : r.stage ≡ stage.Meet r.failed d
    begun-stage = ap (λ (x : Recovery). x.stage) fresh ∙ ap (λ (u : Purpose). first_stage u r.failed) is

    -- without hooks the turn is its own
    alone : (turn_hooked s r docket).taken.step ≡ mine.step
    alone =
        ap (λ (o : Option HookState). (front_turn docket (promoted_in s.book mine) r mine (front_hook o)).taken.step) none
        ∙ (ap (λ (o : Option HookState). (rear_turn docket (promoted_in s.book mine) r mine (rear_hook o mine.step)).taken.step) none
        ∙ ap (λ (o : Option HookState). step_with o (promoted_in s.book mine) mine.step) none)

    seen-now : (x : Status) → seen_of (next (saw r.core r.failed x) []).seen r.failed.0 ≡ Some (position_of x)
    seen-now x = seen-at r.core.seen r.failed (position_of x) r.failed.0 ∙ ap (λ (b : Bool). cond b (Some (position_of x)) (seen_of r.core.seen r.failed.0)) (eq-eqb r.failed.0 r.failed.0 refl)

    meets : (x : Status) → seen_in (status s.world r.failed.0) ≡ Some x → (b : Bool) → has_source x.source ≡ b
        → mine.step ≡ (on_going s.world r (op.Status r.failed None) (Some (observed s.world at_read (moment_at s) r.failed)) [] (next (saw r.core r.failed x) []) (if b then Some (cause.Moved r.failed x.source) else None)).step
    meets x shows b has =
        let barred : barred_by r.stage r.failed (next (saw r.core r.failed x) []).seen ≡ (if b then Some (cause.Moved r.failed x.source) else None) =
        ap (λ (y : Stage). barred_by y r.failed (next (saw r.core r.failed x) []).seen) begun-stage
        ∙ (ap (source_cause r.failed) (seen-now x) ∙ ap (λ (c : Bool). if c then Some (cause.Moved r.failed x.source) else None) has) in
        ap (λ (t : Taken). t.step) (looks-so s.world s.book at_read (moment_at s) r r.failed begun-ops (Some x) shows)
        ∙ ap (λ (o : Option Cause). (on_going s.world r (op.Status r.failed None) (Some (observed s.world at_read (moment_at s) r.failed)) [] (next (saw r.core r.failed x) []) o).step) barred

    pub meets-master : MeetsMaster s id r
    meets-master = record {
      away = λ away.
          replied (job_step.Failed (cause.Unreachable r.failed) [])
          (alone ∙ (ap (λ (t : Taken). t.step) (looks-so s.world s.book at_read (moment_at s) r r.failed begun-ops None away)
          ∙ ap (λ (y : Stage). (taking.met s.world r (cause.Unreachable r.failed) (Some (observed s.world at_read (moment_at s) r.failed)) (fate s.world r.purpose y (cause.Unreachable r.failed))).step) begun-stage));
      sourced = λ x shows has. replied (job_step.Failed (cause.Moved r.failed x.source) []) (alone ∙ meets x shows true has);
      free = λ x shows none. replied job_step.Going (alone ∙ meets x shows false (false_from_ne_true (has_source x.source) none));
    }

  -- ---- one that is done passed all hooks before it

  module _ (h : HookState) (has : docket.hooks ≡ Some h) (tended : IsTended r h) (lines : List Line) (done : (turn_hooked s r docket).taken.step ≡ job_step.Done lines) where
    never-before : (k : Hook) → due_before h ≡ Some k → ⊥
    never-before k due = by (k.exit == 0) (sym (hook-comes docket h (promoted_in s.book mine) r mine has k due) ∙ done)
      where
        by : (b : Bool) → (if b then job_step.Going else job_step.Failed (cause.HookFailed (h.before + 1) k.exit) (failed_lines (ran_before h))) ≡ job_step.Done lines → ⊥
        by true e = cc
        by false e = cc

    has-looked : h.checked ≡ true
    has-looked = go h.checked refl
      where
        go : (b : Bool) → h.checked ≡ b → h.checked ≡ true
        go true is = is
        go false fresh = absurd (by (seen_in (status s.world r.failed.0)) refl)
          where
            by : (o : Option Status) → seen_in (status s.world r.failed.0) ≡ o → ⊥
            by None away =
                let goes : job_step.Going ≡ job_step.Done lines =
                sym (own-goes docket h (promoted_in s.book mine) r mine has fresh (ap (λ (t : Taken). t.step) (check-away s.world s.book at_read (moment_at s) r (tended.first fresh) away))) ∙ done in
                cc
            by (Some x) shows =
                let fails : job_step.Failed (cause.Reachable r.failed) (failed_lines h) ≡ job_step.Done lines =
                sym (own-fails docket h (promoted_in s.book mine) r mine has fresh (cause.Reachable r.failed) [] (check-reached s.world s.book at_read (moment_at s) r (tended.first fresh) x shows)) ∙ done in
                cc

    past : (hs : List Hook) (n : ℕ) → slice_get hs n ≡ None → take n hs ≡ hs
    past [] n e = none-left n
      where
        none-left : (n : ℕ) → take {A = Hook} n [] ≡ []
        none-left zero = refl
        none-left (suc n) = refl
    past (x ∷ xs) zero e = absurd cc
    past (x ∷ xs) (suc n) e = ap (λ (ys : List Hook). x ∷ ys) (past xs n e)

    pub all-passed : All Passes h.hooks.pre_failover
    all-passed = go (due_before h) refl
      where
        go : (o : Option Hook) → due_before h ≡ o → All Passes h.hooks.pre_failover
        go (Some k) due = absurd (never-before k due)
        go None none =
            let through : slice_get h.hooks.pre_failover h.before ≡ None = sym (ap (λ (c : Bool). if c then slice_get h.hooks.pre_failover h.before else None) has-looked) ∙ none in
            subst (All Passes) (past h.hooks.pre_failover h.before through) tended.order.passed
