-- The last readings of a recovery leave the book as the servers are.
use Rattle.std.proofs.Common.{◌≡◌, ◌∙◌, ℕ, true, List, [], refl, sym, ap, subst, Option, Some, None, ◌⊎◌, inl, inr}
use Rattle.std.specs.Prelude.{◌==◌, is_some, unwrap_or}
use Rattle.recovery_runs.proofs.Prelude.{All-contains, All-find, ComesTo, CoveredState, CoversAt, CoversSoFar, Docket, Follower, HasSo, HeldRecovery}
use Rattle.recovery_runs.proofs.Prelude.{HeldState, Hook, IsBelow, IsClosed, IsCoveredBeside, IsRuling, IsStuck, IsUnder, Line, LooksAt, OldFollows}
use Rattle.recovery_runs.proofs.Prelude.{Op, Purpose, RecoveriesBookTheirEnd, Recovery, Row, Scenario, ServerNo, Stage, State, Status, TakesWrites}
use Rattle.recovery_runs.proofs.Prelude.{Turn, Unended, as_read, crowns, decided-walks, decided_at, decides-before, decisions-keep, first_op}
use Rattle.recovery_runs.proofs.Prelude.{flight_of, front_hook, job_at, jobs-store, moment_at, next_count, number_of, same_Some, shown_at, step}
use Rattle.recovery_runs.proofs.Prelude.{turn-held, turn-rings, unless_hook}
use Rattle.recovery_runs.proofs.Prelude.act
use Rattle.recovery_runs.proofs.Prelude.deed
use Rattle.recovery_runs.proofs.Prelude.purpose
use Rattle.recovery_runs.proofs.Prelude.stage
use Rattle.recovery_runs.proofs.Prelude.turn
use Rattle.recovery_runs.proofs.Prelude.unended
use Rattle.recovery_runs.proofs.Finishing.{turn_in}
use Rattle.recovery_runs.proofs.Shown.{ruling-shown, under-shown}
use Rattle.recovery_runs.proofs.Tending.{tends-comes}

-- ---- a turn

module _ (s : State) (id : ℕ) (r : Recovery) (docket : Docket) (found : job_at s.jobs id ≡ Some (unended.Recovery r docket)) (held : HeldState s) (covered : CoveredState s) where
  abbrev d : Recovery
  d = decided_at s r

  abbrev u : Unended
  u = unended.Recovery r docket

  covers : CoversSoFar s.world d ⊎ IsStuck d
  covers =
      let it = turn_in s id r docket found in
      let rings = turn-rings (flight_of s) s.jobs it held in
      let mine = turn-held (flight_of s) s.jobs it held in
      let so-far = All-find (IsCoveredBeside s.world) (λ (k : Unended). number_of k == id) s.jobs u covered.jobs found in
      (decisions-keep s.world s.book (moment_at s) (λ x. HeldRecovery s.world x × (CoversSoFar s.world x ⊎ IsStuck x))
      (decides-before s.world s.book (next_count s.reads) (moment_at s) held.flight.placed rings) (decided-walks s.world s.book (moment_at s) r) (mine, inl so-far)).1

  -- it has an operation left
  not-stuck : (n : ServerNo) → LooksAt s u n → IsStuck d → ⊥
  not-stuck n l stuck = let bad : None ≡ Some (deed.Look n l.from) = sym (go (front_hook docket.hooks) d.core.ops stuck.ops) ∙ l.due in cc
    where
      go : (h : Option Hook) (ops : List Op) → ops ≡ [] → unless_hook h ops ≡ None
      go (Some h) ops e = refl
      go None ops e = ap first_op e

  has-so : (Q : Status → Type 0) (rows : List Row) (n : ServerNo) (l : LooksAt s u n) → Q l.seen → HasSo Q (step rows s (turn.Act (act.Job id))).book n
  has-so Q rows n l is = record {
    instance = as_read l.kept (shown_at s n);
    there = (jobs-store rows s id u n l.from found l.due).kept.newer l.kept l.there l.earlier;
    valid = ap is_some l.reached;
    is = subst Q (sym (ap (λ (o : Option Status). unwrap_or o l.kept.seen) l.reached)) is;
  }

  closed : (lines : List Line) → d.stage ≡ stage.Close lines → CoversSoFar s.world d → IsClosed s.world d
  closed lines at c = let k = subst (λ (x : Stage). CoversAt s.world d x) at c.at in k.stage.0

  promoted-booked : (rows : List Row) (n : ServerNo) (lines : List Line) → crowns d.purpose ≡ true → d.stage ≡ stage.Close lines → d.outcome.promoted ≡ Some n → LooksAt s u n
      → HasSo TakesWrites (step rows s (turn.Act (act.Job id))).book n
  promoted-booked rows n lines crowned at promoted l = go covers
    where
      go : CoversSoFar s.world d ⊎ IsStuck d → HasSo TakesWrites (step rows s (turn.Act (act.Job id))).book n
      go (inr stuck) = absurd (not-stuck n l stuck)
      go (inl c) =
          let k = closed lines at c in
          let same : k.no ≡ n = same_Some k.no n (sym k.promoted.promoted ∙ promoted) in
          has-so TakesWrites rows n l (ruling-shown s.world n.0 l.seen l.reached (subst (λ (i : ServerNo). IsRuling s.world i.0) same (k.rules crowned)))

  old-booked : (rows : List Row) (p : ServerNo) (lines : List Line) → d.purpose ≡ purpose.Takeover p → d.stage ≡ stage.Close lines → LooksAt s u d.failed
      → HasSo (IsBelow p) (step rows s (turn.Act (act.Job id))).book d.failed
  old-booked rows p lines aim at l = go covers
    where
      go : CoversSoFar s.world d ⊎ IsStuck d → HasSo (IsBelow p) (step rows s (turn.Act (act.Job id))).book d.failed
      go (inr stuck) = absurd (not-stuck d.failed l stuck)
      go (inl c) =
          let k = closed lines at c in
          let under : IsUnder s.world d.failed.0 p.0 =
          All-contains (λ (y : Follower). IsUnder s.world y.no.0 y.source.0) d.outcome.followers (record { no = d.failed; source = p }) c.at.attached
          (subst (λ (x : Purpose). OldFollows x d.failed d.outcome.followers) aim k.promoted.old) in
          has-so (IsBelow p) rows d.failed l (under-shown s.world d.failed.0 l.seen l.reached p under)

-- in every state of every run
pub books-comes : (s : Scenario) (xs : List (List Row × Turn)) (now : State) → ComesTo s xs now → RecoveriesBookTheirEnd now
books-comes s xs now comes id r docket found =
    let t = tends-comes s xs now comes in
    record { promoted = promoted-booked now id r docket found t.goes.held t.cares.covered; old = old-booked now id r docket found t.goes.held t.cares.covered }
