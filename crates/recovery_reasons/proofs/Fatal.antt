-- Which failing operations end a recovery.
use Rattle.std.proofs.Common.{◌≡◌, ℕ, List, sym, ◌∙◌, ap, Some, ◌⊎◌, inl, inr}
use Rattle.recovery_reasons.proofs.Prelude.{Bridge, CanEnd, Cause, Coord, Interval, IsMissed, IsUnmatched, Purpose, ServerNo, Stage, Way, Why, World, fate}
use Rattle.recovery_reasons.proofs.Prelude.{fate_of_move, lost_on_way, speaks_of}
use Rattle.recovery_reasons.proofs.Prelude.cause
use Rattle.recovery_reasons.proofs.Prelude.lost
use Rattle.recovery_reasons.proofs.Prelude.purpose
use Rattle.recovery_reasons.proofs.Prelude.stage
use Rattle.recovery_reasons.proofs.Prelude.taking
use Rattle.recovery_reasons.proofs.Prelude.way

module _ (w : World) (u : Purpose) where
  lost-goes : (v : Purpose) (n : ServerNo) (y : Why) → lost_on_way v n y ≡ taking.Fails → ⊥
  lost-goes purpose.Regroup n y h = cc
  lost-goes purpose.Master n y h = cc
  lost-goes _ n y h = cc

  move-goes : (n : ServerNo) (by : Way) (c : Cause) → IsMissed c → fate_of_move w u n by c ≡ taking.Fails → ⊥
  move-goes n (way.Down b) (cause.Unreachable m) i h = lost-goes u n _ h
  move-goes n (way.Down b) (cause.Running m) i h = lost-goes u n _ h
  move-goes n (way.Down b) (cause.Interfered m expected found) i h = lost-goes u n _ h
  move-goes n (way.Down b) (cause.Purged m first) i h = lost-goes u n _ h
  move-goes n (way.Down b) c i h = absurd i
  move-goes n (way.Up b) (cause.Unreachable m) i h = lost-goes u n _ h
  move-goes n (way.Up b) (cause.Running m) i h = lost-goes u n _ h
  move-goes n (way.Up b) (cause.Interfered m expected found) i h = lost-goes u n _ h
  move-goes n (way.Up b) (cause.Purged m first) i h = lost-goes u n _ h
  move-goes n (way.Up b) c i h = absurd i
  move-goes n (way.Auto to exec) (cause.Unreachable m) i h = lost-goes u n _ h
  move-goes n (way.Auto to exec) (cause.Running m) i h = lost-goes u n _ h
  move-goes n (way.Auto to exec) (cause.Interfered m expected found) i h = lost-goes u n _ h
  move-goes n (way.Auto to exec) (cause.Purged m first) i h = lost-goes u n _ h
  move-goes n (way.Auto to exec) c i h = absurd i
  move-goes n (way.Match to exec every) (cause.Unreachable m) i h = cc
  move-goes n (way.Match to exec every) (cause.Running m) i h = cc
  move-goes n (way.Match to exec every) (cause.Interfered m expected found) i h = cc
  move-goes n (way.Match to exec every) (cause.Purged m first) i h = cc
  move-goes n (way.Match to exec every) c i h = absurd i

  match-goes : (n to : ServerNo) (exec : Coord) (every : ℕ) (c : Cause) → IsUnmatched c → fate_of_move w u n (way.Match to exec every) c ≡ taking.Fails → ⊥
  match-goes n to exec every (cause.NoMark m) i h = cc
  match-goes n to exec every (cause.Mismatch m entry) i h = cc
  match-goes n to exec every (cause.Loop m) i h = cc
  match-goes n to exec every c i h = absurd i

  reached-goes : (s : Stage) (n m : ServerNo) → speaks_of s ≡ Some n → fate w u s (cause.Unreachable m) ≡ taking.Fails → ⊥
  reached-goes (stage.Drain k) n m on h = cc
  reached-goes (stage.Move k by) n m on h = move-goes k by (cause.Unreachable m) tt h
  reached-goes (stage.Join k p) n m on h = cc
  reached-goes (stage.Look k b) n m on h = cc
  reached-goes (stage.Trail k b) n m on h = cc
  reached-goes s n m on h = cc

  pub fatal-ends : (s : Stage) (c : Cause) → fate w u s c ≡ taking.Fails → CanEnd s c
  fatal-ends s c h = record {
    reached = λ n m on is. reached-goes s n m on (ap (fate w u s) (sym is) ∙ h);
    missed = λ n by at i. move-goes n by c i (ap (λ (k : Stage). fate w u k c) (sym at) ∙ h);
    errant = λ n to m exec set at is. lost-goes u n _ (as-errant n to m exec set at is);
    unmatched = λ n to exec every at i. match-goes n to exec every c i (ap (λ (k : Stage). fate w u k c) (sym at) ∙ h);
    late = λ n m x at is. waits n m x (ap (λ (k : Stage). fate w u k (cause.WaitSpent m)) (sym at) ∙ (ap (fate w u s) (sym is) ∙ h));
    better = λ p q at. swaps p q at;
    lost = λ n at. frees n at;
  }
    where
      as-errant : (n to m : ServerNo) (exec : Coord) (set : List Interval) → s ≡ stage.Move n (way.Auto to exec) → c ≡ cause.Errant m set → lost_on_way u n (lost.ahead exec) ≡ taking.Fails
      as-errant n to m exec set at is = ap (λ (k : Stage). fate w u k (cause.Errant m set)) (sym at) ∙ (ap (fate w u s) (sym is) ∙ h)

      waits : (n m : ServerNo) (x : Bridge) → fate w u (stage.Trail n x) (cause.WaitSpent m) ≡ taking.Fails → ⊥
      waits n m x e = cc

      level : (p q : ServerNo) → fate w u (stage.Level p q) c ≡ taking.Fails → ⊥
      level p q e = cc

      swap : (p q : ServerNo) → fate w u (stage.Swap p q) c ≡ taking.Fails → ⊥
      swap p q e = cc

      swaps : (p q : ServerNo) → (s ≡ stage.Level p q) ⊎ (s ≡ stage.Swap p q) → ⊥
      swaps p q (inl at) = level p q (ap (λ (k : Stage). fate w u k c) (sym at) ∙ h)
      swaps p q (inr at) = swap p q (ap (λ (k : Stage). fate w u k c) (sym at) ∙ h)

      expel : (n : ServerNo) → fate w u (stage.Expel n) c ≡ taking.Fails → ⊥
      expel n e = cc

      release : (n : ServerNo) → fate w u (stage.Release n) c ≡ taking.Fails → ⊥
      release n e = cc

      frees : (n : ServerNo) → (s ≡ stage.Expel n) ⊎ (s ≡ stage.Release n) → ⊥
      frees n (inl at) = expel n (ap (λ (k : Stage). fate w u k c) (sym at) ∙ h)
      frees n (inr at) = release n (ap (λ (k : Stage). fate w u k c) (sym at) ∙ h)
