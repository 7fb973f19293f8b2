-- Recoveries, with others' turns between theirs.
use Rattle.std.proofs.Common.{◌≡◌, ℕ, List, [], ◌∷◌}
use Rattle.recovery_covers.proofs.Prelude.{AllMayCome, Between, BookState, HeldRings, IsTold, Leases, Line, MayCome, Moment, Placed-run, Recovery, UnderWay}
use Rattle.recovery_covers.proofs.Prelude.{World, others-held, recovery_after, recovery_by, run, taken, taken-held, taken-leased, world_after, world_by}
use Rattle.recovery_covers.proofs.Begun.{others-cover, outside-covers}
use Rattle.recovery_covers.proofs.Turning.{turn-covers}
use Rattle.recovery_covers.proofs.Prelude.between
use Rattle.recovery_covers.proofs.Prelude.step
use Rattle.recovery_covers.proofs.Done.{turn-done}

one-stays : (l : Leases) (id : ℕ) (w : World) (r : Recovery) (x : Between) → MayCome l id w r x → UnderWay l id w r → UnderWay l id (world_by w r x) (recovery_by w r x)
one-stays l id w r (between.Outside e) may u = record {
  placed = Placed-run w (e ∷ []) u.placed (may.1, tt);
  held = others-held w (e ∷ []) r u.placed (may.1, tt) u.held;
  covers = outside-covers w e r may.0 u.covers;
  leased = u.leased;
}
one-stays l id w r (between.Others other es) may u = record {
  placed = Placed-run w es u.placed may.2;
  held = others-held w es r u.placed may.2 u.held;
  covers = others-cover l other id w es r may.0 may.1 u.leased u.covers;
  leased = u.leased;
}
one-stays l id w r (between.Own b read now) may u =
    let kept = taken-held w b read now r u.placed may.0 u.held in
    record {
      placed = Placed-run w (taken w b read now r).exchanges u.placed kept.allowed;
      held = kept.held may.1;
      covers = turn-covers w b read now r u.placed may.0 u.held u.covers may.1;
      leased = (taken-leased l id w b read now r u.leased).servers may.1;
    }

pub all-stay : (l : Leases) (id : ℕ) (w : World) (r : Recovery) (xs : List Between) → AllMayCome l id w r xs → UnderWay l id w r → UnderWay l id (world_after w r xs) (recovery_after w r xs)
all-stay l id w r [] may u = u
all-stay l id w r (x ∷ xs) may u = all-stay l id (world_by w r x) (recovery_by w r x) xs may.1 (one-stays l id w r x may.0 u)

-- the turn in which it is done
pub ends-covered : (l : Leases) (id : ℕ) (w : World) (r : Recovery) (xs : List Between) → AllMayCome l id w r xs → UnderWay l id w r → (b : BookState) (read : ℕ) (now : Moment) (lines : List Line)
    → HeldRings (world_after w r xs) b.rings → (taken (world_after w r xs) b read now (recovery_after w r xs)).step ≡ step.Done lines
    → IsTold (run (world_after w r xs) (taken (world_after w r xs) b read now (recovery_after w r xs)).exchanges) (taken (world_after w r xs) b read now (recovery_after w r xs)).recovery lines
ends-covered l id w r xs may u b read now lines rings h =
    let x = all-stay l id w r xs may u in turn-done (world_after w r xs) b read now (recovery_after w r xs) x.placed rings x.held x.covers lines h
