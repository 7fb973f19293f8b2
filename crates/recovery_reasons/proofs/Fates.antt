-- Nobody is lost because none may be promoted, unless nobody is found.
use Rattle.std.proofs.Common.{◌≡◌, Bool, true, false, cond, List, [], ◌∷◌, ◌++◌, map, refl, sym, ap, Option, Some, None, ◌==◌}
use Rattle.recovery_reasons.proofs.Prelude.{All-append, All-cons, All-head, All-nil, All-push, All-tail, AllFit, BookState, Bridge, Cause, Fate}
use Rattle.recovery_reasons.proofs.Prelude.{Group, Loss, LostReplica, Lot, Means, Miss, Moment, Position, Purpose, ServerNo, Stage, Stopped, Way, Why}
use Rattle.recovery_reasons.proofs.Prelude.{World, fate, fate_of_drain, fate_of_errant, fate_of_trail, ground_of, group_of, is_below, is_unfit, late}
use Rattle.recovery_reasons.proofs.Prelude.{loss_of, losses_in, lost_on_way, lost_or_fails, lot_by, lot_by_group, lot_of, marked, match_fate}
use Rattle.recovery_reasons.proofs.Prelude.{missed_fate, move_fate, own_end_of, same_Some, same_coord, spot_seen, stay_of, stray, way_fate}
use Rattle.recovery_reasons.proofs.Prelude.{why_missed}
use Rattle.recovery_reasons.proofs.Prelude.cause
use Rattle.recovery_reasons.proofs.Prelude.deciding
use Rattle.recovery_reasons.proofs.Prelude.group
use Rattle.recovery_reasons.proofs.Prelude.lost
use Rattle.recovery_reasons.proofs.Prelude.means
use Rattle.recovery_reasons.proofs.Prelude.miss
use Rattle.recovery_reasons.proofs.Prelude.purpose
use Rattle.recovery_reasons.proofs.Prelude.stage
use Rattle.recovery_reasons.proofs.Prelude.taking
use Rattle.recovery_reasons.proofs.Prelude.way

-- ---- the lost

abbrev pub IsFitLost : LostReplica → Type 0
IsFitLost l = is_unfit l.why ≡ false

pub one-more : (xs : List LostReplica) (n : ServerNo) (y : Why) → AllFit xs → is_unfit y ≡ false → AllFit (xs ++ record { no = n; why = y; detached = false } ∷ [])
one-more xs n y all fit = All-push IsFitLost xs (record { no = n; why = y; detached = false }) all fit

pub fit-lots : (lot : Stopped → Lot) → ((s : Stopped) → AllFit (stay_of s (lot s))) → (ss : List Stopped) → AllFit (losses_in lot ss)
fit-lots lot each [] = All-nil IsFitLost
fit-lots lot each (s ∷ ss) = All-append IsFitLost (stay_of s (lot s)) (losses_in lot ss) (each s) (fit-lots lot each ss)

-- beside the chosen one each goes some way, or is lost as `ahead` or `behind`
fit-lot : (w : World) (b : BookState) (now : Moment) (f : ServerNo) (p s : Stopped) → AllFit (stay_of s (lot_of (ground_of w b now) f p s))
fit-lot w b now f p s = go w.gtid
  where
    single : (y : Why) → is_unfit y ≡ false → AllFit (record { no = s.no; why = y; detached = false } ∷ [])
    single y fit = All-cons IsFitLost (record { no = s.no; why = y; detached = false }) [] fit (All-nil IsFitLost)

    by-group : (g : Group) → AllFit (stay_of s (lot_by_group p.no f s g))
    by-group (group.Follow at) = All-nil IsFitLost
    by-group group.Ahead = single (lost.ahead s.exec) refl
    by-group group.Behind = single (lost.behind s.exec) refl

    go : (a : Bool) → AllFit (stay_of s (cond a (deciding.Goes (way.Auto p.no s.exec)) (lot_by_group p.no f s (group_of b.rings p.no (own_end_of p) p.exec f s.exec))))
    go true = All-nil IsFitLost
    go false = by-group (group_of b.rings p.no (own_end_of p) p.exec f s.exec)

pub fit-lots-by : (u : Means) (w : World) (b : BookState) (now : Moment) (f : ServerNo) (p s : Stopped) → AllFit (stay_of s (lot_by u (ground_of w b now) f p s))
fit-lots-by means.Bridges w b now f p s = fit-lot w b now f p s
fit-lots-by (means.Matches every) w b now f p s = All-nil IsFitLost

pub fit-marked : (n : ServerNo) (xs : List LostReplica) → AllFit xs → AllFit (map (marked n) xs)
fit-marked n [] all = All-nil IsFitLost
fit-marked n (l ∷ ls) all = All-cons IsFitLost (marked n l) (map (marked n) ls) (go (l.no.0 == n.0)) (fit-marked n ls (All-tail IsFitLost l ls all))
  where
    go : (a : Bool) → IsFitLost (cond a (record l { detached = true }) l)
    go true = All-head IsFitLost l ls all
    go false = All-head IsFitLost l ls all

pub fit-stray : (f : ServerNo) (o : Option Position) (y : Why) → stray f o ≡ Some y → is_unfit y ≡ false
fit-stray f None y e = ap is_unfit (sym (same_Some lost.unreachable y e))
fit-stray f (Some s) y e = go (is_below s f) e
  where
    go : (a : Bool) → cond a None (Some (lost.moved (spot_seen s.source s.exec))) ≡ Some y → is_unfit y ≡ false
    go true h = cc
    go false h = ap is_unfit (sym (same_Some (lost.moved (spot_seen s.source s.exec)) y h))

pub fit-late : (x : Bridge) (o : Option Position) (y : Why) → late x o ≡ Some y → is_unfit y ≡ false
fit-late x None y e = ap is_unfit (sym (same_Some lost.unreachable y e))
fit-late x (Some s) y e = go (same_coord s.exec x.exec) e
  where
    go : (a : Bool) → cond a None (Some (lost.behind s.exec)) ≡ Some y → is_unfit y ≡ false
    go true h = cc
    go false h = ap is_unfit (sym (same_Some (lost.behind s.exec) y h))

-- no failing operation means one that may not be promoted
abbrev pub FitFate : Fate → Type 0
FitFate (taking.Loses n y) = is_unfit y ≡ false
FitFate (taking.Frees n y) = is_unfit y ≡ false
FitFate _ = Unit {0}

fit-drain : (n : ServerNo) (c : Cause) → FitFate (fate_of_drain n c)
fit-drain n (cause.Unreachable m) = refl
fit-drain n c = tt

fit-trail : (w : World) (n : ServerNo) (c : Cause) → FitFate (fate_of_trail w n c)
fit-trail w n (cause.Unreachable m) = refl
fit-trail w n (cause.WaitSpent m) = refl
fit-trail w n c = tt

fit-way : (u : Purpose) (n : ServerNo) (y : Why) → is_unfit y ≡ false → FitFate (lost_on_way u n y)
fit-way purpose.Regroup n y h = h
fit-way _ n y h = h

fit-errant : (u : Purpose) (n : ServerNo) (by : Way) → FitFate (fate_of_errant u n by)
fit-errant u n (way.Auto to exec) = fit-way u n (lost.ahead exec) refl
fit-errant u n _ = tt

abbrev unfit_why : Option Why → Bool
unfit_why None = false
unfit_why (Some y) = is_unfit y

fit-why : (w : World) (n : ServerNo) (by : Way) (m : Miss) → unfit_why (why_missed w n by m) ≡ false
fit-why w n by (miss.Unreachable k) = refl
fit-why w n by _ = refl

fit-missed : (w : World) (u : Purpose) (n : ServerNo) (by : Way) (m : Miss) → FitFate (missed_fate w u n by m)
fit-missed w u n by m = go (why_missed w n by m) (fit-why w n by m)
  where
    go : (o : Option Why) → unfit_why o ≡ false → FitFate (lost_or_fails u n o)
    go None h = tt
    go (Some y) h = fit-way u n y h

fit-move : (w : World) (u : Purpose) (n : ServerNo) (by : Way) (l : Option Loss) → FitFate (move_fate w u n by l)
fit-move w u n by None = tt
fit-move w u n by (Some taking.Spent) = tt
fit-move w u n by (Some taking.Differs) = fit-errant u n by
fit-move w u n by (Some (taking.Missed m)) = fit-missed w u n by m

fit-match : (n : ServerNo) (l : Option Loss) → FitFate (match_fate n l)
fit-match n None = tt
fit-match n (Some taking.Spent) = tt
fit-match n (Some taking.Differs) = tt
fit-match n (Some (taking.Missed m)) = refl

fit-by : (w : World) (u : Purpose) (n : ServerNo) (by : Way) (l : Option Loss) → FitFate (way_fate w u n by l)
fit-by w u n (way.Match to exec every) l = fit-match n l
fit-by w u n x l = fit-move w u n x l

pub fit-fate : (w : World) (u : Purpose) (s : Stage) (c : Cause) → FitFate (fate w u s c)
fit-fate w u (stage.Drain n) c = fit-drain n c
fit-fate w u (stage.Move n by) c = fit-by w u n by (loss_of c)
fit-fate w u (stage.Join n p) c = refl
fit-fate w u (stage.Look n x) c = fit-trail w n c
fit-fate w u (stage.Trail n x) c = fit-trail w n c
fit-fate w u s c = tt
