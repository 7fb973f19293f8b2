-- A turn that reads another replica of a takeover goes on by what it shows.
use Rattle.std.proofs.Common.{◌≡◌, ℕ, Bool, true, false, cond, List, [], ◌∷◌, refl, sym, ◌∙◌, ap, subst, Option, Some, None, ◌⊎◌, inl, inr}
use Rattle.recovery_reasons.proofs.Prelude.{Bridge, IsFreedNow, IsLeftNow, IsNextStage, Job, Moment, Op, Position, ReadsOthers, Recovery, ServerNo}
use Rattle.recovery_reasons.proofs.Prelude.{Stage, Status, Taken, World, after_look, attempted, ended_by, eq-eqb, is_below, next, observed, position_of}
use Rattle.recovery_reasons.proofs.Prelude.{same_coord, saw, seen-at, seen_in, seen_of, settled_turn, spot_seen, status, trailing}
use Rattle.recovery_reasons.proofs.Prelude.by
use Rattle.recovery_reasons.proofs.Prelude.cross
use Rattle.recovery_reasons.proofs.Prelude.lost
use Rattle.recovery_reasons.proofs.Prelude.op
use Rattle.recovery_reasons.proofs.Prelude.stage
use Rattle.recovery_reasons.proofs.Prelude.taking
use Rattle.recovery_reasons.proofs.Prelude.way

module _ (w : World) (read : ℕ) (now : Moment) (x : Recovery) (n : ServerNo) (y : Bridge) where
  -- its last operation at this stage is a status
  abbrev due : Stage → Recovery
  due s = record x { stage = s; core = record x.core { ops = op.Status n None ∷ [] } }

  abbrev turn : Stage → Taken
  turn s = settled_turn w read now (due s)

  -- which shows this
  abbrev shown : Status → Job
  shown seen = next (saw (record x.core { ops = op.Status n None ∷ [] }) n seen) []

  abbrev after-it : Stage → Status → Recovery
  after-it s seen = record x { stage = s; core = shown seen }

  abbrev going : Recovery → Taken
  going z = taking.goes_on (Some (observed w read now n)) [] z

  noted : (seen : Status) → seen_of (shown seen).seen n.0 ≡ Some (position_of seen)
  noted seen = seen-at x.core.seen n (position_of seen) n.0 ∙ ap (λ (b : Bool). cond b (Some (position_of seen)) (seen_of x.core.seen n.0)) (eq-eqb n.0 n.0 refl)

  abbrev by-status : Stage → Option Status → Taken
  by-status s o = attempted w (due s) (op.Status n None) (after_look (due s).core [] n None (observed w read now n) o)

  look-read : (seen : Status) → seen_in (status w n.0) ≡ Some seen → turn (stage.Look n y) ≡ going (taking.looked (after-it (stage.Looked n y) seen) n y (Some (position_of seen)))
  look-read seen is = ap (by-status (stage.Look n y)) is ∙ ap (λ (p : Option Position). going (taking.looked (after-it (stage.Looked n y) seen) n y p)) (noted seen)

  trail-read : (seen : Status) → seen_in (status w n.0) ≡ Some seen → turn (stage.Trail n y) ≡ going (taking.halted (after-it (stage.Halted n y) seen) n y (Some (position_of seen)))
  trail-read seen is = ap (by-status (stage.Trail n y)) is ∙ ap (λ (p : Option Position). going (taking.halted (after-it (stage.Halted n y) seen) n y p)) (noted seen)

  -- the turn comes to one of two
  picks : (P : Taken → Type 0) (s : Stage) (b c : Bool) (u v : Recovery) → turn s ≡ going (cond b u v) → b ≡ c → P (going (cond c u v)) → P (turn s)
  picks P s b c u v is same h = subst P (sym (is ∙ ap (λ (a : Bool). going (cond a u v)) same)) h

  module _ (seen : Status) (is : seen_in (status w n.0) ≡ Some seen) where
    abbrev looked : Recovery
    looked = after-it (stage.Looked n y) seen

    abbrev halted : Recovery
    halted = after-it (stage.Halted n y) seen

    below-so : is_below (position_of seen) x.failed ≡ true → IsNextStage (due (stage.Look n y)) (stage.Trail n y) (trailing n y) (turn (stage.Look n y))
    below-so h =
        picks (IsNextStage (due (stage.Look n y)) (stage.Trail n y) (trailing n y)) (stage.Look n y) (is_below (position_of seen) x.failed) true
        (ended_by looked (by.Trails n y)) (ended_by looked (by.Loses n (lost.moved (spot_seen seen.source seen.exec)))) (look-read seen is) h
        (record { going = refl; made = refl; next = (refl, refl); outcome = refl })

    elsewhere-so : is_below (position_of seen) x.failed ≡ false → IsLeftNow (due (stage.Look n y)) n (lost.moved (spot_seen seen.source seen.exec)) (turn (stage.Look n y))
    elsewhere-so h =
        picks (IsLeftNow (due (stage.Look n y)) n (lost.moved (spot_seen seen.source seen.exec))) (stage.Look n y) (is_below (position_of seen) x.failed) false
        (ended_by looked (by.Trails n y)) (ended_by looked (by.Loses n (lost.moved (spot_seen seen.source seen.exec)))) (look-read seen is) h
        (record { going = refl; made = refl; lost = refl; next = (refl, refl) })

    there-so : same_coord seen.exec y.exec ≡ true
        → IsNextStage (due (stage.Trail n y)) (stage.Move n (way.Down y)) (op.Cross cross.Down n y.no ∷ op.Start n ∷ []) (turn (stage.Trail n y))
    there-so h =
        picks (IsNextStage (due (stage.Trail n y)) (stage.Move n (way.Down y)) (op.Cross cross.Down n y.no ∷ op.Start n ∷ [])) (stage.Trail n y) (same_coord seen.exec y.exec) true
        (ended_by halted (by.Joins n y)) (ended_by halted (by.Frees n (lost.behind seen.exec))) (trail-read seen is) h
        (record { going = refl; made = refl; next = (refl, refl); outcome = refl })

    late-so : same_coord seen.exec y.exec ≡ false → IsFreedNow (due (stage.Trail n y)) n (lost.behind seen.exec) (turn (stage.Trail n y))
    late-so h =
        picks (IsFreedNow (due (stage.Trail n y)) n (lost.behind seen.exec)) (stage.Trail n y) (same_coord seen.exec y.exec) false
        (ended_by halted (by.Joins n y)) (ended_by halted (by.Frees n (lost.behind seen.exec))) (trail-read seen is) h
        (record { going = refl; made = refl; lost = refl; next = (refl, refl) })

  -- it isn't reached
  unseen-look : seen_in (status w n.0) ≡ None → IsFreedNow (due (stage.Look n y)) n lost.unreachable (turn (stage.Look n y))
  unseen-look is =
      subst (IsFreedNow (due (stage.Look n y)) n lost.unreachable) (sym (ap (by-status (stage.Look n y)) is)) (record { going = refl; made = refl; lost = refl; next = (refl, refl) })

  unseen-trail : seen_in (status w n.0) ≡ None → IsFreedNow (due (stage.Trail n y)) n lost.unreachable (turn (stage.Trail n y))
  unseen-trail is =
      subst (IsFreedNow (due (stage.Trail n y)) n lost.unreachable) (sym (ap (by-status (stage.Trail n y)) is)) (record { going = refl; made = refl; lost = refl; next = (refl, refl) })

pub reads-others : (w : World) (read : ℕ) (now : Moment) (x : Recovery) → ReadsOthers w x (settled_turn w read now x)
reads-others w read now x = record {
  below = λ n y s at ops is h. subst (λ (z : Recovery). IsNextStage z (stage.Trail n y) (trailing n y) (settled_turn w read now z)) (so n (stage.Look n y) at ops) (below-so w read now x n y s is h);
  elsewhere = λ n y s at ops is h.
      subst (λ (z : Recovery). IsLeftNow z n (lost.moved (spot_seen s.source s.exec)) (settled_turn w read now z)) (so n (stage.Look n y) at ops) (elsewhere-so w read now x n y s is h);
  there = λ n y s at ops is h.
      subst (λ (z : Recovery). IsNextStage z (stage.Move n (way.Down y)) (op.Cross cross.Down n y.no ∷ op.Start n ∷ []) (settled_turn w read now z)) (so n (stage.Trail n y) at ops) (there-so w read now x n y s is h);
  late = λ n y s at ops is h. subst (λ (z : Recovery). IsFreedNow z n (lost.behind s.exec) (settled_turn w read now z)) (so n (stage.Trail n y) at ops) (late-so w read now x n y s is h);
  away = λ n y at ops is. go n y at ops is;
}
  where
    -- it is at this stage, with this operation
    so : (n : ServerNo) (s : Stage) → x.stage ≡ s → x.core.ops ≡ op.Status n None ∷ [] → record x { stage = s; core = record x.core { ops = op.Status n None ∷ [] } } ≡ x
    so n s at ops = sym (ap (λ (k : Stage). record x { stage = k }) at ∙ ap (λ (os : List Op). record x { stage = s; core = record x.core { ops = os } }) ops)

    go : (n : ServerNo) (y : Bridge) → (x.stage ≡ stage.Look n y) ⊎ (x.stage ≡ stage.Trail n y) → x.core.ops ≡ op.Status n None ∷ [] → seen_in (status w n.0) ≡ None
        → IsFreedNow x n lost.unreachable (settled_turn w read now x)
    go n y (inl at) ops is = subst (λ (z : Recovery). IsFreedNow z n lost.unreachable (settled_turn w read now z)) (so n (stage.Look n y) at ops) (unseen-look w read now x n y is)
    go n y (inr at) ops is = subst (λ (z : Recovery). IsFreedNow z n lost.unreachable (settled_turn w read now z)) (so n (stage.Trail n y) at ops) (unseen-trail w read now x n y is)
