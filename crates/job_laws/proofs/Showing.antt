-- What a status has, and that it still holds later.
use Rattle.std.proofs.Common.{◌≡◌, ℕ, true, List, refl, ◌∙◌, ap, Option, Some, None, Ok, Err, Result, count_by}
use Rattle.job_laws.proofs.Prelude.{AllAllowed, Bridge, Coord, Exchange, Grows, Grows-run, IsBridged, IsTarget, Placed, Position, Position-run, Safe}
use Rattle.job_laws.proofs.Prelude.{Server, Settings, Shows, Shows-seen as Shows-answered, ShowsAt, Spans, Stands-grows, Stands-seen, Status}
use Rattle.job_laws.proofs.Prelude.{StatusFault, World, ends_by, false≢true, logs_at, logs_by, place-from, place-parts, position_of, run, same_Some}
use Rattle.job_laws.proofs.Prelude.{seen_in, server_at, status}

-- ---- what stays

-- a coordinate that has a place in a log has one as the log grows
pub Target-run : (w : World) (es : List Exchange) (n : ℕ) (c : Coord) → Placed w → AllAllowed w es → IsTarget w n c → IsTarget (run w es) n c
Target-run w es n c placed allowed t =
    let on = Grows-run w es placed allowed n t.target t.there in
    let count = count_by (ends_by c) t.target.log.log.entries in
    let kept = on.2.places c count (place-from t.target.log.log c count t.place refl) in
    record {
      target = on.0;
      there = on.1;
      logs = ap (λ (x : Settings). x.logs) on.2.settings ∙ t.logs;
      place = (place-parts on.0.log.log c count kept).0;
    }

pub Spans-run : (w : World) (es : List Exchange) (b : Bridge) → Placed w → AllAllowed w es → Spans w b → Spans (run w es) b
Spans-run w es b placed allowed s =
    record { own = Target-run w es b.no.0 b.own placed allowed s.own; exec = Target-run w es b.source.0 b.exec placed allowed s.exec }

pub logs-on : (w w' : World) (n : ℕ) → Grows w w' → logs_at w n ≡ true → logs_at w' n ≡ true
logs-on w w' n grows h = go (server_at w n) refl h
  where
    go : (o : Option Server) → server_at w n ≡ o → logs_by o ≡ true → logs_at w' n ≡ true
    go None at h = absurd (false≢true h)
    go (Some s) at h = let on = grows n s at in ap logs_by on.1 ∙ ap (λ (x : Settings). x.logs) on.2.settings ∙ h

pub Bridged-run : (w : World) (es : List Exchange) (n : ℕ) (seen : Position) → Placed w → AllAllowed w es → IsBridged w n seen → IsBridged (run w es) n seen
Bridged-run w es n seen placed allowed b = λ m own from end. Stands-grows w (run w es) n m own seen.exec (Grows-run w es placed allowed) (b m own from end)

pub ShowsAt-run : (w : World) (es : List Exchange) (n : ℕ) (seen : Position) → Placed w → AllAllowed w es → ShowsAt w n seen → ShowsAt (run w es) n seen
ShowsAt-run w es n seen placed allowed s = Position-run w es n seen.own_end seen.source seen.exec seen.set placed allowed s

-- ---- what a status shows

-- a status that was answered
answered : (w : World) (n : ℕ) (seen : Status) → seen_in (status w n) ≡ Some seen → status w n ≡ Ok seen
answered w n seen h = go (status w n) h
  where
    go : (r : Result Status StatusFault) → seen_in r ≡ Some seen → r ≡ Ok seen
    go (Ok st) e = ap Ok (same_Some st seen e)
    go (Err f) e = cc

pub Shows-seen : (w : World) (n : ℕ) (seen : Status) → Placed w → seen_in (status w n) ≡ Some seen → Shows w n seen
Shows-seen w n seen placed h = Shows-answered w n seen placed (answered w n seen h)

pub Bridged-seen : (w : World) (n : ℕ) (seen : Status) → Safe w → seen_in (status w n) ≡ Some seen → IsBridged w n (position_of seen)
Bridged-seen w n seen safe h m own from end = Stands-seen w n m seen own safe (answered w n seen h) from end
