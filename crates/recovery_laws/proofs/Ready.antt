-- What is ready to be gone by stays ready: whatever is read beside, and whatever is done to servers.
use Rattle.std.proofs.Common.{◌≡◌, ℕ, true, List, refl, sym, ◌∙◌, ap, subst, Option, Some, None, IfSome}
use Rattle.recovery_laws.proofs.Prelude.{All, All-weaker, AllAllowed, AllShow, Bridge, Coord, Exchange, Grows-run, IsLead, IsReady, IsReadyStage}
use Rattle.recovery_laws.proofs.Prelude.{IsReadyWay, IsStopped, IsTarget, NamesLogging, Placed, Purpose, ServerNo, Settings, ShowsAt, Sight, Spans}
use Rattle.recovery_laws.proofs.Prelude.{Spans-run, Stage, Stopped, Task, Way, World, false≢true, gtid-run, logs-on, run, same_Some, sight_of}
use Rattle.recovery_laws.proofs.Prelude.{stopped_bridge, target-logs, with-one, with_bridge, with_way}
use Rattle.recovery_laws.proofs.Prelude.purpose
use Rattle.recovery_laws.proofs.Prelude.stage
use Rattle.recovery_laws.proofs.Prelude.task
use Rattle.recovery_laws.proofs.Prelude.way
use Rattle.recovery_laws.proofs.Prelude.JobLaws.{logs_at}
use Rattle.recovery_laws.proofs.StaysRead.{StaysRead, saw-read}

-- ---- a bridge as a reading

pub spans-logs : (w : World) (b : Bridge) → Spans w b → logs_at w b.no.0 ≡ true
spans-logs w b s = target-logs w b.no.0 b.own s.own

-- a bridge is at a position at which its server once was
pub sight-shown : (w : World) (b : Bridge) → Spans w b → ShowsAt w b.no.0 (sight_of b)
sight-shown w b s = record {
  own = λ c h. subst (λ (x : Coord). IsTarget w b.no.0 x) (same_Some b.own c h) s.own;
  logs = λ t h l. (b.own, refl);
  under = λ m h. subst (λ (x : ℕ). IsTarget w x b.exec) (same_Some b.source.0 m h) s.exec;
  set = record { server = s.own.target; there = s.own.there; within = λ uuid k h. absurd (false≢true h) };
}

pub bridge-shown : (w : World) (xs : List Sight) (b : Bridge) → AllShow w xs → Spans w b → AllShow w (with_bridge xs b)
bridge-shown w xs b shown s = with-one (ShowsAt w) xs b.no (sight_of b) shown (sight-shown w b s)

-- ---- with more that was read

pub way-read : (xs : List Sight) (by : Way) → StaysRead xs (with_way xs by)
way-read xs (way.Down b) = saw-read xs b.no (sight_of b)
way-read xs (way.Up b) = saw-read xs b.no (sight_of b)
way-read xs (way.Auto to exec) = λ n h. h
way-read xs (way.Match to exec every) = λ n h. h

module _ (w : World) (xs ys : List Sight) (more : StaysRead xs ys) where
  ready-way-more : (by : Way) → IsReadyWay w xs by → IsReadyWay w ys by
  ready-way-more (way.Auto to exec) h = record { gtid = h.gtid; logs = h.logs; read = more to.0 h.read }
  ready-way-more _ h = h

  ready-more : (t : Task) → IsReady w xs t → IsReady w ys t
  ready-more (task.Moving n by) h = ready-way-more by h
  ready-more _ h = tt

  pub queue-more : (ts : List Task) → All (IsReady w xs) ts → All (IsReady w ys) ts
  queue-more ts all = All-weaker (IsReady w xs) (IsReady w ys) ready-more ts all

  pub stopped-more : (f : ServerNo) (ds : List Stopped) → All (IsStopped w xs f) ds → All (IsStopped w ys f) ds
  stopped-more f ds all =
      All-weaker (IsStopped w xs f) (IsStopped w ys f) (λ d h. record { server = h.server; there = h.there; read = more d.no.0 h.read; logs = h.logs; spans = h.spans }) ds all

-- ---- over exchanges

module _ (w : World) (es : List Exchange) (placed : Placed w) (allowed : AllAllowed w es) where
  logs-run : (n : ℕ) → logs_at w n ≡ true → logs_at (run w es) n ≡ true
  logs-run n h = logs-on w (run w es) n (Grows-run w es placed allowed) h

  spans-run : (b : Bridge) → Spans w b → Spans (run w es) b
  spans-run b s = Spans-run w es b placed allowed s

  ready-way-run : (xs : List Sight) (by : Way) → IsReadyWay w xs by → IsReadyWay (run w es) xs by
  ready-way-run xs (way.Down b) h = spans-run b h
  ready-way-run xs (way.Up b) h = spans-run b h
  ready-way-run xs (way.Auto to exec) h = record { gtid = gtid-run w es ∙ h.gtid; logs = logs-run to.0 h.logs; read = h.read }
  ready-way-run xs (way.Match to exec every) h = logs-run to.0 h

  ready-run : (xs : List Sight) (t : Task) → IsReady w xs t → IsReady (run w es) xs t
  ready-run xs (task.Moving n by) h = ready-way-run xs by h
  ready-run xs _ h = tt

  pub queue-run : (xs : List Sight) (ts : List Task) → All (IsReady w xs) ts → All (IsReady (run w es) xs) ts
  queue-run xs ts all = All-weaker (IsReady w xs) (IsReady (run w es) xs) (ready-run xs) ts all

  pub stopped-run : (xs : List Sight) (f : ServerNo) (ds : List Stopped) → All (IsStopped w xs f) ds → All (IsStopped (run w es) xs f) ds
  stopped-run xs f ds all =
      All-weaker (IsStopped w xs f) (IsStopped (run w es) xs f) (λ d h.
      let on = Grows-run w es placed allowed d.no.0 h.server h.there in
      record {
        server = on.0;
        there = on.1;
        read = h.read;
        logs = λ l. h.logs (sym (ap (λ (x : Settings). x.logs) on.2.settings) ∙ l);
        spans = λ own e. spans-run (stopped_bridge f d own) (h.spans own e);
      }) ds all

  pub lead-run : (f : ServerNo) (o : Option Bridge) → IfSome o (IsLead w f) → IfSome o (IsLead (run w es) f)
  lead-run f None h = h
  lead-run f (Some b) h = record { spans = spans-run b h.spans; below = h.below }

  pub named-run : (u : Purpose) → NamesLogging w u → NamesLogging (run w es) u
  named-run (purpose.Intermediate s) h = logs-run s.0 h
  named-run (purpose.Takeover d) h = logs-run d.0 h
  named-run purpose.Regroup h = tt
  named-run _ h = tt

  pub stage-run : (s : Stage) → IsReadyStage w s → IsReadyStage (run w es) s
  stage-run (stage.Look n b) h = spans-run b h
  stage-run (stage.Looked n b) h = spans-run b h
  stage-run (stage.Trail n b) h = spans-run b h
  stage-run (stage.Halted n b) h = spans-run b h
  stage-run _ h = tt
