-- The logs and the coordinates of the servers of a dump.
use Rattle.std.proofs.Common.{[], ◌≡◌, ◌∙◌, ℕ, Bool, true, false, cond, List, refl, sym, ap, Option, Some, None}
use Rattle.read_back_laws.proofs.Prelude.{Attached, Detached, IsBare, IsTidy, Safe, Server, ServerInit, ServerNo, SourceState, Without, World, exec_of}
use Rattle.read_back_laws.proofs.Prelude.{flush_points, history_at, init_by, init_of, laid, log_at, log_by, log_in, opened, read_of, server_at, source_in}
use Rattle.read_back_laws.proofs.Histories.{history-own}
use Rattle.read_back_laws.proofs.Inits.{init-at, init-log, inits}
use Rattle.read_back_laws.proofs.Layouts.{laid-own_points}

-- the position of a server without a source
pub bare-exec : (inits : List ServerInit) (s : Server) (o : Option ServerNo) → (o ≡ None → IsBare s) → exec_of inits (init_by s o) ≡ s.exec
bare-exec inits s None bare = sym (bare refl).exec
bare-exec inits s (Some m) bare = refl

pub bare-read : (inits : List ServerInit) (s : Server) (o : Option ServerNo) → (o ≡ None → IsBare s) → read_of inits (init_by s o) ≡ s.read
bare-read inits s None bare = sym (bare refl).read
bare-read inits s (Some m) bare = refl

pub without : (x : SourceState) → source_in x ≡ None → x ≡ Without
without Without none = refl
without (Attached m) none = cc
without (Detached m) none = cc

module _ (w : World) (safe : Safe w) (tidy : IsTidy w) where
  log-by_own : (n : ℕ) (s : Server) → server_at w n ≡ Some s → (b : Bool) → s.settings.logs ≡ b
      → cond b (laid s.settings.limit (cond b (flush_points s.settings.limit s.log.log) []) s.history.txns) (opened s.settings.limit) ≡ s.log.log
  unfolding IsTidy
  log-by_own n s at true logs =
      ap (λ limit. laid limit (flush_points limit s.log.log) s.history.txns) (sym (tidy n s at).limit)
      ∙ laid-own_points s.history.txns s.log.log (safe.laid n s at logs)
  log-by_own n s at false silent = sym ((tidy n s at).unlogged silent)

  -- the log that is laid from what is given of a server is its own
  pub log-own : (n : ℕ) (s : Server) → server_at w n ≡ Some s → log_by (init_of s) (history_at (inits w) n) ≡ s.log.log
  log-own n s at =
      ap (log_by (init_of s)) (history-own w safe n s at) ∙ init-log s s.history.txns
      ∙ log-by_own n s at s.settings.logs refl

  pub log-given : (n : ℕ) (s : Server) → server_at w n ≡ Some s → log_at (inits w) n ≡ s.log.log
  log-given n s at = ap (log_in (inits w) n) (init-at w n s at) ∙ log-own n s at

  pub bare-own : (n : ℕ) (s : Server) → server_at w n ≡ Some s → source_in s.source ≡ None → IsBare s
  unfolding IsTidy
  bare-own n s at none = (tidy n s at).bare (without s.source none)

  -- its coordinates are its own
  pub exec-own : (n : ℕ) (s : Server) → server_at w n ≡ Some s → exec_of (inits w) (init_of s) ≡ s.exec
  unfolding init_of
  exec-own n s at = bare-exec (inits w) s (source_in s.source) (bare-own n s at)

  pub read-own : (n : ℕ) (s : Server) → server_at w n ≡ Some s → read_of (inits w) (init_of s) ≡ s.read
  unfolding init_of
  read-own n s at = bare-read (inits w) s (source_in s.source) (bare-own n s at)
