use Rattle.std.proofs.Common.{◌≡◌, Some, length}
use Rattle.job_plans.proofs.Prelude.{Server, is_mark_there, last_below, logged_by, server_at}
use Rattle.job_plans.proofs.matching.last_mark.Given as goal

-- none was found after
abbrev pub invariant-loop-k : goal.invariant-loop-k
invariant-loop-k l =
    (s : Server) → server_at l.world l.no.0 ≡ Some s → last_below (λ k. is_mark_there l.every (logged_by s k)) (length s.history.txns) ≡ last_below (λ k. is_mark_there l.every (logged_by s k)) l.k
