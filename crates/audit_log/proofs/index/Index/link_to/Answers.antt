use Rattle.std.proofs.Common.{◌≤◌, ℕ, List, subst, All, IfSome}
use Rattle.audit_log.proofs.Prelude.{IsClear}
use Rattle.audit_log.proofs.index.Index.link_to.Goals as goal

pub returns-clause-clear : goal.returns-clause-clear
returns-clause-clear c =
    subst (λ (cluster : List ℕ). IfSome c.clear_from.result (λ from. (now : ℕ) → from ≤ now → All (IsClear cluster now) c.args.recoveries.now))
    c.as_str-cluster.ensures c.clear_from.ensures
