use Rattle.std.proofs.Common.{◌<◌, ◌∙◌, length, subst, sym, All}
use Rattle.plan_lines.proofs.Prelude.{ServerNo, replicas-within}
use Rattle.plan_lines.proofs.branches.recovery_plan.Goals as goal

pub recovery_lines-requires : goal.recovery_lines-requires
recovery_lines-requires c =
    subst (All (λ (n : ServerNo). n.0 < length c.args.by.now.book.now.names)) (sym (c.deref.ensures.value ∙ c.in_ok-replicas.ensures))
    (replicas-within c.args.by.now.book.now c.args.failed)
