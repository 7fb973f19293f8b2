use Rattle.std.proofs.Common.{◌≡◌, ap, ◌∙◌, true, length}
use Rattle.regroup.proofs.Prelude.{IfOk-weaker, are_named, plan_of, regroup_command}
use Rattle.regroup.proofs.Named.{plan-named}
use Rattle.regroup.proofs.plans.plan.Goals as goal

pub returns-clause-named : goal.returns-clause-named
returns-clause-named c = λ at_i at_d.
    IfOk-weaker c.plan_of.result (λ ops. ops.items ≡ plan_of c.args.world.now c.args.book.now c.args.command)
    (λ ops. are_named (length c.args.book.now.names) ops.items ≡ true)
    (λ ops is. ap (are_named (length c.args.book.now.names)) is ∙ plan-named c.args.world.now c.args.book.now (regroup_command c.args.command.name) c.args.command at_i at_d) c.plan_of.ensures
