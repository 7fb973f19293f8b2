use Rattle.std.proofs.Common.{◌≡◌, ap, ◌∙◌, true, length}
use Rattle.moves_gtid.proofs.Prelude.{IfOk-weaker, are_named, gtid_command, plan_of}
use Rattle.moves_gtid.proofs.Named.{plan-named}
use Rattle.moves_gtid.proofs.plans.plan.Goals as goal

pub returns-clause-named : goal.returns-clause-named
returns-clause-named c = λ at_i at_d.
    IfOk-weaker c.plan_of.result (λ ops. ops.items ≡ plan_of c.args.book.now c.args.command)
    (λ ops. are_named (length c.args.book.now.names) ops.items ≡ true)
    (λ ops is. ap (are_named (length c.args.book.now.names)) is ∙ plan-named c.args.book.now (gtid_command c.args.command.name) c.args.command c.servers.ensures.holds at_i at_d) c.plan_of.ensures
