use Rattle.std.proofs.Common.{◌≡◌, ap, ◌∙◌, true, length}
use Rattle.pseudo_match.proofs.Prelude.{IfOk-weaker, are_named, plan_of, pseudo_command}
use Rattle.pseudo_match.proofs.Named.{plan-named}
use Rattle.pseudo_match.proofs.plans.plan.Goals as goal

pub returns-clause-named : goal.returns-clause-named
returns-clause-named c = λ at_i at_d.
    IfOk-weaker c.plan_of.result (λ ops. ops.items ≡ plan_of c.args.book.now c.args.every c.args.command)
    (λ ops. are_named (length c.args.book.now.names) ops.items ≡ true)
    (λ ops is. ap (are_named (length c.args.book.now.names)) is ∙ plan-named c.args.book.now c.args.every (pseudo_command c.args.command.name) c.args.command at_i) c.plan_of.ensures
