use Rattle.std.proofs.Common.{◌≡◌, ◌<◌, length, List, subst, sym, All}
use Rattle.command_outcomes.proofs.Prelude.{IfOk-weaker, ServerNo, leases_by}
use Rattle.command_outcomes.proofs.Begun.{leases-within}
use Rattle.command_outcomes.proofs.jobs.permit.Goals as goal

pub returns-clause-within : goal.returns-clause-within
returns-clause-within c = λ at_i at_d.
    IfOk-weaker c.permitted_leases.result (λ list. list.items ≡ leases_by c.args.world.now c.args.book.now c.args.command c.args.planner)
    (λ list. All (λ n. n.0 < length c.args.book.now.names) list.items)
    (λ list is. subst (λ (l : List ServerNo). All (λ n. n.0 < length c.args.book.now.names) l) (sym is)
    (leases-within c.args.world.now c.args.book.now c.args.command c.servers.ensures.holds at_i at_d c.args.planner)) c.permitted_leases.ensures.list
