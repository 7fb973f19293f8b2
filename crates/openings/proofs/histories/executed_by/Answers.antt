use Rattle.std.proofs.Common.{◌≤◌, ap, sym, subst, arith, length, ℕ}
use Rattle.openings.proofs.Prelude.{IfOk-weaker, history_at, root_of, transactions}
use Rattle.openings.proofs.Sizes.{root-parts, length-history_at, parts_at-few}
use Rattle.openings.proofs.histories.executed_by.Goals as goal

pub history_at-requires : goal.history_at-requires
history_at-requires c =
    let servers = c.args.servers.now in
    let parts = ap transactions (root-parts servers c.args.n.0 c.root_of.result c.parts_at.result.now c.root_of.ensures c.parts_at.ensures) in
    let most = length-history_at servers c.args.n.0 in
    let few = parts_at-few servers (root_of servers c.args.n.0) c.requires in
    record { parts = c.requires; fits = omega (arith, c.transactions-listed.ensures); room = omega (arith, c.transactions-listed.ensures) }

pub returns-clause-few : goal.returns-clause-few
returns-clause-few c =
    let servers = c.args.servers.now in
    let most = length-history_at servers c.args.n.0 in
    let few = parts_at-few servers (root_of servers c.args.n.0) c.requires in
    let within : length (history_at servers c.args.n.0) ≤ 4000000 = omega arith in
    IfOk-weaker c.history_at.result _ _ (λ v e. subst (λ (n : ℕ). n ≤ 4000000) (sym (ap length e)) within) c.history_at.ensures.history
