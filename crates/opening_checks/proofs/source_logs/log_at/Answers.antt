use Rattle.std.proofs.Common.{◌≡◌, ◌∙◌, ap, sym, subst, All}
use Rattle.opening_checks.proofs.Prelude.{HasSize, IfOk-weaker, history_at, history_at-sized, log_by, log_in}
use Rattle.opening_checks.proofs.source_logs.log_at.Goals as goal

pub laid_log-requires-clause-sizes : goal.laid_log-requires-clause-sizes
laid_log-requires-clause-sizes c =
    let is : c.deref.result.now ≡ history_at c.args.servers.now c.args.n.0 = c.deref.ensures.value ∙ c.in_ok-history.ensures.history in
    subst (All HasSize) (sym is) (history_at-sized c.args.servers.now c.args.n.0 c.requires.parts)

pub returns : goal.returns
returns c =
    let servers = c.args.servers.now in
    let is : c.deref.result.now ≡ history_at servers c.args.n.0 = c.deref.ensures.value ∙ c.in_ok-history.ensures.history in
    let at = ap (log_in servers c.args.n.0) c.requires.at in
    IfOk-weaker c.laid_log.result _ _ (λ l e. e ∙ ap (log_by c.args.init.now) is ∙ sym at) c.laid_log.ensures.log
