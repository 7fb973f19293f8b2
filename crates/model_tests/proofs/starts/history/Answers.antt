use Rattle.std.proofs.Common.{◌≤◌, length, sym, subst, List}
use Rattle.openings.specs.Servers.{history_at}
use Rattle.openings.specs.Taking.{PartsInRange}
use Rattle.openings.specs.declared.init.ServerInit.{ServerInit}
use Rattle.model_tests.proofs.CheckedOnes.{checked-parts, checked-few}
use Rattle.model_tests.proofs.starts.history.Goals as goal

pub history_at-requires-clause-parts : goal.history_at-requires-clause-parts
history_at-requires-clause-parts c = subst PartsInRange (sym c.servers.ensures.value) (checked-parts c.args.opening.now c.servers.ensures.checked)

pub history_at-requires-clause-fits : goal.history_at-requires-clause-fits
history_at-requires-clause-fits c =
    subst (λ (servers : List ServerInit). length (history_at servers c.args.n) ≤ 4000000) (sym c.servers.ensures.value) (checked-few c.args.opening.now c.servers.ensures.checked c.args.n)
