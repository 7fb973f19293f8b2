use Rattle.std.proofs.Common.{sym, subst}
use Rattle.opening_checks.proofs.Prelude.{InRange}
use Rattle.opening_checks.proofs.Flawed.{in_range}
use Rattle.opening_checks.proofs.opening.OpeningCheckedOpening.check.Goals as goal

pub check_servers-requires : goal.check_servers-requires
check_servers-requires c = subst InRange (sym c.deref.ensures.value) (in_range c.args.servers.items c.args.gtid c.requires)
