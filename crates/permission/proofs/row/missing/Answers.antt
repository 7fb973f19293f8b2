use Rattle.permission.proofs.Missing.{missing-is}
use Rattle.permission.proofs.row.missing.Goals as goal

pub returns : goal.returns
returns c =
    missing-is c.args.uuid c.args.set.now c.in_ok-own.own c.args.other.now c.in_ok-missing.missing c.ranges.uuid.fits c.show_order.ensures c.in_ok-missing.ensures.set
    c.in_ok-own.ensures.has c.in_ok-missing.ensures.has
