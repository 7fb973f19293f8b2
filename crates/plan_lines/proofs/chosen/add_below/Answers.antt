use Rattle.std.proofs.Common.{◌∙◌}
use Rattle.plan_lines.proofs.Prelude.{ground_by, lot_for}
use Rattle.plan_lines.proofs.Within.{followers-there}
use Rattle.plan_lines.proofs.chosen.add_below.Goals as goal

pub last_lines-requires-clause-followers : goal.last_lines-requires-clause-followers
last_lines-requires-clause-followers c =
    followers-there c.args.by.now.book.now c.args.p.now.no (lot_for c.args.means (ground_by c.args.by.now) c.args.failed c.args.p.now) c.args.others.now c.deref.result.now
    (c.deref.ensures.value ∙ c.in_ok-followers.ensures) c.requires.others
