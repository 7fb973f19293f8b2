use Rattle.std.proofs.Common.{sym, subst}
use Rattle.live_desk.proofs.Prelude.{IsNext, Turn, left_from}
use Rattle.live_desk.proofs.Cursors.{next-here}
use Rattle.live_desk.proofs.cursor.turn_at.Goals as goal

pub returns-then-at-turns-clause-next : goal.returns-then-at-turns-clause-next
returns-then-at-turns-clause-next c =
    subst (λ (t : Turn). IsNext t (left_from c.args.commands c.args.turns.now c.args.at)) (sym c.index-turns-at.is)
    (next-here c.args.commands c.args.turns.now c.args.at c.index-turns-at.result c.requires c.if-at-turns.true)
