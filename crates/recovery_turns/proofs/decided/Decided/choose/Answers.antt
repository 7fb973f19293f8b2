use Rattle.std.proofs.Common.{sym, ◌∙◌, length}
use Rattle.recovery_turns.proofs.Prelude.{decided_on}
use Rattle.recovery_turns.proofs.Chosen.{chosen-there}
use Rattle.recovery_turns.proofs.decided.Decided.choose.Goals as goal

pub promote-requires-clause-chosen : goal.promote-requires-clause-chosen
promote-requires-clause-chosen c =
    chosen-there (length c.args.by.now.book.now.names) c.args.by.now.world.now c.args.by.now.book.now c.args.by.now.moment _ (decided_on c.args.of.now c.args.self.now).drained
    c.drained-drained.result.now c.in-Some.chosen c.drained-drained.ensures (sym c.in_ok-chosen_of.ensures ∙ c.in-Some.is) c.requires.drained
