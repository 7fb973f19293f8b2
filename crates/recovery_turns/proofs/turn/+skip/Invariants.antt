use Rattle.recovery_turns.proofs.turn.+skip.Given as goal

abbrev pub decreases-skip : goal.decreases-skip
decreases-skip g l = l.count
