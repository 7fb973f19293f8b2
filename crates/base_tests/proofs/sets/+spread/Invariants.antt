use Rattle.base_tests.proofs.sets.+spread.Given as goal

abbrev pub decreases-spread : goal.decreases-spread
decreases-spread l = l.len
