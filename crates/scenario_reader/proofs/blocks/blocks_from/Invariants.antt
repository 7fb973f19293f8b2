use Rattle.scenario_reader.proofs.Prelude.{AreReadTo, block_in}
use Rattle.scenario_reader.proofs.blocks.blocks_from.Given as goal

abbrev pub invariant-loop-label : goal.invariant-loop-label
invariant-loop-label l = AreReadTo block_in l.members.entries l.label-iterator l.blocks.items
