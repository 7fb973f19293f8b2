use Rattle.std.proofs.Common.{◌∙◌, true}
use Rattle.orch_core.proofs.States.{with_none}
use Rattle.orch_core.proofs.engine.Engine.restart.Goals as goal

pub returns-clause-kept : goal.returns-clause-kept
returns-clause-kept g c = c.in_ok-start_again.ensures.kept ∙ with_none c.new.result.items true (g.K.Keeper.kept c.args.keeper.now) c.args.self.now c.new.ensures.items
