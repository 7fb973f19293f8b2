use Rattle.command_line.proofs.Prelude.{app_of}
use Rattle.command_line.proofs.Steps.{one_more_option}
use Rattle.command_line.proofs.options.with_options.Goals as goal

pub loop-name-preserved : goal.loop-name-preserved
loop-name-preserved c =
    one_more_option (app_of c.args.command) (app_of c.loop-name.command) (app_of c.in_ok-command.command) c.args.names.now c.loop-name.name-index _ c.loop-name-test.true c.in_ok-command.ensures c.loop-name.invariant
