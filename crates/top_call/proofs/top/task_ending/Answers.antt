use Rattle.top_call.proofs.Runs.{asked_in_task}
use Rattle.top_call.proofs.top.task_ending.Goals as goal

pub task_report-requires-clause-asked : goal.task_report-requires-clause-asked
task_report-requires-clause-asked g c = asked_in_task c.args.places.now _ c.args.scenario.now _ c.requires.words c.requires.asks c.names-names.ensures c.in-Ok.ensures
