use Rattle.std.proofs.Common.{refl}
use Rattle.tasks.proofs.report.asked_report.Goals as goal

pub returns-in-Run-clause-stands : goal.returns-in-Run-clause-stands
returns-in-Run-clause-stands g c = c.run_report.ensures.stands c.args.task.now c.args.scenario.now _ c.in-Run.is

pub returns-in-Summary-clause-stands : goal.returns-in-Summary-clause-stands
returns-in-Summary-clause-stands g c = c.summary_report.ensures.stands _ c.args.scenario.now c.args.task.now c.in-Summary.is

pub returns-in-Dump-clause-stands : goal.returns-in-Dump-clause-stands
returns-in-Dump-clause-stands g c = c.dump_report.ensures.stands c.args.task.now c.in-Dump.is

pub returns-in-Turn-clause-stands : goal.returns-in-Turn-clause-stands
returns-in-Turn-clause-stands g c = c.command_report.ensures.stands c.args.task.now c.in-Turn.is refl

pub returns-in-Unknown-clause-stands : goal.returns-in-Unknown-clause-stands
returns-in-Unknown-clause-stands g c = c.unknown_report.ensures.stands c.args.task.now c.in-Unknown.is refl

pub returns-in-Plan-clause-stands : goal.returns-in-Plan-clause-stands
returns-in-Plan-clause-stands g c = c.plan_report.ensures.stands c.args.task.now c.args.scenario.now c.in-Plan.is
