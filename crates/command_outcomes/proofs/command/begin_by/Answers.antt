use Rattle.std.proofs.Common.{◌∙◌, sym}
use Rattle.command_outcomes.proofs.Held.{held_refused}
use Rattle.command_outcomes.proofs.command.begin_by.Goals as goal

pub returns-in-Some : goal.returns-in-Some
returns-in-Some c =
    let refused = sym c.early_refusal.ensures ∙ c.in-Some.is in
    c.refused.ensures ∙ held_refused c.args.world.now c.args.book.now c.args.numbers c.args.command c.args.planner c.in-Some.refusal refused
