use Rattle.std.proofs.Common.{◌≡◌, Err, rules}
use Rattle.command_outcomes.proofs.Outcomes.{refused-first}
use Rattle.command_outcomes.proofs.Prelude.{permitted, unknown_in}
use Rattle.command_outcomes.specs.Jobs.{lead_of}
use Rattle.command_outcomes.specs.Outcomes.{early_about}
use Rattle.command_outcomes.proofs.command.early_refusal.Goals as goal

pub returns-in-Err : goal.returns-in-Err
returns-in-Err c =
    let b = c.args.book.now in
    let given = c.args.command in
    let said : Err c.in-Err.refusal ≡ permitted b given = search rules in
    refused-first (unknown_in b given) (early_about b (lead_of c.args.planner) given.i given.d) c.in-Err.refusal said
