use Rattle.std.proofs.Common.{◌≡◌, Err, rules}
use Rattle.command_outcomes.proofs.Prelude.{busy_given, permitted, unknown_in}
use Rattle.command_outcomes.proofs.Outcomes.{refused-first}
use Rattle.command_outcomes.proofs.command.removal_refusal.Goals as goal

pub returns-in-Err : goal.returns-in-Err
returns-in-Err c =
    let said : Err c.in-Err.refusal ≡ permitted c.args.book.now c.args.command = search rules in
    refused-first (unknown_in c.args.book.now c.args.command) (busy_given c.args.book.now c.args.command.i) c.in-Err.refusal said
