use Rattle.std.proofs.Common.{rules, ◌≡◌, map, sym, subst}
use Rattle.recovery_core.specs.Scans.{HasRoom}
use Rattle.command_outcomes.specs.HookTelling.{with_told}
use Rattle.command_outcomes.proofs.HookTold.{told-room}
use Rattle.command_outcomes.proofs.recovering.scan_by.Goals as goal

pub returns-clause-ids : goal.returns-clause-ids
returns-clause-ids c =
    let room : HasRoom c.in_ok-lines.begun.items = search rules in
    let told : c.new.result ≡ map (with_told c.args.configuration.now c.args.book.now) c.in_ok-lines.begun.items = search rules in
    subst HasRoom (sym told) (told-room c.args.configuration.now c.args.book.now c.in_ok-lines.begun.items room)
