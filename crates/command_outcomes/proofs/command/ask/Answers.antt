use Rattle.std.proofs.Common.{◌∙◌, List, ap}
use Rattle.asking_commands.specs.Answers.{answer_of, lines_of, permitted}
use Rattle.recovery_core.specs.KeptRows.declared.recovery.Recovery.{Recovery}
use Rattle.command_outcomes.specs.Outcomes.{asked}
use Rattle.command_outcomes.proofs.Outcomes.{asked_refused, asked_told, without-rows}
use Rattle.command_outcomes.proofs.command.ask.Goals as goal

pub returns-in-Err-Refused : goal.returns-in-Err-Refused
unfolding answer_of
returns-in-Err-Refused c =
    let said = rw c.in-Err-Refused.field-0-is at c.in-Err-Refused.ensures in
    let book = c.args.book.now in
    let t = c.args.t.now in
    c.refused.ensures ∙ asked_refused c.args.reads _ _ c.in-Err-Refused.refusal said
    ∙ ap (λ (rs : List Recovery). asked c.args.reads (permitted book t.command) (lines_of book rs t t.command.name)) c.recoveries.ensures.list

pub returns-in-Ok : goal.returns-in-Ok
unfolding answer_of
returns-in-Ok c =
    let book = c.args.book.now in
    let t = c.args.t.now in
    without-rows c.args.reads c.in-Ok.lines c.new.result.items c.new.ensures.items ∙ asked_told c.args.reads _ _ c.in-Ok.lines c.in-Ok.ensures
    ∙ ap (λ (rs : List Recovery). asked c.args.reads (permitted book t.command) (lines_of book rs t t.command.name)) c.recoveries.ensures.list
