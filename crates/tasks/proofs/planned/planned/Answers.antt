use Rattle.std.proofs.Common.{◌≡◌, ◌∙◌, ◌++◌, List, ℕ, ap, subst, sym, IfOk}
use Rattle.tasks.proofs.Prelude.{Answer, CommandTurn, planned_in, planned_text, view}
use Rattle.tasks.proofs.Planning.{planned_in_place, replied_by, told_in_place}
use Rattle.tasks.proofs.planned.planned.Goals as goal

pub returns-in_default : goal.returns-in_default
returns-in_default c =
    let replied = replied_by c.args.own.now c.args.engine.now c.lasting-lasting.result c.in_ok-begun.begun c.unwrap_or-reply.result c.unwrap_or-reply.ensures c.lasting-lasting.ensures c.in_ok-begun.ensures.reply in
    subst (λ (a : Answer). IfOk c.told_report.result (λ r. view r ≡ a))
    (told_in_place c.args.names.now c.args.own.now c.args.engine.now c.begin.new.engine c.unwrap_or-reply.result c.in_ok-begun.ensures.state replied (sym c.in_default.ensures))
    c.told_report.ensures

pub returns : goal.returns
returns c =
    let replied = replied_by c.args.own.now c.args.engine.now c.lasting-lasting.result c.in_ok-begun.begun c.unwrap_or-reply.result c.unwrap_or-reply.ensures c.lasting-lasting.ensures c.in_ok-begun.ensures.reply in
    let text = λ (t : CommandTurn). planned_text c.args.names.now (planned_in c.begin.new.engine t.command c.in-Some.job) in
    planned_in_place c.args.names.now c.args.own.now c.args.engine.now c.begin.new.engine c.unwrap_or-reply.result c.in_ok-begun.ensures.state replied c.in-Some.job
    c.print_planned.new.out.items c.new.result.items (sym c.in-Some.ensures)
    (c.in_ok-print_planned.ensures ∙ (ap (λ (v : List ℕ). v ++ text c.as_turn.result.now) c.new-out.ensures.items ∙ ap text c.as_turn.ensures)) c.new.ensures.items
