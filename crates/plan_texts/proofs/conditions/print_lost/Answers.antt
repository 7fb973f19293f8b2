use Rattle.std.proofs.Common.{◌≡◌, ◌++◌, append_assoc, subst, sym, OnOk}
use Rattle.plan_texts.specs.Conditions.{lost_words}
use Rattle.plan_texts.specs.declared.line.Apart.{Apart}
use Rattle.plan_texts.proofs.conditions.print_lost.Goals as goal

pub returns-in_ok-print_lettered-in-Behind : goal.returns-in_ok-print_lettered-in-Behind
returns-in_ok-print_lettered-in-Behind c =
    subst (λ (a : Apart). OnOk c.print_passes.result (c.print_passes.new.out.items ≡ c.args.out.now.items ++ lost_words c.args.order.now c.args.no c.args.beside a))
    (sym c.in-Behind.is)
    (simp append_assoc (simp (c.in_ok-print_lettered-in-Behind.ensures, append_assoc) at c.print_passes.ensures))

pub returns-in_ok-print_lettered-in-Ahead : goal.returns-in_ok-print_lettered-in-Ahead
returns-in_ok-print_lettered-in-Ahead c =
    subst
    (λ (a : Apart). OnOk c.print_passes-in-Ahead.result (c.print_passes-in-Ahead.new.out.items ≡ c.args.out.now.items ++ lost_words c.args.order.now c.args.no c.args.beside a))
    (sym c.in-Ahead.is)
    (simp append_assoc (simp (c.in_ok-print_lettered-in-Ahead.ensures, append_assoc) at c.print_passes-in-Ahead.ensures))

pub returns-in_ok-print_lettered-in-Refused : goal.returns-in_ok-print_lettered-in-Refused
returns-in_ok-print_lettered-in-Refused c =
    subst
    (λ (a : Apart). OnOk c.print_passes-in-Refused.result (c.print_passes-in-Refused.new.out.items ≡ c.args.out.now.items ++ lost_words c.args.order.now c.args.no c.args.beside a))
    (sym c.in-Refused.is)
    (simp append_assoc (simp (c.in_ok-print_lettered-in-Refused.ensures, append_assoc) at c.print_passes-in-Refused.ensures))
