use Rattle.std.proofs.Common.{rules, refl, sym, ap, ◌∙◌, is_some}
use Rattle.scenario_servers.proofs.NameTables.{adds_again, adds_name}
use Rattle.scenario_servers.proofs.names.add_name.Goals as goal

pub returns-in_ok-insert-in-Some-2 : goal.returns-in_ok-insert-in-Some-2
returns-in_ok-insert-in-Some-2 c =
    adds_again c.args.numbers.now c.insert.new.self c.insert-in-Some-2.new.self (record { 0 = c.in_ok-copy.field-0 }) (record { 0 = c.in_ok-copy-in-Some-2.field-0 }) c.in-Some.name.now _ c.args.number c.in-Some-2.first
    (rw c.in-Some.is refl) (search rules) (search rules) (sym c.in_ok-first.ensures.old ∙ c.in-Some-2.is) (λ name. c.in_ok-first.ensures.updates.0 (record { 0 = name })) (λ name. c.in_ok-insert-in-Some-2.ensures.updates.0 (record { 0 = name }))

pub returns-in-None : goal.returns-in-None
returns-in-None c =
    adds_name c.args.numbers.now c.insert.new.self (record { 0 = c.in_ok-copy.field-0 }) c.in-Some.name.now _ c.args.number (rw c.in-Some.is refl) (search rules) (ap is_some (sym c.in_ok-first.ensures.old ∙ c.in-None.is))
    (λ name. c.in_ok-first.ensures.updates.0 (record { 0 = name }))
