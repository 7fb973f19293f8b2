use Rattle.std.proofs.Common.{◌∙◌, ap}
use Rattle.scenario_generator.proofs.Prelude.{server_text}
use Rattle.scenario_generator.proofs.Texts.{printed, replica_text, root_text, two_printed}
use Rattle.scenario_generator.proofs.server.print_server.Goals as goal

pub returns-in_ok-print_between-in-Root : goal.returns-in_ok-print_between-in-Root
returns-in_ok-print_between-in-Root c =
    printed _ _ _ c.args.out.now.items _ _ _ c.in_ok-print_between-in-Root.ensures (ap (server_text c.args.no) c.in-Root.is ∙ root_text c.args.no) c.print_between-in-Root.ensures

pub returns-in_ok-print_between-in-Replica : goal.returns-in_ok-print_between-in-Replica
returns-in_ok-print_between-in-Replica c =
    printed _ _ _ c.args.out.now.items _ _ _
    (two_printed _ _ c.args.out.now.items _ _ c.in_ok-extend_from_slice-in-Replica.ensures.items (two_printed _ _ _ _ _ c.in_ok-print_number-in-Replica.ensures c.in_ok-print_between-in-Replica.ensures))
    (ap (server_text c.args.no) c.in-Replica.is ∙ replica_text c.args.no c.in-Replica.source c.in-Replica.executed) c.print_between-in-Replica-2.ensures
