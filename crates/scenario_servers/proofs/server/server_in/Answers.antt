use Rattle.std.proofs.Common.{◌∙◌, sym}
use Rattle.scenario_servers.proofs.Absent.{plain-server}
use Rattle.scenario_servers.proofs.Prelude.{members_view, view}
use Rattle.scenario_servers.proofs.server.server_in.Goals as goal

pub returns-then-has_only : goal.returns-then-has_only
returns-then-has_only c =
    rw (plain-server c.args.gtid c.args.names.now c.args.uuids.now c.args.number (view c.args.value.now) (members_view c.in_ok-members.members.now.entries) c.in_ok-members.ensures (sym c.has_only.ensures ∙ c.if-has_only.true))
    c.plain_from.ensures
