use Rattle.std.proofs.Common.{string_bytes}
use Rattle.scenario_servers.proofs.Prelude.{hash_map_updates_text}
use Rattle.scenario_servers.proofs.TextTables.{adds_text}
use Rattle.scenario_servers.proofs.names.add_text.Goals as goal

pub returns : goal.returns
returns c =
    rw (c.in-Some-Some.is-0, c.in-Some-Some.is-1)
    (adds_text c.args.texts.now c.insert.new.self (string_bytes c.in_ok-key.key) c.in-Some-Some.text.now c.in-Some-Some.first c.in_ok-key.ensures.ok
    (hash_map_updates_text (string_bytes c.in_ok-key.key) c.args.texts.now c.insert.new.self _ c.in_ok-insert.ensures.updates))
