use Rattle.std.proofs.Common.{◌≡◌, true, false, rules}
use Rattle.scenario_servers.proofs.Prelude.{has_source, view}
use Rattle.scenario_servers.proofs.server.known_keys.Goals as goal

pub returns-then-has_source : goal.returns-then-has_source
returns-then-has_source c =
    let has : has_source (view c.args.object.now) ≡ true = search rules in
    rw has c.only_keys.ensures

pub returns-else-has_source : goal.returns-else-has_source
returns-else-has_source c =
    let has : has_source (view c.args.object.now) ≡ false = search rules in
    rw has c.only_keys-else-has_source.ensures
