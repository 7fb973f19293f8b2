use Rattle.scenario_reader.specs.AliasTable.{IsAliasTable}
use Rattle.scenario_reader.proofs.AliasTables.{answered-same}
use Rattle.scenario_reader.proofs.answers.answered.Goals as goal

pub returns : goal.returns
returns c =
    let tabled : IsAliasTable c.in_ok-aliases.aliases c.args.aliases.now = rw (← c.as_slice.ensures) c.in_ok-aliases.ensures in
    let one = answered-same c.in_ok-aliases.aliases c.args.aliases.now c.args.texts.master c.args.servers.now c.in_ok-master.master tabled c.in_ok-master.ensures in
    let other = answered-same c.in_ok-aliases.aliases c.args.aliases.now c.args.texts.intermediate c.args.servers.now c.in_ok-intermediate.intermediate tabled c.in_ok-intermediate.ensures in
    cc
