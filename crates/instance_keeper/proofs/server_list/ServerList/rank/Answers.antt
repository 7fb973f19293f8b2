use Rattle.std.proofs.Common.{◌<◌, length, arith, rules}
use Rattle.instance_keeper.proofs.Ranked.{ranks_reach, rank_in}
use Rattle.instance_keeper.proofs.server_list.ServerList.rank.Goals as goal

pub index-requires : goal.index-requires
index-requires c =
    let below : c.args.no.0 < length c.self.inside.settings.items = search rules in
    let long = ranks_reach c.self.inside.settings.items c.self.inside.ranks.items c.self.invariant.ranked in
    omega (arith, below, long)

pub returns : goal.returns
returns c =
    let below : c.args.no.0 < length c.self.inside.settings.items = search rules in
    let at = rank_in c.self.inside.settings.items c.self.inside.ranks.items c.args.no.0 c.index.result.now c.self.invariant.ranked below in
    search (rules, at)
