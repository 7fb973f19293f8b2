use Rattle.std.proofs.Common.{◌≡◌, ◌<◌, ◌+◌, ◌-◌, length, drop, arith, refl}
use Rattle.std.proofs.Math.Seq.{drop-length}
use Rattle.std.proofs.lemmas.Map.Text.{hash_map_updates_str}
use Rattle.scenario_reader.specs.AliasTable.{IsAliasTable}
use Rattle.scenario_reader.proofs.AliasTables.{alias-more}
use Rattle.scenario_reader.proofs.aliases.table_of.Goals as goal

pub loop-n-init : goal.loop-n-init
loop-n-init c = λ cluster. rw (drop-length c.args.aliases.now, c.new-table.ensures.empty) refl

pub loop-n-preserved : goal.loop-n-preserved
loop-n-preserved c =
    let lt : c.loop-n.n - 1 < length c.args.aliases.now = omega (arith, c.loop-n.auto.n) in
    let same : c.loop-n.n - 1 + 1 ≡ c.loop-n.n = omega arith in
    let tabled : IsAliasTable c.loop-n.table (drop (c.loop-n.n - 1 + 1) c.args.aliases.now) = rw same c.loop-n.invariant in
    alias-more c.loop-n.table c.insert.new.self c.args.aliases.now (c.loop-n.n - 1) c.index-aliases-n.result c.as_str.result.now c.as_str-in-loop-n.result lt c.index-aliases-n.is c.as_str.ensures c.as_str-in-loop-n.ensures
    (hash_map_updates_str c.as_str.result.now c.loop-n.table c.insert.new.self _ c.in_ok-insert.ensures.updates) tabled

pub returns : goal.returns
returns c =
    let none : c.loop-n.n ≡ 0 = omega arith in
    rw none at c.loop-n.invariant
