use Rattle.std.proofs.Common.{◌≡◌, true, length, sym, ap, ◌∙◌}
use Rattle.scenario_reader.specs.ReadOpenings.{is_small, listed_count}
use Rattle.scenario_reader.proofs.Limits.{small-listed}
use Rattle.scenario_reader.proofs.opening.opening_in.Goals as goal

pub check-requires : goal.check-requires
check-requires c =
    let servers = c.args.servers.items in
    let small : is_small (length servers) (listed_count servers) ≡ true =
    sym (c.is_small.ensures ∙ ap (λ s. is_small (length s) (listed_count s)) c.deref.ensures.value) ∙ c.if-not-is_small.false in
    small-listed c.args.gtid servers c.requires small
