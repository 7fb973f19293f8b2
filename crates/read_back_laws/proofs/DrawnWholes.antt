-- A drawn scenario reads as far as its servers' opening.
use Rattle.std.proofs.Common.{◌≡◌, ◌<◌, ◌≤◌, ℕ, true, length, refl, arith, nat_le}
use Rattle.read_back_laws.proofs.Prelude.{MAX_SCENARIO_LEN, drawn_data, drawn_head, givens_from, head_in, keys_in, le-leb, names_from, one_in, scenario_from}
use Rattle.read_back_laws.proofs.Prelude.{scenario_in, scenario_text, scenario_with, servers_from, text_reads, text_short, text_utf8, turns_data, turns_from}
use Rattle.read_back_laws.proofs.DrawnServers.{servers_read}

data_reads : (seed servers turns : ℕ) → 0 < servers → servers ≤ 1000
    → scenario_from (drawn_data seed servers turns)
    ≡ scenario_with drawn_head (names_from 0 servers, givens_from 0 (servers_from seed servers).drawn) (turns_data (turns_from servers (servers_from seed servers).number turns).drawn)
unfolding scenario_from drawn_data keys_in head_in one_in
data_reads seed servers turns some few = rw (servers_read seed servers some few) refl

pub text_opens : (seed servers turns : ℕ) → 0 < servers → servers ≤ 1000 → turns ≤ 1000000
    → scenario_in (scenario_text seed servers turns)
    ≡ scenario_with drawn_head (names_from 0 servers, givens_from 0 (servers_from seed servers).drawn) (turns_data (turns_from servers (servers_from seed servers).number turns).drawn)
unfolding scenario_in
text_opens seed servers turns some few few' =
    let short : nat_le (length (scenario_text seed servers turns)) MAX_SCENARIO_LEN ≡ true = le-leb _ _ (text_short seed servers turns some few few') in
    rw short (rw (text_utf8 seed servers turns some (omega arith)) (rw (text_reads seed servers turns some) (data_reads seed servers turns some few)))
