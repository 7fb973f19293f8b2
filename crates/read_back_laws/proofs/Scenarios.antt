-- Drawn scenarios read whole.
use Rattle.std.proofs.Common.{◌≡◌, ◌∙◌, ◌<◌, ◌≤◌, ◌+◌, ℕ, true, false, ◌∷◌, List, [], length, None, Ok, refl, ap, subst, arith, replicate, map, nat_le}
use Rattle.read_back_laws.proofs.Prelude.{ArePlaced, DrawnServer, DrawnTurn, IsScenario, ServerInit, ServerNo, bounded, counts_few, drawn_head, drawn_scenario}
use Rattle.read_back_laws.proofs.Prelude.{everything, expanded, flaw_in, givens_from, in_order, inits_from_drawn, is_drawable, is_small, known_of, le-leb}
use Rattle.read_back_laws.proofs.Prelude.{length-map, listed_count, listed_turns, names_from, opening, opening_in, passes, placed, printed_of, rules_of}
use Rattle.read_back_laws.proofs.Prelude.{scenario_in, scenario_in_sound, scenario_text, scenario_with, servers_from, servers_from-count, turn_of, turns_data}
use Rattle.read_back_laws.proofs.Prelude.{turns_from, turns_from-count, turns_in}
use Rattle.read_back_laws.proofs.Prelude.drawn
use Rattle.read_back_laws.proofs.Clusters.{none_is_elsewhere}
use Rattle.read_back_laws.proofs.Coords.{none_is_out_of_place}
use Rattle.read_back_laws.proofs.DrawnFlaws.{each_source_logs, length-inits, none_has_bad_files, none_has_both, none_has_too_many, none_is_below_itself}
use Rattle.read_back_laws.proofs.Kinship.{each_is_kin}
use Rattle.read_back_laws.proofs.DrawnSizes.{bound_is, opening_small, turns_small}
use Rattle.read_back_laws.proofs.Turns.{turns_read}
use Rattle.read_back_laws.proofs.DrawnWholes.{text_opens}

-- ---- the opening

pub flawless : (ss : List DrawnServer) → ArePlaced ss → ((m : ℕ) → drawn.count_at ss m ≤ 20) → flaw_in (inits_from_drawn ss) ≡ None
flawless ss are few =
    rw (none_has_both ss) (rw (each_source_logs ss) (rw (none_is_below_itself ss are) (rw (none_is_elsewhere ss are)
    (rw (none_has_too_many ss are) (rw (none_has_bad_files ss) (rw (none_is_out_of_place ss are few) (rw (each_is_kin ss) refl)))))))

opens : (ss : List DrawnServer) → ArePlaced ss → ((m : ℕ) → drawn.count_at ss m ≤ 20) → (turns : ℕ) → is_drawable (length ss) turns ≡ true
    → opening_in (inits_from_drawn ss) false ≡ Ok (opening (inits_from_drawn ss) false)
unfolding opening_in
opens ss are few turns fits = rw (opening_small ss are turns fits) (rw (flawless ss are few) refl)

-- ---- the turns

each_stands : (ns : List ServerNo) (ts : List DrawnTurn) → expanded ns (listed_turns ts) ≡ map turn_of ts
each_stands ns [] = refl
each_stands ns (t ∷ ts) = ap (λ us. turn_of t ∷ us) (each_stands ns ts)

turns_bounded : (ss : List DrawnServer) → ArePlaced ss → (ts : List DrawnTurn) → is_drawable (length ss) (length ts) ≡ true → length ts ≤ 1000000
    → bounded (inits_from_drawn ss) (map turn_of ts) ≡ Ok (map turn_of ts)
unfolding bounded
turns_bounded ss are ts fits few =
    let short : nat_le (length (map turn_of ts)) 1000000 ≡ true = le-leb _ _ (omega (arith, few, length-map ts turn_of)) in
    rw short (rw (turns_small ss are ts fits) refl)

-- ---- what is known of each server

all_known : (n : ℕ) (ss : List DrawnServer) → known_of (givens_from n ss) ≡ replicate (length ss) true
all_known n [] = refl
all_known n (s ∷ ss) = ap (λ bs. true ∷ bs) (all_known (n + 1) ss)

none_ruled : (n : ℕ) (ss : List DrawnServer) → rules_of (givens_from n ss) ≡ replicate (length ss) None
none_ruled n [] = refl
none_ruled n (s ∷ ss) = ap (λ rs. None ∷ rs) (none_ruled (n + 1) ss)

all_pass : (servers : List ServerInit) → map (passes everything []) servers ≡ replicate (length servers) true
all_pass [] = refl
all_pass (i ∷ is) = ap (λ bs. true ∷ bs) (all_pass is)

-- ---- the whole

turns_stand : (servers x turns : ℕ) (ss : List DrawnServer) → 0 < servers → servers ≤ 1000 → turns ≤ 1000000 → ArePlaced ss → length ss ≡ servers → is_drawable servers turns ≡ true
    → turns_in (names_from 0 servers) (inits_from_drawn ss) 1 (turns_data (turns_from servers x turns).drawn) ≡ Ok (map turn_of (turns_from servers x turns).drawn)
unfolding turns_in
turns_stand servers x turns ss some few few' are count fits =
    let ts = (turns_from servers x turns).drawn in
    let inits = inits_from_drawn ss in
    let long : length ts ≡ turns = turns_from-count servers x turns in
    let fits' : is_drawable (length ss) (length ts) ≡ true = ap (λ n. is_drawable n (length ts)) count ∙ (ap (is_drawable servers) long ∙ fits) in
    rw (turns_read servers x turns (printed_of inits) some few) (rw (each_stands (in_order inits) ts) (turns_bounded ss are ts fits' (omega (arith, long, few'))))

whole_reads : (seed servers turns : ℕ) → 0 < servers → servers ≤ 1000 → turns ≤ 1000000 → is_drawable servers turns ≡ true
    → scenario_with drawn_head (names_from 0 servers, givens_from 0 (servers_from seed servers).drawn) (turns_data (turns_from servers (servers_from seed servers).number turns).drawn)
    ≡ Ok (drawn_scenario seed servers turns)
unfolding scenario_with
whole_reads seed servers turns some few few' fits =
    let ss = (servers_from seed servers).drawn in
    let inits = inits_from_drawn ss in
    let are = placed seed servers in
    let count : length ss ≡ servers = servers_from-count seed servers in
    let fits' : is_drawable (length ss) turns ≡ true = ap (λ n. is_drawable n turns) count ∙ fits in
    let known : known_of (givens_from 0 ss) ≡ replicate servers true = all_known 0 ss ∙ ap (λ n. replicate n true) count in
    let rules : rules_of (givens_from 0 ss) ≡ replicate servers None = none_ruled 0 ss ∙ ap (λ n. replicate n None) count in
    let pass : map (passes everything []) inits ≡ replicate servers true = all_pass inits ∙ ap (λ n. replicate n true) (length-inits (givens_from 0 ss) 0 ss ∙ count) in
    rw (opens ss are (counts_few seed servers) turns fits')
    (rw (turns_stand servers (servers_from seed servers).number turns ss some few few' are count fits) (rw (known, rules, pass) refl))

pub scenario_reads : (seed servers turns : ℕ) → 0 < servers → servers ≤ 1000 → turns ≤ 1000000 → is_drawable servers turns ≡ true → scenario_in (scenario_text seed servers turns) ≡ Ok (drawn_scenario seed servers turns)
scenario_reads seed servers turns some few few' fits = text_opens seed servers turns some few few' ∙ whole_reads seed servers turns some few few' fits

pub scenario_runs : (seed servers turns : ℕ) → 0 < servers → servers ≤ 1000 → turns ≤ 1000000 → is_drawable servers turns ≡ true → IsScenario (drawn_scenario seed servers turns)
scenario_runs seed servers turns some few few' fits = scenario_in_sound (scenario_text seed servers turns) (drawn_scenario seed servers turns) (scenario_reads seed servers turns some few few' fits)

pub bound_holds : (seed servers turns : ℕ) → is_drawable servers turns ≡ is_small servers (listed_count (inits_from_drawn (servers_from seed servers).drawn) + turns)
bound_holds seed servers turns =
    let ss = (servers_from seed servers).drawn in
    subst (λ n. is_drawable n turns ≡ is_small n (listed_count (inits_from_drawn ss) + turns)) (servers_from-count seed servers) (bound_is ss (placed seed servers) turns)
