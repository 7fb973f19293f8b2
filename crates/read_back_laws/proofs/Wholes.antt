-- A dump's value reads as the scenario that it has.
use Rattle.read_back_laws.proofs.Inits.{init-settings}
use Rattle.std.proofs.Common.{◌≡◌, ◌∙◌, ◌+◌, ◌≤◌, ℕ, Bool, true, List, [], ◌∷◌, length, map, None, Ok, refl, sym, ap, arith, leb}
use Rattle.read_back_laws.proofs.Prelude.{Alias, IsChecked, IsListed, IsWorldOf, Scenario, Server, ServerInit, Settings, World, alias_of, all_known}
use Rattle.read_back_laws.proofs.Prelude.{answered, bounded, dump_data, dumped_scenario, forms_of, init_of, is_small, known_of, le-leb, listed_count}
use Rattle.read_back_laws.proofs.Prelude.{no_items, no_rules, opening, opening_in, opening_of, passes, rules_of, scenario_from, scenario_with, settings_of}
use Rattle.read_back_laws.proofs.Prelude.{some_matches, turns_in}
use Rattle.read_back_laws.proofs.Found.{listed_names_of}
use Rattle.read_back_laws.proofs.Heads.{SaysReadable, dumped_head, head-reads, keys-read, texts_of}
use Rattle.read_back_laws.proofs.Listed.{AllReadBack, inits-same, servers-read}
use Rattle.read_back_laws.proofs.Servers.{given_of}

-- ---- settings

pub all-settings : (xs : List Server) → map (λ (i : ServerInit). i.settings) (map init_of xs) ≡ map (λ x. x.settings) xs
all-settings [] = refl
all-settings (x ∷ xs) = λ k. init-settings x k ∷ all-settings xs k

pub same-settings : (s : Scenario) (w : World) → IsWorldOf s w → map (λ i. i.settings) (opening_of w).servers ≡ settings_of s
unfolding opening_of
same-settings s w of = all-settings w.servers ∙ of.settings

-- ---- answers of filters

-- whether the cluster of these settings passes
passes_by : List (List ℕ) → List Alias → Settings → Bool
passes_by texts aliases x = some_matches x.cluster (alias_of aliases x.cluster) (forms_of texts)

pass-settings : (texts : List (List ℕ)) (aliases : List Alias) (is : List ServerInit) → map (passes texts aliases) is ≡ map (passes_by texts aliases) (map (λ i. i.settings) is)
unfolding passes_by
pass-settings texts aliases [] = refl
pass-settings texts aliases (i ∷ is) = ap (λ bs. passes texts aliases i ∷ bs) (pass-settings texts aliases is)

same-passes : (texts : List (List ℕ)) (aliases : List Alias) (is js : List ServerInit) → map (λ i. i.settings) is ≡ map (λ i. i.settings) js → map (passes texts aliases) is ≡ map (passes texts aliases) js
same-passes texts aliases is js same = pass-settings texts aliases is ∙ (ap (map (passes_by texts aliases)) same ∙ sym (pass-settings texts aliases js))

-- the filters answer for their scenario's own servers
abbrev pub AreAnswered : Scenario → Type 0
AreAnswered s = answered (texts_of s.filters) s.aliases s.opening.servers ≡ s.filters

same-answers : (s : Scenario) (is : List ServerInit) → AreAnswered s → map (λ i. i.settings) is ≡ settings_of s → answered (texts_of s.filters) s.aliases is ≡ s.filters
same-answers s is own same =
    let master = same-passes s.filters.master.texts s.aliases is s.opening.servers same in
    let intermediate = same-passes s.filters.intermediate.texts s.aliases is s.opening.servers same in
    (λ k. record {
      master = record { texts = s.filters.master.texts; passes = master k };
      intermediate = record { texts = s.filters.intermediate.texts; passes = intermediate k };
    })
    ∙ own

-- ---- what is known of each server

all-known : (xs : List Server) → known_of (map given_of (map init_of xs)) ≡ all_known xs
all-known [] = refl
all-known (x ∷ xs) = ap (λ bs. true ∷ bs) (all-known xs)

none-ruled : (xs : List Server) → rules_of (map given_of (map init_of xs)) ≡ no_rules xs
none-ruled [] = refl
none-ruled (x ∷ xs) = ap (λ rs. None ∷ rs) (none-ruled xs)

-- ---- the opening, and no turns

opens : (is : List ServerInit) (gtid : Bool) → IsChecked (opening is gtid) → opening_in is gtid ≡ Ok (opening is gtid)
unfolding opening_in
opens is gtid checked =
    let small : is_small (length is) (listed_count is) ≡ true = le-leb _ 4000000 checked.listed.listed in
    rw small (rw checked.sound refl)

none-turn : (is : List ServerInit) (gtid : Bool) (nodes : ℕ) → IsChecked (opening is gtid) → turns_in (listed_names_of is) is nodes no_items ≡ Ok []
unfolding turns_in bounded
none-turn is gtid nodes checked =
    let least : leb 0 1000000 ≡ true = refl in
    let count : listed_count is + 0 ≡ listed_count is = omega arith in
    let small : is_small (length is) (listed_count is + 0) ≡ true = rw count (le-leb _ 4000000 checked.listed.listed) in
    rw small refl

-- ---- the whole

are-listed : (w : World) → IsChecked (opening_of w) → IsListed (opening (opening_of w).servers w.gtid)
unfolding opening_of
are-listed w checked = checked.listed

module _ (s : Scenario) (w : World) (now : ℕ) (of : IsWorldOf s w) (checked : IsChecked (opening_of w)) (able : AllReadBack (opening_of w).servers) (says : SaysReadable s) (own : AreAnswered s) where
  with-reads : scenario_with (dumped_head w s now) (listed_names_of (opening_of w).servers, map given_of (opening_of w).servers) no_items ≡ Ok (dumped_scenario w s now)
  unfolding scenario_with dumped_scenario opening_of
  with-reads =
      let is = map init_of w.servers in
      let same = inits-same is w.gtid checked.listed able in
      let answers = same-answers s is own (same-settings s w of) in
      rw same (rw (opens is w.gtid checked) (rw (none-turn is w.gtid s.nodes checked) (rw (answers, all-known w.servers, none-ruled w.servers) refl)))

  pub data-reads : now ≤ 1000000000000000 → scenario_from (dump_data w s now) ≡ Ok (dumped_scenario w s now)
  unfolding scenario_from dump_data
  data-reads early =
      let is = (opening_of w).servers in
      let servers = servers-read is w.gtid (are-listed w checked) able in
      rw (keys-read w s now) (rw (head-reads w s now says early) (rw servers with-reads))
