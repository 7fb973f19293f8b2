-- What is read of a dump is what was dumped.
use Rattle.read_back_laws.proofs.Inits.{init-settings}
use Rattle.std.proofs.Common.{◌≡◌, ◌∙◌, ℕ, List, [], ◌∷◌, map, refl, ap, subst, Ok}
use Rattle.scenario_dump.specs.Servers.{init_of, opening_of}
use Rattle.tidy_laws.proofs.Prelude.{Scenario, Server, ServerInit, Settings, World, dump_text, dumped_scenario, scenario_in}
use Rattle.tidy_laws.specs.Dumps.{SaysWhatWasDumped}

all-settings : (vs : List Server) → map (λ (i : ServerInit). i.settings) (map init_of vs) ≡ map (λ (v : Server). v.settings) vs
all-settings [] = refl
all-settings (v ∷ vs) = ap (λ (x : Settings). x ∷ map (λ (i : ServerInit). i.settings) (map init_of vs)) (init-settings v) ∙ ap (λ (xs : List Settings). v.settings ∷ xs) (all-settings vs)

opened-settings : (w : World) → map (λ (i : ServerInit). i.settings) (opening_of w).servers ≡ map (λ (v : Server). v.settings) w.servers
unfolding opening_of
opened-settings w = all-settings w.servers

opened-gtid : (w : World) → (opening_of w).gtid ≡ w.gtid
unfolding opening_of
opened-gtid w = refl

says-dumped : (w : World) (s : Scenario) (now : ℕ) → SaysWhatWasDumped w s now (dumped_scenario w s now)
unfolding dumped_scenario
says-dumped w s now = record {
  moment = refl;
  gtid = opened-gtid w;
  servers = opened-settings w;
  nodes = refl;
  pseudo = refl;
  block = refl;
  blocks = refl;
  aliases = refl;
  filters = refl;
  hooks = refl;
  turns = refl;
}

pub says-what-was-dumped : (w : World) (s : Scenario) (now : ℕ) → scenario_in (dump_text w s now) ≡ Ok (dumped_scenario w s now) → (x : Scenario) → scenario_in (dump_text w s now) ≡ Ok x → SaysWhatWasDumped w s now x
says-what-was-dumped w s now reads x is =
    let same : dumped_scenario w s now ≡ x = cc in
    subst (SaysWhatWasDumped w s now) same (says-dumped w s now)
