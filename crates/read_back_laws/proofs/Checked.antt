-- The servers of a dump are an opening, if the limits of scenarios are kept.
use Rattle.std.proofs.Common.{◌≡◌, ◌∙◌, ℕ, ◌*◌, ◌<◌, ◌≤◌, true, length, All, refl, sym, ap, subst, Option, Some, None, arith, get_or, sum_by, option_map, slice_get}
use Rattle.read_back_laws.proofs.Prelude.{IsAlone, IsChecked, IsListed, IsPart, IsScenario, IsServer, IsTidy, IsWithinLimits, IsWorldOf, Part}
use Rattle.read_back_laws.proofs.Prelude.{Scenario, Server, ServerInit, ServerNo, Settings, Txn, World, get_or-le-sum_by, get_or_from_slice_get}
use Rattle.read_back_laws.proofs.Prelude.{init_by, init_of, length-map, opening, opening_of, same_name, same_Some, server_at, slice_get-map}
use Rattle.read_back_laws.proofs.Prelude.{slice_get_within, source_in, source_no, transactions, within_product}
use Rattle.scenarios.specs.Openings.Servers.{number_of}
use Rattle.read_back_laws.proofs.Prelude.Servers as listed
use Rattle.read_back_laws.proofs.Flaws.{flawless-given, parts-given}
use Rattle.read_back_laws.proofs.Inits.{init-from, init-number, init-purged, init-settings, inits, length-inits}
use Rattle.read_back_laws.proofs.OpenedParts.{OfParts, OfParts-all}

-- what is given of a server without a source alone
alone-by : (s : Server) (o : Option ServerNo) → (init_by s o).source ≡ None → IsAlone (init_by s o)
alone-by s None none = record { executed = refl; at = refl; read = refl; auto = refl; detached = refl; until = refl }
alone-by s (Some m) none = cc

alone-given : (s : Server) → (init_of s).source ≡ None → IsAlone (init_of s)
unfolding init_of
alone-given s none = alone-by s (source_in s.source) none

auto-by : (s : Server) (o : Option ServerNo) → (init_by s o).auto ≡ true → s.auto ≡ true
auto-by s None auto = cc
auto-by s (Some m) auto = auto

auto-given : (s : Server) → (init_of s).auto ≡ true → s.auto ≡ true
unfolding init_of
auto-given s auto = auto-by s (source_in s.source) auto

-- the server of the scenario with the settings of a server of the world
record IsListedAs (s : Scenario) (n : ℕ) (settings : Settings) : Type 0 where
  init : ServerInit
  there : slice_get s.opening.servers n ≡ Some init
  is : init.settings ≡ settings

module _ (s : Scenario) (w : World) (scenario : IsScenario s) (of : IsWorldOf s w) where
  count-same : length w.servers ≡ length s.opening.servers
  count-same = sym (length-map w.servers (λ (x : Server). x.settings)) ∙ ap length of.settings ∙ length-map s.opening.servers (λ (i : ServerInit). i.settings)

  listed-as : (n : ℕ) (x : Server) → server_at w n ≡ Some x → IsListedAs s n x.settings
  listed-as n x at = go (slice_get s.opening.servers n) refl
    where
      same : option_map (λ (i : ServerInit). i.settings) (slice_get s.opening.servers n) ≡ Some x.settings
      same =
          sym (slice_get-map (λ (i : ServerInit). i.settings) s.opening.servers n) ∙ ap (λ ys. slice_get ys n) (sym of.settings)
          ∙ slice_get-map (λ (y : Server). y.settings) w.servers n ∙ ap (option_map (λ (y : Server). y.settings)) at

      go : (o : Option ServerInit) → slice_get s.opening.servers n ≡ o → IsListedAs s n x.settings
      go None none = let never : None ≡ Some x.settings = sym (ap (option_map (λ (i : ServerInit). i.settings)) none) ∙ same in cc
      go (Some i) there = record {
        init = i;
        there = there;
        is = same_Some i.settings x.settings (sym (ap (option_map (λ (y : ServerInit). y.settings)) there) ∙ same);
      }

  -- what is given of a server has its settings
  given-settings : (n : ℕ) (i : ServerInit) → slice_get (inits w) n ≡ Some i → IsListedAs s n i.settings
  given-settings n i at =
      let g = init-from w n i at in
      let told = listed-as n g.server g.there in
      record { init = told.init; there = told.there; is = told.is ∙ sym (init-settings g.server) ∙ ap (λ (y : ServerInit). y.settings) (sym g.is) }

  module _ (few : length w.servers * sum_by (λ i. transactions (listed.parts_of i)) (inits w) ≤ 4000000) (flushes : All (λ (i : ServerInit). length i.flushes ≤ 1000000) (inits w)) where
    some : 0 < length w.servers
    some = let there = scenario.checked.listed.some in omega (arith, count-same)

    few-given : (n : ℕ) (i : ServerInit) → slice_get (inits w) n ≡ Some i → transactions (listed.parts_of i) ≤ 4000000
    few-given n i at =
        let one = get_or-le-sum_by (λ (j : ServerInit). transactions (listed.parts_of j)) (inits w) n i (slice_get_within (inits w) n i at) in
        let own : transactions (listed.parts_of (get_or (inits w) n i)) ≡ transactions (listed.parts_of i) = ap (λ (j : ServerInit). transactions (listed.parts_of j)) (get_or_from_slice_get (inits w) n i i at) in
        let all = within_product (length w.servers) (sum_by (λ (j : ServerInit). transactions (listed.parts_of j)) (inits w)) some in
        omega arith

    -- an origin is one of the servers, and a size in its range
    abbrev IsSingle : ServerNo → ℕ → Type 0
    IsSingle origin size = (origin.0 < length (inits w)) × (1 ≤ size) × (size ≤ 1000000)

    singles-given : (n : ℕ) (x : Server) → server_at w n ≡ Some x → All (λ (t : Txn). IsSingle t.origin t.size) x.history.txns
    unfolding IsTidy
    singles-given n x at = λ k d lt.
        let tidy = of.tidy n x at in
        let origin = tidy.origins k d lt in
        let size = tidy.sizes k d lt in
        let within = slice_get_within w.servers _ origin.server origin.there in
        (omega (arith, within, length-inits w), omega (arith, size.0), size.1)

    parts-in_range : (n : ℕ) (x : Server) → server_at w n ≡ Some x → transactions (listed.parts_of (init_of x)) ≤ 4000000 → All (IsPart (length (inits w))) (listed.parts_of (init_of x))
    parts-in_range n x at most =
        let all = parts-given (OfParts IsSingle) x (OfParts-all IsSingle x.history.txns (singles-given n x at)) in
        λ k d lt.
        let p = all k d lt in
        let count = get_or-le-sum_by (λ (q : Part). q.count) (listed.parts_of (init_of x)) k d lt in
        record { origin = p.0.0; some = p.0.1; size = p.0.2; count = p.1; few = omega arith }

    server-given : (n : ℕ) (x : Server) → server_at w n ≡ Some x → slice_get (inits w) n ≡ Some (init_of x) → IsServer (length (inits w)) w.gtid (init_of x)
    unfolding IsTidy
    server-given n x at there =
        let told = given-settings n (init_of x) there in
        let old = scenario.checked.listed.each n told.init told.there in
        let limit : told.init.settings.limit ≡ (init_of x).settings.limit = ap (λ (y : Settings). y.limit) told.is in
        let low = old.limit_low in
        let high = old.limit_high in
        let points : length (get_or (inits w) n (init_of x)).flushes ≤ 1000000 = flushes n (init_of x) (slice_get_within (inits w) n (init_of x) there) in
        let first = (of.safe.kept n x at).low in
        record {
          limit_low = omega arith;
          limit_high = omega arith;
          parts = parts-in_range n x at (few-given n (init_of x) there);
          flushes = subst (λ (y : ServerInit). length y.flushes ≤ 1000000) (get_or_from_slice_get (inits w) n (init_of x) (init_of x) there) points;
          purged = omega (arith, init-purged x, first);
          source = λ m from.
              let number : source_no x.source ≡ Some m.0 = sym (init-number x) ∙ ap number_of from in
              let source = of.safe.logging n m.0 x at number in
              let within = slice_get_within w.servers m.0 source.0 source.1 in
              omega (arith, within, length-inits w);
          alone = alone-given x;
          auto = λ auto. (of.tidy n x at).auto (auto-given x auto);
        }

    each-given : (n : ℕ) (i : ServerInit) → slice_get (inits w) n ≡ Some i → IsServer (length (inits w)) w.gtid i
    each-given n i at =
        let g = init-from w n i at in
        subst (λ (y : ServerInit). IsServer (length (inits w)) w.gtid y) (sym g.is) (server-given n g.server g.there (at ∙ ap Some g.is))

    names-apart : (m n : ℕ) (i j : ServerInit) → slice_get (inits w) m ≡ Some i → slice_get (inits w) n ≡ Some j → same_name i.settings.name j.settings.name ≡ true → m ≡ n
    names-apart m n i j at_m at_n same =
        let a = given-settings m i at_m in
        let b = given-settings n j at_n in
        scenario.checked.listed.names m n a.init b.init a.there b.there
        (ap (λ (y : Settings). same_name y.name b.init.settings.name) a.is ∙ ap (λ (y : Settings). same_name i.settings.name y.name) b.is ∙ same)

    uuids-apart : (m n : ℕ) (i j : ServerInit) → slice_get (inits w) m ≡ Some i → slice_get (inits w) n ≡ Some j → i.settings.uuid ≡ j.settings.uuid → m ≡ n
    uuids-apart m n i j at_m at_n same =
        let a = given-settings m i at_m in
        let b = given-settings n j at_n in
        scenario.checked.listed.uuids m n a.init b.init a.there b.there
        (ap (λ (y : Settings). y.uuid) a.is ∙ same ∙ sym (ap (λ (y : Settings). y.uuid) b.is))

    listed-given : IsListed (opening (inits w) w.gtid)
    listed-given = record {
      some = omega (arith, some, length-inits w);
      few = let old = scenario.checked.listed.few in omega (arith, old, count-same, length-inits w);
      listed = subst (λ k. k * sum_by (λ i. transactions (listed.parts_of i)) (inits w) ≤ 4000000) (sym (length-inits w)) few;
      each = each-given;
      names = names-apart;
      uuids = uuids-apart;
    }

-- the servers of a dump are an opening
pub checked-given : (s : Scenario) (w : World) (now : ℕ) → IsScenario s → IsWorldOf s w → IsWithinLimits w s now → IsChecked (opening_of w)
unfolding opening_of
checked-given s w now scenario of within = record {
  listed = listed-given s w scenario of within.listed within.flushes;
  sound = flawless-given w of.safe of.tidy;
}
