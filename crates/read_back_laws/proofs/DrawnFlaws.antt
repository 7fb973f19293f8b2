-- Flaws that drawn servers haven't.
use Rattle.std.proofs.Common.{◌≡◌, ◌∙◌, ◌<◌, ◌≤◌, ◌==◌, ◌||◌, ℕ, zero, suc, ◌+◌, Bool, false, ◌∷◌, List, [], length, Option, Some, None, refl, sym, ap, subst, arith, nat_lt, not, slice_get}
use Rattle.read_back_laws.proofs.Prelude.{ArePlaced, DrawnServer, Given, IsPlaced, Replica, ServerInit, at_server, at_source, bad_files, below_itself}
use Rattle.read_back_laws.proofs.Prelude.{both_given, count_of, first_met, given_of, givens_from, inits_from, inits_from_drawn, is_reached, is_reached_on}
use Rattle.read_back_laws.proofs.Prelude.{le-ltb, log_at, log_at-files, ne_eqb, source_not_logging, too_many}
use Rattle.scenario_generator.specs.declared.server.DrawnServer.TheVariants.{Root}
use Rattle.scenario_reader.specs.ScenarioServers.Openings.{init_of}
use Rattle.scenario_reader.specs.Openings.Servers.{number_of, source_of, sources}
use Rattle.read_back_laws.proofs.Prelude.Drawn.{source_of as source_in}
use Rattle.read_back_laws.proofs.Prelude.drawn

-- ---- the server of a number

-- it opens as it was drawn
pub record IsDrawn (ss : List DrawnServer) (n : ℕ) (i : ServerInit) : Type 0 where
  pub server : DrawnServer
  pub there : slice_get ss n ≡ Some server
  pub is : i ≡ init_of (givens_from 0 ss) n (given_of n server)

pub given_at : (n m : ℕ) (ss : List DrawnServer) (g : Given) → slice_get (givens_from n ss) m ≡ Some g → (s : DrawnServer) × (slice_get ss m ≡ Some s) × (g ≡ given_of (n + m) s)
given_at n m [] g e = absurd (cc)
given_at n zero (s ∷ ss) g e = let same : n ≡ n + 0 = omega arith in let is : given_of n s ≡ g = cc in (s, refl, sym is ∙ ap (λ k. given_of k s) same)
given_at n (suc m) (s ∷ ss) g e =
    let h = given_at (n + 1) m ss g e in
    let same : n + 1 + m ≡ n + suc m = omega arith in
    (h.0, h.1, h.2 ∙ ap (λ k. given_of k h.0) same)

init_at : (gs : List Given) (n m : ℕ) (xs : List Given) (i : ServerInit) → slice_get (inits_from gs n xs) m ≡ Some i → (g : Given) × (slice_get xs m ≡ Some g) × (i ≡ init_of gs (n + m) g)
init_at gs n m [] i e = absurd (cc)
init_at gs n zero (x ∷ xs) i e = let same : n ≡ n + 0 = omega arith in let is : init_of gs n x ≡ i = cc in (x, refl, sym is ∙ ap (λ k. init_of gs k x) same)
init_at gs n (suc m) (x ∷ xs) i e =
    let h = init_at gs (n + 1) m xs i e in
    let same : n + 1 + m ≡ n + suc m = omega arith in
    (h.0, h.1, h.2 ∙ ap (λ k. init_of gs k h.0) same)

pub drawn_at : (ss : List DrawnServer) (n : ℕ) (i : ServerInit) → slice_get (inits_from_drawn ss) n ≡ Some i → IsDrawn ss n i
drawn_at ss n i e =
    let gs = givens_from 0 ss in
    let h = init_at gs 0 n gs i e in
    let k = given_at 0 n ss h.0 h.1 in
    let same : 0 + n ≡ n = omega arith in
    record {
      server = k.0;
      there = k.1;
      is = h.2 ∙ (ap (λ m. init_of gs m h.0) same ∙ (ap (init_of gs n) k.2 ∙ ap (λ m. init_of gs n (given_of m k.0)) same));
    }

-- what is there opens there
init_there : (gs : List Given) (n m : ℕ) (ss : List DrawnServer) (s : DrawnServer) → slice_get ss m ≡ Some s → slice_get (inits_from gs n (givens_from n ss)) m ≡ Some (init_of gs (n + m) (given_of (n + m) s))
init_there gs n m [] s e = absurd (cc)
init_there gs n zero (t ∷ ss) s e =
    let same : n ≡ n + 0 = omega arith in
    let is : t ≡ s = cc in
    ap (λ u. Some (init_of gs n (given_of n u))) is ∙ ap (λ k. Some (init_of gs k (given_of k s))) same
init_there gs n (suc m) (t ∷ ss) s e =
    let same : n + 1 + m ≡ n + suc m = omega arith in
    init_there gs (n + 1) m ss s e ∙ ap (λ k. Some (init_of gs k (given_of k s))) same

pub opens_there : (ss : List DrawnServer) (n : ℕ) (s : DrawnServer) → slice_get ss n ≡ Some s → slice_get (inits_from_drawn ss) n ≡ Some (init_of (givens_from 0 ss) n (given_of n s))
opens_there ss n s e = let same : 0 + n ≡ n = omega arith in init_there (givens_from 0 ss) 0 n ss s e ∙ ap (λ k. Some (init_of (givens_from 0 ss) k (given_of k s))) same

pub length-inits : (gs : List Given) (n : ℕ) (ss : List DrawnServer) → length (inits_from gs n (givens_from n ss)) ≡ length ss
length-inits gs n [] = refl
length-inits gs n (s ∷ ss) = ap suc (length-inits gs (n + 1) ss)

-- ---- a test that no server meets

pub none_met : (test : ℕ → ServerInit → Bool) (n : ℕ) (is : List ServerInit) → ((m : ℕ) (i : ServerInit) → slice_get is m ≡ Some i → test (n + m) i ≡ false) → first_met test n is ≡ None
none_met test n [] each = refl
none_met test n (i ∷ is) each =
    let same : n + 0 ≡ n = omega arith in
    let here : test n i ≡ false = subst (λ k. test k i ≡ false) same (each zero i refl) in
    rw here (none_met test (n + 1) is (λ m j e. let moved : n + suc m ≡ n + 1 + m = omega arith in subst (λ k. test k j ≡ false) moved (each (suc m) j e)))

-- as the servers were drawn
pub none_meets : (test : ℕ → ServerInit → Bool) (ss : List DrawnServer) → ((n : ℕ) (s : DrawnServer) → slice_get ss n ≡ Some s → test n (init_of (givens_from 0 ss) n (given_of n s)) ≡ false) → first_met test 0 (inits_from_drawn ss) ≡ None
none_meets test ss each =
    none_met test 0 (inits_from_drawn ss)
    (λ m i e. let h = drawn_at ss m i e in
    let same : 0 + m ≡ m = omega arith in
    subst (λ k. test k i ≡ false) (sym same) (subst (λ j. test m j ≡ false) (sym h.is) (each m h.server h.there)))

-- a test of a source that every drawn server fails
pub at_found : (test : ℕ → ServerInit → Bool) (m : ℕ) (o : Option ServerInit) → ((i : ServerInit) → o ≡ Some i → test m i ≡ false) → at_server (test m) o ≡ false
at_found test m None fails = refl
at_found test m (Some i) fails = fails i refl

pub at_drawn : (ss : List DrawnServer) (test : ℕ → ServerInit → Bool) (m : ℕ) → ((s : DrawnServer) → slice_get ss m ≡ Some s → test m (init_of (givens_from 0 ss) m (given_of m s)) ≡ false) → at_source (inits_from_drawn ss) test (Some m) ≡ false
at_drawn ss test m fails = at_found test m (slice_get (inits_from_drawn ss) m) (λ i e. let h = drawn_at ss m i e in subst (λ j. test m j ≡ false) (sym h.is) (fails h.server h.there))

-- ---- the tests

both_of : (ss : List DrawnServer) (n : ℕ) (s : DrawnServer) → both_given (init_of (givens_from 0 ss) n (given_of n s)) ≡ false
both_of ss n Root = refl
both_of ss n (Replica source executed) = refl

pub none_has_both : (ss : List DrawnServer) → first_met (λ n i. both_given i) 0 (inits_from_drawn ss) ≡ None
none_has_both ss = none_meets (λ n i. both_given i) ss (λ n s e. both_of ss n s)

logs_of : (ss : List DrawnServer) (n : ℕ) (s : DrawnServer) → not (init_of (givens_from 0 ss) n (given_of n s)).settings.logs ≡ false
logs_of ss n Root = refl
logs_of ss n (Replica source executed) = refl

logging_of : (ss : List DrawnServer) (n : ℕ) (s : DrawnServer) → source_not_logging (inits_from_drawn ss) (init_of (givens_from 0 ss) n (given_of n s)) ≡ false
logging_of ss n Root = refl
logging_of ss n (Replica source executed) = at_drawn ss (λ m s. not s.settings.logs) source (λ t e. logs_of ss source t)

pub each_source_logs : (ss : List DrawnServer) → first_met (λ n i. source_not_logging (inits_from_drawn ss) i) 0 (inits_from_drawn ss) ≡ None
each_source_logs ss = none_meets (λ n i. source_not_logging (inits_from_drawn ss) i) ss (λ n s e. logging_of ss n s)

-- a chain that falls doesn't come back
falls_on : (up : ℕ → Option ℕ) (go : ℕ → Bool) (n from : ℕ) (o : Option ℕ) → up from ≡ o → ((a b : ℕ) → up a ≡ Some b → b < a) → from ≤ n → ((m : ℕ) → m ≤ n → go m ≡ false) → is_reached_on (λ m. m == n || go m) o ≡ false
falls_on up go n from None is down low more = refl
falls_on up go n from (Some m) is down low more =
    let less : m < from = down from m is in
    let other : (m == n) ≡ false = ne_eqb m n (λ e. omega arith) in
    rw other (more m (omega arith))

pub falls : (up : ℕ → Option ℕ) (steps n from : ℕ) → ((a b : ℕ) → up a ≡ Some b → b < a) → from ≤ n → is_reached up steps n from ≡ false
falls up zero n from down low = refl
falls up (suc steps) n from down low = falls_on up (λ m. is_reached up steps n m) n from (up from) refl down low (λ m few. falls up steps n m down few)

below_drawn : (ss : List DrawnServer) (a b : ℕ) (s : DrawnServer) → IsPlaced ss a s → number_of (source_in s) ≡ Some b → b < a
below_drawn ss a b Root is e = absurd (cc)
below_drawn ss a b (Replica source executed) is e = let same : source ≡ b = cc in omega (arith, is.earlier, same)

pub init_source : (ss : List DrawnServer) (n : ℕ) (s : DrawnServer) → (init_of (givens_from 0 ss) n (given_of n s)).source ≡ source_in s
init_source ss n Root = refl
init_source ss n (Replica source executed) = refl

below_of : (ss : List DrawnServer) → ArePlaced ss → (a b : ℕ) (o : Option ServerInit) → slice_get (inits_from_drawn ss) a ≡ o → source_of o ≡ Some b → b < a
below_of ss are a b None is e = absurd (cc)
below_of ss are a b (Some i) is e =
    let h = drawn_at ss a i is in
    let same : number_of i.source ≡ number_of (source_in h.server) = ap (λ (j : ServerInit). number_of j.source) h.is ∙ ap number_of (init_source ss a h.server) in
    below_drawn ss a b h.server (are a h.server h.there) (sym same ∙ e)

pub source_below : (ss : List DrawnServer) → ArePlaced ss → (a b : ℕ) → sources (inits_from_drawn ss) a ≡ Some b → b < a
source_below ss are a b e = below_of ss are a b (slice_get (inits_from_drawn ss) a) refl e

pub none_is_below_itself : (ss : List DrawnServer) → ArePlaced ss → first_met (λ n i. below_itself (inits_from_drawn ss) n) 0 (inits_from_drawn ss) ≡ None
none_is_below_itself ss are = none_meets (λ n i. below_itself (inits_from_drawn ss) n) ss (λ n s e. falls (sources (inits_from_drawn ss)) (length (inits_from_drawn ss)) n n (source_below ss are) (omega arith))

purged_of : (ss : List DrawnServer) (n : ℕ) (s : DrawnServer) → bad_files (inits_from_drawn ss) n (init_of (givens_from 0 ss) n (given_of n s)) ≡ false
purged_of ss n Root = le-ltb (log_at (inits_from_drawn ss) n).files 1 (log_at-files (inits_from_drawn ss) n)
purged_of ss n (Replica source executed) = le-ltb (log_at (inits_from_drawn ss) n).files 1 (log_at-files (inits_from_drawn ss) n)

pub none_has_bad_files : (ss : List DrawnServer) → first_met (λ n i. bad_files (inits_from_drawn ss) n i) 0 (inits_from_drawn ss) ≡ None
none_has_bad_files ss = none_meets (λ n i. bad_files (inits_from_drawn ss) n i) ss (λ n s e. purged_of ss n s)

-- none counts more than its source
pub count_is : (ss : List DrawnServer) (n : ℕ) (s : DrawnServer) → count_of (init_of (givens_from 0 ss) n (given_of n s)) ≡ drawn.count_of s
count_is ss n Root = refl
count_is ss n (Replica source executed) = refl

many_of : (ss : List DrawnServer) (n : ℕ) (s : DrawnServer) → IsPlaced ss n s → too_many (inits_from_drawn ss) (init_of (givens_from 0 ss) n (given_of n s)) ≡ false
many_of ss n Root is = refl
many_of ss n (Replica source executed) is =
    at_drawn ss (λ m t. nat_lt (count_of t) executed) source
    (λ t e. let same : drawn.count_at ss source ≡ drawn.count_of t = ap drawn.count_in e in
    let few : executed ≤ count_of (init_of (givens_from 0 ss) source (given_of source t)) = omega (arith, is.few, same, count_is ss source t) in
    le-ltb _ _ few)

pub none_has_too_many : (ss : List DrawnServer) → ArePlaced ss → first_met (λ n i. too_many (inits_from_drawn ss) i) 0 (inits_from_drawn ss) ≡ None
none_has_too_many ss are = none_meets (λ n i. too_many (inits_from_drawn ss) i) ss (λ n s e. many_of ss n s (are n s e))
