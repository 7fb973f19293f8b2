-- The positions of drawn replicas in their sources' logs.
use Rattle.std.proofs.Common.{◌≡◌, ◌∙◌, ◌<◌, ◌≤◌, ◌==◌, ◌+◌, ℕ, zero, suc, true, false, ◌∷◌, List, [], length, Some, None, refl, sym, ap, subst, arith, get_or, nat_lt, slice_get}
use Rattle.read_back_laws.proofs.Prelude.{ArePlaced, Coord, DrawnServer, Given, Grown, IsPlaced, Laid-Grown, Log, Pushed, Replica, Txn, bad_coords}
use Rattle.read_back_laws.proofs.Prelude.{bad_coords_in, coord_after, eq-eqb, first_met, given_of, givens_from, history_at, inits_from_drawn, laid}
use Rattle.read_back_laws.proofs.Prelude.{laid_after, le-ltb, length-push, log_at, log_by, log_in, opened, place, place-coord_after, push}
use Rattle.read_back_laws.proofs.Prelude.{slice_get-get_or, slice_get_within}
use Rattle.scenario_reader.specs.BinlogCoords.Grown.{Opened}
use Rattle.scenario_generator.specs.declared.server.DrawnServer.TheVariants.{Root}
use Rattle.scenario_reader.specs.ScenarioServers.Openings.{init_of}
use Rattle.read_back_laws.proofs.Prelude.drawn
use Rattle.read_back_laws.proofs.DrawnFlaws.{at_found, none_meets, opens_there}
use Rattle.read_back_laws.proofs.DrawnHistories.{history_count, history_own}

-- ---- a log without flush points

laid_grown : (count : ℕ) (log : Log) (ts : List Txn) → ((k : ℕ) (t : Txn) → slice_get ts k ≡ Some t → 0 < t.size) → Grown log → Grown (laid_after [] count log ts)
laid_grown count log [] some grown = grown
laid_grown count log (t ∷ ts) some grown = laid_grown (count + 1) (push log t.size) ts (λ k u e. some (suc k) u e) (Pushed log t.size (some zero t refl) grown)

laid_count : (count : ℕ) (log : Log) (ts : List Txn) → length (laid_after [] count log ts).entries ≡ length log.entries + length ts
laid_count count log [] = omega arith
laid_count count log (t ∷ ts) = omega (arith, length-push log t.size, laid_count (count + 1) (push log t.size) ts)

-- ---- the log of a drawn server

log_is : (gs : List Given) (n : ℕ) (s : DrawnServer) (history : List Txn) → log_by (init_of gs n (given_of n s)) history ≡ laid 1073741824 [] history
log_is gs n Root history = refl
log_is gs n (Replica source executed) history = refl

-- it has grown, by what the server executed
record IsLaid (servers : List DrawnServer) (n count : ℕ) : Type 0 where
  grown : Grown (log_at (inits_from_drawn servers) n)
  long : length (log_at (inits_from_drawn servers) n).entries ≡ count

log_laid : (ss : List DrawnServer) → ArePlaced ss → ((m : ℕ) → drawn.count_at ss m ≤ 20) → (n : ℕ) (s : DrawnServer) → slice_get ss n ≡ Some s → IsLaid ss n (drawn.count_of s)
log_laid ss are few n s there =
    let inits = inits_from_drawn ss in
    let history = history_at inits n in
    let is : log_at inits n ≡ laid 1073741824 [] history = ap (log_in inits n) (opens_there ss n s there) ∙ log_is (givens_from 0 ss) n s history in
    let within : n < length ss = slice_get_within ss n s there in
    record {
      grown = subst Grown (sym is) (laid_grown 0 (opened 1073741824) history (λ k t e. let own = history_own ss are n within k t e in omega (arith, own.size)) (Opened 1073741824));
      long = ap (λ (l : Log). length l.entries) is ∙ omega (arith, laid_count 0 (opened 1073741824) history, history_count ss are few n s there);
    }

-- ---- coordinates

-- the coordinate of this place is in place
in_place : (log : Log) (executed : ℕ) (at : Coord) → place log at ≡ Some executed → bad_coords_in log executed at at ≡ false
in_place log executed at is =
    let same : (executed == executed) ≡ true = eq-eqb executed executed refl in
    let file : nat_lt at.file at.file ≡ false = le-ltb at.file at.file (omega arith) in
    let pos : nat_lt at.pos at.pos ≡ false = le-ltb at.pos at.pos (omega arith) in
    let one : (at.file == at.file) ≡ true = eq-eqb at.file at.file refl in
    rw is (rw (same, file, one, pos) refl)

coords_of : (ss : List DrawnServer) → ArePlaced ss → ((m : ℕ) → drawn.count_at ss m ≤ 20) → (n : ℕ) (s : DrawnServer) → slice_get ss n ≡ Some s → IsPlaced ss n s
    → bad_coords (inits_from_drawn ss) (init_of (givens_from 0 ss) n (given_of n s)) ≡ false
coords_of ss are few n Root there is = refl
coords_of ss are few n (Replica source executed) there is =
    let inits = inits_from_drawn ss in
    let log = log_at inits source in
    let at = coord_after log executed in
    let within : source < length ss = omega (arith, is.earlier, slice_get_within ss n (Replica source executed) there) in
    let s = get_or ss source Root in
    let found : slice_get ss source ≡ Some s = slice_get-get_or ss source Root within in
    let laid = log_laid ss are few source s found in
    let counted : drawn.count_at ss source ≡ drawn.count_of s = ap drawn.count_in found in
    let placed : place log at ≡ Some executed = place-coord_after log (Laid-Grown log laid.grown) executed (omega (arith, is.few, counted, laid.long)) in
    at_found (λ m i. bad_coords_in (log_at inits m) executed at at) source (slice_get inits source) (λ i there'. in_place log executed at placed)

pub none_is_out_of_place : (ss : List DrawnServer) → ArePlaced ss → ((m : ℕ) → drawn.count_at ss m ≤ 20) → first_met (λ n i. bad_coords (inits_from_drawn ss) i) 0 (inits_from_drawn ss) ≡ None
none_is_out_of_place ss are few = none_meets (λ n i. bad_coords (inits_from_drawn ss) i) ss (λ n s e. coords_of ss are few n s e (are n s e))
