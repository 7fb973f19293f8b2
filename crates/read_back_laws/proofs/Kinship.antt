-- What drawn roots list agrees.
use Rattle.read_back_laws.proofs.Kins.{same_txn-itself as same_itself}
use Rattle.std.proofs.Common.{◌≡◌, ◌∙◌, ◌≢◌, ◌<◌, ◌==◌, ℕ, zero, suc, true, false, ◌∷◌, List, [], Option, Some, None, refl, sym, ap, subst, arith, not, slice_get}
use Rattle.read_back_laws.proofs.Prelude.{DrawnServer, Given, Replica, ServerInit, Txn, agrees_with, all_below, all_below-from_each, and_from}
use Rattle.read_back_laws.proofs.Prelude.{any_passes_from_place, first_met, given_of, givens_from, histories_agree, history_at, inits_from_drawn}
use Rattle.read_back_laws.proofs.Prelude.{is_home, is_kin, links, links_after, links_agree, list_all, list_all-from_get, listed_history, ne_eqb, not_kin}
use Rattle.read_back_laws.proofs.Prelude.{same_Some, same_txn}
use Rattle.scenario_generator.specs.declared.server.DrawnServer.TheVariants.{Root}
use Rattle.scenario_reader.specs.OrchBase.Histories.{holds}
use Rattle.scenario_reader.specs.ScenarioServers.Openings.{init_of}
use Rattle.read_back_laws.proofs.DrawnFlaws.{drawn_at, none_meets}
use Rattle.read_back_laws.proofs.DrawnHistories.{own_parts, own_txn, root_history}

-- ---- two roots' histories agree

link_txn : (before : Option Txn) (ts : List Txn) (k : ℕ) (l : Option Txn × Txn) → slice_get (links_after before ts) k ≡ Some l → slice_get ts k ≡ Some l.1
link_txn before [] k l e = absurd (cc)
link_txn before (t ∷ ts) zero l e = ap (λ (x : Option Txn × Txn). Some x.1) (same_Some (before, t) l e)
link_txn before (t ∷ ts) (suc k) l e = link_txn (Some t) ts k l e

links_apart : (k l : Option Txn × Txn) → k.1.origin.0 ≢ l.1.origin.0 → links_agree k l ≡ true
links_apart k l apart = let other : (k.1.origin.0 == l.1.origin.0) ≡ false = ne_eqb k.1.origin.0 l.1.origin.0 apart in rw other refl

roots_agree : (m n : ℕ) → m < n → histories_agree (listed_history (own_parts m)) (listed_history (own_parts n)) ≡ true
roots_agree m n less =
    let a = listed_history (own_parts m) in
    let b = listed_history (own_parts n) in
    list_all-from_get (λ l. list_all (λ k. links_agree k l) (links a)) (links b)
    (λ j l at_b. list_all-from_get (λ k. links_agree k l) (links a)
    (λ i k at_a. let left = own_txn m i k.1 (link_txn None a i k at_a) in let right = own_txn n j l.1 (link_txn None b j l at_b) in links_apart k l (λ e. omega (arith, left.origin, right.origin))))

agrees_by : (gs : List Given) (m n : ℕ) (s : DrawnServer) → m < n → agrees_with (listed_history (own_parts n)) (Some (init_of gs m (given_of m s))) ≡ true
agrees_by gs m n Root less = roots_agree m n less
agrees_by gs m n (Replica source executed) less = refl

agrees_drawn : (ss : List DrawnServer) (m n : ℕ) (o : Option ServerInit) → m < n → slice_get (inits_from_drawn ss) m ≡ o → agrees_with (listed_history (own_parts n)) o ≡ true
agrees_drawn ss m n None less there = refl
agrees_drawn ss m n (Some i) less there =
    let h = drawn_at ss m i there in
    subst (λ j. agrees_with (listed_history (own_parts n)) (Some j) ≡ true) (sym h.is) (agrees_by (givens_from 0 ss) m n h.server less)

-- ---- each transaction is its root's

own_home : (ss : List DrawnServer) (n : ℕ) → slice_get ss n ≡ Some Root → (k : ℕ) (t : Txn) → slice_get (listed_history (own_parts n)) k ≡ Some t → is_home (inits_from_drawn ss) t ≡ true
own_home ss n there k t e =
    let own = own_txn n k t e in
    ap (λ m. holds t (history_at (inits_from_drawn ss) m)) own.origin
    ∙ (ap (holds t) (root_history ss n there) ∙ any_passes_from_place (λ x. same_txn x t) (listed_history (own_parts n)) k t e (same_itself t))

-- ---- no root disagrees

root_kin : (ss : List DrawnServer) (n : ℕ) → slice_get ss n ≡ Some Root → is_kin (inits_from_drawn ss) n (listed_history (own_parts n)) ≡ true
root_kin ss n there =
    let history = listed_history (own_parts n) in
    let inits = inits_from_drawn ss in
    and_from (all_below (λ m. agrees_with history (slice_get inits m)) n) (list_all (is_home inits) history)
    (all_below-from_each (λ m. agrees_with history (slice_get inits m)) n (λ m less. agrees_drawn ss m n (slice_get inits m) less refl))
    (list_all-from_get (is_home inits) history (λ k t e. own_home ss n there k t e))

kin_of : (ss : List DrawnServer) (n : ℕ) (s : DrawnServer) → slice_get ss n ≡ Some s → not_kin (inits_from_drawn ss) n (init_of (givens_from 0 ss) n (given_of n s)) ≡ false
kin_of ss n Root there = ap not (root_kin ss n there)
kin_of ss n (Replica source executed) there = refl

pub each_is_kin : (ss : List DrawnServer) → first_met (λ n i. not_kin (inits_from_drawn ss) n i) 0 (inits_from_drawn ss) ≡ None
each_is_kin ss = none_meets (λ n i. not_kin (inits_from_drawn ss) n i) ss (λ n s e. kin_of ss n s e)
