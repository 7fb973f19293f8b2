-- Drawn scenarios are within the bound of what is listed and written.
use Rattle.std.proofs.Common.{◌≡◌, ◌∙◌, ◌≢◌, ◌≤◌, ◌+◌, ◌*◌, ◌/◌, ◌%◌, ℕ, zero, suc, true, ◌∷◌, List, [], length, Some, refl, sym, ap, subst, arith, count_by, map, slice_get, sum_by}
use Rattle.read_back_laws.proofs.Prelude.{ArePlaced, DrawnServer, DrawnTurn, Given, IsPlaced, Replica, ServerInit, count_by-le-length, given_of, givens_from}
use Rattle.read_back_laws.proofs.Prelude.{inits_from, inits_from_drawn, is_drawable, is_small, is_write, le-leb, leb-true, length-map, listed_count, mul-le}
use Rattle.read_back_laws.proofs.Prelude.{sum_by-cons, transactions, turn_of}
use Rattle.scenario_generator.specs.declared.server.DrawnServer.TheVariants.{Root}
use Rattle.scenario_reader.specs.ScenarioServers.Openings.{init_of}
use Rattle.scenario_reader.specs.Openings.Servers.{parts_of}
use Rattle.read_back_laws.proofs.DrawnFlaws.{length-inits}

-- a root is at a ten, and no replica is
abbrev IsAtTen : ℕ → DrawnServer → Type 0
IsAtTen n Root = n % 10 ≡ 0
IsAtTen n (Replica source executed) = n % 10 ≢ 0

-- so do these servers, of which the first has number n
abbrev StandAtTens : ℕ → List DrawnServer → Type 0
StandAtTens n ss = (m : ℕ) (s : DrawnServer) → slice_get ss m ≡ Some s → IsAtTen (n + m) s

abbrev listed : ServerInit → ℕ
listed i = transactions (parts_of i)

later_tens : (n : ℕ) (s : DrawnServer) (ss : List DrawnServer) → StandAtTens n (s ∷ ss) → StandAtTens (n + 1) ss
later_tens n s ss tens m t e = let same : n + suc m ≡ n + 1 + m = omega arith in subst (λ k. IsAtTen k t) same (tens (suc m) t e)

-- they list 20 transactions for each ten that is begun
tens_list : (gs : List Given) (n : ℕ) (ss : List DrawnServer) → StandAtTens n ss
    → sum_by listed (inits_from gs n (givens_from n ss)) + 20 * ((n + 9) / 10) ≡ 20 * ((n + length ss + 9) / 10)
tens_list gs n [] tens = omega arith
tens_list gs n (Root ∷ ss) tens =
    let rest = inits_from gs (n + 1) (givens_from (n + 1) ss) in
    let own : sum_by listed (init_of gs n (given_of n Root) ∷ rest) ≡ 20 + sum_by listed rest = sum_by-cons listed (init_of gs n (given_of n Root)) rest in
    let ten : (n + 0) % 10 ≡ 0 = tens zero Root refl in
    omega (arith, own, ten, tens_list gs (n + 1) ss (later_tens n Root ss tens))
tens_list gs n (Replica source executed ∷ ss) tens =
    let s = Replica source executed in
    let rest = inits_from gs (n + 1) (givens_from (n + 1) ss) in
    let own : sum_by listed (init_of gs n (given_of n s) ∷ rest) ≡ 0 + sum_by listed rest = sum_by-cons listed (init_of gs n (given_of n s)) rest in
    let inner : (n + 0) % 10 ≢ 0 = tens zero s refl in
    omega (arith, own, inner, tens_list gs (n + 1) ss (later_tens n s ss tens))

at_ten : (ss : List DrawnServer) (n : ℕ) (s : DrawnServer) → IsPlaced ss n s → IsAtTen n s
at_ten ss n Root is = is
at_ten ss n (Replica source executed) is = is.inner

count_listed : (ss : List DrawnServer) → ArePlaced ss → listed_count (inits_from_drawn ss) ≡ 20 * ((length ss + 9) / 10)
count_listed ss are =
    let tens : StandAtTens 0 ss = λ m s e. let same : m ≡ 0 + m = omega arith in subst (λ k. IsAtTen k s) same (at_ten ss m s (are m s e)) in
    omega (arith, tens_list (givens_from 0 ss) 0 ss tens)

-- the bound is that of the servers, with what they list and one transaction for each turn
pub bound_is : (ss : List DrawnServer) → ArePlaced ss → (turns : ℕ) → is_drawable (length ss) turns ≡ is_small (length ss) (listed_count (inits_from_drawn ss) + turns)
bound_is ss are turns = ap (λ n. is_small (length ss) (n + turns)) (sym (count_listed ss are))

-- the servers, with what they list and this many transactions
within : (ss : List DrawnServer) → ArePlaced ss → (turns more : ℕ) → is_drawable (length ss) turns ≡ true → more ≤ turns
    → is_small (length (inits_from_drawn ss)) (listed_count (inits_from_drawn ss) + more) ≡ true
within ss are turns more fits few =
    let count = listed_count (inits_from_drawn ss) + more in
    let most = 20 * ((length ss + 9) / 10) + turns in
    let servers : length (inits_from_drawn ss) ≡ length ss = length-inits (givens_from 0 ss) 0 ss in
    let bound : length ss * most ≤ 4000000 = leb-true (length ss * most) 4000000 fits in
    let product : length (inits_from_drawn ss) * count ≤ length ss * most =
    mul-le (length (inits_from_drawn ss)) count (length ss) most (omega (arith, servers)) (omega (arith, count_listed ss are)) in
    le-leb (length (inits_from_drawn ss) * count) 4000000 (omega (arith, bound, product))

pub opening_small : (ss : List DrawnServer) → ArePlaced ss → (turns : ℕ) → is_drawable (length ss) turns ≡ true → is_small (length (inits_from_drawn ss)) (listed_count (inits_from_drawn ss)) ≡ true
opening_small ss are turns fits =
    let none : listed_count (inits_from_drawn ss) + 0 ≡ listed_count (inits_from_drawn ss) = omega arith in
    ap (is_small (length (inits_from_drawn ss))) (sym none) ∙ within ss are turns 0 fits (omega arith)

pub turns_small : (ss : List DrawnServer) → ArePlaced ss → (ts : List DrawnTurn) → is_drawable (length ss) (length ts) ≡ true
    → is_small (length (inits_from_drawn ss)) (listed_count (inits_from_drawn ss) + count_by is_write (map turn_of ts)) ≡ true
turns_small ss are ts fits = within ss are (length ts) (count_by is_write (map turn_of ts)) fits (omega (arith, count_by-le-length is_write (map turn_of ts), length-map ts turn_of))
