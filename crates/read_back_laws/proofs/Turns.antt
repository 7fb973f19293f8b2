-- Drawn turns read as what was drawn.
use Rattle.std.proofs.Common.{◌≡◌, ◌<◌, ◌≤◌, ℕ, zero, suc, ◌+◌, ◌∷◌, List, [], Ok, refl, arith, nat_le, true}
use Rattle.read_back_laws.proofs.Prelude.{Apply, AreTurnsOf, DrawnTurn, Fetch, IsTurnOf, One, PollRead, PollStore, Rotate, Write, amount_of, each_from, le-leb}
use Rattle.read_back_laws.proofs.Prelude.{listed_turns, names_from, number_in, poll_of, poller_of, server_of, turn_data, turn_in, turn_of, turn_with, turns_are}
use Rattle.read_back_laws.proofs.Prelude.{turns_data, turns_from, whole_in, word_named}
use Rattle.read_back_laws.proofs.Names.{named}

turn_reads : (servers : ℕ) (printed : List (List ℕ)) (t : DrawnTurn) → servers ≤ 1000 → IsTurnOf servers t → turn_in (names_from 0 servers) printed 1 (turn_data t) ≡ Ok (One (turn_of t))
unfolding turn_in turn_with server_of amount_of poll_of poller_of number_in whole_in word_named
turn_reads servers printed (Fetch n) few is = rw (named servers n is (omega arith)) refl
turn_reads servers printed (Apply n) few is = rw (named servers n is (omega arith)) refl
turn_reads servers printed (Rotate n) few is = rw (named servers n is (omega arith)) refl
turn_reads servers printed (PollRead n) few is = rw (named servers n is (omega arith)) refl
turn_reads servers printed PollStore few is = refl
turn_reads servers printed (Write root size) few is =
    let low : nat_le 1 size ≡ true = le-leb 1 size is.some in
    let high : nat_le size 1000000 ≡ true = le-leb size 1000000 (omega (arith, is.small)) in
    rw (named servers root is.there (omega arith)) (rw (low, high) refl)

turns_read_from : (servers n : ℕ) (printed : List (List ℕ)) (ts : List DrawnTurn) → servers ≤ 1000 → AreTurnsOf servers ts
    → each_from (λ k d. turn_in (names_from 0 servers) printed 1 d) n (turns_data ts) ≡ Ok (listed_turns ts)
turns_read_from servers n printed [] few are = refl
turns_read_from servers n printed (t ∷ ts) few are =
    rw (turn_reads servers printed t few (are zero t refl)) (rw (turns_read_from servers (n + 1) printed ts few (λ k u e. are (suc k) u e)) refl)

pub turns_read : (servers x turns : ℕ) (printed : List (List ℕ)) → 0 < servers → servers ≤ 1000
    → each_from (λ k d. turn_in (names_from 0 servers) printed 1 d) 0 (turns_data (turns_from servers x turns).drawn) ≡ Ok (listed_turns (turns_from servers x turns).drawn)
turns_read servers x turns printed some few = turns_read_from servers 0 printed (turns_from servers x turns).drawn few (turns_are servers x turns some)
