-- Written turns read.
use Rattle.std.proofs.Common.{◌≡◌, ℕ, ◌+◌, ◌-◌, ◌^◌, List, [], ◌∷◌, Option, Ok, All, length, refl, arith, nat_le, true}
use Rattle.read_back_laws.proofs.Prelude.{Act, All-head, All-tail, HostPort, IsStep, IsToldAct, IsToldTurn, NamesRead, One, Step, Turn, act_data, amount_of}
use Rattle.read_back_laws.proofs.Prelude.{each_from, items_of, job_of, le-leb, link_in, link_of, listed_of, number_in, poll_of, poller_of, seconds_of}
use Rattle.read_back_laws.proofs.Prelude.{server_of, step_data, turn_in, turn_with, whole_in, word_named}
use Rattle.schedules.specs.Turns.{turn_data}
use Rattle.read_back_laws.proofs.Prelude.act
use Rattle.read_back_laws.proofs.Prelude.link
use Rattle.read_back_laws.proofs.Prelude.step
use Rattle.read_back_laws.proofs.Prelude.turn
use Rattle.read_back_laws.proofs.Commands.{command-reads}

module _ (listed : List (Option HostPort)) (names : List HostPort) (printed : List (List ℕ)) (read : NamesRead listed names) where
  step-reads : (x : Step) → IsStep (length names) x → turn_in listed printed 1 (step_data names x) ≡ Ok (One (turn.Step x))
  unfolding turn_in turn_with server_of amount_of link_of link_in number_in whole_in word_named
  step-reads (step.Write n size) is =
      let low : nat_le 1 size ≡ true = le-leb 1 size is.1 in
      let high : nat_le size 1000000 ≡ true = le-leb size 1000000 is.2 in
      rw (read n is.0) (rw (low, high) refl)
  step-reads (step.Fetch n) is = rw (read n is) refl
  step-reads (step.Apply n) is = rw (read n is) refl
  step-reads (step.Fail n) is = rw (read n is) refl
  step-reads (step.Heal n) is = rw (read n is) refl
  step-reads (step.Cut n link.Desk) is = rw (read n is) refl
  step-reads (step.Cut n link.Feed) is = rw (read n is) refl
  step-reads (step.Join n link.Desk) is = rw (read n is) refl
  step-reads (step.Join n link.Feed) is = rw (read n is) refl
  step-reads (step.Rotate n) is = rw (read n is) refl
  step-reads (step.Purge n file) is =
      let low : nat_le 1 file ≡ true = le-leb 1 file is.1 in
      let high : nat_le file 4294967295 ≡ true = le-leb file 4294967295 is.2 in
      rw (read n is.0) (rw (low, high) refl)

  act-reads : (a : Act) → IsToldAct (length names) printed a → turn_in listed printed 1 (act_data names a) ≡ Ok (One (turn.Act a))
  unfolding turn_in turn_with poll_of poller_of job_of number_in whole_in word_named
  act-reads (act.PollRead p n) is =
      let low : nat_le 0 p ≡ true = le-leb 0 p (omega arith) in
      let high : nat_le p 63 ≡ true = le-leb p 63 (omega (arith, is.0)) in
      rw (low, high) (rw (read n is.1) refl)
  act-reads (act.PollStore p) is =
      let low : nat_le 0 p ≡ true = le-leb 0 p (omega arith) in
      let high : nat_le p 63 ≡ true = le-leb p 63 (omega (arith, is)) in
      rw (low, high) refl
  act-reads (act.Command c) is = rw (command-reads listed names printed read c is) refl
  act-reads (act.Job job) is =
      let low : nat_le 0 job ≡ true = le-leb 0 job (omega arith) in
      let high : nat_le job (2 ^ 64 - 1) ≡ true = le-leb job (2 ^ 64 - 1) (omega (arith, is)) in
      rw (low, high) refl
  act-reads act.Scan is = refl
  act-reads act.Restart is = refl

  turn-reads : (t : Turn) → IsToldTurn (length names) printed t → turn_in listed printed 1 (turn_data names t) ≡ Ok (One t)
  unfolding turn_in turn_with seconds_of number_in whole_in word_named
  turn-reads (turn.Step x) is = step-reads x is
  turn-reads (turn.Tick seconds) is =
      let low : nat_le 0 seconds ≡ true = le-leb 0 seconds (omega arith) in
      let high : nat_le seconds 1000000000 ≡ true = le-leb seconds 1000000000 is in
      rw (low, high) refl
  turn-reads (turn.Act a) is = act-reads a is
  turn-reads _ is = absurd is

  reads-from : (n : ℕ) (ts : List Turn) → All (IsToldTurn (length names) printed) ts → each_from (λ k d. turn_in listed printed 1 d) n (items_of (turn_data names) ts) ≡ Ok (listed_of ts)
  reads-from n [] all = refl
  reads-from n (t ∷ ts) all =
      rw (turn-reads t (All-head (IsToldTurn (length names) printed) t ts all)) (rw (reads-from (n + 1) ts (All-tail (IsToldTurn (length names) printed) t ts all)) refl)

  pub turns-read : (ts : List Turn) → All (IsToldTurn (length names) printed) ts → each_from (λ k d. turn_in listed printed 1 d) 0 (items_of (turn_data names) ts) ≡ Ok (listed_of ts)
  turns-read ts all = reads-from 0 ts all
