-- A turn that is read is one of the servers, or means such turns.
use Rattle.std.proofs.Common.{◌≡◌, ℕ, ◌<◌, ◌≤◌, Bool, true, false, cond, List, length, Option, Some, None, Result, Ok, refl, subst, arith, IfSome, ◌&&◌, nat_le}
use Rattle.scenario_turns.proofs.Prelude.{Act, Apply, BadTurn, Cut, Data, Fail, Fault, Fetch, Heal, HostPort, IsAct, IsCommand, IsListedTurn}
use Rattle.scenario_turns.proofs.Prelude.{IsNumberOf, IsTurnOf, Items, Job, Join, Link, ListedTurn, NodeTurn, One, PollRead, Polls, PollStore, Purge}
use Rattle.scenario_turns.proofs.Prelude.{Restart, Rotate, Round, Scan, ServerNo, Turn, Word, Write, act_of, alone, amount_of, as_of, bind-ok}
use Rattle.scenario_turns.proofs.Prelude.{command_in, done_by, fails, has_parts, holds, inner_from, inner_in, inner_with, item, items_in, job_of}
use Rattle.scenario_turns.proofs.Prelude.{leb-true, link_in, link_of, named-ok, no_items, node_in, node_of, node_or_fails, number-ok, number_in}
use Rattle.scenario_turns.proofs.Prelude.{one_of, poll_of, poller_in, poller_of, same_Ok, seconds_of, server_named, server_of, stands, text_in}
use Rattle.scenario_turns.proofs.Prelude.{turn_by, turn_from, turn_in, turn_of, turn_with, two_of, under-ok, under_item, whole_or_none, word_at}
use Rattle.scenario_turns.proofs.Prelude.TheVariants.{Command}
use Rattle.scenario_turns.proofs.Prelude.turn
use Rattle.scenario_turns.proofs.Prelude.word
use Rattle.scenario_turns.proofs.Sound.{both_true, command-has}
use Rattle.scenario_turns.proofs.Expansions.{done_by-is}

server-has : (names : List (Option HostPort)) (rest : Items) (n : ServerNo) → server_of names rest ≡ Ok n → n.0 < length names
unfolding server_of
server-has names rest n e =
    let server = bind-ok (one_of rest) _ n e in
    named-ok names server.0 n (under-ok _ _ n server.2)

record IsAmount (count most : ℕ) (p : ServerNo × ℕ) : Type 0 where
  within : p.0.0 < count
  some : 1 ≤ p.1
  few : p.1 ≤ most

amount-has : (names : List (Option HostPort)) (most : ℕ) (rest : Items) (p : ServerNo × ℕ) → amount_of names most rest ≡ Ok p → IsAmount (length names) most p
unfolding amount_of
amount-has names most rest p e =
    let parts = bind-ok (two_of rest) _ p e in
    let server = bind-ok (under_item 1 (server_named names parts.0.0)) _ p parts.2 in
    let amount = bind-ok (under_item 2 (number_in 1 most parts.0.1)) _ p server.2 in
    let bounds = number-ok 1 most parts.0.1 amount.0 (under-ok _ _ amount.0 amount.1) in
    subst (IsAmount (length names) most) (same_Ok (server.0, amount.0) p amount.2)
    (record { within = named-ok names parts.0.0 server.0 (under-ok _ _ server.0 server.1); some = bounds.0; few = bounds.1 })

link-has : (names : List (Option HostPort)) (rest : Items) (p : ServerNo × Link) → link_of names rest ≡ Ok p → p.0.0 < length names
unfolding link_of
link-has names rest p e =
    let parts = bind-ok (two_of rest) _ p e in
    let server = bind-ok (under_item 1 (server_named names parts.0.0)) _ p parts.2 in
    let link = bind-ok (under_item 2 (link_in parts.0.1)) _ p server.2 in
    subst (λ (q : ServerNo × Link). q.0.0 < length names) (same_Ok (server.0, link.0) p link.2) (named-ok names parts.0.0 server.0 (under-ok _ _ server.0 server.1))

seconds-have : (rest : Items) (n : ℕ) → seconds_of rest ≡ Ok n → n ≤ 1000000000
unfolding seconds_of
seconds-have rest n e =
    let number = bind-ok (one_of rest) _ n e in
    (number-ok 0 1000000000 number.0 n (under-ok _ _ n number.2)).1

record IsPoll (count : ℕ) (p : ℕ × ServerNo) : Type 0 where
  poller : p.0 < 64
  within : p.1.0 < count

poll-has : (names : List (Option HostPort)) (rest : Items) (p : ℕ × ServerNo) → poll_of names rest ≡ Ok p → IsPoll (length names) p
unfolding poll_of
poll-has names rest p e =
    let parts = bind-ok (two_of rest) _ p e in
    let poller = bind-ok (under_item 1 (poller_in parts.0.0)) _ p parts.2 in
    let server = bind-ok (under_item 2 (server_named names parts.0.1)) _ p poller.2 in
    let bounds = number-ok 0 63 parts.0.0 poller.0 (under-ok _ _ poller.0 poller.1) in
    subst (IsPoll (length names)) (same_Ok (poller.0, server.0) p server.2)
    (record { poller = omega (arith, bounds.1); within = named-ok names parts.0.1 server.0 (under-ok _ _ server.0 server.1) })

poller-has : (rest : Items) (p : ℕ) → poller_of rest ≡ Ok p → p < 64
unfolding poller_of
poller-has rest p e =
    let poller = bind-ok (one_of rest) _ p e in
    let bounds = number-ok 0 63 poller.0 p (under-ok _ _ p poller.2) in
    omega (arith, bounds.1)

-- a turn of what was read
made-has : {A : Type 0} (count nodes : ℕ) (P : A → Type 0) (make : A → Turn) (read : Result A Fault) (t : ListedTurn) → ((x : A) → P x → IsTurnOf count nodes (make x)) → ((x : A) → read ≡ Ok x → P x)
    → turn_by make read ≡ Ok t → IsListedTurn count nodes t
made-has count nodes P make read t is has e =
    let x = bind-ok read _ t e in
    subst (IsListedTurn count nodes) (same_Ok (One (make x.0)) t x.2) (is x.0 (has x.0 x.1))

alone-has : (count nodes : ℕ) (turn : ListedTurn) (rest : Items) (t : ListedTurn) → IsListedTurn count nodes turn → alone turn rest ≡ Ok t → IsListedTurn count nodes t
alone-has count nodes turn no_items t is e = subst (IsListedTurn count nodes) (same_Ok turn t e) is
alone-has count nodes turn (item a rest) t is e = cc

-- ---- orchestrators

within-nodes : (nodes : ℕ) (o : Option ℕ) (n : ℕ) → node_or_fails nodes o ≡ Ok n → IsNumberOf nodes n
within-nodes nodes None n e = cc
within-nodes nodes (Some m) n e = go (nat_le 1 m && nat_le m nodes) refl e
  where
    go : (b : Bool) → (nat_le 1 m && nat_le m nodes) ≡ b → cond {A = Result ℕ Fault} b (Ok m) (fails NodeTurn) ≡ Ok n → IsNumberOf nodes n
    go true is e =
        let parts = both_true (nat_le 1 m) (nat_le m nodes) is in
        subst (IsNumberOf nodes) (same_Ok m n e) (leb-true 1 m parts.0, leb-true m nodes parts.1)
    go false is e = cc

node-has : (nodes : ℕ) (d : Data) (n : ℕ) → node_in nodes d ≡ Ok n → IsNumberOf nodes n
unfolding node_in
node-has nodes d n e =
    let number = bind-ok (under_item 1 (whole_or_none d)) _ n e in
    within-nodes nodes number.0 n number.2

node_of-has : (nodes : ℕ) (rest : Items) (n : ℕ) → node_of nodes rest ≡ Ok n → IsNumberOf nodes n
unfolding node_of
node_of-has nodes rest n e =
    let number = bind-ok (one_of rest) _ n e in
    node-has nodes number.0 n number.2

-- what orchestrator does, of what was read
done-has : {A : Type 0} (count nodes : ℕ) (node : Option ℕ) (P : A → Type 0) (make : A → Act) (read : Result A Fault) (t : ListedTurn) → IfSome node (IsNumberOf nodes) → ((x : A) → P x → IsAct count (make x))
    → ((x : A) → read ≡ Ok x → P x) → turn_by (λ x. done_by node (make x)) read ≡ Ok t → IsListedTurn count nodes t
done-has count nodes by P make read t of is has e =
    made-has count nodes P (λ x. done_by by (make x)) read t (λ x p. done_by-is count nodes by (make x) of (is x p)) has e

act_of-has : (names : List (Option HostPort)) (printed : List (List ℕ)) (nodes : ℕ) (node : Option ℕ) (w : Word) (rest : Items) (t : ListedTurn) → length printed ≡ length names → IfSome node (IsNumberOf nodes)
    → act_of names printed node w rest ≡ Ok t → IsListedTurn (length names) nodes t
act_of-has names printed nodes by word.PollRead rest t counts of e =
    done-has (length names) nodes by (IsPoll (length names)) (λ p. PollRead p.0 p.1) (poll_of names rest) t of (λ p is. (is.poller, is.within)) (poll-has names rest) e
act_of-has names printed nodes by word.PollStore rest t counts of e = done-has (length names) nodes by (λ p. p < 64) (λ p. PollStore p) (poller_of rest) t of (λ p is. is) (poller-has rest) e
act_of-has names printed nodes by word.Polls rest t counts of e = alone-has (length names) nodes (Polls by) rest t of e
act_of-has names printed nodes by word.Command rest t counts of e =
    done-has (length names) nodes by (IsCommand (length names)) (λ c. Command c) (command_in names printed rest) t of (λ c is. is) (λ c f. command-has names printed rest c counts f) e
act_of-has names printed nodes by word.Job rest t counts of e = done-has (length names) nodes by (λ n. Unit {0}) (λ n. Job n) (job_of rest) t of (λ n is. is) (λ n read. tt) e
act_of-has names printed nodes by word.Scan rest t counts of e = alone-has (length names) nodes (One (done_by by Scan)) rest t (done_by-is (length names) nodes by Scan of tt) e
act_of-has names printed nodes by word.Restart rest t counts of e = alone-has (length names) nodes (One (done_by by Restart)) rest t (done_by-is (length names) nodes by Restart of tt) e
act_of-has names printed nodes by _ rest t counts of e = cc

inner-has : (names : List (Option HostPort)) (printed : List (List ℕ)) (nodes node : ℕ) (d : Data) (t : ListedTurn) → length printed ≡ length names → IsNumberOf nodes node → inner_in names printed node d ≡ Ok t
    → IsListedTurn (length names) nodes t
unfolding inner_in inner_with
inner-has names printed nodes node d t counts of e =
    let items = bind-ok (items_in d) (inner_from names printed node) t e in
    go items.0 items.2
  where
    go : (ds : Items) → inner_from names printed node ds ≡ Ok t → IsListedTurn (length names) nodes t
    go no_items e = cc
    go (item first rest) e =
        let text = bind-ok (under_item 0 (text_in first)) _ t e in
        let w = bind-ok (word_at text.0) _ t text.2 in
        let parts = bind-ok (holds BadTurn (has_parts w.0 rest)) _ t w.2 in
        act_of-has names printed nodes (Some node) w.0 rest t counts of parts.2

as-has : (names : List (Option HostPort)) (printed : List (List ℕ)) (nodes : ℕ) (rest : Items) (t : ListedTurn) → length printed ≡ length names → as_of names printed nodes rest ≡ Ok t → IsListedTurn (length names) nodes t
unfolding as_of
as-has names printed nodes rest t counts e =
    let parts = bind-ok (two_of rest) _ t e in
    let node = bind-ok (node_in nodes parts.0.0) _ t parts.2 in
    inner-has names printed nodes node.0 parts.0.1 t counts (node-has nodes parts.0.0 node.0 node.1) (under-ok _ _ t node.2)

-- ---- the turn

turn_of-has : (names : List (Option HostPort)) (printed : List (List ℕ)) (nodes : ℕ) (w : Word) (rest : Items) (t : ListedTurn) → length printed ≡ length names → turn_of names printed nodes w rest ≡ Ok t
    → IsListedTurn (length names) nodes t
turn_of-has names printed nodes word.Write rest t counts e =
    made-has (length names) nodes (IsAmount (length names) 1000000) (λ p. turn.Step (Write p.0 p.1)) (amount_of names 1000000 rest) t (λ p is. ((is.within, is.some, is.few), tt)) (amount-has names 1000000 rest) e
turn_of-has names printed nodes word.Fetch rest t counts e = made-has (length names) nodes (λ n. n.0 < length names) (λ n. turn.Step (Fetch n)) (server_of names rest) t (λ n is. (is, tt)) (server-has names rest) e
turn_of-has names printed nodes word.Apply rest t counts e = made-has (length names) nodes (λ n. n.0 < length names) (λ n. turn.Step (Apply n)) (server_of names rest) t (λ n is. (is, tt)) (server-has names rest) e
turn_of-has names printed nodes word.Fail rest t counts e = made-has (length names) nodes (λ n. n.0 < length names) (λ n. turn.Step (Fail n)) (server_of names rest) t (λ n is. (is, tt)) (server-has names rest) e
turn_of-has names printed nodes word.Heal rest t counts e = made-has (length names) nodes (λ n. n.0 < length names) (λ n. turn.Step (Heal n)) (server_of names rest) t (λ n is. (is, tt)) (server-has names rest) e
turn_of-has names printed nodes word.Rotate rest t counts e = made-has (length names) nodes (λ n. n.0 < length names) (λ n. turn.Step (Rotate n)) (server_of names rest) t (λ n is. (is, tt)) (server-has names rest) e
turn_of-has names printed nodes word.Purge rest t counts e =
    made-has (length names) nodes (IsAmount (length names) 4294967295) (λ p. turn.Step (Purge p.0 p.1)) (amount_of names 4294967295 rest) t (λ p is. ((is.within, is.some, is.few), tt)) (amount-has names 4294967295 rest) e
turn_of-has names printed nodes word.Cut rest t counts e = made-has (length names) nodes (λ p. p.0.0 < length names) (λ p. turn.Step (Cut p.0 p.1)) (link_of names rest) t (λ p is. (is, tt)) (link-has names rest) e
turn_of-has names printed nodes word.Join rest t counts e = made-has (length names) nodes (λ p. p.0.0 < length names) (λ p. turn.Step (Join p.0 p.1)) (link_of names rest) t (λ p is. (is, tt)) (link-has names rest) e
turn_of-has names printed nodes word.Tick rest t counts e = made-has (length names) nodes (λ n. n ≤ 1000000000) turn.Tick (seconds_of rest) t (λ n is. (is, tt)) (seconds-have rest) e
turn_of-has names printed nodes word.Round rest t counts e = alone-has (length names) nodes Round rest t tt e
turn_of-has names printed nodes word.Claim rest t counts e = made-has (length names) nodes (IsNumberOf nodes) turn.Claim (node_of nodes rest) t (λ n is. (tt, is)) (node_of-has nodes rest) e
turn_of-has names printed nodes word.Release rest t counts e = made-has (length names) nodes (IsNumberOf nodes) turn.Release (node_of nodes rest) t (λ n is. (tt, is)) (node_of-has nodes rest) e
turn_of-has names printed nodes word.As rest t counts e = as-has names printed nodes rest t counts e
turn_of-has names printed nodes x rest t counts e = act_of-has names printed nodes None x rest t counts tt e

pub turn-has : (names : List (Option HostPort)) (printed : List (List ℕ)) (nodes : ℕ) (d : Data) (t : ListedTurn) → length printed ≡ length names → turn_in names printed nodes d ≡ Ok t
    → IsListedTurn (length names) nodes t
unfolding turn_in turn_with
turn-has names printed nodes d t counts e =
    let items = bind-ok (items_in d) (turn_from names printed nodes) t e in
    go items.0 items.2
  where
    go : (ds : Items) → turn_from names printed nodes ds ≡ Ok t → IsListedTurn (length names) nodes t
    go no_items e = cc
    go (item first rest) e =
        let text = bind-ok (under_item 0 (text_in first)) _ t e in
        let w = bind-ok (word_at text.0) _ t text.2 in
        let parts = bind-ok (holds BadTurn (has_parts w.0 rest)) _ t w.2 in
        let may = bind-ok (holds NodeTurn (stands nodes w.0)) _ t parts.2 in
        turn_of-has names printed nodes w.0 rest t counts may.2
