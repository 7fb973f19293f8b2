-- Values whose text reads back.
use Rattle.std.proofs.Common.{◌≡◌, ◌<◌, ◌≤◌, ℕ, zero, suc, ◌+◌, ◌∷◌, List, [], Option, Some, option_and_then, refl, ap, arith, codes}
use Rattle.scenario_generator.proofs.Prelude.{Apply, AreTurnsOf, Data, DrawnServer, DrawnTurn, Fetch}
use Rattle.scenario_generator.proofs.Prelude.{IsTurnOf, PollRead, PollStore, Replica, Root, Rotate, Token}
use Rattle.scenario_generator.proofs.Prelude.{Write, array, count_at, count_of, drawn_data, item}
use Rattle.scenario_generator.proofs.Prelude.{member, no_items, no_members, object, of_json, put}
use Rattle.scenario_generator.proofs.Prelude.{read, scenario_text, server_data, server_name, servers_data, servers_from, turn_data}
use Rattle.scenario_generator.proofs.Prelude.{turns_data, turns_from}
use Rattle.scenario_generator.proofs.Prelude.SerdeJson.{number, string}
use Rattle.scenario_generator.proofs.Prelude.json
use Rattle.scenario_generator.proofs.Promises.{counts_few, turns_are}
use Rattle.scenario_generator.proofs.ReadBack.{Reads, ReadsItems, reads_array, reads_item, reads_no_items, reads_number, reads_string, reads_text}

-- ---- values that read back, no deeper than this

-- members in the order of their keys
reads_two : (k : ℕ) (l m : List ℕ) (d e : Data) → put m e (member l d no_members) ≡ member l d (member m e no_members) → Reads k d → Reads k e → Reads (k + 1) (object (member l d (member m e no_members)))
reads_two k l m d e order first second = record {
  back = rw (first.back, second.back) (ap (λ ms. Some (object ms)) order);
  numbers = (first.numbers, (second.numbers, tt));
  shallow = omega (arith, first.shallow, second.shallow);
}

reads_three : (k : ℕ) (l m n : List ℕ) (d e f : Data) → put n f (put m e (member l d no_members)) ≡ member l d (member m e (member n f no_members)) → Reads k d → Reads k e → Reads k f
    → Reads (k + 1) (object (member l d (member m e (member n f no_members))))
reads_three k l m n d e f order first second third = record {
  back = rw (first.back, second.back, third.back) (ap (λ ms. Some (object ms)) order);
  numbers = (first.numbers, (second.numbers, (third.numbers, tt)));
  shallow = omega (arith, first.shallow, second.shallow, third.shallow);
}

-- ---- what is drawn

reads_server : (n : ℕ) (s : DrawnServer) → count_of s ≤ 20 → Reads 3 (server_data n s)
reads_server n Root few =
    reads_two 2 (codes "history") (codes "name") _ _ refl
    (reads_array 1 _ (reads_item 1 _ _ (reads_array 0 _ (reads_item 0 _ _ (reads_string 0 (server_name n)) (reads_item 0 _ _ (reads_number 0 100 (omega arith)) (reads_item 0 _ _ (reads_number 0 20 (omega arith)) (reads_no_items 0))))) (reads_no_items 1)))
    (reads_string 2 (server_name n))
reads_server n (Replica source executed) few =
    reads_three 2 (codes "executed") (codes "name") (codes "source") _ _ _ refl (reads_number 2 executed (omega arith)) (reads_string 2 (server_name n)) (reads_string 2 (server_name source))

reads_servers : (n : ℕ) (ss : List DrawnServer) → ((m : ℕ) → count_at ss m ≤ 20) → ReadsItems 3 (servers_data n ss)
reads_servers n [] few = reads_no_items 3
reads_servers n (s ∷ ss) few = reads_item 3 (server_data n s) (servers_data (n + 1) ss) (reads_server n s (few zero)) (reads_servers (n + 1) ss (λ m. few (suc m)))

reads_named : (word : List ℕ) (n : ℕ) → Reads 3 (array (item (string word) (item (string (server_name n)) no_items)))
reads_named word n = reads_array 2 _ (reads_item 2 _ _ (reads_string 2 word) (reads_item 2 _ _ (reads_string 2 (server_name n)) (reads_no_items 2)))

reads_turn : (servers : ℕ) (t : DrawnTurn) → IsTurnOf servers t → Reads 3 (turn_data t)
reads_turn servers (Write root size) is =
    reads_array 2 _ (reads_item 2 _ _ (reads_string 2 (codes "write")) (reads_item 2 _ _ (reads_string 2 (server_name root)) (reads_item 2 _ _ (reads_number 2 size (omega (arith, is.small))) (reads_no_items 2))))
reads_turn servers (Fetch n) is = reads_named (codes "fetch") n
reads_turn servers (Apply n) is = reads_named (codes "apply") n
reads_turn servers (Rotate n) is = reads_named (codes "rotate") n
reads_turn servers (PollRead n) is =
    reads_array 2 _ (reads_item 2 _ _ (reads_string 2 (codes "poll-read")) (reads_item 2 _ _ (reads_number 2 0 (omega arith)) (reads_item 2 _ _ (reads_string 2 (server_name n)) (reads_no_items 2))))
reads_turn servers PollStore is = reads_array 2 _ (reads_item 2 _ _ (reads_string 2 (codes "poll-store")) (reads_item 2 _ _ (reads_number 2 0 (omega arith)) (reads_no_items 2)))

reads_turns : (servers : ℕ) (ts : List DrawnTurn) → AreTurnsOf servers ts → ReadsItems 3 (turns_data ts)
reads_turns servers [] are = reads_no_items 3
reads_turns servers (t ∷ ts) are = reads_item 3 (turn_data t) (turns_data ts) (reads_turn servers t (are zero t refl)) (reads_turns servers ts (λ k u e. are (suc k) u e))

reads_drawn : (seed servers turns : ℕ) → 0 < servers → Reads 5 (drawn_data seed servers turns)
unfolding drawn_data
reads_drawn seed servers turns some =
    let first = servers_from seed servers in
    reads_three 4 (codes "servers") (codes "turns") (codes "version") _ _ _ refl (reads_array 3 _ (reads_servers 0 first.drawn (counts_few seed servers)))
    (reads_array 3 _ (reads_turns servers (turns_from servers first.number turns).drawn (turns_are servers first.number turns some))) (reads_number 4 1 (omega arith))

-- ---- the text

abbrev whole : Option (json.Json × List Token) → Option Data
whole o = option_and_then of_json (option_and_then (λ p. json.if_last p.0 p.1) o)

pub text_reads : (seed servers turns : ℕ) → 0 < servers → read (scenario_text seed servers turns) ≡ Some (drawn_data seed servers turns)
unfolding scenario_text
text_reads seed servers turns some = reads_text 5 (drawn_data seed servers turns) (omega arith) (reads_drawn seed servers turns some)
