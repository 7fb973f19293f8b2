-- The text is UTF-8, and not too long.
use Rattle.std.proofs.Common.{◌≡◌, ◌<◌, ◌≤◌, ℕ, zero, suc, ◌+◌, ◌*◌, ◌^◌, Bool, true, false, ◌∷◌, List, [], ◌++◌, length, drop, refl, sym, ap, subst, arith, decimal, Some, codes, slice_get}
use Rattle.scenario_generator.proofs.Prelude.{Apply, AreTurnsOf, Data, DrawnServer, DrawnTurn, Fetch, IsAscii-decimal, IsPlaced, IsTurnOf, IsUtf8}
use Rattle.scenario_generator.proofs.Prelude.{IsUtf8-append, IsUtf8-are_ascii, IsUtf8-from_ascii, IsUtf8-nil, Items, PollRead, PollStore, Replica}
use Rattle.scenario_generator.proofs.Prelude.{Root, Rotate, Write, are_ascii, comma_if, compact_text, count_at, count_in, count_of, drop-nil, is_utf8}
use Rattle.scenario_generator.proofs.Prelude.{is_utf8-from_IsUtf8, item, length-append, length-decimal-le, listed, no_items, padded, scenario_text}
use Rattle.scenario_generator.proofs.Prelude.{server_data, server_name, server_text, servers_data, servers_from, servers_text, slice_get_within}
use Rattle.scenario_generator.proofs.Prelude.{turn_data, turn_text, turns_data, turns_from, turns_text}
use Rattle.scenario_generator.proofs.Names.{length-server_name}
use Rattle.scenario_generator.proofs.Promises.{counts_few, placed, turns_are}
use Rattle.scenario_generator.proofs.Servers.{servers_from-count}
use Rattle.scenario_generator.proofs.Texts.{apply_text, fetch_text, poll_text, replica_text, root_text, rotate_text, store_text, write_text}
use Rattle.scenario_generator.proofs.Turns.{turns_from-count}
use Rattle.scenario_generator.proofs.Wholes.{scenario_parts}

-- UTF-8 of at most so many bytes
record IsShort (most : ℕ) (text : List ℕ) : Type 0 where
  utf8 : IsUtf8 text
  short : length text ≤ most

joined : (j k : ℕ) (a b : List ℕ) → IsShort j a → IsShort k b → IsShort (j + k) (a ++ b)
joined j k a b first second = record { utf8 = IsUtf8-append a b first.utf8 second.utf8; short = omega (arith, length-append a b, first.short, second.short) }

wider : (k most : ℕ) (text : List ℕ) → k ≤ most → IsShort k text → IsShort most text
wider k most text few h = record { utf8 = h.utf8; short = omega (arith, h.short) }

-- the text is this one, of at most so many bytes
within : (k most : ℕ) (text text' : List ℕ) → text' ≡ text → IsShort k text → k ≤ most → IsShort most text'
within k most text text' same h few = subst (λ (v : List ℕ). IsShort most v) (sym same) (wider k most text few h)

literal : (text : List ℕ) → are_ascii text ≡ true → IsShort (length text) text
literal text plain = record { utf8 = IsUtf8-are_ascii text plain; short = omega arith }

short_decimal : (n : ℕ) → n < 2 ^ 64 → IsShort 20 (decimal n)
short_decimal n small = record { utf8 = IsUtf8-from_ascii (decimal n) (IsAscii-decimal n small); short = length-decimal-le 20 n (omega arith) (omega arith) small }

zeros_utf8 : (k : ℕ) → IsUtf8 (drop k (codes "0000"))
zeros_utf8 zero = IsUtf8-are_ascii (codes "0000") refl
zeros_utf8 (suc zero) = IsUtf8-are_ascii (codes "000") refl
zeros_utf8 (suc (suc zero)) = IsUtf8-are_ascii (codes "00") refl
zeros_utf8 (suc (suc (suc zero))) = IsUtf8-are_ascii (codes "0") refl
zeros_utf8 (suc (suc (suc (suc k)))) = rw (drop-nil k) IsUtf8-nil

name_utf8 : (n : ℕ) → n + 1 < 2 ^ 64 → IsUtf8 (server_name n)
unfolding server_name
name_utf8 n small =
    let ds = decimal (n + 1) in
    IsUtf8-append (codes "s") (padded ds) (IsUtf8-are_ascii (codes "s") refl) (IsUtf8-append (drop (length ds) (codes "0000")) ds (zeros_utf8 (length ds)) (IsUtf8-from_ascii ds (IsAscii-decimal (n + 1) small)))

short_name : (n : ℕ) → n + 1 < 2 ^ 64 → IsShort 25 (server_name n)
short_name n small = record { utf8 = name_utf8 n small; short = length-server_name n small }

-- a name between two texts
named : (before after : List ℕ) (n : ℕ) → are_ascii before ≡ true → are_ascii after ≡ true → n + 1 < 2 ^ 64 → IsShort (length before + (25 + length after)) (before ++ (server_name n ++ after))
named before after n plain plain' small =
    joined (length before) (25 + length after) before (server_name n ++ after) (literal before plain) (joined 25 (length after) (server_name n) after (short_name n small) (literal after plain'))

-- ---- servers and turns

short_server : (n : ℕ) (s : DrawnServer) (ss : List DrawnServer) → n + 1 < 2 ^ 64 → IsPlaced ss n s → count_of s ≤ 20 → IsShort 110 (server_text n s)
short_server n Root ss small is few =
    let name = short_name n small in
    within _ 110 _ _ (root_text n) (joined _ _ (codes "{\"history\":[[\"") _ (literal (codes "{\"history\":[[\"") refl)
    (joined _ _ (server_name n ++ codes "\",100,20]]") _ (joined _ _ (server_name n) (codes "\",100,20]]") name (literal (codes "\",100,20]]") refl)) (named (codes ",\"name\":\"") (codes "\"}") n refl refl small))) (omega arith)
short_server n (Replica source executed) ss small is few =
    let earlier : source + 1 < 2 ^ 64 = omega (arith, is.earlier) in
    within _ 110 _ _ (replica_text n source executed) (joined _ _ (codes "{\"executed\":") _ (literal (codes "{\"executed\":") refl)
    (joined _ _ (decimal executed ++ (codes ",\"name\":\"" ++ (server_name n ++ codes "\""))) _
    (joined _ _ (decimal executed) _ (short_decimal executed (omega arith)) (named (codes ",\"name\":\"") (codes "\"") n refl refl small)) (named (codes ",\"source\":\"") (codes "\"}") source refl refl earlier))) (omega arith)

short_turn : (servers : ℕ) (t : DrawnTurn) → servers < 2 ^ 64 → IsTurnOf servers t → IsShort 60 (turn_text t)
short_turn servers (Write root size) small is =
    let there : root + 1 < 2 ^ 64 = omega (arith, is.there) in
    within _ 60 _ _ (write_text root size) (joined _ _ (codes "[\"write\",\"") _ (literal (codes "[\"write\",\"") refl)
    (joined _ _ ((server_name root ++ codes "\",") ++ decimal size) (codes "]")
    (joined _ _ (server_name root ++ codes "\",") (decimal size) (joined _ _ (server_name root) (codes "\",") (short_name root there) (literal (codes "\",") refl)) (short_decimal size (omega (arith, is.small))))
    (literal (codes "]") refl))) (omega arith)
short_turn servers (Fetch n) small is = within _ 60 _ _ (fetch_text n) (named (codes "[\"fetch\",\"") (codes "\"]") n refl refl (omega (arith, is))) (omega arith)
short_turn servers (Apply n) small is = within _ 60 _ _ (apply_text n) (named (codes "[\"apply\",\"") (codes "\"]") n refl refl (omega (arith, is))) (omega arith)
short_turn servers (Rotate n) small is = within _ 60 _ _ (rotate_text n) (named (codes "[\"rotate\",\"") (codes "\"]") n refl refl (omega (arith, is))) (omega arith)
short_turn servers (PollRead n) small is =
    within _ 60 _ _ (poll_text n) (named (codes "[\"poll-read\",0,\"") (codes "\"]") n refl refl (omega (arith, is))) (omega arith)
short_turn servers PollStore small is = within _ 60 _ _ store_text (literal (codes "[\"poll-store\",0]") refl) (omega arith)

-- ---- lists

short_comma : (later : Bool) → IsShort 1 (comma_if later)
short_comma true = literal (codes ",") refl
short_comma false = record { utf8 = IsUtf8-nil; short = omega arith }

short_listed : (later : Bool) (k count : ℕ) (d : Data) (ds : Items) → IsShort k (compact_text d) → IsShort (count * (k + 1)) (listed true ds) → IsShort ((count + 1) * (k + 1)) (listed later (item d ds))
short_listed later k count d ds first rest =
    wider (1 + (k + count * (k + 1))) ((count + 1) * (k + 1)) _ (omega arith) (joined 1 _ (comma_if later) _ (short_comma later) (joined k _ (compact_text d) _ first rest))

short_nothing : (later : Bool) (k : ℕ) → IsShort (0 * k) (listed later no_items)
short_nothing later k = record { utf8 = IsUtf8-nil; short = omega arith }

-- each server of a list that goes on from number n
abbrev EachShort : ℕ → List DrawnServer → Type 0
EachShort n ss = (m : ℕ) (s : DrawnServer) → slice_get ss m ≡ Some s → IsShort 110 (server_text (n + m) s)

short_servers : (later : Bool) (n : ℕ) (ss : List DrawnServer) → EachShort n ss → IsShort (length ss * 111) (listed later (servers_data n ss))
unfolding server_text
short_servers later n [] each = short_nothing later 111
short_servers later n (s ∷ ss) each =
    let same : n + 0 ≡ n = omega arith in
    let first : IsShort 110 (server_text n s) = subst (λ m. IsShort 110 (server_text m s)) same (each zero s refl) in
    let rest = short_servers true (n + 1) ss (λ m t e. let moved : n + suc m ≡ n + 1 + m = omega arith in subst (λ k. IsShort 110 (server_text k t)) moved (each (suc m) t e)) in
    wider ((length ss + 1) * 111) (length (s ∷ ss) * 111) _ (omega arith) (short_listed later 110 (length ss) (server_data n s) (servers_data (n + 1) ss) first rest)

short_turns : (later : Bool) (servers : ℕ) (ts : List DrawnTurn) → servers < 2 ^ 64 → AreTurnsOf servers ts → IsShort (length ts * 61) (listed later (turns_data ts))
unfolding turn_text
short_turns later servers [] small are = short_nothing later 61
short_turns later servers (t ∷ ts) small are =
    let first = short_turn servers t small (are zero t refl) in
    let rest = short_turns true servers ts small (λ k u e. are (suc k) u e) in
    wider ((length ts + 1) * 61) (length (t ∷ ts) * 61) _ (omega arith) (short_listed later 60 (length ts) (turn_data t) (turns_data ts) first rest)

-- ---- the whole

few_of : (ss : List DrawnServer) (m : ℕ) (s : DrawnServer) → slice_get ss m ≡ Some s → count_at ss m ≤ 20 → count_of s ≤ 20
few_of ss m s e few = subst (λ o. count_in o ≤ 20) e few

short_text : (seed servers turns : ℕ) → 0 < servers → servers < 2 ^ 64 → IsShort (servers * 111 + turns * 61 + 40) (scenario_text seed servers turns)
unfolding servers_text turns_text
short_text seed servers turns some small =
    let first = servers_from seed servers in
    let ss = first.drawn in
    let ts = (turns_from servers first.number turns).drawn in
    let count : length ss ≡ servers = servers_from-count seed servers in
    let count' : length ts ≡ turns = turns_from-count servers first.number turns in
    let each : EachShort 0 ss = λ m s e.
    let there : m < length ss = slice_get_within ss m s e in
    let same : 0 + m ≡ m = omega arith in
    subst (λ k. IsShort 110 (server_text k s)) (sym same) (short_server m s ss (omega (arith, there, count)) (placed seed servers m s e) (few_of ss m s e (counts_few seed servers m))) in
    let sl = short_servers false 0 ss each in
    let tl = short_turns false servers ts small (turns_are servers first.number turns some) in
    within _ (servers * 111 + turns * 61 + 40) _ _ (scenario_parts seed servers turns first.number refl)
    (joined _ _ _ (codes "],\"version\":1}\n") (joined _ _ _ _ (joined _ _ _ (codes "],\"turns\":[") (joined _ _ (codes "{\"servers\":[") _ (literal (codes "{\"servers\":[") refl) sl) (literal (codes "],\"turns\":[") refl)) tl)
    (literal (codes "],\"version\":1}\n") refl))
    (omega (arith, ap (λ k. k * 111) count, ap (λ k. k * 61) count'))

pub text_utf8 : (seed servers turns : ℕ) → 0 < servers → servers < 2 ^ 64 → is_utf8 (scenario_text seed servers turns) ≡ true
text_utf8 seed servers turns some small = is_utf8-from_IsUtf8 (scenario_text seed servers turns) (short_text seed servers turns some small).utf8

pub text_short : (seed servers turns : ℕ) → 0 < servers → servers ≤ 1000 → turns ≤ 1000000 → length (scenario_text seed servers turns) ≤ 67108864
text_short seed servers turns some few few' =
    let small : servers < 2 ^ 64 = omega arith in
    let h : length (scenario_text seed servers turns) ≤ servers * 111 + turns * 61 + 40 = (short_text seed servers turns some small).short in
    omega arith
