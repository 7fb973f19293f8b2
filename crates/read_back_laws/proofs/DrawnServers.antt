-- Drawn servers read as what was drawn.
use Rattle.std.proofs.Common.{◌≡◌, ◌<◌, ◌≤◌, ◌==◌, ℕ, zero, suc, ◌+◌, ◌^◌, true, false, ◌∷◌, List, [], length, take, Option, Some, Ok, refl, sym, ap, subst, arith, nat_le, nat_lt, slice_get}
use Rattle.read_back_laws.proofs.Prelude.{DrawnServer, IsPlaced, Replica, array, each_from, given_of, givens_from, has_uuid, history_in, identity_in}
use Rattle.read_back_laws.proofs.Prelude.{item_count, le-leb, le-ltb, list_any, listed_in, listed_names, listed_uuids, name_in, name_of, name_reads, names_from}
use Rattle.read_back_laws.proofs.Prelude.{ne_eqb, number_in, own_name, own_uuid, part_in, placed, replication_in, server_from, server_in, servers_data}
use Rattle.read_back_laws.proofs.Prelude.{servers_from, servers_from-count, servers_in, setup_in, slice_get_within, whole_in}
use Rattle.scenario_generator.specs.declared.server.DrawnServer.TheVariants.{Root}
use Rattle.scenario_generator.specs.Texts.{server_data}
use Rattle.read_back_laws.proofs.Names.{first_of_names, named}

-- ---- names and UUIDs of all

uuids_from : ℕ → ℕ → List (Option ℕ)
uuids_from n zero = []
uuids_from n (suc count) = Some (n + 1) ∷ uuids_from (n + 1) count

counted : (n : ℕ) (ss : List DrawnServer) → item_count (servers_data n ss) ≡ length ss
counted n [] = refl
counted n (s ∷ ss) = omega (arith, counted (n + 1) ss)

names_listed : (n : ℕ) (ss : List DrawnServer) → n + length ss < 2 ^ 64 → listed_names (servers_data n ss) ≡ names_from n (length ss)
names_listed n [] small = refl
names_listed n (Root ∷ ss) small = rw (name_reads n (omega arith)) (ap (λ ns. Some (name_of n) ∷ ns) (names_listed (n + 1) ss (omega arith)))
names_listed n (Replica source executed ∷ ss) small = rw (name_reads n (omega arith)) (ap (λ ns. Some (name_of n) ∷ ns) (names_listed (n + 1) ss (omega arith)))

uuids_listed : (n : ℕ) (ss : List DrawnServer) → listed_uuids n (servers_data n ss) ≡ uuids_from n (length ss)
unfolding uuids_from
uuids_listed n [] = refl
uuids_listed n (Root ∷ ss) = ap (λ us. Some (n + 1) ∷ us) (uuids_listed (n + 1) ss)
uuids_listed n (Replica source executed ∷ ss) = ap (λ us. Some (n + 1) ∷ us) (uuids_listed (n + 1) ss)

-- earlier UUIDs are smaller
uuid_new : (m k count uuid : ℕ) → m + k < uuid → list_any (has_uuid uuid) (take k (uuids_from m count)) ≡ false
unfolding uuids_from
uuid_new m zero zero uuid less = refl
uuid_new m zero (suc count) uuid less = refl
uuid_new m (suc k) zero uuid less = refl
uuid_new m (suc k) (suc count) uuid less =
    let other : (m + 1 == uuid) ≡ false = ne_eqb (m + 1) uuid (λ e. omega arith) in
    rw other (uuid_new (m + 1) k count uuid (omega arith))

-- ---- a server

root_reads : (count n : ℕ) (uuids : List (Option ℕ)) → n < count → count ≤ 1000 → list_any (has_uuid (n + 1)) (take n uuids) ≡ false
    → server_in false (names_from 0 count) uuids n (server_data n Root) ≡ Ok (given_of n Root)
unfolding server_in server_from identity_in own_name own_uuid setup_in replication_in history_in part_in number_in whole_in name_in
root_reads count n uuids there few fresh =
    let itself : nat_lt n n ≡ false = le-ltb n n (omega arith) in
    rw (name_reads n (omega arith)) (rw (first_of_names 0 count n (omega arith) (omega arith) (omega arith)) (rw (itself, fresh) (rw (named count n there (omega arith)) refl)))

replica_reads : (count n source executed : ℕ) (uuids : List (Option ℕ)) → n < count → count ≤ 1000 → source < n → list_any (has_uuid (n + 1)) (take n uuids) ≡ false
    → server_in false (names_from 0 count) uuids n (server_data n (Replica source executed)) ≡ Ok (given_of n (Replica source executed))
unfolding server_in server_from identity_in own_name own_uuid setup_in replication_in number_in whole_in name_in
replica_reads count n source executed uuids there few earlier fresh =
    let itself : nat_lt n n ≡ false = le-ltb n n (omega arith) in
    rw (name_reads n (omega arith)) (rw (first_of_names 0 count n (omega arith) (omega arith) (omega arith)) (rw (itself, fresh) (rw (named count source (omega arith) (omega arith)) refl)))

server_reads : (count n : ℕ) (s : DrawnServer) (ss : List DrawnServer) → n < count → count ≤ 1000 → IsPlaced ss n s → server_in false (names_from 0 count) (uuids_from 0 count) n (server_data n s) ≡ Ok (given_of n s)
server_reads count n Root ss there few is = root_reads count n (uuids_from 0 count) there few (uuid_new 0 n count (n + 1) (omega arith))
server_reads count n (Replica source executed) ss there few is = replica_reads count n source executed (uuids_from 0 count) there few is.earlier (uuid_new 0 n count (n + 1) (omega arith))

-- ---- all servers

abbrev EachReads : List (Option ℕ) → ℕ → ℕ → List DrawnServer → Type 0
EachReads uuids count n ss = (m : ℕ) (s : DrawnServer) → slice_get ss m ≡ Some s → server_in false (names_from 0 count) uuids (n + m) (server_data (n + m) s) ≡ Ok (given_of (n + m) s)

each_reads : (count n : ℕ) (uuids : List (Option ℕ)) (ss : List DrawnServer) → EachReads uuids count n ss → each_from (server_in false (names_from 0 count) uuids) n (servers_data n ss) ≡ Ok (givens_from n ss)
each_reads count n uuids [] each = refl
each_reads count n uuids (s ∷ ss) each =
    let same : n + 0 ≡ n = omega arith in
    let first : server_in false (names_from 0 count) uuids n (server_data n s) ≡ Ok (given_of n s) = subst (λ k. server_in false (names_from 0 count) uuids k (server_data k s) ≡ Ok (given_of k s)) same (each zero s refl) in
    let rest = each_reads count (n + 1) uuids ss
    (λ m t e. let moved : n + suc m ≡ n + 1 + m = omega arith in subst (λ k. server_in false (names_from 0 count) uuids k (server_data k t) ≡ Ok (given_of k t)) moved (each (suc m) t e)) in
    rw first (rw rest refl)

servers_read_of : (ss : List DrawnServer) → 0 < length ss → length ss ≤ 1000 → EachReads (uuids_from 0 (length ss)) (length ss) 0 ss
    → servers_in false (array (servers_data 0 ss)) ≡ Ok (names_from 0 (length ss), givens_from 0 ss)
unfolding servers_in listed_in
servers_read_of ss some few each =
    let low : nat_le 1 (length ss) ≡ true = le-leb 1 (length ss) some in
    let high : nat_le (length ss) 1000 ≡ true = le-leb (length ss) 1000 few in
    rw (counted 0 ss) (rw (low, high) (rw (names_listed 0 ss (omega arith)) (rw (uuids_listed 0 ss) (rw (each_reads (length ss) 0 (uuids_from 0 (length ss)) ss each) refl))))

pub servers_read : (seed servers : ℕ) → 0 < servers → servers ≤ 1000
    → servers_in false (array (servers_data 0 (servers_from seed servers).drawn)) ≡ Ok (names_from 0 servers, givens_from 0 (servers_from seed servers).drawn)
servers_read seed servers some few =
    let ss = (servers_from seed servers).drawn in
    let count : length ss ≡ servers = servers_from-count seed servers in
    subst (λ k. servers_in false (array (servers_data 0 ss)) ≡ Ok (names_from 0 k, givens_from 0 ss)) count
    (servers_read_of ss (omega (arith, count)) (omega (arith, count))
    (λ m s e. let there : m < length ss = slice_get_within ss m s e in
    let same : 0 + m ≡ m = omega arith in
    subst (λ k. server_in false (names_from 0 (length ss)) (uuids_from 0 (length ss)) k (server_data k s) ≡ Ok (given_of k s)) (sym same)
    (server_reads (length ss) m s ss there (omega (arith, count)) (placed seed servers m s e))))
