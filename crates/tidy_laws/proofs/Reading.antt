-- In a scenario that was read each coordinate up to which an applier is to go can be printed.
use Rattle.std.proofs.Common.{◌≡◌, ℕ, ◌+◌, ◌<◌, ◌≤◌, ◌^◌, ◌&&◌, inl, inr, Bool, true, false, cond, leb, List, [], ◌∷◌, length, Option, Some, None, Result, Ok, Err, refl, sym, subst, All, IfSome, codes, nat_le, nat_lt, option_and_then}
use Rattle.tidy_laws.proofs.Prelude.{All-cons, All-head, All-nil, All-tail, Coord, CoordFault, Data, Given, Head, HostPort, IsWritten, Items}
use Rattle.tidy_laws.proofs.Prelude.{MAX_SCENARIO_LEN, NoColon, Scenario, ServerInit, TooLong, UntilsCanBePrinted, after_last, before_last, bind-ok}
use Rattle.tidy_laws.proofs.Prelude.{coord_at, coord_in, coord_of, coord_or_fails, digits_value, each_from, each_from-all, extension_of, file_at}
use Rattle.tidy_laws.proofs.Prelude.{from-ok, init_of, inits_from, inits_of, is_colon, is_extension, is_plain, json_in, leb-true, list_any, listed_in}
use Rattle.tidy_laws.proofs.Prelude.{listed_names, listed_uuids, ltb-true, made_of, maybe, maybe-ok, number_at, opening-same, pos_at, same_Ok}
use Rattle.tidy_laws.proofs.Prelude.{same_Some, scenario_from, scenario_in, scenario_with, server-ok, server_in, servers_in, text_in, value_within}
use Rattle.tidy_laws.proofs.Prelude.{with-ok}
use Rattle.tidy_laws.proofs.Prelude.Faults.{holds}

-- ---- a coordinate

-- a number in a range
within-range : (low limit v n : ℕ) → cond (nat_le low v && nat_lt v limit) (Some v) None ≡ Some n → (low ≤ n) × (n < limit)
within-range low limit v n h = go (nat_le low v) (nat_lt v limit) refl refl h
  where
    go : (a b : Bool) → nat_le low v ≡ a → nat_lt v limit ≡ b → cond (a && b) (Some v) None ≡ Some n → (low ≤ n) × (n < limit)
    go true true le lt h = let same : v ≡ n = same_Some v n h in (leb-true low n (subst (λ (k : ℕ). nat_le low k ≡ true) same le), ltb-true n limit (subst (λ (k : ℕ). nat_lt k limit ≡ true) same lt))
    go true false le lt h = cc
    go false b le lt h = cc

file-range : (name : List ℕ) (n : ℕ) → file_at name ≡ Some n → (1 ≤ n) × (n < 2 ^ 32)
file-range name n h = go (extension_of name) h
  where
    by : (digits : List ℕ) (b : Bool) → cond b (value_within 1 (2 ^ 32) digits) None ≡ Some n → (1 ≤ n) × (n < 2 ^ 32)
    by digits true h = within-range 1 (2 ^ 32) (digits_value 10 digits) n h
    by digits false h = cc

    go : (o : Option (List ℕ)) → option_and_then number_at o ≡ Some n → (1 ≤ n) × (n < 2 ^ 32)
    go None h = cc
    go (Some digits) h = by digits (is_extension digits) h

pos-range : (digits : List ℕ) (n : ℕ) → pos_at digits ≡ Some n → (4 ≤ n) × (n < 2 ^ 64)
pos-range digits n h = go (is_plain digits) h
  where
    go : (b : Bool) → cond b (value_within 4 (2 ^ 64) digits) None ≡ Some n → (4 ≤ n) × (n < 2 ^ 64)
    go true h = within-range 4 (2 ^ 64) (digits_value 10 digits) n h
    go false h = cc

text-written : (text : List ℕ) (c : Coord) → coord_at text ≡ Ok c → IsWritten c
unfolding coord_at
text-written text c e = go (list_any is_colon text) (file_at (before_last is_colon text)) (pos_at (after_last is_colon text)) refl refl e
  where
    go : (some : Bool) (file pos : Option ℕ) → file_at (before_last is_colon text) ≡ file → pos_at (after_last is_colon text) ≡ pos → cond some (coord_of file pos) (Err NoColon) ≡ Ok c → IsWritten c
    go true (Some file) (Some pos) at place e =
        let one = file-range (before_last is_colon text) file at in
        let two = pos-range (after_last is_colon text) pos place in
        let same : record { file = file; pos = pos } ≡ c = cc in
        subst IsWritten same (record { file = one.0; files = one.1; start = two.0; pos = two.1 })
    go _ _ _ at place e = cc

coord-written : (d : Data) (c : Coord) → coord_in d ≡ Ok c → IsWritten c
unfolding coord_in
coord-written d c e =
    let text = bind-ok (text_in d) _ c e in
    go (coord_at text.0) refl text.2
  where
    go : (r : Result Coord CoordFault) → coord_at (bind-ok (text_in d) _ c e).0 ≡ r → coord_or_fails r ≡ Ok c → IsWritten c
    go (Ok x) is h =
        subst IsWritten (same_Ok x c h) (text-written (bind-ok (text_in d) _ c e).0 x is)
    go (Err f) is h = cc

-- ---- a server

abbrev IsPrinted : Given → Type 0
IsPrinted g = IfSome g.replication.until IsWritten

until-written : (d : Data) (o : Option Coord) → maybe (codes "until") coord_in d ≡ Ok o → IfSome o IsWritten
until-written d o e = elim (maybe-ok (codes "until") coord_in d o e) [
  | inl none ↦ subst (λ (x : Option Coord). IfSome x IsWritten) (sym none.1) tt
  | inr some ↦ subst (λ (x : Option Coord). IfSome x IsWritten) (sym some.2) (coord-written some.0 some.1 some.3)
]

server-written : (gtid : Bool) (names : List (Option HostPort)) (uuids : List (Option ℕ)) (n : ℕ) (d : Data) (g : Given) → server_in gtid names uuids n d ≡ Ok g → IsPrinted g
server-written gtid names uuids n d g e = until-written d g.replication.until (server-ok gtid names uuids n d g e).replication.until

servers-written : (gtid : Bool) (d : Data) (given : List (Option HostPort) × List Given) → servers_in gtid d ≡ Ok given → All IsPrinted given.1
unfolding servers_in
servers-written gtid d given e =
    let listed = bind-ok (listed_in d) _ given e in
    let servers = bind-ok (each_from (server_in gtid (listed_names listed.0) (listed_uuids 0 listed.0)) 0 listed.0) _ given listed.2 in
    let is : (listed_names listed.0, servers.0) ≡ given = same_Ok (listed_names listed.0, servers.0) given servers.2 in
    subst (λ (p : List (Option HostPort) × List Given). All IsPrinted p.1) is
    (each_from-all IsPrinted (server_in gtid (listed_names listed.0) (listed_uuids 0 listed.0)) (λ n x g f. server-written gtid (listed_names listed.0) (listed_uuids 0 listed.0) n x g f) 0 listed.0 servers.0 servers.1)

-- ---- the opening

inits-written : (gs : List Given) (n : ℕ) (xs : List Given) → All IsPrinted xs → All (λ i. IfSome i.until IsWritten) (inits_from gs n xs)
inits-written gs n [] all = All-nil (λ (i : ServerInit). IfSome i.until IsWritten)
inits-written gs n (x ∷ xs) all =
    All-cons (λ (i : ServerInit). IfSome i.until IsWritten) (init_of gs n x) (inits_from gs (n + 1) xs) (All-head IsPrinted x xs all)
    (inits-written gs (n + 1) xs (All-tail IsPrinted x xs all))

-- ---- the whole

with-written : (head : Head) (given : List (Option HostPort) × List Given) (items : Items) (s : Scenario) → All IsPrinted given.1 → scenario_with head given items ≡ Ok s → UntilsCanBePrinted s
with-written head given items s all e =
    let r = with-ok head given items s e in
    subst UntilsCanBePrinted {x = made_of head given.1 r.opened r.turns} r.is
    (subst (λ (is : List ServerInit). All (λ i. IfSome i.until IsWritten) is) (sym (opening-same (inits_of given.1) head.gtid r.opened r.opens)) (inits-written given.1 0 given.1 all))

from-data : (d : Data) (s : Scenario) → scenario_from d ≡ Ok s → UntilsCanBePrinted s
from-data d s e = let r = from-ok d s e in with-written r.head r.given r.items s (servers-written r.head.gtid r.servers r.given r.gives) r.whole

-- what bytes are read as
pub read-written : (bytes : List ℕ) (s : Scenario) → scenario_in bytes ≡ Ok s → UntilsCanBePrinted s
unfolding scenario_in
read-written bytes s e =
    let short = bind-ok (holds TooLong (leb (length bytes) MAX_SCENARIO_LEN)) _ s e in
    let d = bind-ok (json_in bytes) scenario_from s short.2 in
    from-data d.0 s d.2
