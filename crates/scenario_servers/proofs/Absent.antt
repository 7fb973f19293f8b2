-- What is read of an object that lacks the keys.
use Rattle.std.proofs.Common.{◌≡◌, ◌⊎◌, inl, inr, ℕ, ◌||◌, Bool, false, true, List, [], ◌∷◌, ◌++◌, Option, None, Result, Ok, Err, refl, codes, take, drop, ◌∙◌, if◌then◌else◌, nat_eq}
use Rattle.std.specs.Prelude.{is_ok}
use Rattle.scenario_servers.proofs.Prelude.{Data, Fault, HostPort, Members, UnknownKey, fails, false≢true, get, has_source, is_key}
use Rattle.scenario_servers.proofs.Prelude.{member, members_in, no_members, only_keys, own_keys, plain_keys, plain_replication}
use Rattle.scenario_servers.proofs.Prelude.{plain_setup, pointwise, replica_keys, server_keys, under}
unfoldable use Rattle.scenario_servers.proofs.Prelude.{identity_in, plain_from, plain_identity, replication_in, server_from, server_in, setup_in}
use Rattle.scenario_servers.proofs.Steps.{members-ok, no_key}

pub setup-absent : (d : Data) → get (codes "logs") d ≡ None → get (codes "read_only") d ≡ None → get (codes "limit") d ≡ None → get (codes "up") d ≡ None → get (codes "desk") d ≡ None → get (codes "feed") d ≡ None
    → setup_in d ≡ Ok (plain_setup d)
unfolding setup_in
setup-absent d logs read_only limit up desk feed = rw (logs, read_only, limit, up, desk, feed) refl

pub replication-absent : (gtid : Bool) (d : Data) → get (codes "executed") d ≡ None → get (codes "at") d ≡ None → get (codes "read") d ≡ None → get (codes "io") d ≡ None → get (codes "sql") d ≡ None
    → get (codes "auto") d ≡ None → get (codes "detached") d ≡ None → get (codes "until") d ≡ None
    → replication_in gtid d ≡ Ok plain_replication
unfolding replication_in
replication-absent gtid d executed at read io sql auto detached until = rw (executed, at, read, io, sql, auto, detached, until) refl

-- ---- a server that has no keys but the plain ones

identity-absent : (names : List (Option HostPort)) (uuids : List (Option ℕ)) (n : ℕ) (d : Data) → get (codes "server_id") d ≡ None → get (codes "version") d ≡ None → get (codes "cluster") d ≡ None
    → identity_in names uuids n d ≡ plain_identity names uuids n d
unfolding identity_in plain_identity
identity-absent names uuids n d server_id version cluster = rw (server_id, version, cluster) refl

server-absent : (gtid : Bool) (names : List (Option HostPort)) (uuids : List (Option ℕ)) (n : ℕ) (d : Data) → ((key : List ℕ) → is_key plain_keys key ≡ false → get key d ≡ None)
    → server_from gtid names uuids n d ≡ plain_from names uuids n d
unfolding server_from plain_from
server-absent gtid names uuids n d absent =
    let identity = identity-absent names uuids n d (absent (codes "server_id") refl) (absent (codes "version") refl) (absent (codes "cluster") refl) in
    let setup = setup-absent d (absent (codes "logs") refl) (absent (codes "read_only") refl) (absent (codes "limit") refl) (absent (codes "up") refl) (absent (codes "desk") refl) (absent (codes "feed") refl) in
    let replication = replication-absent gtid d (absent (codes "executed") refl) (absent (codes "at") refl) (absent (codes "read") refl) (absent (codes "io") refl) (absent (codes "sql") refl)
    (absent (codes "auto") refl) (absent (codes "detached") refl) (absent (codes "until") refl) in
    rw (identity, setup, replication, absent (codes "known") refl, absent (codes "rule") refl, absent (codes "flushes") refl, absent (codes "purged") refl, absent (codes "dc") refl) refl

or-cases : (a b : Bool) → (a || b) ≡ true → (a ≡ true) ⊎ (b ≡ true)
or-cases true b e = inl refl
or-cases false b e = inr e

key-at : (front back : List (List ℕ)) (known key : List ℕ) → pointwise nat_eq known key ≡ true → is_key (front ++ known ∷ back) key ≡ true
key-at [] back known key e = rw e refl
key-at (f ∷ fs) back known key e = go (pointwise nat_eq f key) (key-at fs back known key e)
  where
    go : (b : Bool) → is_key (fs ++ known ∷ back) key ≡ true → (b || is_key (fs ++ known ∷ back) key) ≡ true
    go true e = refl
    go false e = e

key-front : (front back : List (List ℕ)) (key : List ℕ) → is_key front key ≡ true → is_key (front ++ back) key ≡ true
key-front [] back key e = absurd (false≢true e)
key-front (f ∷ fs) back key e = go (pointwise nat_eq f key) e (key-front fs back key)
  where
    go : (b : Bool) → (b || is_key fs key) ≡ true → (is_key fs key ≡ true → is_key (fs ++ back) key ≡ true) → (b || is_key (fs ++ back) key) ≡ true
    go true e rest = refl
    go false e rest = rest e

own-key : (key : List ℕ) → is_key plain_keys key ≡ true → is_key own_keys key ≡ true
own-key key e = elim (or-cases (pointwise nat_eq (codes "name") key) _ e) [
  | inl name ↦ key-at [] (drop 1 own_keys) (codes "name") key name
  | inr e ↦ elim (or-cases (pointwise nat_eq (codes "source") key) _ e) [
    | inl source ↦ key-at (take 14 own_keys) (drop 15 own_keys) (codes "source") key source
    | inr e ↦ elim (or-cases (pointwise nat_eq (codes "history") key) _ e) [
      | inl history ↦ key-at (take 13 own_keys) (drop 14 own_keys) (codes "history") key history
      | inr e ↦ elim (or-cases (pointwise nat_eq (codes "uuid") key) false e) [
        | inl uuid ↦ key-at (take 1 own_keys) (drop 2 own_keys) (codes "uuid") key uuid
        | inr e ↦ absurd (false≢true e)
      ]
    ]
  ]
]

server-key : (d : Data) (key : List ℕ) → is_key plain_keys key ≡ true → is_key (server_keys d) key ≡ true
server-key d key e = go (has_source d)
  where
    go : (b : Bool) → is_key (if b then own_keys ++ replica_keys else own_keys) key ≡ true
    go true = key-front own_keys replica_keys key (own-key key e)
    go false = own-key key e

more-keys : (keys known : List (List ℕ)) → ((key : List ℕ) → is_key keys key ≡ true → is_key known key ≡ true) → (ms : Members) → only_keys keys ms ≡ Ok tt → only_keys known ms ≡ Ok tt
more-keys keys known all no_members e = refl
more-keys keys known all (member k d ms) e = at (is_key keys k) refl e (more-keys keys known all ms)
  where
    at : (b : Bool) → is_key keys k ≡ b → (if b then only_keys keys ms else under k (fails UnknownKey)) ≡ Ok tt → (only_keys keys ms ≡ Ok tt → only_keys known ms ≡ Ok tt) → (if is_key known k then only_keys known ms else under k (fails UnknownKey)) ≡ Ok tt
    at true is e rest = rw (all k is) (rest e)
    at false is e rest = cc

read-well : (r : Result (Unit {0}) Fault) → is_ok r ≡ true → r ≡ Ok tt
read-well (Ok u) e = refl
read-well (Err f) e = cc

pub plain-server : (gtid : Bool) (names : List (Option HostPort)) (uuids : List (Option ℕ)) (n : ℕ) (d : Data) (ms : Members) → members_in d ≡ Ok ms → is_ok (only_keys plain_keys ms) ≡ true
    → server_in gtid names uuids n d ≡ plain_from names uuids n d
unfolding server_in
plain-server gtid names uuids n d ms members plain =
    let only : only_keys plain_keys ms ≡ Ok tt = read-well (only_keys plain_keys ms) plain in
    let known : only_keys (server_keys d) ms ≡ Ok tt = more-keys plain_keys (server_keys d) (server-key d) ms only in
    rw (members, known) (server-absent gtid names uuids n d (λ key other. members-ok d ms key members ∙ no_key plain_keys ms key tt only other))
