-- What is read of one server is in its ranges.
use Rattle.std.proofs.Common.{◌≡◌, ℕ, ◌+◌, ◌<◌, ◌≤◌, ◌⊎◌, inl, inr, Bool, true, false, List, [], ◌∷◌, length, refl, ap, subst, ◌∙◌, Option, Some, None, Ok, All, arith, suc, ◌&&◌, nat_le, not, codes, if◌then◌else◌}
use Rattle.scenario_servers.proofs.Prelude.{AutoWithoutGtid, BadNumber, Data, Given, HostPort, Identity, IsPart, Members, Part, Replication, ServerNo}
use Rattle.scenario_servers.proofs.Prelude.{Setup, auto_in, bool_in, coord_in, default_version, fails, false≢true, first_named, flushes_in}
use Rattle.scenario_servers.proofs.Prelude.{has_source, history_in, holds, identity_in, is_named, item_count, items_in, label_in, leb-true, maybe}
use Rattle.scenario_servers.proofs.Prelude.{members_in, name_in, needed, number_in, number_or_fails, only_keys, optional, own_name, own_uuid, part_in}
use Rattle.scenario_servers.proofs.Prelude.{replication_in, rule_in, same_Some, server_from, server_in, server_keys, server_named, setup_in, short_in}
use Rattle.scenario_servers.proofs.Prelude.{three_of, under_item, version_in, whole_in}
use Rattle.scenario_servers.proofs.Steps.{Same, same_Ok, bind-ok, holds-ok, under-ok, optional-ok, number-ok, each_from-length, each_from-all}

-- ---- names

pub first_named-within : (name : HostPort) (n : ℕ) (xs : List (Option HostPort)) (k : ℕ) → first_named name n xs ≡ Some k → k < n + length xs
first_named-within name n [] k e = cc
first_named-within name n (x ∷ xs) k e = go (is_named name x) e (λ f. first_named-within name (n + 1) xs k f)
  where
    go : (b : Bool) → (if b then Some n else first_named name (n + 1) xs) ≡ Some k → (first_named name (n + 1) xs ≡ Some k → k < n + 1 + length xs) → k < n + suc (length xs)
    go true e more = let same : n ≡ k = same_Some n k e in omega arith
    go false e more = let less = more e in omega arith

pub named-ok : (names : List (Option HostPort)) (d : Data) (m : ServerNo) → server_named names d ≡ Ok m → m.0 < length names
unfolding server_named
named-ok names d m e =
    let name = bind-ok (name_in d) _ m e in
    go name.0 (first_named name.0 0 names) refl name.2
  where
    go : (name : HostPort) (o : Option ℕ) → first_named name 0 names ≡ o → number_or_fails o ≡ Ok m → m.0 < length names
    go name None is e = cc
    go name (Some k) is e =
        let less : k < 0 + length names = first_named-within name 0 names k is in
        let same : k ≡ m.0 = ap (λ (s : ServerNo). s.0) (same_Ok (record { 0 = k }) m e) in
        omega arith

-- ---- histories and flush points

pub part-ok : (names : List (Option HostPort)) (d : Data) (p : Part) → part_in names d ≡ Ok p → IsPart (length names) p
unfolding part_in
part-ok names d p e =
    let items = bind-ok (items_in d) _ p e in
    let parts = bind-ok (three_of items.0) _ p items.2 in
    let origin = bind-ok (under_item 0 (server_named names parts.0.0)) _ p parts.2 in
    let size = bind-ok (under_item 1 (number_in 1 1000000 parts.0.1)) _ p origin.2 in
    let count = bind-ok (under_item 2 (number_in 1 4000000 parts.0.2)) _ p size.2 in
    let sizes = number-ok 1 1000000 parts.0.1 size.0 (under-ok _ _ size.0 size.1) in
    let counts = number-ok 1 4000000 parts.0.2 count.0 (under-ok _ _ count.0 count.1) in
    subst (IsPart (length names)) (same_Ok _ p count.2) (record {
      origin = named-ok names parts.0.0 origin.0 (under-ok _ _ origin.0 origin.1);
      some = sizes.0;
      size = sizes.1;
      count = counts.0;
      few = counts.1;
    })

pub history-ok : (names : List (Option HostPort)) (d : Data) (ps : List Part) → history_in names d ≡ Ok ps → All (IsPart (length names)) ps
unfolding history_in
history-ok names d ps e =
    let items = bind-ok (items_in d) _ ps e in
    each_from-all (IsPart (length names)) (λ n d. part_in names d) (λ n d p f. part-ok names d p f) 0 items.0 ps items.2

pub flushes-ok : (d : Data) (fs : List ℕ) → flushes_in d ≡ Ok fs → length fs ≤ 1000000
unfolding flushes_in
flushes-ok d fs e =
    let items = bind-ok (items_in d) _ fs e in
    let few = bind-ok (holds BadNumber (nat_le (item_count items.0) 1000000)) _ fs items.2 in
    let most = leb-true (item_count items.0) 1000000 (holds-ok BadNumber _ few.0 few.1) in
    let long = each_from-length (λ n d. whole_in d) 0 items.0 fs few.2 in
    omega arith

-- ---- GTIDs

pub auto-ok : (gtid : Bool) (d : Data) (b : Bool) → auto_in gtid d ≡ Ok b → b ≡ true → gtid ≡ true
unfolding auto_in
auto-ok gtid d b e is = let on = bind-ok (bool_in d) _ b e in go on.0 gtid on.2
  where
    go : (on gtid : Bool) → Same (if on && not gtid then fails AutoWithoutGtid else Ok on) (Ok b) → gtid ≡ true
    go on true e = refl
    go true false e = cc
    go false false e = absurd (false≢true (same_Ok false b e ∙ is))

-- ---- the parts of a server

pub record ReadsIdentity (names : List (Option HostPort)) (uuids : List (Option ℕ)) (n : ℕ) (d : Data) (i : Identity) : Type 0 where
  pub name : needed (codes "name") (own_name names n) d ≡ Ok i.name
  pub uuid : own_uuid uuids n d ≡ Ok i.uuid
  pub id : optional (codes "server_id") (number_in 1 4294967295) (n + 1) d ≡ Ok i.server_id
  pub version : optional (codes "version") version_in default_version d ≡ Ok i.version
  pub cluster : maybe (codes "cluster") label_in d ≡ Ok i.cluster

pub identity-ok : (names : List (Option HostPort)) (uuids : List (Option ℕ)) (n : ℕ) (d : Data) (i : Identity) → identity_in names uuids n d ≡ Ok i → ReadsIdentity names uuids n d i
unfolding identity_in
identity-ok names uuids n d i e =
    let name = bind-ok (needed (codes "name") (own_name names n) d) _ i e in
    let uuid = bind-ok (own_uuid uuids n d) _ i name.2 in
    let id = bind-ok (optional (codes "server_id") (number_in 1 4294967295) (n + 1) d) _ i uuid.2 in
    let version = bind-ok (optional (codes "version") version_in default_version d) _ i id.2 in
    let cluster = bind-ok (maybe (codes "cluster") label_in d) _ i version.2 in
    subst (ReadsIdentity names uuids n d) (same_Ok _ i cluster.2) (record {
      name = name.1;
      uuid = uuid.1;
      id = id.1;
      version = version.1;
      cluster = cluster.1;
    })

pub record HasLimit (s : Setup) : Type 0 where
  pub low : 100 ≤ s.limit
  pub high : s.limit ≤ 1073741824

pub setup-ok : (d : Data) (s : Setup) → setup_in d ≡ Ok s → HasLimit s
unfolding setup_in
setup-ok d s e =
    let logs = bind-ok (optional (codes "logs") bool_in true d) _ s e in
    let read_only = bind-ok (optional (codes "read_only") bool_in (has_source d) d) _ s logs.2 in
    let limit = bind-ok (optional (codes "limit") (number_in 100 1073741824) 1073741824 d) _ s read_only.2 in
    let up = bind-ok (optional (codes "up") bool_in true d) _ s limit.2 in
    let desk = bind-ok (optional (codes "desk") bool_in true d) _ s up.2 in
    let feed = bind-ok (optional (codes "feed") bool_in true d) _ s desk.2 in
    subst HasLimit (same_Ok _ s feed.2) (by limit.0 (optional-ok (codes "limit") (number_in 100 1073741824) 1073741824 d limit.0 limit.1))
  where
    by : {logs read_only up desk feed : Bool} → (n : ℕ) → (n ≡ 1073741824) ⊎ ((v : Data) × (number_in 100 1073741824 v ≡ Ok n))
        → HasLimit (record { logs = logs; read_only = read_only; limit = n; up = up; desk = desk; feed = feed })
    by n (inl is) = record { low = omega arith; high = omega arith }
    by n (inr v) = let range = number-ok 100 1073741824 v.0 n v.1 in record { low = range.0; high = range.1 }

pub record ReadsReplication (gtid : Bool) (d : Data) (r : Replication) : Type 0 where
  pub executed : optional (codes "executed") whole_in 0 d ≡ Ok r.executed
  pub at : maybe (codes "at") coord_in d ≡ Ok r.at
  pub read : maybe (codes "read") coord_in d ≡ Ok r.read
  pub auto : optional (codes "auto") (auto_in gtid) false d ≡ Ok r.auto
  pub detached : optional (codes "detached") bool_in false d ≡ Ok r.detached
  pub until : maybe (codes "until") coord_in d ≡ Ok r.until

pub replication-ok : (gtid : Bool) (d : Data) (r : Replication) → replication_in gtid d ≡ Ok r → ReadsReplication gtid d r
unfolding replication_in
replication-ok gtid d r e =
    let executed = bind-ok (optional (codes "executed") whole_in 0 d) _ r e in
    let at = bind-ok (maybe (codes "at") coord_in d) _ r executed.2 in
    let read = bind-ok (maybe (codes "read") coord_in d) _ r at.2 in
    let io = bind-ok (maybe (codes "io") bool_in d) _ r read.2 in
    let sql = bind-ok (maybe (codes "sql") bool_in d) _ r io.2 in
    let auto = bind-ok (optional (codes "auto") (auto_in gtid) false d) _ r sql.2 in
    let detached = bind-ok (optional (codes "detached") bool_in false d) _ r auto.2 in
    let until = bind-ok (maybe (codes "until") coord_in d) _ r detached.2 in
    subst (ReadsReplication gtid d) (same_Ok _ r until.2) (record {
      executed = executed.1;
      at = at.1;
      read = read.1;
      auto = auto.1;
      detached = detached.1;
      until = until.1;
    })

-- the first kept file
pub purged-ok : (d : Data) (n : ℕ) → optional (codes "purged") (number_in 1 4294967295) 1 d ≡ Ok n → (1 ≤ n) × (n ≤ 4294967295)
purged-ok d n e = by (optional-ok (codes "purged") (number_in 1 4294967295) 1 d n e)
  where
    by : (n ≡ 1) ⊎ ((v : Data) × (number_in 1 4294967295 v ≡ Ok n)) → (1 ≤ n) × (n ≤ 4294967295)
    by (inl is) = (omega arith, omega arith)
    by (inr there) = number-ok 1 4294967295 there.0 n there.1

pub record ReadsServer (gtid : Bool) (names : List (Option HostPort)) (uuids : List (Option ℕ)) (n : ℕ) (d : Data) (g : Given) : Type 0 where
  pub members : Members
  pub of : members_in d ≡ Ok members
  pub keys : only_keys (server_keys d) members ≡ Ok tt
  pub identity : ReadsIdentity names uuids n d g.identity
  pub limit : HasLimit g.setup
  pub history : maybe (codes "history") (history_in names) d ≡ Ok g.history
  pub source : maybe (codes "source") (server_named names) d ≡ Ok g.source
  pub replication : ReadsReplication gtid d g.replication
  pub flushes : optional (codes "flushes") flushes_in [] d ≡ Ok g.flushes
  pub purged : 1 ≤ g.purged
  pub dc : optional (codes "dc") short_in [] d ≡ Ok g.dc

pub server-ok : (gtid : Bool) (names : List (Option HostPort)) (uuids : List (Option ℕ)) (n : ℕ) (d : Data) (g : Given) → server_in gtid names uuids n d ≡ Ok g → ReadsServer gtid names uuids n d g
unfolding server_in server_from
server-ok gtid names uuids n d g e =
    let ms = bind-ok (members_in d) _ g e in
    let keys = bind-ok (only_keys (server_keys d) ms.0) _ g ms.2 in
    let identity = bind-ok (identity_in names uuids n d) _ g keys.2 in
    let setup = bind-ok (setup_in d) _ g identity.2 in
    let known = bind-ok (optional (codes "known") bool_in true d) _ g setup.2 in
    let rule = bind-ok (maybe (codes "rule") rule_in d) _ g known.2 in
    let history = bind-ok (maybe (codes "history") (history_in names) d) _ g rule.2 in
    let source = bind-ok (maybe (codes "source") (server_named names) d) _ g history.2 in
    let replication = bind-ok (replication_in gtid d) _ g source.2 in
    let flushes = bind-ok (optional (codes "flushes") flushes_in [] d) _ g replication.2 in
    let purged = bind-ok (optional (codes "purged") (number_in 1 4294967295) 1 d) _ g flushes.2 in
    let dc = bind-ok (optional (codes "dc") short_in [] d) _ g purged.2 in
    subst (ReadsServer gtid names uuids n d) (same_Ok _ g dc.2) (record {
      members = ms.0;
      of = ms.1;
      keys = keys.1;
      identity = identity-ok names uuids n d identity.0 identity.1;
      limit = setup-ok d setup.0 setup.1;
      history = history.1;
      source = source.1;
      replication = replication-ok gtid d replication.0 replication.1;
      flushes = flushes.1;
      purged = (purged-ok d purged.0 purged.1).0;
      dc = dc.1;
    })
