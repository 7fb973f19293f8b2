-- The servers that are read are within the limits of an opening, except for what they list together.
use Rattle.scenario_servers.proofs.Prelude.{All-nil, BadNumber, Data, DuplicateName, DuplicateUuid, Given, HostPort, IsAlone, IsApart, IsGiven}
use Rattle.scenario_servers.proofs.Prelude.{IsPart, IsServer, Items, NameFault, Part, ServerInit, ServerNo, and_parts, as_str, auto_in, bool_in}
use Rattle.scenario_servers.proofs.Prelude.{coord_in, each_from, eq-eqb, fails, false_from_ne_true as not-true, false≢true, first_named, flushes_in}
use Rattle.scenario_servers.proofs.Prelude.{get, get_item, has_source, has_uuid, history_in, holds, init_of, init_under, inits_from, inits_of}
use Rattle.scenario_servers.proofs.Prelude.{is_earlier, is_key, is_named, item, item_count, items_in, leb-true, list_any, listed_in, listed_name}
use Rattle.scenario_servers.proofs.Prelude.{listed_names, listed_uuids, lt-ltb, name_at, name_in, name_or_fails, needed, new_uuid, no_items}
use Rattle.scenario_servers.proofs.Prelude.{only_keys, or_left, or_right, own_keys, own_name, own_uuid, read_name, read_uuid, replica_keys, same_name}
use Rattle.scenario_servers.proofs.Prelude.{same_Some, server_in, server_named, servers_in, text_in, uuid_at, whole_in}
use Rattle.std.proofs.Common.{◌≡◌, ℕ, ◌+◌, ◌<◌, ◌≤◌, ◌⊎◌, inl, inr, Bool, true, false, leb, List, [], ◌∷◌, length, take, refl, sym, ap, subst, ◌∙◌, Option, Some, None, Result, Ok, Err, All, arith, zero, suc}
use Rattle.std.specs.Prelude.{◌&&◌, ◌++◌, nat_le, codes, is_some, unwrap_or, option_and_then, slice_get, if◌then◌else◌}
use Rattle.server_words.specs.OrchBase.Gives.{◌>>=◌}
use Rattle.scenario_servers.proofs.Apartness.{given-from_apart}
use Rattle.scenario_servers.proofs.Steps.{Same, same_Ok, bind-ok, or_fails-ok, holds-ok, under-ok, needed-ok, optional-ok, optional-absent, maybe-ok, maybe-absent, no_key, members-ok, each_from-length, each_from-get}
use Rattle.scenario_servers.proofs.ServerSteps.{named-ok, history-ok, flushes-ok, auto-ok, ReadsServer, server-ok}

-- ---- one server

-- a server without a source has none of the keys that speak of one
no-replica_key : (gtid : Bool) (names : List (Option HostPort)) (uuids : List (Option ℕ)) (n : ℕ) (d : Data) (g : Given) (key : List ℕ) → ReadsServer gtid names uuids n d g
    → g.source ≡ None → is_key own_keys key ≡ false → get key d ≡ None
no-replica_key gtid names uuids n d g key reads none other =
    let bare : has_source d ≡ false = ap is_some absent in
    let keys : only_keys own_keys reads.members ≡ Ok tt = sym (ap (λ b. only_keys (if b then own_keys ++ replica_keys else own_keys) reads.members) bare) ∙ reads.keys in
    members-ok d reads.members key reads.of ∙ no_key own_keys reads.members key tt keys other
  where
    by : (get (codes "source") d ≡ None) × (g.source ≡ None) ⊎ ((v : Data) × (x : ServerNo) × (g.source ≡ Some x) × (server_named names v ≡ Ok x)) → get (codes "source") d ≡ None
    by (inl left) = left.0
    by (inr there) = let both : None ≡ Some there.1 = sym none ∙ there.2 in cc

    absent : get (codes "source") d ≡ None
    absent = by (maybe-ok (codes "source") (server_named names) d g.source reads.source)

reads-alone : (gtid : Bool) (names : List (Option HostPort)) (uuids : List (Option ℕ)) (n : ℕ) (d : Data) (g : Given) (label : List ℕ) → ReadsServer gtid names uuids n d g
    → g.source ≡ None → IsAlone (init_under label g)
reads-alone gtid names uuids n d g label reads none =
    let no : (key : List ℕ) → is_key own_keys key ≡ false → get key d ≡ None = λ key other. no-replica_key gtid names uuids n d g key reads none other in
    let r = reads.replication in
    record {
      executed = optional-absent (codes "executed") whole_in 0 d g.replication.executed (no (codes "executed") refl) r.executed;
      at = maybe-absent (codes "at") coord_in d g.replication.at (no (codes "at") refl) r.at;
      read = maybe-absent (codes "read") coord_in d g.replication.read (no (codes "read") refl) r.read;
      auto = optional-absent (codes "auto") (auto_in gtid) false d g.replication.auto (no (codes "auto") refl) r.auto;
      detached = optional-absent (codes "detached") bool_in false d g.replication.detached (no (codes "detached") refl) r.detached;
      until = maybe-absent (codes "until") coord_in d g.replication.until (no (codes "until") refl) r.until;
    }

reads-server : (gtid : Bool) (names : List (Option HostPort)) (uuids : List (Option ℕ)) (n : ℕ) (d : Data) (g : Given) (label : List ℕ) → ReadsServer gtid names uuids n d g
    → IsServer (length names) gtid (init_under label g)
reads-server gtid names uuids n d g label reads = record {
  limit_low = reads.limit.low;
  limit_high = reads.limit.high;
  parts = parts (maybe-ok (codes "history") (history_in names) d g.history reads.history);
  flushes = flushes (optional-ok (codes "flushes") flushes_in [] d g.flushes reads.flushes);
  purged = reads.purged;
  source = λ m is. source m is (maybe-ok (codes "source") (server_named names) d g.source reads.source);
  alone = reads-alone gtid names uuids n d g label reads;
  auto = auto (optional-ok (codes "auto") (auto_in gtid) false d g.replication.auto reads.replication.auto);
}
  where
    parts : (get (codes "history") d ≡ None) × (g.history ≡ None) ⊎ ((v : Data) × (x : List Part) × (g.history ≡ Some x) × (history_in names v ≡ Ok x)) → All (IsPart (length names)) (unwrap_or g.history [])
    parts (inl none) = subst (λ (o : Option (List Part)). All (IsPart (length names)) (unwrap_or o [])) (sym none.1) (All-nil (IsPart (length names)))
    parts (inr there) = subst (λ (o : Option (List Part)). All (IsPart (length names)) (unwrap_or o [])) (sym there.2) (history-ok names there.0 there.1 there.3)

    flushes : (g.flushes ≡ []) ⊎ ((v : Data) × (flushes_in v ≡ Ok g.flushes)) → length g.flushes ≤ 1000000
    flushes (inl none) = let long : length g.flushes ≡ 0 = ap length none in omega arith
    flushes (inr there) = flushes-ok there.0 g.flushes there.1

    source : (m : ServerNo) → g.source ≡ Some m → (get (codes "source") d ≡ None) × (g.source ≡ None) ⊎ ((v : Data) × (x : ServerNo) × (g.source ≡ Some x) × (server_named names v ≡ Ok x)) → m.0 < length names
    source m is (inl none) = let both : None ≡ Some m = sym none.1 ∙ is in cc
    source m is (inr there) = subst (λ (x : ServerNo). x.0 < length names) (same_Some there.1 m (sym there.2 ∙ is)) (named-ok names there.0 there.1 there.3)

    auto : (g.replication.auto ≡ false) ⊎ ((v : Data) × (auto_in gtid v ≡ Ok g.replication.auto)) → g.replication.auto ≡ true → gtid ≡ true
    auto (inl off) on = absurd (false≢true (sym off ∙ on))
    auto (inr there) on = auto-ok gtid there.0 g.replication.auto there.1 on

-- ---- names

pub length-listed_names : (ds : Items) → length (listed_names ds) ≡ item_count ds
length-listed_names no_items = refl
length-listed_names (item d ds) = let more = length-listed_names ds in omega arith

listed_names-get : (ds : Items) (k : ℕ) (d : Data) → get_item k ds ≡ Some d → slice_get (listed_names ds) k ≡ Some (listed_name d)
listed_names-get no_items k d e = cc
listed_names-get (item c ds) zero d e = ap (λ x. Some (listed_name x)) (same_Some c d e)
listed_names-get (item c ds) (suc k) d e = listed_names-get ds k d e

name-listed : (v : Data) (name : HostPort) → name_in v ≡ Ok name → option_and_then (λ text. read_name (name_at text)) (as_str v) ≡ Some name
unfolding name_in
name-listed v name e =
    let text = bind-ok (text_in v) _ name e in
    ap (option_and_then (λ text. read_name (name_at text))) (or_fails-ok _ (as_str v) text.0 text.1) ∙ go (name_at text.0) text.2
  where
    go : (r : Result HostPort NameFault) → name_or_fails r ≡ Ok name → read_name r ≡ Some name
    go (Ok own) e = ap Some (same_Ok own name e)
    go (Err f) e = cc

-- the name is that of the list, and no earlier server has it
record OwnsName (names : List (Option HostPort)) (n : ℕ) (d : Data) (name : HostPort) : Type 0 where
  listed : listed_name d ≡ Some name
  first : is_earlier n (first_named name 0 names) ≡ false

owns-name : (names : List (Option HostPort)) (n : ℕ) (d : Data) (name : HostPort) → needed (codes "name") (own_name names n) d ≡ Ok name → OwnsName names n d name
unfolding own_name
owns-name names n d name e =
    let v = needed-ok (codes "name") (own_name names n) d name e in
    let read = bind-ok (name_in v.0) _ name v.2 in
    by v.0 v.1 read.0 read.1 (is_earlier n (first_named read.0 0 names)) refl read.2
  where
    by : (v : Data) → get (codes "name") d ≡ Some v → (own : HostPort) → name_in v ≡ Ok own → (b : Bool) → is_earlier n (first_named own 0 names) ≡ b → Same (if b then fails DuplicateName else Ok own) (Ok name)
        → OwnsName names n d name
    by v at own read true is e = cc
    by v at own read false is e = subst (OwnsName names n d) (same_Ok own name e) (record {
      listed = ap (λ o. option_and_then (λ text. read_name (name_at text)) (option_and_then as_str o)) at ∙ name-listed v own read;
      first = is;
    })

first_named-before : (name own : HostPort) (n : ℕ) (xs : List (Option HostPort)) (m : ℕ) → slice_get xs m ≡ Some (Some own) → same_name own name ≡ true
    → (k : ℕ) × (first_named name n xs ≡ Some k) × (k ≤ n + m)
first_named-before name own n [] m at same = cc
first_named-before name own n (x ∷ xs) m at same = go (is_named name x) refl m at (λ j there. first_named-before name own (n + 1) xs j there same)
  where
    go : (b : Bool) → is_named name x ≡ b → (m : ℕ) → slice_get (x ∷ xs) m ≡ Some (Some own)
        → ((j : ℕ) → slice_get xs j ≡ Some (Some own) → (k : ℕ) × (first_named name (n + 1) xs ≡ Some k) × (k ≤ n + 1 + j))
        → (k : ℕ) × ((if b then Some n else first_named name (n + 1) xs) ≡ Some k) × (k ≤ n + m)
    go true is m at more = (n, refl, omega arith)
    go false is zero at more =
        let named : is_named name x ≡ true = ap (is_named name) (same_Some x (Some own) at) ∙ same in
        absurd (false≢true (sym is ∙ named))
    go false is (suc j) at more = let rest = more j at in let least = rest.2 in (rest.0, rest.1, omega arith)

-- of two servers the later one has another name
later-name : (names : List (Option HostPort)) (m n : ℕ) (c d : Data) (own name : HostPort) → m < n → slice_get names m ≡ Some (listed_name c) → OwnsName names m c own → OwnsName names n d name
    → same_name own name ≡ true → ⊥
later-name names m n c d own name less at first second same =
    let found = first_named-before name own 0 names m (at ∙ ap Some first.listed) same in
    let least = found.2 in
    let earlier : is_earlier n (first_named name 0 names) ≡ true = ap (is_earlier n) found.1 ∙ lt-ltb found.0 n (omega arith) in
    false≢true (sym second.first ∙ earlier)

-- ---- UUIDs

listed_uuids-get : (n : ℕ) (ds : Items) (k : ℕ) (d : Data) → get_item k ds ≡ Some d → slice_get (listed_uuids n ds) k ≡ Some (read_uuid (uuid_at (n + k) (get (codes "uuid") d)))
listed_uuids-get n no_items k d e = cc
listed_uuids-get n (item c ds) zero d e =
    let here : n ≡ n + 0 = omega arith in
    ap (λ x. Some (read_uuid (uuid_at n (get (codes "uuid") x)))) (same_Some c d e) ∙ ap (λ m. Some (read_uuid (uuid_at m (get (codes "uuid") d)))) here
listed_uuids-get n (item c ds) (suc k) d e =
    let on : n + 1 + k ≡ n + suc k = omega arith in
    listed_uuids-get (n + 1) ds k d e ∙ ap (λ m. Some (read_uuid (uuid_at m (get (codes "uuid") d)))) on

record OwnsUuid (uuids : List (Option ℕ)) (n : ℕ) (d : Data) (uuid : ℕ) : Type 0 where
  listed : read_uuid (uuid_at n (get (codes "uuid") d)) ≡ Some uuid
  first : list_any (has_uuid uuid) (take n uuids) ≡ false

owns-uuid : (uuids : List (Option ℕ)) (n : ℕ) (d : Data) (uuid : ℕ) → own_uuid uuids n d ≡ Ok uuid → OwnsUuid uuids n d uuid
unfolding own_uuid
owns-uuid uuids n d uuid e =
    let inner = under-ok (codes "uuid") (uuid_at n (get (codes "uuid") d) >>= new_uuid uuids n) uuid e in
    let read = bind-ok (uuid_at n (get (codes "uuid") d)) (new_uuid uuids n) uuid inner in
    by read.0 read.1 (list_any (has_uuid read.0) (take n uuids)) refl read.2
  where
    by : (own : ℕ) → uuid_at n (get (codes "uuid") d) ≡ Ok own → (b : Bool) → list_any (has_uuid own) (take n uuids) ≡ b → Same (if b then fails DuplicateUuid else Ok own) (Ok uuid) → OwnsUuid uuids n d uuid
    by own read true is e = cc
    by own read false is e = subst (OwnsUuid uuids n d) (same_Ok own uuid e) (record { listed = ap read_uuid read; first = is })

any-before : (p : Option ℕ → Bool) (xs : List (Option ℕ)) (m n : ℕ) (x : Option ℕ) → m < n → slice_get xs m ≡ Some x → p x ≡ true → list_any p (take n xs) ≡ true
any-before p [] m n x less at is = cc
any-before p (y ∷ ys) m zero x less at is = absurd (omega arith)
any-before p (y ∷ ys) zero (suc n) x less at is = or_left (p y) (list_any p (take n ys)) (ap p (same_Some y x at) ∙ is)
any-before p (y ∷ ys) (suc m) (suc n) x less at is = or_right (p y) (list_any p (take n ys)) (any-before p ys m n x (omega arith) at is)

later-uuid : (uuids : List (Option ℕ)) (m n : ℕ) (c d : Data) (own uuid : ℕ) → m < n → slice_get uuids m ≡ Some (read_uuid (uuid_at m (get (codes "uuid") c))) → OwnsUuid uuids m c own → OwnsUuid uuids n d uuid
    → own ≡ uuid → ⊥
later-uuid uuids m n c d own uuid less at first second same =
    false≢true (sym second.first ∙ any-before (has_uuid uuid) uuids m n (Some own) less (at ∙ ap Some first.listed) (eq-eqb own uuid same))

-- ---- all servers

pub length-inits_from : (gs : List Given) (n : ℕ) (xs : List Given) → length (inits_from gs n xs) ≡ length xs
length-inits_from gs n [] = refl
length-inits_from gs n (x ∷ xs) = ap suc (length-inits_from gs (n + 1) xs)

-- a server is one that is given, under some label
record IsInit (xs : List Given) (k : ℕ) (i : ServerInit) : Type 0 where
  given : Given
  label : List ℕ
  there : slice_get xs k ≡ Some given
  is : init_under label given ≡ i

inits_from-get : (gs : List Given) (n : ℕ) (xs : List Given) (k : ℕ) (i : ServerInit) → slice_get (inits_from gs n xs) k ≡ Some i → IsInit xs k i
inits_from-get gs n [] k i e = cc
inits_from-get gs n (x ∷ xs) zero i e = record { given = x; label = _; there = refl; is = same_Some (init_of gs n x) i e }
inits_from-get gs n (x ∷ xs) (suc k) i e =
    let rest = inits_from-get gs (n + 1) xs k i e in
    record { given = rest.given; label = rest.label; there = rest.there; is = rest.is }

-- how server k was read
record WasRead (gtid : Bool) (ds : Items) (k : ℕ) (i : ServerInit) : Type 0 where
  text : Data
  at : get_item k ds ≡ Some text
  name : OwnsName (listed_names ds) k text i.settings.name
  uuid : OwnsUuid (listed_uuids 0 ds) k text i.settings.uuid
  server : IsServer (length (listed_names ds)) gtid i

was-read : (gtid : Bool) (ds : Items) (gs : List Given) → each_from (server_in gtid (listed_names ds) (listed_uuids 0 ds)) 0 ds ≡ Ok gs
    → (k : ℕ) (i : ServerInit) → slice_get (inits_of gs) k ≡ Some i → WasRead gtid ds k i
was-read gtid ds gs e k i at =
    let names = listed_names ds in
    let uuids = listed_uuids 0 ds in
    let init = inits_from-get gs 0 gs k i at in
    let read = each_from-get (server_in gtid names uuids) 0 ds gs e k init.given init.there in
    let here : k ≡ 0 + k = omega arith in
    let reads = server-ok gtid names uuids k read.0 init.given (ap (λ m. server_in gtid names uuids m read.0) here ∙ read.2) in
    subst (WasRead gtid ds k) init.is (record {
      text = read.0;
      at = read.1;
      name = owns-name names k read.0 init.given.identity.name reads.identity.name;
      uuid = owns-uuid uuids k read.0 init.given.identity.uuid reads.identity.uuid;
      server = reads-server gtid names uuids k read.0 init.given init.label reads;
    })

module _ (gtid : Bool) (ds : Items) (gs : List Given) (read : each_from (server_in gtid (listed_names ds) (listed_uuids 0 ds)) 0 ds ≡ Ok gs) where
  was : (k : ℕ) (i : ServerInit) → slice_get (inits_of gs) k ≡ Some i → WasRead gtid ds k i
  was = was-read gtid ds gs read

  count : length (inits_of gs) ≡ item_count ds
  count = length-inits_from gs 0 gs ∙ each_from-length (server_in gtid (listed_names ds) (listed_uuids 0 ds)) 0 ds gs read

  apart : (m n : ℕ) (i j : ServerInit) → m < n → slice_get (inits_of gs) m ≡ Some i → slice_get (inits_of gs) n ≡ Some j → IsApart i j
  apart m n i j less mi nj =
      let first = was m i mi in
      let second = was n j nj in
      let uuid = listed_uuids-get 0 ds m first.text first.at ∙ ap (λ k. Some (read_uuid (uuid_at k (get (codes "uuid") first.text)))) (omega arith) in
      record {
        names = not-true (same_name i.settings.name j.settings.name) (λ same.
            later-name (listed_names ds) m n first.text second.text i.settings.name j.settings.name less (listed_names-get ds m first.text first.at) first.name second.name same);
        uuids = λ same. later-uuid (listed_uuids 0 ds) m n first.text second.text i.settings.uuid j.settings.uuid less uuid first.uuid second.uuid same;
      }

  pub all-given : 1 ≤ item_count ds → item_count ds ≤ 1000 → IsGiven gtid (inits_of gs)
  all-given some few =
      let long = count in
      let names : length (listed_names ds) ≡ length (inits_of gs) = length-listed_names ds ∙ sym count in
      given-from_apart gtid (inits_of gs) (omega arith) (omega arith) (λ n i at. subst (λ k. IsServer k gtid i) names (was n i at).server) apart

-- the servers of a text are within the limits
pub read_given : (gtid : Bool) (d : Data) (given : List (Option HostPort) × List Given) → servers_in gtid d ≡ Ok given → IsGiven gtid (inits_of given.1)
unfolding servers_in listed_in
read_given gtid d given e =
    let listed = bind-ok (listed_in d) _ given e in
    let items = bind-ok (items_in d) _ listed.0 listed.1 in
    let some = bind-ok (holds BadNumber (nat_le 1 (item_count items.0) && nat_le (item_count items.0) 1000)) _ listed.0 items.2 in
    let ds : items.0 ≡ listed.0 = same_Ok items.0 listed.0 some.2 in
    let bounds = and_parts (leb 1 (item_count items.0)) (leb (item_count items.0) 1000) (holds-ok BadNumber _ some.0 some.1) in
    let low : 1 ≤ item_count listed.0 = subst (λ (x : Items). 1 ≤ item_count x) ds (leb-true 1 (item_count items.0) bounds.0) in
    let high : item_count listed.0 ≤ 1000 = subst (λ (x : Items). item_count x ≤ 1000) ds (leb-true (item_count items.0) 1000 bounds.1) in
    let servers = bind-ok (each_from (server_in gtid (listed_names listed.0) (listed_uuids 0 listed.0)) 0 listed.0) _ given listed.2 in
    let is : (listed_names listed.0, servers.0) ≡ given = same_Ok (listed_names listed.0, servers.0) given servers.2 in
    subst (λ (p : List (Option HostPort) × List Given). IsGiven gtid (inits_of p.1)) is (all-given gtid listed.0 servers.0 servers.1 low high)
