-- The settings of servers that were read have texts that read back.
use Rattle.scenario_reader.proofs.Sound.{length-names as length-listed_names}
use Rattle.std.proofs.Common.{◌≡◌, ◌∙◌, ◌<◌, ◌≤◌, ◌^◌, ◌+◌, ◌⊎◌, inl, inr, ℕ, zero, suc, Bool, true, false, List, [], ◌∷◌, length, Option, Some, None, Ok, IfSome, refl, sym, subst, arith}
use Rattle.std.specs.Prelude.{◌&&◌, codes, get_or, if◌then◌else◌, nat_le, slice_get, take, unwrap_or}
use Rattle.read_back_laws.proofs.Prelude.{BadNumber, Data, DuplicateName, DuplicateUuid, Given, HostPort, Identity, IsName, IsUtf8-nil, Items, ReadsIdentity}
use Rattle.read_back_laws.proofs.Prelude.{Same, ServerInit, ServerNo, Version, and_parts, bind-ok, default_version, each_from, each_from-get, each_from-length}
use Rattle.read_back_laws.proofs.Prelude.{fails, first_named, follow_on, get, get_item, has_uuid, holds, holds-ok, inits_from, inits_of, is_earlier, item}
use Rattle.read_back_laws.proofs.Prelude.{item_count, items_in, label_at, label_in, label_of, leb-true, list_any, listed_in, listed_names, listed_uuids}
use Rattle.read_back_laws.proofs.Prelude.{maybe-ok, name_in, named-ok, needed-ok, new_uuid, no_items, number-ok, number_in, optional-ok, own_name, own_uuid}
use Rattle.read_back_laws.proofs.Prelude.{printed, reached_from, root_in, same_Ok, same_Some, server-ok, server_in, server_named, servers_in, short_in}
use Rattle.read_back_laws.proofs.Prelude.{slice_get_cases, slice_get_within, under-ok, uuid_at, version_in}
use Rattle.read_back_laws.proofs.Prelude.Openings.{init_of, settings_of, source_in}
use Rattle.read_back_laws.proofs.Prelude.Servers.{number_of}
use Rattle.scenario_reader.specs.OrchBase.Gives.{◌>>=◌}
use Rattle.read_back_laws.proofs.Heads.{IsLabel}
use Rattle.read_back_laws.proofs.ReadData as got
use Rattle.read_back_laws.proofs.ReadData.{IsAt, IsMaybe, IsFromText, ItemsFromText, got-read, items-are, maybe-at, optional-at}
use Rattle.read_back_laws.proofs.ReadValues.{IsShort, label-ok, name-ok, printed-label, short-ok, uuid-ok, version-ok}
use Rattle.read_back_laws.proofs.Servers.{SettingsReadBack}
use Rattle.read_back_laws.proofs.Values.{IsVersion}

-- who a server is, as it was read
pub record IsIdentity (i : Identity) : Type 0 where
  pub name : IsName i.name
  pub uuid : i.uuid < 2 ^ 128
  pub some_id : 1 ≤ i.server_id
  pub id : i.server_id ≤ 4294967295
  pub version : IsVersion i.version
  pub cluster : IfSome i.cluster IsLabel

own-name-ok : (names : List (Option HostPort)) (n : ℕ) (d : Data) (name : HostPort) → own_name names n d ≡ Ok name → IsName name
unfolding own_name
own-name-ok names n d name e =
    let read = bind-ok (name_in d) _ name e in
    go read.0 read.1 (is_earlier n (first_named read.0 0 names)) read.2
  where
    go : (own : HostPort) → name_in d ≡ Ok own → (b : Bool) → Same (if b then fails DuplicateName else Ok own) (Ok name) → IsName name
    go own read true e = cc
    go own read false e = subst IsName (same_Ok own name e) (name-ok d own read)

own-uuid-ok : (uuids : List (Option ℕ)) (n : ℕ) (d : Data) (uuid : ℕ) → n < 1000 → own_uuid uuids n d ≡ Ok uuid → uuid < 2 ^ 128
unfolding own_uuid
own-uuid-ok uuids n d uuid few e =
    let inner = under-ok (codes "uuid") (uuid_at n (get (codes "uuid") d) >>= new_uuid uuids n) uuid e in
    let read = bind-ok (uuid_at n (get (codes "uuid") d)) (new_uuid uuids n) uuid inner in
    fresh read.0 (list_any (has_uuid read.0) (take n uuids)) (given (get (codes "uuid") d) read.0 read.1) read.2
  where
    given : (o : Option Data) (own : ℕ) → uuid_at n o ≡ Ok own → own < 2 ^ 128
    given None own e = let same : n + 1 ≡ own = same_Ok (n + 1) own e in omega arith
    given (Some v) own e = uuid-ok v own e

    fresh : (own : ℕ) (b : Bool) → own < 2 ^ 128 → Same (if b then fails DuplicateUuid else Ok own) (Ok uuid) → uuid < 2 ^ 128
    fresh own true small e = cc
    fresh own false small e = let same : own ≡ uuid = same_Ok own uuid e in omega arith

identity-has : (names : List (Option HostPort)) (uuids : List (Option ℕ)) (n : ℕ) (d : Data) (i : Identity) → n < 1000 → IsFromText d → ReadsIdentity names uuids n d i → IsIdentity i
identity-has names uuids n d i few read r =
    let found = needed-ok (codes "name") (own_name names n) d i.name r.name in
    let range = ids i.server_id (optional-ok (codes "server_id") (number_in 1 4294967295) (n + 1) d i.server_id r.id) in
    record {
      name = own-name-ok names n found.0 i.name found.2;
      uuid = own-uuid-ok uuids n d i.uuid few r.uuid;
      some_id = range.0;
      id = range.1;
      version = versions i.version (optional-ok (codes "version") version_in default_version d i.version r.version);
      cluster = labels i.cluster (maybe-at (codes "cluster") label_in d i.cluster r.cluster);
    }
  where
    ids : (k : ℕ) → (k ≡ n + 1) ⊎ ((v : Data) × (number_in 1 4294967295 v ≡ Ok k)) → (1 ≤ k) × (k ≤ 4294967295)
    ids k (inl is) = (omega arith, omega arith)
    ids k (inr there) = number-ok 1 4294967295 there.0 k there.1

    versions : (v : Version) → (v ≡ default_version) ⊎ ((x : Data) × (version_in x ≡ Ok v)) → IsVersion v
    versions v (inl is) = subst IsVersion (sym is) (record { major = omega arith; minor = omega arith; patch = omega arith })
    versions v (inr there) = version-ok there.0 v there.1

    labels : (o : Option (List ℕ)) → IsMaybe (codes "cluster") label_in d o → IfSome o IsLabel
    labels o (got.none is) = subst (λ p. IfSome p IsLabel) (sym is) tt
    labels o (got.some v x at is e) = subst (λ p. IfSome p IsLabel) (sym is) (label-ok v x (got-read (codes "cluster") d v read at) e)

-- one of so many servers that were read
pub record WasRead (count : ℕ) (g : Given) : Type 0 where
  pub identity : IsIdentity g.identity
  pub dc : IsShort g.dc
  pub source : (m : ServerNo) → g.source ≡ Some m → m.0 < count

server-has : (gtid : Bool) (names : List (Option HostPort)) (uuids : List (Option ℕ)) (n : ℕ) (d : Data) (g : Given) → n < 1000 → IsFromText d → server_in gtid names uuids n d ≡ Ok g → WasRead (length names) g
server-has gtid names uuids n d g small read e =
    let r = server-ok gtid names uuids n d g e in
    record {
      identity = identity-has names uuids n d g.identity small read r.identity;
      dc = shorts g.dc (optional-at (codes "dc") short_in [] d g.dc r.dc);
      source = λ m is. sources g.source m is (maybe-ok (codes "source") (server_named names) d g.source r.source);
    }
  where
    shorts : (text : List ℕ) → IsAt (codes "dc") short_in [] d text → IsShort text
    shorts text (got.absent is) = subst IsShort (sym is) (record { short = omega arith; text = IsUtf8-nil })
    shorts text (got.there v at e) = short-ok v text (got-read (codes "dc") d v read at) e

    sources : (o : Option ServerNo) (m : ServerNo) → o ≡ Some m → (get (codes "source") d ≡ None) × (o ≡ None) ⊎ ((v : Data) × (x : ServerNo) × (o ≡ Some x) × (server_named names v ≡ Ok x)) → m.0 < length names
    sources o m is (inl none) = let both : None ≡ Some m = sym none.1 ∙ is in cc
    sources o m is (inr there) = subst (λ (x : ServerNo). x.0 < length names) (same_Some there.1 m (sym there.2 ∙ is)) (named-ok names there.0 there.1 there.3)

-- ---- labels

abbrev pub AreRead : List Given → Type 0
AreRead gs = (n : ℕ) (g : Given) → slice_get gs n ≡ Some g → WasRead (length gs) g

module _ (gs : List Given) (read : AreRead gs) where
  source-below : (o : Option Given) (n m : ℕ) → slice_get gs n ≡ o → source_in o ≡ Some m → m < length gs
  source-below None n m at from = cc
  source-below (Some g) n m at from = go g.source refl from
    where
      go : (o : Option ServerNo) → g.source ≡ o → number_of o ≡ Some m → m < length gs
      go None is from = cc
      go (Some x) is from = let same = same_Some x.0 m from in let below = (read n g at).source x is in omega arith

  reached-below : (steps n : ℕ) → n < length gs → reached_from (λ m. source_in (slice_get gs m)) steps n < length gs
  reached-below zero n less = less
  reached-below (suc steps) n less = go (source_in (slice_get gs n)) refl (λ m. reached-below steps m)
    where
      go : (o : Option ℕ) → source_in (slice_get gs n) ≡ o → ((m : ℕ) → m < length gs → reached_from (λ m. source_in (slice_get gs m)) steps m < length gs)
          → follow_on (λ m. reached_from (λ m. source_in (slice_get gs m)) steps m) n o < length gs
      go None is more = less
      go (Some m) is more = more m (source-below (slice_get gs n) n m refl is)

  own-label-is : (g : Given) → IsIdentity g.identity → (o : Option (List ℕ)) → IfSome o IsLabel → IsLabel (unwrap_or o (printed g.identity.name))
  own-label-is g is None cluster = printed-label g.identity.name is.name
  own-label-is g is (Some label) cluster = cluster

  root-label : (n : ℕ) → n < length gs → IsLabel (label_at (slice_get gs (root_in gs n)))
  root-label n less = go (slice_get gs (root_in gs n)) refl
    where
      go : (o : Option Given) → slice_get gs (root_in gs n) ≡ o → IsLabel (label_at o)
      go None none =
          let below = reached-below (length gs) n less in
          let found = slice_get_cases gs (root_in gs n) in
          absurd (past found.1)
        where
          past : ((x : Given) × (root_in gs n < length gs) × (slice_get gs (root_in gs n) ≡ Some x) × (get_or gs (root_in gs n) x ≡ x)) ⊎ ((length gs ≤ root_in gs n) × (slice_get gs (root_in gs n) ≡ None)) → ⊥
          past (inl there) = let never : None ≡ Some there.0 = sym none ∙ there.2 in cc
          past (inr out) = let most = out.0 in let below = reached-below (length gs) n less in omega arith
      go (Some g) at = let is = (read (root_in gs n) g at).identity in own-label-is g is g.identity.cluster is.cluster

  label-is : (n : ℕ) (g : Given) → slice_get gs n ≡ Some g → (o : Option (List ℕ)) → IfSome o IsLabel → IsLabel (unwrap_or o (label_at (slice_get gs (root_in gs n))))
  label-is n g at None cluster = root-label n (slice_get_within gs n g at)
  label-is n g at (Some label) cluster = cluster

  settings-are : (n : ℕ) (g : Given) → slice_get gs n ≡ Some g → SettingsReadBack (settings_of (label_of gs n g) g)
  settings-are n g at =
      let was = read n g at in
      let is = was.identity in
      let label = label-is n g at g.identity.cluster is.cluster in
      record {
        name = is.name;
        uuid = is.uuid;
        some_id = is.some_id;
        id = is.id;
        version = is.version;
        some_label = label.some;
        label = label.short;
        dc = was.dc.short;
        cluster_text = label.text;
        dc_text = was.dc.text;
      }

  inits-are : (n : ℕ) (xs : List Given) → ((k : ℕ) (g : Given) → slice_get xs k ≡ Some g → slice_get gs (n + k) ≡ Some g) → (k : ℕ) (i : ServerInit) → slice_get (inits_from gs n xs) k ≡ Some i → SettingsReadBack i.settings
  inits-are n [] stand k i at = absurd (cc)
  inits-are n (g ∷ xs) stand zero i at =
      let here : n + 0 ≡ n = omega arith in
      subst (λ (j : ServerInit). SettingsReadBack j.settings) (same_Some (init_of gs n g) i at) (settings-are n g (subst (λ k. slice_get gs k ≡ Some g) here (stand zero g refl)))
  inits-are n (g ∷ xs) stand (suc k) i at =
      inits-are (n + 1) xs (λ j x e. let next : n + suc j ≡ n + 1 + j = omega arith in subst (λ m. slice_get gs m ≡ Some x) next (stand (suc j) x e)) k i at

  pub each-init : (k : ℕ) (i : ServerInit) → slice_get (inits_of gs) k ≡ Some i → SettingsReadBack i.settings
  each-init = inits-are 0 gs (λ k g e. let same : k ≡ 0 + k = omega arith in subst (λ m. slice_get gs m ≡ Some g) same e)

-- ---- all servers

item-read : (ds : Items) (n : ℕ) (d : Data) → ItemsFromText ds → get_item n ds ≡ Some d → IsFromText d
item-read no_items n d all at = absurd (cc)
item-read (item x ds) zero d all at = subst IsFromText (same_Some x d at) all.0
item-read (item x ds) (suc n) d all at = item-read ds n d all.1 at

pub servers-have : (gtid : Bool) (d : Data) (given : List (Option HostPort) × List Given) → IsFromText d → servers_in gtid d ≡ Ok given → (k : ℕ) (i : ServerInit) → slice_get (inits_of given.1) k ≡ Some i → SettingsReadBack i.settings
unfolding servers_in listed_in
servers-have gtid d given texts e =
    let listed = bind-ok (listed_in d) _ given e in
    let items = bind-ok (items_in d) _ listed.0 listed.1 in
    let some = bind-ok (holds BadNumber (nat_le 1 (item_count items.0) && nat_le (item_count items.0) 1000)) _ listed.0 items.2 in
    let few = leb-true (item_count items.0) 1000 (and_parts (nat_le 1 (item_count items.0)) (nat_le (item_count items.0) 1000) (holds-ok BadNumber _ some.0 some.1)).1 in
    let own : items.0 ≡ listed.0 = same_Ok items.0 listed.0 some.2 in
    let short : item_count listed.0 ≤ 1000 = subst (λ ds. item_count ds ≤ 1000) own few in
    let servers = bind-ok (each_from (server_in gtid (listed_names listed.0) (listed_uuids 0 listed.0)) 0 listed.0) _ given listed.2 in
    let is : (listed_names listed.0, servers.0) ≡ given = same_Ok (listed_names listed.0, servers.0) given servers.2 in
    let names = length-listed_names listed.0 in
    let count = each_from-length _ 0 listed.0 servers.0 servers.1 in
    let same : length (listed_names listed.0) ≡ length servers.0 = omega arith in
    let read : AreRead servers.0 = λ n g at.
    let within = slice_get_within servers.0 n g at in
    let found = each_from-get _ 0 listed.0 servers.0 servers.1 n g at in
    subst (λ m. WasRead m g) same (server-has gtid (listed_names listed.0) (listed_uuids 0 listed.0) (0 + n) found.0 g (omega arith) (item-read listed.0 n found.0 (subst ItemsFromText own (items-are d items.0 texts items.1)) found.1) found.2) in
    subst (λ (p : List (Option HostPort) × List Given). (k : ℕ) (i : ServerInit) → slice_get (inits_of p.1) k ≡ Some i → SettingsReadBack i.settings) is (each-init servers.0 read)
