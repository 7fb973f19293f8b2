-- A server's keys, and what is at each.
use Rattle.std.proofs.Common.{◌≡◌, ◌∙◌, ℕ, true, List, [], ◌∷◌, ◌++◌, Option, Some, None, Ok, refl, ap, codes, is_some, option_map}
use Rattle.read_back_laws.proofs.Prelude.{IsAlone, ServerInit, ServerNo, boolean, coord_data, count_data, get, list_data, name_text, object, only_keys}
use Rattle.read_back_laws.proofs.Prelude.{own_keys, part_data, printed, replica_keys, server_data, server_keys, string, uuid_text, version_text}
use Rattle.read_back_laws.proofs.Keys.{Field, are_known, get-members_of, known-members, member_if-for, members_of, value_at, when}

-- what speaks of a source alone is there if the server has one
abbrev pub fields : List ServerInit → ServerInit → List Field
fields servers i =
    let replica = is_some i.source in
    (codes "at", option_map coord_data i.at)
    ∷ (codes "auto", when replica (boolean i.auto))
    ∷ (codes "cluster", Some (string i.settings.cluster))
    ∷ (codes "dc", Some (string i.settings.dc))
    ∷ (codes "desk", Some (boolean i.desk))
    ∷ (codes "detached", when replica (boolean i.detached))
    ∷ (codes "executed", when replica (count_data i.executed))
    ∷ (codes "feed", Some (boolean i.feed))
    ∷ (codes "flushes", Some (list_data count_data i.flushes))
    ∷ (codes "history", option_map (list_data (part_data servers)) i.history)
    ∷ (codes "io", when replica (boolean i.io))
    ∷ (codes "limit", Some (count_data i.settings.limit))
    ∷ (codes "logs", Some (boolean i.settings.logs))
    ∷ (codes "name", Some (string (printed i.settings.name)))
    ∷ (codes "purged", Some (count_data i.purged))
    ∷ (codes "read", option_map coord_data i.read)
    ∷ (codes "read_only", Some (boolean i.read_only))
    ∷ (codes "server_id", Some (count_data i.settings.server_id))
    ∷ (codes "source", option_map (λ m. string (name_text servers m.0)) i.source)
    ∷ (codes "sql", when replica (boolean i.sql))
    ∷ (codes "until", option_map coord_data i.until)
    ∷ (codes "up", Some (boolean i.up))
    ∷ (codes "uuid", Some (string (uuid_text i.settings.uuid)))
    ∷ (codes "version", Some (string (version_text i.settings.version)))
    ∷ []

pub server-is : (servers : List ServerInit) (i : ServerInit) → server_data servers i ≡ object (members_of (fields servers i))
unfolding server_data
server-is servers i = simp member_if-for

pub at-key : (servers : List ServerInit) (i : ServerInit) (key : List ℕ) → get key (server_data servers i) ≡ value_at key (fields servers i)
at-key servers i key = ap (get key) (server-is servers i) ∙ get-members_of key (fields servers i)

-- ---- no other keys

known-replica : (servers : List ServerInit) (i : ServerInit) → are_known (own_keys ++ replica_keys) (fields servers i) ≡ true
known-replica servers i = refl

known-alone : (servers : List ServerInit) (i : ServerInit) → i.source ≡ None → IsAlone i → are_known own_keys (fields servers i) ≡ true
known-alone servers i none alone = rw (none, alone.at, alone.read, alone.until) refl

pub keys-known : (servers : List ServerInit) (i : ServerInit) → (i.source ≡ None → IsAlone i) → only_keys (server_keys (server_data servers i)) (members_of (fields servers i)) ≡ Ok tt
keys-known servers i alone = go i.source refl
  where
    source : get (codes "source") (server_data servers i) ≡ option_map (λ m. string (name_text servers m.0)) i.source
    source = at-key servers i (codes "source") ∙ or i.source
      where
        or : (o : Option ServerNo) → value_at (codes "source") ((codes "source", option_map (λ m. string (name_text servers m.0)) o) ∷ []) ≡ option_map (λ m. string (name_text servers m.0)) o
        or None = refl
        or (Some m) = refl

    go : (o : Option ServerNo) → i.source ≡ o → only_keys (server_keys (server_data servers i)) (members_of (fields servers i)) ≡ Ok tt
    go None none =
        let keys : server_keys (server_data servers i) ≡ own_keys = rw (source, none) refl in
        rw keys (known-members own_keys (fields servers i) (known-alone servers i none (alone none)))
    go (Some m) some =
        let keys : server_keys (server_data servers i) ≡ own_keys ++ replica_keys = rw (source, some) refl in
        rw keys (known-members (own_keys ++ replica_keys) (fields servers i) (known-replica servers i))
