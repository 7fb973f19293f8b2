-- A listed server reads as it was written.
use Rattle.std.proofs.Common.{◌≡◌, ◌∙◌, ◌<◌, ◌≤◌, ◌^◌, ℕ, ◌+◌, Bool, true, false, List, [], length, Option, Some, None, Ok, All, IfSome, IsUtf8, refl, ap}
use Rattle.std.specs.Prelude.{codes, is_some, slice_get, unwrap_or}
use Rattle.read_back_laws.proofs.Prelude.{Coord, Data, Given, Identity, IsName, IsPart, IsServer, Part, Replication, ServerInit, ServerNo, Settings, Setup}
use Rattle.read_back_laws.proofs.Prelude.{auto_in, bool_in, boolean, coord_data, coord_in, count_data, default_version, flushes_in, get, has_source, history_in}
use Rattle.read_back_laws.proofs.Prelude.{identity_in, label_in, list_data, maybe, members_in, name_text, needed, number_in, optional, optional_in, own_name}
use Rattle.read_back_laws.proofs.Prelude.{own_uuid, part_data, replication_in, rule_in, server_data, server_from, server_in, server_named, setup_in, short_in}
use Rattle.read_back_laws.proofs.Prelude.{string, version_in, whole_in}
use Rattle.read_back_laws.proofs.Found.{NamesApart, UuidsApart, listed_names_of, own-name, own-uuid, listed_uuids_of}
use Rattle.read_back_laws.proofs.Keys.{given, maybe-None, maybe-Ok, maybe-when, members_of, needed-Ok, optional-Ok, optional-when, or_none, value_at}
use Rattle.read_back_laws.proofs.Parts.{HaveNames, flushes-read, history-reads, number-named}
use Rattle.read_back_laws.proofs.Fields.{at-key, keys-known, fields, server-is}
use Rattle.read_back_laws.proofs.Values.{IsVersion, label-reads, number-reads, short-reads, version-reads, whole-reads}

-- settings whose texts read back
pub record SettingsReadBack (s : Settings) : Type 0 where
  pub name : IsName s.name
  pub uuid : s.uuid < 2 ^ 128
  pub some_id : 1 ≤ s.server_id
  pub id : s.server_id ≤ 4294967295
  pub version : IsVersion s.version
  pub some_label : 1 ≤ length s.cluster
  pub label : length s.cluster ≤ 261
  pub dc : length s.dc ≤ 255
  pub cluster_text : IsUtf8 s.cluster
  pub dc_text : IsUtf8 s.dc

abbrev pub Reads : Coord → Type 0
Reads c = coord_in (coord_data c) ≡ Ok c

-- a server whose text reads back
pub record ServerReadsBack (i : ServerInit) : Type 0 where
  pub settings : SettingsReadBack i.settings
  pub at : IfSome i.at Reads
  pub read : IfSome i.read Reads
  pub until : IfSome i.until Reads
  pub purged : i.purged ≤ 4294967295
  pub io : i.source ≡ None → i.io ≡ true
  pub sql : i.source ≡ None → i.sql ≡ true

-- ---- what it reads as

abbrev pub identity_of : Settings → Identity
identity_of s = record { name = s.name; uuid = s.uuid; server_id = s.server_id; version = s.version; cluster = Some s.cluster }

abbrev pub setup_of : ServerInit → Setup
setup_of i = record { logs = i.settings.logs; read_only = i.read_only; limit = i.settings.limit; up = i.up; desk = i.desk; feed = i.feed }

abbrev pub replication_of : ServerInit → Replication
replication_of i = record {
  executed = i.executed;
  at = i.at;
  read = i.read;
  io = given (is_some i.source) i.io;
  sql = given (is_some i.source) i.sql;
  auto = i.auto;
  detached = i.detached;
  until = i.until;
}

abbrev pub given_of : ServerInit → Given
given_of i = record {
  identity = identity_of i.settings;
  setup = setup_of i;
  known = true;
  rule = None;
  history = i.history;
  source = i.source;
  replication = replication_of i;
  flushes = i.flushes;
  purged = i.purged;
  dc = i.settings.dc;
}

-- ---- its parts

auto-reads : (gtid on : Bool) → (on ≡ true → gtid ≡ true) → auto_in gtid (boolean on) ≡ Ok on
unfolding auto_in
auto-reads true true may = refl
auto-reads true false may = refl
auto-reads false false may = refl
auto-reads false true may = let never : false ≡ true = may refl in cc

absent : {A : Type 0} (o : Option A) → is_some o ≡ false → o ≡ None
absent None e = refl
absent (Some x) e = cc

module _ (is : List ServerInit) (names : NamesApart is) (uuids : UuidsApart is) (named : HaveNames is) (gtid : Bool) (n : ℕ) (i : ServerInit) (there : slice_get is n ≡ Some i) (able : ServerReadsBack i) (fits : IsServer (length is) gtid i) where
  module _ (d : Data) (keys : (key : List ℕ) → get key d ≡ value_at key (fields is i)) where
    identity-reads : identity_in (listed_names_of is) (listed_uuids_of is) n d ≡ Ok (identity_of i.settings)
    unfolding identity_in
    identity-reads =
        let s = able.settings in
        let name : needed (codes "name") (own_name (listed_names_of is) n) d ≡ Ok i.settings.name = needed-Ok (codes "name") (own_name (listed_names_of is) n) d _ i.settings.name (keys (codes "name")) (own-name is n i names there s.name) in
        let uuid : own_uuid (listed_uuids_of is) n d ≡ Ok i.settings.uuid = own-uuid is n i d uuids there s.uuid (keys (codes "uuid")) in
        let id : optional (codes "server_id") (number_in 1 4294967295) (n + 1) d ≡ Ok i.settings.server_id =
        optional-Ok (codes "server_id") (number_in 1 4294967295) (n + 1) d _ i.settings.server_id (keys (codes "server_id")) (number-reads 1 4294967295 i.settings.server_id s.some_id s.id) in
        let version : optional (codes "version") version_in default_version d ≡ Ok i.settings.version =
        optional-Ok (codes "version") version_in default_version d _ i.settings.version (keys (codes "version")) (version-reads i.settings.version s.version) in
        let cluster : maybe (codes "cluster") label_in d ≡ Ok (Some i.settings.cluster) =
        maybe-Ok (codes "cluster") label_in string d (Some i.settings.cluster) (keys (codes "cluster")) (label-reads i.settings.cluster s.some_label s.label) in
        rw name (rw uuid (rw id (rw version (rw cluster refl))))

    setup-reads : setup_in d ≡ Ok (setup_of i)
    unfolding setup_in
    setup-reads =
        let logs : optional (codes "logs") bool_in true d ≡ Ok i.settings.logs = optional-Ok (codes "logs") bool_in true d _ i.settings.logs (keys (codes "logs")) refl in
        let read_only : optional (codes "read_only") bool_in (has_source d) d ≡ Ok i.read_only = optional-Ok (codes "read_only") bool_in (has_source d) d _ i.read_only (keys (codes "read_only")) refl in
        let limit : optional (codes "limit") (number_in 100 1073741824) 1073741824 d ≡ Ok i.settings.limit =
        optional-Ok (codes "limit") (number_in 100 1073741824) 1073741824 d _ i.settings.limit (keys (codes "limit")) (number-reads 100 1073741824 i.settings.limit fits.limit_low fits.limit_high) in
        let up : optional (codes "up") bool_in true d ≡ Ok i.up = optional-Ok (codes "up") bool_in true d _ i.up (keys (codes "up")) refl in
        let desk : optional (codes "desk") bool_in true d ≡ Ok i.desk = optional-Ok (codes "desk") bool_in true d _ i.desk (keys (codes "desk")) refl in
        let feed : optional (codes "feed") bool_in true d ≡ Ok i.feed = optional-Ok (codes "feed") bool_in true d _ i.feed (keys (codes "feed")) refl in
        rw logs (rw read_only (rw limit (rw up (rw desk (rw feed refl)))))

    alone-is : {A : Type 0} (x y : A) → (i.source ≡ None → x ≡ y) → is_some i.source ≡ false → x ≡ y
    alone-is x y alone e = alone (absent i.source e)

    replication-reads : replication_in gtid d ≡ Ok (replication_of i)
    unfolding replication_in
    replication-reads =
        let replica = is_some i.source in
        let executed : optional (codes "executed") whole_in 0 d ≡ Ok i.executed =
        optional-when (codes "executed") whole_in 0 d (count_data i.executed) i.executed replica (keys (codes "executed") ∙ or_none _) (alone-is i.executed 0 (λ none. (fits.alone none).executed)) (whole-reads i.executed) in
        let at : maybe (codes "at") coord_in d ≡ Ok i.at = maybe-Ok (codes "at") coord_in coord_data d i.at (keys (codes "at") ∙ or_none _) able.at in
        let read : maybe (codes "read") coord_in d ≡ Ok i.read = maybe-Ok (codes "read") coord_in coord_data d i.read (keys (codes "read") ∙ or_none _) able.read in
        let io : maybe (codes "io") bool_in d ≡ Ok (given replica i.io) = maybe-when (codes "io") bool_in boolean d i.io replica (keys (codes "io") ∙ or_none _) refl in
        let sql : maybe (codes "sql") bool_in d ≡ Ok (given replica i.sql) = maybe-when (codes "sql") bool_in boolean d i.sql replica (keys (codes "sql") ∙ or_none _) refl in
        let auto : optional (codes "auto") (auto_in gtid) false d ≡ Ok i.auto =
        optional-when (codes "auto") (auto_in gtid) false d (boolean i.auto) i.auto replica (keys (codes "auto") ∙ or_none _) (alone-is i.auto false (λ none. (fits.alone none).auto)) (auto-reads gtid i.auto fits.auto) in
        let detached : optional (codes "detached") bool_in false d ≡ Ok i.detached =
        optional-when (codes "detached") bool_in false d (boolean i.detached) i.detached replica (keys (codes "detached") ∙ or_none _) (alone-is i.detached false (λ none. (fits.alone none).detached)) refl in
        let until : maybe (codes "until") coord_in d ≡ Ok i.until = maybe-Ok (codes "until") coord_in coord_data d i.until (keys (codes "until") ∙ or_none _) able.until in
        rw executed (rw at (rw read (rw io (rw sql (rw auto (rw detached (rw until refl)))))))

    history-is : (o : Option (List Part)) → All (IsPart (length is)) (unwrap_or o []) → IfSome o (λ ps. history_in (listed_names_of is) (list_data (part_data is) ps) ≡ Ok ps)
    history-is None all = tt
    history-is (Some ps) all = history-reads is names named ps all

    source-is : (o : Option ServerNo) → ((m : ServerNo) → o ≡ Some m → m.0 < length is) → IfSome o (λ m. server_named (listed_names_of is) (string (name_text is m.0)) ≡ Ok m)
    source-is None within = tt
    source-is (Some m) within = number-named is names named m (within m refl)

    server-reads_from : server_from gtid (listed_names_of is) (listed_uuids_of is) n d ≡ Ok (given_of i)
    unfolding server_from
    server-reads_from =
        let known : optional (codes "known") bool_in true d ≡ Ok true = ap (optional_in (codes "known") bool_in true) (keys (codes "known")) in
        let rule : maybe (codes "rule") rule_in d ≡ Ok None = maybe-None (codes "rule") rule_in d (keys (codes "rule")) in
        let history : maybe (codes "history") (history_in (listed_names_of is)) d ≡ Ok i.history =
        maybe-Ok (codes "history") (history_in (listed_names_of is)) (list_data (part_data is)) d i.history (keys (codes "history") ∙ or_none _) (history-is i.history fits.parts) in
        let source : maybe (codes "source") (server_named (listed_names_of is)) d ≡ Ok i.source =
        maybe-Ok (codes "source") (server_named (listed_names_of is)) (λ m. string (name_text is m.0)) d i.source (keys (codes "source") ∙ or_none _) (source-is i.source fits.source) in
        let flushes : optional (codes "flushes") flushes_in [] d ≡ Ok i.flushes = optional-Ok (codes "flushes") flushes_in [] d _ i.flushes (keys (codes "flushes")) (flushes-read i.flushes fits.flushes) in
        let purged : optional (codes "purged") (number_in 1 4294967295) 1 d ≡ Ok i.purged =
        optional-Ok (codes "purged") (number_in 1 4294967295) 1 d _ i.purged (keys (codes "purged")) (number-reads 1 4294967295 i.purged fits.purged able.purged) in
        let dc : optional (codes "dc") short_in [] d ≡ Ok i.settings.dc = optional-Ok (codes "dc") short_in [] d _ i.settings.dc (keys (codes "dc")) (short-reads i.settings.dc able.settings.dc) in
        rw identity-reads (rw setup-reads (rw known (rw rule (rw history (rw source (rw replication-reads (rw flushes (rw purged (rw dc refl)))))))))

  pub server-reads : server_in gtid (listed_names_of is) (listed_uuids_of is) n (server_data is i) ≡ Ok (given_of i)
  unfolding server_in
  server-reads =
      let members : members_in (server_data is i) ≡ Ok (members_of (fields is i)) = ap members_in (server-is is i) in
      rw members (rw (keys-known is i fits.alone) (server-reads_from (server_data is i) (at-key is i)))
