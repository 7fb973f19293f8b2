-- All listed servers read as they were written, and are the servers of an opening again.
use Rattle.std.proofs.Common.{◌≡◌, ◌∙◌, ◌+◌, ℕ, zero, suc, Bool, true, false, List, [], ◌∷◌, map, Option, Some, None, Ok, refl, sym, ap, subst, arith, leb}
use Rattle.std.specs.Prelude.{codes, is_some, not, option_and_then, slice_get, unwrap_or}
use Rattle.read_back_laws.proofs.Prelude.{Given, IsListed, ServerInit, as_str, each_from, get, init_under, inits_from, inits_of, item_count, items_of, le-leb}
use Rattle.read_back_laws.proofs.Prelude.{list_data, listed_in, listed_name, listed_names, listed_uuids, name_at, opening, printed_reads_lem, read_name}
use Rattle.read_back_laws.proofs.Prelude.{read_uuid, server_data, server_in, servers_in, uuid_at}
use Rattle.read_back_laws.proofs.Found.{listed_names_of, listed_uuids_of}
use Rattle.read_back_laws.proofs.Keys.{given}
use Rattle.read_back_laws.proofs.Parts.{items-count}
use Rattle.read_back_laws.proofs.Fields.{at-key}
use Rattle.read_back_laws.proofs.Servers.{ServerReadsBack, given_of, server-reads}
use Rattle.read_back_laws.proofs.Values.{uuid-reads}

-- the texts of these servers read back
abbrev pub AllReadBack : List ServerInit → Type 0
AllReadBack is = (n : ℕ) (i : ServerInit) → slice_get is n ≡ Some i → ServerReadsBack i

name-listed : (is : List ServerInit) (i : ServerInit) → ServerReadsBack i → listed_name (server_data is i) ≡ Some i.settings.name
name-listed is i able =
    ap (λ o. option_and_then (λ text. read_name (name_at text)) (option_and_then as_str o)) (at-key is i (codes "name"))
    ∙ ap read_name (printed_reads_lem i.settings.name able.settings.name)

names-listed : (is xs : List ServerInit) → AllReadBack xs → listed_names (items_of (server_data is) xs) ≡ listed_names_of xs
names-listed is [] able = refl
names-listed is (i ∷ xs) able = rw (name-listed is i (able zero i refl)) (ap (λ ns. Some i.settings.name ∷ ns) (names-listed is xs (λ n j e. able (suc n) j e)))

uuid-listed : (is : List ServerInit) (n : ℕ) (i : ServerInit) → ServerReadsBack i → read_uuid (uuid_at n (get (codes "uuid") (server_data is i))) ≡ Some i.settings.uuid
uuid-listed is n i able = ap (λ o. read_uuid (uuid_at n o)) (at-key is i (codes "uuid")) ∙ ap read_uuid (uuid-reads i.settings.uuid able.settings.uuid)

uuids-listed : (is xs : List ServerInit) (n : ℕ) → AllReadBack xs → listed_uuids n (items_of (server_data is) xs) ≡ listed_uuids_of xs
uuids-listed is [] n able = refl
uuids-listed is (i ∷ xs) n able = rw (uuid-listed is n i (able zero i refl)) (ap (λ us. Some i.settings.uuid ∷ us) (uuids-listed is xs (n + 1) (λ m j e. able (suc m) j e)))

-- ---- each server

module _ (is : List ServerInit) (gtid : Bool) (listed : IsListed (opening is gtid)) (able : AllReadBack is) where
  one-reads : (n : ℕ) (i : ServerInit) → slice_get is n ≡ Some i → server_in gtid (listed_names_of is) (listed_uuids_of is) n (server_data is i) ≡ Ok (given_of i)
  one-reads n i at = server-reads is listed.names listed.uuids (λ m j e. (able m j e).settings.name) gtid n i at (able n i at) (listed.each n i at)

  each-reads : (n : ℕ) (xs : List ServerInit) → ((k : ℕ) (i : ServerInit) → slice_get xs k ≡ Some i → slice_get is (n + k) ≡ Some i)
      → each_from (server_in gtid (listed_names_of is) (listed_uuids_of is)) n (items_of (server_data is) xs) ≡ Ok (map given_of xs)
  each-reads n [] stand = refl
  each-reads n (i ∷ xs) stand =
      let here : n + 0 ≡ n = omega arith in
      let first = one-reads n i (subst (λ k. slice_get is k ≡ Some i) here (stand zero i refl)) in
      let rest = each-reads (n + 1) xs (λ k j e. let next : n + suc k ≡ n + 1 + k = omega arith in subst (λ m. slice_get is m ≡ Some j) next (stand (suc k) j e)) in
      rw first (rw rest refl)

  pub servers-read : servers_in gtid (list_data (server_data is) is) ≡ Ok (listed_names_of is, map given_of is)
  unfolding servers_in listed_in
  servers-read =
      let count = items-count (server_data is) is in
      let low : leb 1 (item_count (items_of (server_data is) is)) ≡ true = le-leb 1 _ (omega (arith, listed.some)) in
      let high : leb (item_count (items_of (server_data is) is)) 1000 ≡ true = le-leb _ 1000 (omega (arith, listed.few)) in
      let all = each-reads 0 is (λ k i e. let same : k ≡ 0 + k = omega arith in subst (λ m. slice_get is m ≡ Some i) same e) in
      rw (low, high) (rw (names-listed is is able) (rw (uuids-listed is is 0 able) (rw all refl)))

  -- ---- the opening's servers

  thread-is : (there detached on : Bool) → (there ≡ false → detached ≡ false) → (there ≡ false → on ≡ true) → unwrap_or (given there on) (not detached) ≡ on
  thread-is true detached on off by = refl
  thread-is false detached on off by = ap not (off refl) ∙ sym (by refl)

  absent : {A : Type 0} (o : Option A) → is_some o ≡ false → o ≡ None
  absent None e = refl
  absent (Some x) e = cc

  init-back : (n : ℕ) (i : ServerInit) → slice_get is n ≡ Some i → (label : List ℕ) → label ≡ i.settings.cluster → init_under label (given_of i) ≡ i
  init-back n i at label same =
      let off : is_some i.source ≡ false → i.detached ≡ false = λ e. ((listed.each n i at).alone (absent i.source e)).detached in
      let io = thread-is (is_some i.source) i.detached i.io off (λ e. (able n i at).io (absent i.source e)) in
      let sql = thread-is (is_some i.source) i.detached i.sql off (λ e. (able n i at).sql (absent i.source e)) in
      λ k. record i { settings = record i.settings { cluster = same k }; io = io k; sql = sql k }

  inits-back : (gs : List Given) (n : ℕ) (xs : List ServerInit) → ((k : ℕ) (i : ServerInit) → slice_get xs k ≡ Some i → slice_get is (n + k) ≡ Some i) → inits_from gs n (map given_of xs) ≡ xs
  inits-back gs n [] stand = refl
  inits-back gs n (i ∷ xs) stand =
      let first = init-back (n + 0) i (stand zero i refl) i.settings.cluster refl in
      let rest = inits-back gs (n + 1) xs (λ k j e. let next : n + suc k ≡ n + 1 + k = omega arith in subst (λ m. slice_get is m ≡ Some j) next (stand (suc k) j e)) in
      λ k. first k ∷ rest k

  pub inits-same : inits_of (map given_of is) ≡ is
  inits-same = inits-back (map given_of is) 0 is (λ k i e. let same : k ≡ 0 + k = omega arith in subst (λ m. slice_get is m ≡ Some i) same e)
