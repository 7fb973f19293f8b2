-- The servers of a checked opening have `IsTrim`.
pub use Rattle.run_laws.proofs.OpeningsProofs.Soundness.{no-flaw as unmet}
use Rattle.read_back_laws.proofs.Layouts.{push-limit as limit-push}
use Rattle.std.proofs.Common.{◌≡◌, ℕ, ◌+◌, ◌≤◌, Bool, true, false, not, cond, List, [], ◌∷◌, length, take, refl, sym, ◌∙◌, ap, subst, Option, Some, None, zero, suc, ◌&&◌, All, IfSome, slice_get, slice_index_or, is_some, ◌==◌, count_by}
use Rattle.tidy_laws.proofs.Prelude.{All-cons, All-nil, All-take, Attached, CanStand-opened, Clusters, Detached, Fits, Grounded, HasOwnOf, IsChecked}
use Rattle.tidy_laws.proofs.Prelude.{IsSound, IsTrim, IsWritten, Log, Opened, Part, ReplicatesOf, Root, Server, ServerInit, ServerNo, Txn, Under}
use Rattle.tidy_laws.proofs.Prelude.{Without, at_server, at_source, cluster_at, cluster_in, exec_of, exec_of-root, first_met, flaws, flushed_at}
use Rattle.tidy_laws.proofs.Prelude.{flushed_times, given-opened, history_at, joined_by-each, laid, laid_after, list_any, listed_history, log_by}
use Rattle.tidy_laws.proofs.Prelude.{next_txn, not-false, number_of, of_source, opened, opened_server, opened_world, or_parts, origin_elsewhere}
use Rattle.tidy_laws.proofs.Prelude.{other_cluster, pair_of, parts_of, push, read_of, read_of-root, same_cluster, same_Some, same_text}
use Rattle.tidy_laws.proofs.Prelude.{server_at-opened, singles, singles-part, slice_get-get_or, sound_checked, source-given, source_state, sources}
use Rattle.tidy_laws.proofs.Prelude.Servers.{source_of}
use Rattle.tidy_laws.proofs.Positions.{All-slot}

-- ---- no flaw

never-met : (test : ServerInit → Bool) (n : ℕ) (is : List ServerInit) → first_met (λ m. test) n is ≡ None → All (λ i. test i ≡ false) is
never-met test n [] none = All-nil (λ (i : ServerInit). test i ≡ false)
never-met test n (x ∷ is) none = go (test x) refl none (never-met test (n + 1) is)
  where
    go : (b : Bool) → test x ≡ b → cond b (Some n) (first_met (λ m. test) (n + 1) is) ≡ None → (first_met (λ m. test) (n + 1) is ≡ None → All (λ i. test i ≡ false) is) → All (λ i. test i ≡ false) (x ∷ is)
    go true e none rest = cc
    go false e none rest = All-cons (λ (i : ServerInit). test i ≡ false) x is e (rest none)

-- none of the list passes
none-any : {X : Type 0} (p : X → Bool) (xs : List X) → list_any p xs ≡ false → All (λ x. p x ≡ false) xs
none-any p [] h = All-nil (λ x. p x ≡ false)
none-any p (x ∷ xs) h = let parts = or_parts (p x) (list_any p xs) h in All-cons (λ x. p x ≡ false) x xs parts.0 (none-any p xs parts.1)

same-label : (i j : ServerInit) → same_cluster i j ≡ true → i.settings.cluster ≡ j.settings.cluster
same-label i j h = same_text i.settings.cluster j.settings.cluster (sym h)

module _ (o : Opened) (checked : IsChecked o) where
  alone : (n : ℕ) (i : ServerInit) → slice_get o.servers n ≡ Some i → other_cluster o.servers i ≡ false
  alone n i at =
      All-slot (λ (x : ServerInit). other_cluster o.servers x ≡ false) o.servers n i
      (never-met (other_cluster o.servers) 0 o.servers (unmet o.servers (flaws o.servers) checked.sound 3 _ refl)) at

  -- the source is of the server's cluster
  source-like : (n m : ℕ) (i j : ServerInit) → slice_get o.servers n ≡ Some i → slice_get o.servers m ≡ Some j → number_of i.source ≡ Some m → i.settings.cluster ≡ j.settings.cluster
  source-like n m i j at there from =
      let parts = or_parts (of_source o.servers (λ m s. not (same_cluster i s)) i) (origin_elsewhere o.servers i) (alone n i at) in
      let test : not (same_cluster i j) ≡ false =
      sym (ap (at_source o.servers (λ m s. not (same_cluster i s))) from ∙ ap (at_server (λ s. not (same_cluster i s))) there) ∙ parts.0 in
      same-label i j (not-false (same_cluster i j) test)

  -- and so are the origins of its parts
  origin-like : (n : ℕ) (i j : ServerInit) (p : Part) (k : ℕ) → slice_get o.servers n ≡ Some i → slice_get (parts_of i) k ≡ Some p → slice_get o.servers p.origin.0 ≡ Some j → i.settings.cluster ≡ j.settings.cluster
  origin-like n i j p k at part there =
      let parts = or_parts (of_source o.servers (λ m s. not (same_cluster i s)) i) (origin_elsewhere o.servers i) (alone n i at) in
      let test = All-slot (λ (x : Part). at_server (λ s. not (same_cluster i s)) (slice_get o.servers x.origin.0) ≡ false) (parts_of i) k p
      (none-any (λ (x : Part). at_server (λ s. not (same_cluster i s)) (slice_get o.servers x.origin.0)) (parts_of i) parts.1) part in
      let here : not (same_cluster i j) ≡ false = sym (ap (at_server (λ s. not (same_cluster i s))) there) ∙ test in
      same-label i j (not-false (same_cluster i j) here)

-- ---- logs

limit-times : (n : ℕ) (log : Log) → (flushed_times n log).limit ≡ log.limit
limit-times zero log = refl
limit-times (suc n) log = limit-times n log

limit-laid : (flushes : List ℕ) (count : ℕ) (log : Log) (ts : List Txn) → (laid_after flushes count log ts).limit ≡ log.limit
limit-laid flushes count log [] = limit-times (count_by (λ k. k == count) flushes) log
limit-laid flushes count log (t ∷ ts) =
    limit-laid flushes (count + 1) (push (flushed_at flushes count log) t.size) ts ∙ limit-push (flushed_at flushes count log) t.size
    ∙ limit-times (count_by (λ k. k == count) flushes) log

limit-by : (i : ServerInit) (history : List Txn) → (log_by i history).limit ≡ i.settings.limit
limit-by i history = go i.settings.logs
  where
    go : (b : Bool) → (cond b (laid i.settings.limit i.flushes history) (opened i.settings.limit)).limit ≡ i.settings.limit
    go true = limit-laid i.flushes 0 (opened i.settings.limit) history
    go false = refl

-- ---- the world

module _ (o : Opened) (room flushes : ℕ) (checked : IsChecked o) (untils : All (λ i. IfSome i.until IsWritten) o.servers) where
  abbrev c : Clusters
  c = cluster_at (opened_world o room flushes)

  cluster-of : (n : ℕ) (i : ServerInit) → slice_get o.servers n ≡ Some i → c n ≡ Some i.settings.cluster
  cluster-of n i at = ap cluster_in (server_at-opened o room flushes n i at)

  sound : IsSound o.servers
  sound = sound_checked o checked

  -- a server under another one is of its cluster
  under-like : (n m : ℕ) (i : ServerInit) → slice_get o.servers n ≡ Some i → number_of i.source ≡ Some m → c m ≡ c n
  under-like n m i at from = go i.source refl from
    where
      go : (x : Option ServerNo) → i.source ≡ x → number_of x ≡ Some m → c m ≡ c n
      go None is h = cc
      go (Some k) is h =
          let u = sound.under n i k at is in
          let same : k.0 ≡ m = same_Some k.0 m h in
          let there : slice_get o.servers m ≡ Some u.source = ap (slice_get o.servers) (sym same) ∙ u.there in
          cluster-of m u.source there ∙ ap Some (sym (source-like o checked n m i u.source at there from)) ∙ sym (cluster-of n i at)

  abbrev IsHome : ℕ → Txn → Type 0
  IsHome n t = c t.origin.0 ≡ c n

  -- a listed history has origins of its server's cluster
  listed-home : (n : ℕ) (i : ServerInit) → slice_get o.servers n ≡ Some i → All (IsHome n) (listed_history (parts_of i))
  listed-home n i at = λ k d h. each k _ (slice_get-get_or (listed_history (parts_of i)) k d h)
    where
      of-part : (before : List Txn) (x : ServerNo × ℕ) (p : Part) (k : ℕ) → slice_get (parts_of i) k ≡ Some p → x ≡ pair_of p → IsHome n (next_txn before x)
      of-part before x p k part is =
          let origin : x.0 ≡ p.origin = ap (λ (y : ServerNo × ℕ). y.0) is in
          let range = All-slot (Rattle.run_laws.specs.Openings.Opening.IsPart (length o.servers)) (parts_of i) k p (checked.listed.each n i at).parts part in
          let there = slice_get-get_or o.servers p.origin.0 i range.origin in
          let j = slice_index_or o.servers p.origin.0 i in
          ap (λ (y : ServerNo). c y.0) origin ∙ cluster-of p.origin.0 j there ∙ ap Some (sym (origin-like o checked n i j p k at part there)) ∙ sym (cluster-of n i at)

      each : (k : ℕ) (t : Txn) → slice_get (listed_history (parts_of i)) k ≡ Some t → IsHome n t
      each k t h =
          joined_by-each (IsHome n) [] (singles (parts_of i)) (λ j u e. none j u e)
          (λ before j x e. let found = singles-part (parts_of i) j x e in of-part before x found.0 found.1 found.2 found.3) k t h
        where
          none : (j : ℕ) (u : Txn) → slice_get [] j ≡ Some u → IsHome n u
          none j u e = cc

  home-by : (n : ℕ) → Grounded (sources o.servers) n → (i : ServerInit) → slice_get o.servers n ≡ Some i → All (IsHome n) (history_at o.servers n)
  home-by n (Root k free) i at = go i.source refl (sym (ap source_of at) ∙ free)
    where
      go : (x : Option ServerNo) → i.source ≡ x → number_of i.source ≡ None → All (IsHome n) (history_at o.servers n)
      go None is none = subst (All (IsHome n)) (sym (sound.own n i at is)) (listed-home n i at)
      go (Some m) is none = let some : Some m.0 ≡ None = sym (ap number_of is) ∙ none in cc
  home-by n (Under k m from above) i at = go (λ j there. home-by m above j there) i.source refl
    where
      is-from : number_of i.source ≡ Some m
      is-from = sym (ap source_of at) ∙ from

      go : ((j : ServerInit) → slice_get o.servers m ≡ Some j → All (IsHome m) (history_at o.servers m)) → (x : Option ServerNo) → i.source ≡ x → All (IsHome n) (history_at o.servers n)
      go rest None is = let none : None ≡ Some m = sym (ap number_of is) ∙ is-from in cc
      go rest (Some s) is =
          let u = sound.under n i s at is in
          let same : s.0 ≡ m = same_Some s.0 m (sym (ap number_of is) ∙ is-from) in
          let there : slice_get o.servers m ≡ Some u.source = ap (slice_get o.servers) (sym same) ∙ u.there in
          subst (All (IsHome n)) (sym (sound.begins n i s at is))
          (subst (λ (j : ℕ). All (IsHome n) (take i.executed (history_at o.servers j))) (sym same)
          (All-take (IsHome n) i.executed (history_at o.servers m)
          (λ j d h. rest u.source there j d h ∙ under-like n m i at is-from)))

  module _ (fits : Fits o room flushes) (few : room ≤ 4000000) (small : flushes ≤ 4000000) where
    own-opened : (n : ℕ) (i : ServerInit) → slice_get o.servers n ≡ Some i → HasOwnOf c n (opened_server o.servers room flushes n i)
    own-opened n i at =
        let fit = ((CanStand-opened o room flushes checked fits few small).each n (opened_server o.servers room flushes n i) (server_at-opened o room flushes n i at)).fit in
        record {
          cluster = cluster-of n i at;
          high = fit.high;
          within = fit.within;
          entries = fit.entries;
          sizes = fit.sizes;
          files = fit.files;
          limit = limit-by i (history_at o.servers n);
          unlogged = λ silent. ap (λ (b : Bool). cond b (laid i.settings.limit i.flushes (history_at o.servers n)) (opened i.settings.limit)) silent;
          told = refl;
          origins = home-by n (sound.ends n) i at;
        }

    replicates-opened : (n : ℕ) (i : ServerInit) → slice_get o.servers n ≡ Some i → ReplicatesOf c o.gtid n (opened_server o.servers room flushes n i)
    replicates-opened n i at =
        let listed = checked.listed.each n i at in
        record {
          bare = λ none. bare i.source refl none;
          auto = listed.auto;
          until = All-slot (λ (x : ServerInit). IfSome x.until IsWritten) o.servers n i untils at;
          source = λ m from. let given = source-given i.detached i.source m from in under-like n m i at (ap number_of given.1 ∙ ap Some given.2);
        }
      where
        bare : (x : Option ServerNo) → i.source ≡ x → source_state i.detached i.source ≡ Without
            → Rattle.tidy_laws.specs.Trim.HasNone (exec_of o.servers i) (read_of o.servers i) i.auto (is_some i.source && i.io) (is_some i.source && i.sql) i.until
        bare None is none =
            let lone = (checked.listed.each n i at).alone is in
            record {
              exec = exec_of-root o.servers i is;
              read = read_of-root o.servers i is lone;
              auto = lone.auto;
              receiver = ap (λ (y : Option ServerNo). is_some y && i.io) is;
              applier = ap (λ (y : Option ServerNo). is_some y && i.sql) is;
              until = lone.until;
            }
        bare (Some m) is none = absurd (by i.detached (sym (ap (source_state i.detached) is) ∙ none))
          where
            by : (b : Bool) → cond b (Detached m) (Attached m) ≡ Without → ⊥
            by true h = cc
            by false h = cc

    pub trim-opened : IsTrim c (opened_world o room flushes)
    trim-opened = record {
      clusters = λ n. refl;
      own = λ n s at. let g = given-opened o room flushes n s at in subst (λ (x : Server). HasOwnOf c n x) (sym g.is_opened) (own-opened n g.init g.place);
      replicates = λ n s at. let g = given-opened o room flushes n s at in subst (λ (x : Server). ReplicatesOf c o.gtid n x) (sym g.is_opened) (replicates-opened n g.init g.place);
    }
