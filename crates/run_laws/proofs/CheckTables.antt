-- Checks of the permission table, codes of an analysis and block periods are as the tables have them.
use Rattle.std.proofs.Common.{◌≡◌, ◌<◌, ◌⊎◌, ◌∙◌, ◌&&◌, ◌||◌, ◌==◌, ◌++◌, ℕ, Bool, true, false, cond, not, List, [], ◌∷◌, arith, inl, inr, refl, sym, ap, subst, Option, Some, None}
use Rattle.std.specs.Cmp.Lexicographic.{pointwise, same_text}
use Rattle.std.specs.Option.{option_or}
use Rattle.std.specs.Prelude.{All, Contains, filter, find, is_some, nat_eq, nat_lt, option_and_then, unwrap_or}
use Rattle.std.proofs.lemmas.Bool.{lt-ltb, ltb-true}
use Rattle.std.proofs.lemmas.Cmp.{nat_list_eq_equiv}
use Rattle.std.proofs.lemmas.Bool.Decides.{nat_tests}
use Rattle.run_laws.proofs.Prelude.{All-cons, All-contains, All-head, All-nil, All-tail, Contains-append_right, and_parts, eq-eqb, eqb-true, false≢true}
use Rattle.run_laws.proofs.Prelude.{Without, first_about, found-passes, neither, not-true, row-code, same_Some, seen_source, source_in}
use Rattle.run_laws.specs.CheckTables.{AreBoth, AreOthers, ChecksByTable, CodeSays, CodesByTable, EnablesBySet, HasSource, IsAttachedTo, IsFrom, IsLower, IsSeenSo, IsSibling, Logs, PeriodsByTable, RefusesCase, RefusesLeased}
use Rattle.run_laws.specs.CheckTables.{RefusesMoves, RefusesServers, RowsByTable, WasReached, coords_numbers, gtid_numbers, match_numbers, numbers, path_numbers}
use Rattle.run_laws.specs.Prelude.{AreCounts, Attached, Block, BookState, Case, Check, Code, Counts, Detached, Instance, Move, Refusal, Server, ServerNo, SourceState, Version, World}
use Rattle.run_laws.specs.Prelude.{CoordsCommand, GtidCommand, MatchCommand, PathCommand, coords_row, gtid_row, match_last, match_row, path_last, path_row}
use Rattle.run_laws.specs.Prelude.{instance_at, lease_at, period_in, refusal_in, server_at}
use Rattle.run_laws.specs.Prelude.check
use Rattle.run_laws.specs.Prelude.code
use Rattle.run_laws.specs.Prelude.coords_kind
use Rattle.run_laws.specs.Prelude.gtid_kind
use Rattle.run_laws.specs.Prelude.match_kind
use Rattle.run_laws.specs.Prelude.path_kind
use Rattle.run_laws.specs.Prelude.refusal
use Rattle.run_laws.specs.Permission.Checks.{are_one, busy, busy_by, is_given}
use Rattle.run_laws.specs.Permission.Lists.{only_if}
use Rattle.run_laws.specs.Permission.Views.{attached_in, attached_of, has_log, id_in, is_attached_in, is_detached_in, is_lower, is_valid, label_in, logs_in, lower_version, same_id, same_label, source_of, valid_in, version_in}
use Rattle.run_laws.specs.PseudoMatch.Permits.{marks_row}
use Rattle.run_laws.specs.FailureAnalysis.Table.{code_of, is_of_row, problems}

-- ---- lists

module _ {A B : Type 0} (about : A → Option B) where
  -- the first answer is none, or of one of them
  first-all : (xs : List A) → first_about about xs ≡ None → All (λ x. about x ≡ None) xs
  first-all [] h = All-nil (λ x. about x ≡ None)
  first-all (x ∷ xs) h = let two = neither (about x) (first_about about xs) h in All-cons (λ y. about y ≡ None) x xs two.0 (first-all xs two.1)

  first-one : (xs : List A) (r : B) → first_about about xs ≡ Some r → (x : A) × Contains xs x × (about x ≡ Some r)
  first-one [] r h = cc
  first-one (x ∷ xs) r h = go (about x) refl h (first-one xs r)
    where
      go : (o : Option B) → about x ≡ o → option_or o (first_about about xs) ≡ Some r → (first_about about xs ≡ Some r → (y : A) × Contains xs y × (about y ≡ Some r)) → (y : A) × Contains (x ∷ xs) y × (about y ≡ Some r)
      go None at e rest = let y = rest e in (y.0, Contains-append_right (x ∷ []) xs y.0 y.1, y.2)
      go (Some q) at e rest = (x, (0, omega arith, refl), at ∙ e)

only-off : {A : Type 0} (t : Bool) (x : A) → only_if t x ≡ None → t ≡ false
only-off true x h = cc
only-off false x h = refl

only-on : {A : Type 0} (t : Bool) (x y : A) → only_if t x ≡ Some y → (t ≡ true) × (x ≡ y)
only-on true x y h = (refl, same_Some x y h)
only-on false x y h = cc

-- ---- versions

late : (x y z : Bool) → y ≡ true → z ≡ true → (x || (y && z)) ≡ true
late true y z a b = refl
late false y z a b = ap (λ k. k && z) a ∙ b

lower-so : (a b : Version) → lower_version a b ≡ true → IsLower a b
lower-so a b h = go (nat_lt a.major b.major) refl h
  where
    go : (x : Bool) → nat_lt a.major b.major ≡ x → (x || ((a.major == b.major) && nat_lt a.minor b.minor)) ≡ true → IsLower a b
    go true is e = inl (ltb-true a.major b.major is)
    go false is e = let two = and_parts (a.major == b.major) (nat_lt a.minor b.minor) e in inr (eqb-true a.major b.major two.0, ltb-true a.minor b.minor two.1)

so-lower : (a b : Version) → IsLower a b → lower_version a b ≡ true
so-lower a b (inl h) = ap (λ x. x || ((a.major == b.major) && nat_lt a.minor b.minor)) (lt-ltb a.major b.major h)
so-lower a b (inr h) = late (nat_lt a.major b.major) (a.major == b.major) (nat_lt a.minor b.minor) (eq-eqb a.major b.major h.0) (lt-ltb a.minor b.minor h.1)

-- ---- checks

module _ (w : World) (b : BookState) (c : Case) where
  module _ (k : Check) (Q : Server → Server → Type 0) (of : ServerNo → Refusal) (test : Move → Bool) (row : refusal_in w b c k ≡ first_about (λ m. only_if (test m) (of m.no)) c.moves)
      (yes : (m : Move) → test m ≡ true → AreBoth Q w m) (no : (m : Move) → test m ≡ false → AreBoth (λ s t. Q s t → ⊥) w m) where
    abbrev about : Move → Option Refusal
    about m = only_if (test m) (of m.no)

    by-moves : RefusesMoves Q w b c k of
    by-moves = record {
      passes = λ none m has. no m (only-off (test m) (of m.no) (All-contains (λ (y : Move). about y ≡ None) c.moves m (first-all about c.moves (sym row ∙ none)) has));
      refuses = λ r some.
          let one = first-one about c.moves r (sym row ∙ some) in
          let on = only-on (test one.0) (of one.0.no) r one.2 in (one.0, one.1, sym on.1, yes one.0 on.0);
    }

  module _ (k : Check) (ns : List ServerNo) (Q : ServerNo → Type 0) (of : ServerNo → Refusal) (test : ServerNo → Bool) (row : refusal_in w b c k ≡ first_about (λ n. only_if (not (test n)) (of n)) ns)
      (yes : (n : ServerNo) → test n ≡ true → Q n) (no : (n : ServerNo) → test n ≡ false → Q n → ⊥) where
    abbrev told : ServerNo → Option Refusal
    told n = only_if (not (test n)) (of n)

    off : (x : Bool) → not x ≡ false → x ≡ true
    off true h = refl
    off false h = absurd (false≢true (sym h))

    by-servers : RefusesServers Q w b c k ns of
    by-servers = record {
      passes = λ none n has. yes n (off (test n) (only-off (not (test n)) (of n) (All-contains (λ (y : ServerNo). told y ≡ None) ns n (first-all told ns (sym row ∙ none)) has)));
      refuses = λ r some.
          let one = first-one told ns r (sym row ∙ some) in
          let on = only-on (not (test one.0)) (of one.0) r one.2 in (one.0, one.1, sym on.1, no one.0 (not-true (test one.0) on.0));
    }

  id-test : (m : Move) (s t : Server) → server_at w m.no.0 ≡ Some s → server_at w m.source.0 ≡ Some t → same_id w m.no m.source ≡ (s.settings.server_id == t.settings.server_id)
  id-test m s t ats att = ap (λ o. id_in o == id_in (server_at w m.source.0)) ats ∙ ap (λ o. s.settings.server_id == id_in o) att

  version-test : (m : Move) (s t : Server) → server_at w m.no.0 ≡ Some s → server_at w m.source.0 ≡ Some t → is_lower w m.no m.source ≡ lower_version s.settings.version t.settings.version
  version-test m s t ats att = ap (λ o. lower_version (version_in o) (version_in (server_at w m.source.0))) ats ∙ ap (λ o. lower_version s.settings.version (version_in o)) att

  logs-so : (n : ServerNo) → has_log w n ≡ true → Logs w n
  logs-so n h = go (server_at w n.0) refl h
    where
      go : (o : Option Server) → server_at w n.0 ≡ o → logs_in o ≡ true → Logs w n
      go None at e = absurd (false≢true e)
      go (Some s) at e = record { server = s; there = at; logs = e }

  reached-so : (n : ServerNo) → is_valid b n ≡ true → WasReached b n
  reached-so n h = go (instance_at b n) refl h
    where
      go : (o : Option Instance) → instance_at b n ≡ o → valid_in o ≡ true → WasReached b n
      go None at e = absurd (false≢true e)
      go (Some i) at e = record { instance = i; there = at; valid = e }

  free-so : (n : ServerNo) (o : Option ℕ) → busy_by n o ≡ None → o ≡ None
  free-so n None h = refl
  free-so n (Some job) h = cc

  leases-so : RefusesLeased w b c
  leases-so = record {
    passes = λ none n has. free-so n (lease_at b n) (All-contains (λ (y : ServerNo). busy b y ≡ None) c.leased n (first-all (busy b) c.leased none) has);
    refuses = λ r some. let one = first-one (busy b) c.leased r some in leased one.0 r one.1 (lease_at b one.0) refl one.2;
  }
    where
      leased : (n : ServerNo) (r : Refusal) → Contains c.leased n → (o : Option ℕ) → lease_at b n ≡ o → busy_by n o ≡ Some r → (k : ServerNo) × (job : ℕ) × Contains c.leased k × (lease_at b k ≡ Some job) × (r ≡ refusal.Busy k job)
      leased n r has None at e = cc
      leased n r has (Some job) at e = (n, job, has, at, sym (same_Some (refusal.Busy n job) r e))

  -- ---- over the case

  module _ (k : Check) (Q : Type 0) (of : Refusal) (test : Bool) (row : refusal_in w b c k ≡ only_if test of) (yes : test ≡ true → Q) (no : test ≡ false → Q → ⊥) where
    by-case : RefusesCase w b c k Q of
    by-case = record {
      passes = λ none. no (only-off test of (sym row ∙ none));
      refuses = λ r some. let on = only-on test of r (sym row ∙ some) in (sym on.1, yes on.0);
    }

  on-so : (x : Bool) → not x ≡ false → x ≡ true
  on-so true h = refl
  on-so false h = absurd (false≢true (sym h))

  given-so : (n : ServerNo) (o : Option ServerNo) → is_given n o ≡ true → o ≡ Some n
  given-so n None h = absurd (false≢true h)
  given-so n (Some m) h = ap (λ (k : ℕ). Some (record { 0 = k })) (eqb-true m.0 n.0 h)

  so-given : (n : ServerNo) (o : Option ServerNo) → o ≡ Some n → is_given n o ≡ true
  so-given n o e = ap (is_given n) e ∙ eq-eqb n.0 n.0 refl

  -- the source by the book
  source-so : (n x : ServerNo) → source_of b n ≡ Some x → HasSource b n x
  source-so n x h = go (instance_at b n) refl h
    where
      by-state : (i : Instance) → instance_at b n ≡ Some i → (s : SourceState) → i.seen.source ≡ s → source_in s ≡ Some x → HasSource b n x
      by-state i at Without is e = cc
      by-state i at (Attached m) is e = record { instance = i; there = at; source = inl (is ∙ ap Attached (same_Some m x e)) }
      by-state i at (Detached m) is e = record { instance = i; there = at; source = inr (is ∙ ap Detached (same_Some m x e)) }

      go : (o : Option Instance) → instance_at b n ≡ o → source_in (seen_source o) ≡ Some x → HasSource b n x
      go None at e = cc
      go (Some i) at e = by-state i at i.seen.source refl e

  so-source : (n x : ServerNo) → HasSource b n x → source_of b n ≡ Some x
  so-source n x h = ap (λ o. source_in (seen_source o)) h.there ∙ go h.source
    where
      go : IsFrom h.instance.seen.source x → source_in h.instance.seen.source ≡ Some x
      go (inl e) = ap source_in e
      go (inr e) = ap source_in e

  attached-so : (n x : ServerNo) → attached_of b n ≡ Some x → IsAttachedTo b n x
  attached-so n x h = go (instance_at b n) refl h
    where
      by-state : (i : Instance) → instance_at b n ≡ Some i → (s : SourceState) → i.seen.source ≡ s → attached_in s ≡ Some x → IsAttachedTo b n x
      by-state i at Without is e = cc
      by-state i at (Attached m) is e = record { instance = i; there = at; source = is ∙ ap Attached (same_Some m x e) }
      by-state i at (Detached m) is e = cc

      go : (o : Option Instance) → instance_at b n ≡ o → attached_in (seen_source o) ≡ Some x → IsAttachedTo b n x
      go None at e = cc
      go (Some i) at e = by-state i at i.seen.source refl e

  so-attached : (n x : ServerNo) → IsAttachedTo b n x → attached_of b n ≡ Some x
  so-attached n x h = ap (λ o. attached_in (seen_source o)) h.there ∙ ap attached_in h.source

  -- whether there is one
  some-of : {A : Type 0} (o : Option A) → is_some o ≡ true → (x : A) × (o ≡ Some x)
  some-of None h = absurd (false≢true h)
  some-of (Some x) h = (x, refl)

  is-so : {A : Type 0} (o : Option A) (x : A) → o ≡ Some x → is_some o ≡ true
  is-so o x e = ap is_some e

  none-is : {A : Type 0} (o : Option A) → is_some o ≡ false → (x : A) → o ≡ Some x → ⊥
  none-is o off x e = false≢true (sym off ∙ is-so o x e)

  attached-state : (test : SourceState → Bool) (Q : ServerNo → SourceState → Type 0) → ((s : SourceState) → test s ≡ true → (x : ServerNo) × Q x s) → test Without ≡ false
      → (n : ServerNo) → test (seen_source (instance_at b n)) ≡ true → (x : ServerNo) × IsSeenSo (Q x) b n
  attached-state test Q each off n h = go (instance_at b n) refl h
    where
      go : (o : Option Instance) → instance_at b n ≡ o → test (seen_source o) ≡ true → (x : ServerNo) × IsSeenSo (Q x) b n
      go None at e = absurd (false≢true (sym off ∙ e))
      go (Some i) at e = let y = each i.seen.source e in (y.0, record { instance = i; there = at; source = y.1 })

  is-attached : (s : SourceState) → is_attached_in s ≡ true → (x : ServerNo) × (s ≡ Attached x)
  is-attached Without h = absurd (false≢true h)
  is-attached (Attached m) h = (m, refl)
  is-attached (Detached m) h = absurd (false≢true h)

  is-detached : (s : SourceState) → is_detached_in s ≡ true → (x : ServerNo) × (s ≡ Detached x)
  is-detached Without h = absurd (false≢true h)
  is-detached (Attached m) h = absurd (false≢true h)
  is-detached (Detached m) h = (m, refl)

  -- two that are one
  one-so : (o other : Option ServerNo) → are_one o other ≡ true → (x : ServerNo) × (o ≡ Some x) × (other ≡ Some x)
  one-so None other h = absurd (false≢true h)
  one-so (Some n) other h = (n, refl, given-so n other h)

  so-one : (o other : Option ServerNo) (x : ServerNo) → o ≡ Some x → other ≡ Some x → are_one o other ≡ true
  so-one o other x e f = ap (λ y. are_one y other) e ∙ so-given x other f

  -- what comes after another
  then-so : {A B : Type 0} (f : A → Option B) (o : Option A) (y : B) → option_and_then f o ≡ Some y → (x : A) × (o ≡ Some x) × (f x ≡ Some y)
  then-so f None y h = cc
  then-so f (Some x) y h = (x, refl, h)

  sibling-so : are_one (source_of b c.i) (option_and_then (attached_of b) c.to) ≡ true → IsSibling b c
  sibling-so h =
      let one = one-so (source_of b c.i) (option_and_then (attached_of b) c.to) h in
      let dest = then-so (attached_of b) c.to one.0 one.2 in record {
        source = one.0;
        destination = dest.0;
        given = dest.1;
        below = source-so c.i one.0 one.1;
        beside = attached-so dest.0 one.0 dest.2;
      }

  so-sibling : IsSibling b c → are_one (source_of b c.i) (option_and_then (attached_of b) c.to) ≡ true
  so-sibling s = so-one (source_of b c.i) (option_and_then (attached_of b) c.to) s.source (so-source c.i s.source s.below) (ap (option_and_then (attached_of b)) s.given ∙ so-attached s.destination s.source s.beside)

  above-so : is_some (option_and_then (attached_of b) (source_of b c.i)) ≡ true → (x : ServerNo) × (y : ServerNo) × HasSource b c.i x × IsAttachedTo b x y
  above-so h =
      let top = some-of (option_and_then (attached_of b) (source_of b c.i)) h in
      let at = then-so (attached_of b) (source_of b c.i) top.0 top.1 in (at.0, top.0, source-so c.i at.0 at.1, attached-so at.0 top.0 at.2)

  so-above : (x y : ServerNo) → HasSource b c.i x → IsAttachedTo b x y → is_some (option_and_then (attached_of b) (source_of b c.i)) ≡ true
  so-above x y from above = is-so (option_and_then (attached_of b) (source_of b c.i)) y (ap (option_and_then (attached_of b)) (so-source c.i x from) ∙ so-attached x y above)

  label-test : (m : Move) (s t : Server) → server_at w m.no.0 ≡ Some s → server_at w m.source.0 ≡ Some t → same_label w m.no m.source ≡ pointwise nat_eq s.settings.cluster t.settings.cluster
  label-test m s t ats att = ap (λ o. pointwise nat_eq (label_in o) (label_in (server_at w m.source.0))) ats ∙ ap (λ o. pointwise nat_eq s.settings.cluster (label_in o)) att

  pub checks-by-table : ChecksByTable w b c
  checks-by-table = record {
    ids =
        by-moves check.SameServerId _ _ (λ m. same_id w m.no m.source) refl
        (λ m on s t ats att. eqb-true s.settings.server_id t.settings.server_id (sym (id-test m s t ats att) ∙ on))
        (λ m no s t ats att same. false≢true (sym no ∙ (id-test m s t ats att ∙ eq-eqb s.settings.server_id t.settings.server_id same)));
    versions =
        by-moves check.VersionLower _ _ (λ m. is_lower w m.no m.source) refl
        (λ m on s t ats att. lower-so s.settings.version t.settings.version (sym (version-test m s t ats att) ∙ on))
        (λ m no s t ats att lower. false≢true (sym no ∙ (version-test m s t ats att ∙ so-lower s.settings.version t.settings.version lower)));
    logs =
        by-servers check.DestNotLogging c.sources (Logs w) (λ n. refusal.DestNotLogging) (has_log w) refl logs-so
        (λ n no l. false≢true (sym no ∙ (ap logs_in l.there ∙ l.logs)));
    reached =
        by-servers check.Unreachable c.reached (WasReached b) (λ n. refusal.Unreachable n) (is_valid b) refl reached-so
        (λ n no r. false≢true (sym no ∙ (ap valid_in r.there ∙ r.valid)));
    leases = leases-so;
    labels =
        by-moves check.OtherCluster _ _ (λ m. not (same_label w m.no m.source)) refl
        (λ m on s t ats att same. false≢true (sym (not-true (same_label w m.no m.source) on) ∙ (label-test m s t ats att ∙ subst (λ (ks : List ℕ). pointwise nat_eq s.settings.cluster ks ≡ true) same (nat_list_eq_equiv.refl s.settings.cluster))))
        (λ m no s t ats att other. other (same_text s.settings.cluster t.settings.cluster (sym (sym (label-test m s t ats att) ∙ on-so (same_label w m.no m.source) no))));
    moved =
        by-moves check.MovedNotLogging _ _ (λ m. not (has_log w m.no)) refl
        (λ m on s t ats att. sym (ap logs_in ats) ∙ not-true (has_log w m.no) on)
        (λ m no s t ats att off. false≢true (sym off ∙ (sym (ap logs_in ats) ∙ on-so (has_log w m.no) no)));
    same = by-case check.SameInstance _ _ (is_given c.i c.to) refl (given-so c.i c.to) (λ no is. false≢true (sym no ∙ so-given c.i c.to is));
    source =
        by-case check.NoSource _ _ (not (is_some (source_of b c.i))) refl
        (λ on x from. none-is (source_of b c.i) (not-true (is_some (source_of b c.i)) on) x (so-source c.i x from))
        (λ no none. let has = some-of (source_of b c.i) (on-so (is_some (source_of b c.i)) no) in none has.0 (source-so c.i has.0 has.1));
    attached =
        by-case check.NotDetached _ _ (is_attached_in (seen_source (instance_at b c.i))) refl (attached-state is_attached_in (λ x s. s ≡ Attached x) is-attached refl c.i)
        (λ no is. false≢true (sym no ∙ (ap (λ o. is_attached_in (seen_source o)) is.1.there ∙ ap is_attached_in is.1.source)));
    detached =
        by-case check.AlreadyDetached _ _ (is_detached_in (seen_source (instance_at b c.i))) refl (attached-state is_detached_in (λ x s. s ≡ Detached x) is-detached refl c.i)
        (λ no is. false≢true (sym no ∙ (ap (λ o. is_detached_in (seen_source o)) is.1.there ∙ ap is_detached_in is.1.source)));
    above =
        by-case check.SourceHasNoSource _ _ (not (is_some (option_and_then (attached_of b) (source_of b c.i)))) refl
        (λ on x y from up. false≢true (sym (not-true (is_some (option_and_then (attached_of b) (source_of b c.i))) on) ∙ so-above x y from up))
        (λ no none. let has = above-so (on-so (is_some (option_and_then (attached_of b) (source_of b c.i))) no) in none has.0 has.1 has.2 has.3);
    sibling =
        by-case check.NotSibling _ _ (not (are_one (source_of b c.i) (option_and_then (attached_of b) c.to))) refl
        (λ on is. false≢true (sym (not-true (are_one (source_of b c.i) (option_and_then (attached_of b) c.to)) on) ∙ so-sibling is))
        (λ no none. none (sibling-so (on-so (are_one (source_of b c.i) (option_and_then (attached_of b) c.to)) no)));
    own =
        by-case check.NotSameLog _ _ (not (are_one (source_of b c.i) c.to)) refl
        (λ on x from to. false≢true (sym (not-true (are_one (source_of b c.i) c.to) on) ∙ so-one (source_of b c.i) c.to x (so-source c.i x from) to))
        (λ no none. let one = one-so (source_of b c.i) c.to (on-so (are_one (source_of b c.i) c.to) no) in none one.0 (source-so c.i one.0 one.1) one.2);
    gtid = by-case check.GtidOff _ _ (not w.gtid) refl (λ on. not-true w.gtid on) (λ no off. false≢true (sym off ∙ on-so w.gtid no));
  }

-- ---- rows

coords-rows : (auto : Bool) (k : CoordsCommand) → numbers (coords_row auto k) ≡ coords_numbers auto k
coords-rows true coords_kind.Repoint = refl
coords-rows false coords_kind.Repoint = refl
coords-rows auto coords_kind.MoveUp = refl
coords-rows auto k = refl

path-rows : (gtid : Bool) (k : PathCommand) → numbers (path_row gtid k ++ path_last gtid k) ≡ path_numbers gtid k
path-rows true path_kind.Relocate = refl
path-rows false path_kind.Relocate = refl
path-rows true k = refl
path-rows false k = refl

gtid-rows : (k : GtidCommand) → numbers (gtid_row k) ≡ gtid_numbers k
gtid-rows gtid_kind.MoveGtid = refl
gtid-rows k = refl

match-rows : (k : MatchCommand) → numbers (match_row k ++ match_last 0 k) ≡ match_numbers k
match-rows match_kind.Match = refl
match-rows k = refl

-- with marks
marked-rows : (every : ℕ) (k : MatchCommand) → 0 < every → numbers (match_row k ++ match_last every k) ≡ filter (λ n. not (n == 31)) (match_numbers k)
marked-rows every k some = go (every == 0) refl
  where
    with-marks : (c : MatchCommand) → numbers (match_row c ++ marks_row false c) ≡ filter (λ n. not (n == 31)) (match_numbers c)
    with-marks match_kind.Match = refl
    with-marks c = refl

    go : (none : Bool) → (every == 0) ≡ none → numbers (match_row k ++ match_last every k) ≡ filter (λ n. not (n == 31)) (match_numbers k)
    go true is = let zero = eqb-true every 0 is in absurd (omega (arith, some, zero))
    go false is = ap (λ (none : Bool). numbers (match_row k ++ marks_row none k)) is ∙ with-marks k

pub rows-by-table : RowsByTable
rows-by-table = record { coords = coords-rows; gtids = gtid-rows; paths = path-rows; matches = match-rows; marked = marked-rows; takeover = refl }

-- ---- the plan of enable-gtid

pub enables-by-set : EnablesBySet
enables-by-set i x = (3, omega arith, refl)

-- ---- codes

row-says : (k : Code) (h ok : Bool) (n v r l : ℕ) → is_of_row k (record { has_source = h; valid = ok; replicas = n; valid_replicas = v; replicating = r; lagging = l }) ≡ true
    → CodeSays k (record { has_source = h; valid = ok; replicas = n; valid_replicas = v; replicating = r; lagging = l })
row-says code.NoProblem h ok n v r l e = tt
row-says _ true true n v r l e = grind (arith, nat_tests)
row-says _ true false n v r l e = grind (arith, nat_tests)
row-says _ false true n v r l e = grind (arith, nat_tests)
row-says _ false false n v r l e = grind (arith, nat_tests)

says-row : (k : Code) (h ok : Bool) (n v r l : ℕ) → CodeSays k (record { has_source = h; valid = ok; replicas = n; valid_replicas = v; replicating = r; lagging = l })
    → (k ≡ code.NoProblem) ⊎ (is_of_row k (record { has_source = h; valid = ok; replicas = n; valid_replicas = v; replicating = r; lagging = l }) ≡ true)
says-row code.NoProblem h ok n v r l e = inl refl
says-row _ true true n v r l e = inr (grind (arith, nat_tests))
says-row _ true false n v r l e = inr (grind (arith, nat_tests))
says-row _ false true n v r l e = inr (grind (arith, nat_tests))
says-row _ false false n v r l e = inr (grind (arith, nat_tests))

code-says : (c : Counts) → CodeSays (code_of c) c
unfolding code_of
code-says c = go (find (λ k. is_of_row k c) problems) refl
  where
    go : (o : Option Code) → find (λ k. is_of_row k c) problems ≡ o → CodeSays (unwrap_or o code.NoProblem) c
    go None f = tt
    go (Some k) f = row-says k c.has_source c.valid c.replicas c.valid_replicas c.replicating c.lagging (found-passes (λ y. is_of_row y c) problems k f)

code-found : (c : Counts) (k : Code) → AreCounts c → CodeSays k c → (k ≡ code.NoProblem) ⊎ (code_of c ≡ k)
code-found c k are says = go (says-row k c.has_source c.valid c.replicas c.valid_replicas c.replicating c.lagging says)
  where
    go : (k ≡ code.NoProblem) ⊎ (is_of_row k c ≡ true) → (k ≡ code.NoProblem) ⊎ (code_of c ≡ k)
    go (inl e) = inl e
    go (inr e) = inr (row-code c k are e)

pub codes-by-table : CodesByTable
codes-by-table = record { says = code-says; found = code-found }

-- ---- block periods

period-own : (otherwise : ℕ) (cluster : List ℕ) (front rest : List Block) (x : Block) → AreOthers cluster front → x.cluster ≡ cluster → period_in (front ++ x ∷ rest) otherwise cluster ≡ x.seconds
period-own otherwise cluster [] rest x others same =
    ap (λ t. cond t x.seconds (period_in rest otherwise cluster)) (subst (λ (ks : List ℕ). pointwise nat_eq x.cluster ks ≡ true) same (nat_list_eq_equiv.refl x.cluster))
period-own otherwise cluster (y ∷ ys) rest x others same =
    go (pointwise nat_eq y.cluster cluster) refl (period-own otherwise cluster ys rest x (All-tail (λ (z : Block). z.cluster ≡ cluster → ⊥) y ys others) same)
  where
    go : (t : Bool) → pointwise nat_eq y.cluster cluster ≡ t → period_in (ys ++ x ∷ rest) otherwise cluster ≡ x.seconds → cond t y.seconds (period_in (ys ++ x ∷ rest) otherwise cluster) ≡ x.seconds
    go true at e = absurd (All-head (λ (z : Block). z.cluster ≡ cluster → ⊥) y ys others (same_text y.cluster cluster (sym at)))
    go false at e = e

period-none : (otherwise : ℕ) (cluster : List ℕ) (xs : List Block) → AreOthers cluster xs → period_in xs otherwise cluster ≡ otherwise
period-none otherwise cluster [] others = refl
period-none otherwise cluster (y ∷ ys) others = go (pointwise nat_eq y.cluster cluster) refl (period-none otherwise cluster ys (All-tail (λ (z : Block). z.cluster ≡ cluster → ⊥) y ys others))
  where
    go : (t : Bool) → pointwise nat_eq y.cluster cluster ≡ t → period_in ys otherwise cluster ≡ otherwise → cond t y.seconds (period_in ys otherwise cluster) ≡ otherwise
    go true at e = absurd (All-head (λ (z : Block). z.cluster ≡ cluster → ⊥) y ys others (same_text y.cluster cluster (sym at)))
    go false at e = e

pub periods-by-table : (xs : List Block) (otherwise : ℕ) (cluster : List ℕ) → PeriodsByTable xs otherwise cluster
periods-by-table xs otherwise cluster = record {
  own = λ front rest x split others same. subst (λ (ys : List Block). period_in ys otherwise cluster ≡ x.seconds) (sym split) (period-own otherwise cluster front rest x others same);
  none = λ others. period-none otherwise cluster xs others;
}
