-- An opening without a flaw is `Sound`.
use Rattle.std.proofs.Common.{◌≡◌, ℕ, ◌+◌, ◌<◌, ◌≤◌, Bool, true, false, List, [], ◌∷◌, length, take, refl, sym, ◌∙◌, ap, subst, inl, inr, Option, Some, None, arith, zero, suc, ◌||◌, ◌&&◌, cond, slice_get, is_some, is_none, ◌==◌, nat_lt, not, get_or}
use Rattle.openings.proofs.Prelude.{Coord, Flaw, Grounded, IsChecked, IsListed, IsSound, IsUnder, Log, Opened, Part, Root, ServerInit, ServerNo, Txn}
use Rattle.openings.proofs.Prelude.{Under, agrees_with, all_below, and_parts, at_server, at_source, bad_coords, bad_coords_in, bad_flushes}
use Rattle.openings.proofs.Prelude.{bad_purged, below_itself, both_given, cases_order, count_at, count_of, count_under, eqb-true, exec_of, first_flaw}
use Rattle.openings.proofs.Prelude.{first_met, flaw_in, flaw_or, flaws, follow_on, has_place_of, histories_agree, history_at, is_at_or_before}
use Rattle.openings.proofs.Prelude.{is_before, is_home, is_kin, is_reached, is_reached_on, laid, length-take-le, list_all, listed_history, log_at}
use Rattle.openings.proofs.Prelude.{log_in, ltb-false, nat_tests, not-false, not_kin, number_of, of_source, opened, or_parts, parts_at, parts_of}
use Rattle.openings.proofs.Prelude.{place, reached_from, read_of, root_of, same_Some, slice_get-get_or, slice_get_within, source_not_logging}
use Rattle.openings.proofs.Prelude.{source_of, sources, take-take, take_all, too_many, transactions}
use Rattle.openings.proofs.ListedCounts.{length-listed_history}
use Rattle.openings.proofs.Roots.{IsLoopless, walk-ends, Grounded-walk, same-end}
use Rattle.openings.proofs.Agreements.{list_all-get, all_below-at, agree-swap}

-- no flaw: each test fails at each server

pub flaw_or-none : (flaw : Flaw) (rest : Option (Flaw × ℕ)) (o : Option ℕ) → flaw_or flaw rest o ≡ None → (o ≡ None) × (rest ≡ None)
flaw_or-none flaw rest None h = (refl, h)
flaw_or-none flaw rest (Some n) h = cc

pub never-met : (test : ℕ → ServerInit → Bool) (n : ℕ) (is : List ServerInit) → first_met test n is ≡ None → (j : ℕ) (i : ServerInit) → slice_get is j ≡ Some i → test (n + j) i ≡ false
never-met test n [] none j i h = cc
never-met test n (x ∷ is) none j i h = go (test n x) refl none j h (λ j. never-met test (n + 1) is)
  where
    go : (b : Bool) → test n x ≡ b → cond b (Some n) (first_met test (n + 1) is) ≡ None → (j : ℕ) → slice_get (x ∷ is) j ≡ Some i
        → ((j : ℕ) → first_met test (n + 1) is ≡ None → (j : ℕ) (i : ServerInit) → slice_get is j ≡ Some i → test (n + 1 + j) i ≡ false)
        → test (n + j) i ≡ false
    go true e none j h further = cc
    go false e none zero h further = let here : n + 0 ≡ n = omega arith in rw here (ap (test n) (sym (same_Some x i h)) ∙ e)
    go false e none (suc j) h further = let on : n + suc j ≡ n + 1 + j = omega arith in rw on (further j none j i h)

pub no-flaw : (servers : List ServerInit) (fs : List (Flaw × (ℕ → ServerInit → Bool))) → first_flaw servers fs ≡ None → (k : ℕ) (f : Flaw × (ℕ → ServerInit → Bool)) → slice_get fs k ≡ Some f → first_met f.1 0 servers ≡ None
no-flaw servers [] none k f h = cc
no-flaw servers (g ∷ fs) none zero f h = ap (λ (x : Flaw × (ℕ → ServerInit → Bool)). first_met x.1 0 servers) (sym (same_Some g f h)) ∙ (flaw_or-none g.0 (first_flaw servers fs) (first_met g.1 0 servers) none).0
no-flaw servers (g ∷ fs) none (suc k) f h = no-flaw servers fs (flaw_or-none g.0 (first_flaw servers fs) (first_met g.1 0 servers) none).1 k f h

clear : (servers : List ServerInit) → flaw_in servers ≡ None → (k : ℕ) (f : Flaw × (ℕ → ServerInit → Bool)) → slice_get (flaws servers) k ≡ Some f
    → (n : ℕ) (i : ServerInit) → slice_get servers n ≡ Some i → f.1 n i ≡ false
clear servers none k f h n i at =
    let met : f.1 (0 + n) i ≡ false = never-met f.1 0 servers (no-flaw servers (flaws servers) none k f h) n i at in
    let same : 0 + n ≡ n = omega arith in
    ap (λ m. f.1 m i) (sym same) ∙ met

-- each test that finds a flaw fails at each server
pub record IsFlawless (servers : List ServerInit) : Type 0 where
  pub one : (n : ℕ) (i : ServerInit) → slice_get servers n ≡ Some i → both_given i ≡ false
  pub logs : (n : ℕ) (i : ServerInit) → slice_get servers n ≡ Some i → source_not_logging servers i ≡ false
  pub ends : (n : ℕ) (i : ServerInit) → slice_get servers n ≡ Some i → below_itself servers n ≡ false
  pub few : (n : ℕ) (i : ServerInit) → slice_get servers n ≡ Some i → too_many servers i ≡ false
  pub flushes : (n : ℕ) (i : ServerInit) → slice_get servers n ≡ Some i → bad_flushes i ≡ false
  pub purged : (n : ℕ) (i : ServerInit) → slice_get servers n ≡ Some i → bad_purged servers n i ≡ false
  pub coords : (n : ℕ) (i : ServerInit) → slice_get servers n ≡ Some i → bad_coords servers i ≡ false
  pub kin : (n : ℕ) (i : ServerInit) → slice_get servers n ≡ Some i → not_kin servers n i ≡ false

pub flawless : (servers : List ServerInit) → flaw_in servers ≡ None → IsFlawless servers
flawless servers none = record {
  one = clear servers none 0 _ refl;
  logs = clear servers none 1 _ refl;
  ends = clear servers none 2 _ refl;
  few = clear servers none 4 _ refl;
  flushes = λ n i at. (or_parts (bad_flushes i) (bad_purged servers n i) (clear servers none 5 _ refl n i at)).0;
  purged = λ n i at. (or_parts (bad_flushes i) (bad_purged servers n i) (clear servers none 5 _ refl n i at)).1;
  coords = clear servers none 6 _ refl;
  kin = clear servers none 7 _ refl;
}

-- what a test finds of a server's source
of_source-is : (servers : List ServerInit) (test : ℕ → ServerInit → Bool) (i s : ServerInit) (m : ServerNo) → i.source ≡ Some m → slice_get servers m.0 ≡ Some s → of_source servers test i ≡ test m.0 s
of_source-is servers test i s m from there = ap (λ o. at_source servers test (number_of o)) from ∙ ap (at_server (test m.0)) there

-- coordinates without a flaw
has_place_of-is : (o : Option ℕ) (k : ℕ) → has_place_of o k ≡ true → o ≡ Some k
has_place_of-is None k h = cc
has_place_of-is (Some j) k h = ap Some (eqb-true j k h)

is_none-not : (o : Option ℕ) → is_none o ≡ false → (k : ℕ) × (o ≡ Some k)
is_none-not None h = cc
is_none-not (Some k) h = (k, refl)

is_before-not : (c d : Coord) → is_before c d ≡ false → is_at_or_before d c ≡ true
is_before-not c d h = grind (arith, nat_tests)

record StandsWell (log : Log) (executed : ℕ) (exec read : Coord) : Type 0 where
  exec_place : place log exec ≡ Some executed
  read_place : (k : ℕ) × (place log read ≡ Some k)
  order : is_at_or_before exec read ≡ true

stands-well : (log : Log) (executed : ℕ) (exec read : Coord) → bad_coords_in log executed exec read ≡ false → StandsWell log executed exec read
stands-well log executed exec read h =
    let parts = or_parts (not (has_place_of (place log exec) executed) || is_none (place log read)) (is_before read exec) h in
    let places = or_parts (not (has_place_of (place log exec) executed)) (is_none (place log read)) parts.0 in
    record {
      exec_place = has_place_of-is (place log exec) executed (not-false (has_place_of (place log exec) executed) places.0);
      read_place = is_none-not (place log read) places.1;
      order = is_before-not read exec parts.1;
    }

module _ (o : Opened) (listed : IsListed o) (fair : IsFlawless o.servers) where
  within : (n : ℕ) (i : ServerInit) → slice_get o.servers n ≡ Some i → n < length o.servers
  within n i h = slice_get_within o.servers n i h

  sources-from : (n m : ℕ) → sources o.servers n ≡ Some m → m < length o.servers
  sources-from n m e = go (slice_get o.servers n) refl e
    where
      by : (i : ServerInit) (s : Option ServerNo) → slice_get o.servers n ≡ Some i → i.source ≡ s → number_of s ≡ Some m → m < length o.servers
      by i None at from e = cc
      by i (Some s) at from e = let same : s.0 ≡ m = same_Some s.0 m e in subst (λ (y : ℕ). y < length o.servers) same ((listed.each n i at).source s from)

      go : (x : Option ServerInit) → slice_get o.servers n ≡ x → source_of x ≡ Some m → m < length o.servers
      go None at e = cc
      go (Some i) at e = by i i.source at refl e

  never-back : (n : ℕ) → is_reached (sources o.servers) (length o.servers) n n ≡ false
  never-back n = go (slice_get o.servers n) refl
    where
      alone : (k : ℕ) → sources o.servers n ≡ None → is_reached (sources o.servers) k n n ≡ false
      alone zero none = refl
      alone (suc k) none = ap (is_reached_on (λ m. m == n || is_reached (sources o.servers) k n m)) none

      go : (x : Option ServerInit) → slice_get o.servers n ≡ x → is_reached (sources o.servers) (length o.servers) n n ≡ false
      go None at = alone (length o.servers) (ap source_of at)
      go (Some i) at = fair.ends n i at

  loopless : IsLoopless (sources o.servers) (length o.servers)
  loopless = record { from = sources-from; never = never-back }

  every-ends : (n : ℕ) → Grounded (sources o.servers) n
  every-ends n = go (slice_get o.servers n) refl
    where
      go : (x : Option ServerInit) → slice_get o.servers n ≡ x → Grounded (sources o.servers) n
      go None at = Root n (ap source_of at)
      go (Some i) at = Grounded-walk (sources o.servers) (length o.servers) n (walk-ends (sources o.servers) (length o.servers) loopless n (within n i at))

  -- a server without a source is its own root
  root-own : (n : ℕ) → sources o.servers n ≡ None → root_of o.servers n ≡ n
  root-own n none = go (length o.servers)
    where
      go : (k : ℕ) → reached_from (sources o.servers) k n ≡ n
      go zero = refl
      go (suc k) = ap (follow_on (λ m. reached_from (sources o.servers) k m) n) none

  sources-at : (n : ℕ) (i : ServerInit) (x : Option ServerNo) → slice_get o.servers n ≡ Some i → i.source ≡ x → sources o.servers n ≡ number_of x
  sources-at n i x at from = ap source_of at ∙ ap number_of from

  -- a server with a source has its source's root
  root-same : (n : ℕ) (i : ServerInit) (m : ServerNo) → slice_get o.servers n ≡ Some i → i.source ≡ Some m → root_of o.servers n ≡ root_of o.servers m.0
  root-same n i m at from = same-end (sources o.servers) (length o.servers) loopless n m.0 (within n i at) (sources-at n i (Some m) at from)

  -- the source of a server
  under : (n : ℕ) (i : ServerInit) (m : ServerNo) → slice_get o.servers n ≡ Some i → i.source ≡ Some m → IsUnder o.servers m.0 i
  under n i m at from =
      let lt : m.0 < length o.servers = (listed.each n i at).source m from in
      by (get_or o.servers m.0 i) (slice_get-get_or o.servers m.0 i lt)
    where
      by : (s : ServerInit) → slice_get o.servers m.0 ≡ Some s → IsUnder o.servers m.0 i
      by s there =
          let few : nat_lt (count_of s) i.executed ≡ false = sym (of_source-is o.servers (λ m s. nat_lt (count_of s) i.executed) i s m from there) ∙ fair.few n i at in
          let logs : not s.settings.logs ≡ false = sym (of_source-is o.servers (λ m s. not s.settings.logs) i s m from there) ∙ fair.logs n i at in
          let coords : bad_coords_in (log_at o.servers m.0) i.executed (exec_of o.servers i) (read_of o.servers i) ≡ false =
          sym (of_source-is o.servers (λ m s. bad_coords_in (log_at o.servers m) i.executed (exec_of o.servers i) (read_of o.servers i)) i s m from there) ∙ fair.coords n i at in
          let well = stands-well (log_at o.servers m.0) i.executed (exec_of o.servers i) (read_of o.servers i) coords in
          record {
            source = s;
            there = there;
            logs = not-false s.settings.logs logs;
            executed = ltb-false (count_of s) i.executed few;
            exec_place = well.exec_place;
            read_place = well.read_place;
            order = well.order;
          }

  -- no server counts more than its root lists
  count-le : (n : ℕ) (i : ServerInit) → Grounded (sources o.servers) n → slice_get o.servers n ≡ Some i → count_of i ≤ transactions (parts_at (slice_get o.servers (root_of o.servers n)))
  count-le n i (Root n' none) at = go i.source refl
    where
      go : (x : Option ServerNo) → i.source ≡ x → count_of i ≤ transactions (parts_at (slice_get o.servers (root_of o.servers n)))
      go None from =
          let own : transactions (parts_at (slice_get o.servers (root_of o.servers n))) ≡ transactions (parts_of i) =
          ap (λ m. transactions (parts_at (slice_get o.servers m))) (root-own n none) ∙ ap (λ y. transactions (parts_at y)) at in
          let count : count_of i ≡ transactions (parts_of i) = ap (count_under i) from in
          omega arith
      go (Some m) from = let there : None ≡ Some m.0 = sym none ∙ sources-at n i (Some m) at from in cc
  count-le n i (Under n' m e g) at = go i.source refl (λ s there. count-le m s g there)
    where
      go : (x : Option ServerNo) → i.source ≡ x → ((s : ServerInit) → slice_get o.servers m ≡ Some s → count_of s ≤ transactions (parts_at (slice_get o.servers (root_of o.servers m))))
          → count_of i ≤ transactions (parts_at (slice_get o.servers (root_of o.servers n)))
      go None from above = let none : None ≡ Some m = sym (sources-at n i None at from) ∙ e in cc
      go (Some k) from above =
          let source = under n i k at from in
          let same : k.0 ≡ m = same_Some k.0 m (sym (sources-at n i (Some k) at from) ∙ e) in
          let count : count_of i ≡ i.executed = ap (count_under i) from in
          let root : transactions (parts_at (slice_get o.servers (root_of o.servers n))) ≡ transactions (parts_at (slice_get o.servers (root_of o.servers m))) =
          ap (λ y. transactions (parts_at (slice_get o.servers y))) (root-same n i k at from ∙ ap (root_of o.servers) same) in
          let le : count_of source.source ≤ transactions (parts_at (slice_get o.servers (root_of o.servers m))) =
          above source.source (ap (slice_get o.servers) (sym same) ∙ source.there) in
          let executed : i.executed ≤ count_of source.source = source.executed in
          omega arith

  history-is : (n : ℕ) (i : ServerInit) → slice_get o.servers n ≡ Some i → history_at o.servers n ≡ take (count_of i) (listed_history (parts_at (slice_get o.servers (root_of o.servers n))))
  history-is n i at = ap (λ x. take (count_at x) (listed_history (parts_at (slice_get o.servers (root_of o.servers n))))) at

  counts : (n : ℕ) (i : ServerInit) → slice_get o.servers n ≡ Some i → length (history_at o.servers n) ≡ count_of i
  counts n i at =
      let parts = parts_at (slice_get o.servers (root_of o.servers n)) in
      let le : count_of i ≤ transactions parts = count-le n i (every-ends n) at in
      ap length (history-is n i at) ∙ length-take-le (count_of i) (listed_history parts) (omega (arith, length-listed_history parts))

  own : (n : ℕ) (i : ServerInit) → slice_get o.servers n ≡ Some i → i.source ≡ None → history_at o.servers n ≡ listed_history (parts_of i)
  own n i at from =
      let none : sources o.servers n ≡ None = sources-at n i None at from in
      let top : listed_history (parts_at (slice_get o.servers (root_of o.servers n))) ≡ listed_history (parts_of i) =
      ap (λ m. listed_history (parts_at (slice_get o.servers m))) (root-own n none) ∙ ap (λ y. listed_history (parts_at y)) at in
      let count : count_of i ≡ transactions (parts_of i) = ap (count_under i) from in
      history-is n i at ∙ ap (take (count_of i)) top ∙ take_all (count_of i) (listed_history (parts_of i)) (omega (arith, length-listed_history (parts_of i)))

  begins : (n : ℕ) (i : ServerInit) (m : ServerNo) → slice_get o.servers n ≡ Some i → i.source ≡ Some m → history_at o.servers n ≡ take i.executed (history_at o.servers m.0)
  begins n i m at from =
      let source = under n i m at from in
      let above = listed_history (parts_at (slice_get o.servers (root_of o.servers m.0))) in
      history-is n i at
      ∙ ap (λ k. take k (listed_history (parts_at (slice_get o.servers (root_of o.servers n))))) (ap (count_under i) from)
      ∙ ap (λ y. take i.executed (listed_history (parts_at (slice_get o.servers y)))) (root-same n i m at from)
      ∙ sym (take-take i.executed (count_of source.source) above source.executed)
      ∙ ap (take i.executed) (sym (history-is m.0 source.source source.there))

  -- what a server without a source lists agrees with the others
  kin : (n : ℕ) (i : ServerInit) → slice_get o.servers n ≡ Some i → i.source ≡ None → is_kin o.servers n (listed_history (parts_of i)) ≡ true
  kin n i at from =
      not-false (is_kin o.servers n (listed_history (parts_of i))) (ap (λ (x : Option ServerNo). is_none x && not (is_kin o.servers n (listed_history (parts_of i)))) (sym from) ∙ fair.kin n i at)

  agree-before : (m n : ℕ) (i j : ServerInit) → slice_get o.servers m ≡ Some i → slice_get o.servers n ≡ Some j → i.source ≡ None → j.source ≡ None → m < n
      → histories_agree (listed_history (parts_of i)) (listed_history (parts_of j)) ≡ true
  agree-before m n i j at_m at_n from_m from_n lt =
      let both = and_parts (all_below (λ m. agrees_with (listed_history (parts_of j)) (slice_get o.servers m)) n) (list_all (is_home o.servers) (listed_history (parts_of j))) (kin n j at_n from_n) in
      ap (λ (x : Option ServerNo). is_some x || histories_agree (listed_history (parts_of i)) (listed_history (parts_of j))) (sym from_m)
      ∙ ap (agrees_with (listed_history (parts_of j))) (sym at_m)
      ∙ all_below-at (λ m. agrees_with (listed_history (parts_of j)) (slice_get o.servers m)) n m both.0 lt

  agree : (m n : ℕ) (i j : ServerInit) → slice_get o.servers m ≡ Some i → slice_get o.servers n ≡ Some j → i.source ≡ None → j.source ≡ None → (m ≡ n → ⊥)
      → histories_agree (listed_history (parts_of i)) (listed_history (parts_of j)) ≡ true
  agree m n i j at_m at_n from_m from_n apart =
      elim (cases_order m n) [
        | inl same ↦ absurd (apart same)
        | inr order ↦ elim order [
          | inl before ↦ agree-before m n i j at_m at_n from_m from_n before
          | inr after ↦ agree-swap (listed_history (parts_of j)) (listed_history (parts_of i)) (agree-before n m j i at_n at_m from_n from_m after)
        ]
      ]

  home : (n : ℕ) (i : ServerInit) (t : Txn) → slice_get o.servers n ≡ Some i → i.source ≡ None → (k : ℕ) → slice_get (listed_history (parts_of i)) k ≡ Some t → is_home o.servers t ≡ true
  home n i t at from k there =
      let both = and_parts (all_below (λ m. agrees_with (listed_history (parts_of i)) (slice_get o.servers m)) n) (list_all (is_home o.servers) (listed_history (parts_of i))) (kin n i at from) in
      list_all-get (is_home o.servers) (listed_history (parts_of i)) k t both.1 there

  -- a server with a source lists no history
  alone : (n : ℕ) (i : ServerInit) (m : ServerNo) → slice_get o.servers n ≡ Some i → i.source ≡ Some m → i.history ≡ None
  alone n i m at from = go i.history (ap (λ (x : Option ServerNo). is_some i.history && is_some x) (sym from) ∙ fair.one n i at)
    where
      go : (x : Option (List Part)) → (is_some x && true) ≡ false → x ≡ None
      go None h = refl
      go (Some ps) h = cc

  -- the first kept file is one of the log's
  kept : (n : ℕ) (i : ServerInit) → slice_get o.servers n ≡ Some i → (1 ≤ i.purged) × (i.purged ≤ (log_at o.servers n).files)
  kept n i at = ((listed.each n i at).purged, go i.settings.logs refl (fair.purged n i at))
    where
      log : log_at o.servers n ≡ cond i.settings.logs (laid i.settings.limit i.flushes (history_at o.servers n)) (opened i.settings.limit)
      log = ap (log_in o.servers n) at

      go : (logs : Bool) → i.settings.logs ≡ logs → cond logs (nat_lt (log_at o.servers n).files i.purged) (nat_lt 1 i.purged) ≡ false → i.purged ≤ (log_at o.servers n).files
      go true is fits = ltb-false (log_at o.servers n).files i.purged fits
      go false is fits =
          let empty : log_at o.servers n ≡ opened i.settings.limit = log ∙ ap (λ b. cond b (laid i.settings.limit i.flushes (history_at o.servers n)) (opened i.settings.limit)) is in
          let one : (log_at o.servers n).files ≡ 1 = ap (λ (l : Log). l.files) empty in
          let few = ltb-false 1 i.purged fits in
          omega arith

  pub sound-flawless : IsSound o.servers
  sound-flawless = record {
    alone = alone;
    under = under;
    ends = every-ends;
    counts = counts;
    own = own;
    begins = begins;
    agree = agree;
    home = home;
    flushes = fair.flushes;
    kept = kept;
  }

-- an opening without a flaw is `Sound`
pub sound : (o : Opened) → IsListed o → flaw_in o.servers ≡ None → IsSound o.servers
sound o listed none = sound-flawless o listed (flawless o.servers none)

-- and so is a checked one
pub sound_checked : (o : Opened) → IsChecked o → IsSound o.servers
sound_checked o checked = sound o checked.listed checked.sound
