-- Which transactions of a log are in its kept files.
use Rattle.replication_laws.proofs.Prelude.{Appended, Beyond, Entry, InPurged, IsGone, IsLogged, Laid, Laid-files, Laid-Grown, Log, Next, Placed}
use Rattle.replication_laws.proofs.Prelude.{Server, Status, StepFrom, Txn, Unlogged, Unreachable, World, and_parts, can_reach, end_coord, ends_by}
use Rattle.replication_laws.proofs.Prelude.{entry_at_end, eqb-true, false≢true, file_start, get_or_from_slice_get, has_gtid, has_place}
use Rattle.replication_laws.proofs.Prelude.{has_place-file_start, holds, holds-set_of, is_at_or_before, is_file_start, is_gtid, length-take, list_any}
use Rattle.replication_laws.proofs.Prelude.{list_any_at, logged_by, logged_in, nat_tests, next_after-entry, next_after-step, place, place-from}
use Rattle.replication_laws.proofs.Prelude.{place-monotone, purged-place, purged_len, purged_len-few, purged_len-is, purged_of, purged_txns}
use Rattle.replication_laws.proofs.Prelude.{same_coord, same_coord-refl, same_Some, server_at, set_of, shown, shown_of, slice_get-front}
use Rattle.replication_laws.proofs.Prelude.{slice_get-snoc_cases, slice_get-take, slice_get_past as none-beyond, slice_get_within, start_coord}
use Rattle.replication_laws.proofs.Prelude.{touches, uuids}
use Rattle.replication_laws.proofs.Prelude.Places.{Flushed, Opened}
use Rattle.replication_laws.proofs.Prelude.next
use Rattle.std.proofs.Common.{◌≡◌, ℕ, ◌+◌, ◌<◌, ◌≤◌, Bool, true, false, not, cond, List, [], ◌∷◌, get_or, length, take, suc, refl, sym, ◌∙◌, ap, subst, inl, inr, Option, Some, None, arith, ◌&&◌, ◌||◌, Result, Ok, Err, IsSomeAnd, count_by, nat_lt, nat_le, ◌==◌, option_map, slice_get}
use Rattle.replication_laws.proofs.Logs.{LaysOut-Grown, LaysOut-length}
use Rattle.server_words.proofs.OrchBase.Lists.{slice_get-there as entry-there}

-- each transaction begins after the header of its file
starts-past : (log : Log) → Laid log → (i : ℕ) (t : Entry) → slice_get log.entries i ≡ Some t → 4 ≤ t.start
starts-past log (Opened limit) i t h = cc
starts-past log (Flushed old g) i t h = starts-past old g i t h
starts-past log (Appended old size some g) i t h =
    elim (slice_get-snoc_cases old.entries (entry_at_end old size) t i h) [
      | inl was ↦ starts-past old g i t was
      | inr new ↦ let past = (Laid-files old g).1 in subst (λ (x : Entry). 4 ≤ x.start) (sym new.1) past
    ]

has_place-start : (log : Log) (i : ℕ) (t : Entry) → slice_get log.entries i ≡ Some t → has_place log (start_coord t) ≡ true
has_place-start log i t h =
    let touched : touches (start_coord t) t ≡ true = ap (λ b. b || same_coord (end_coord t) (start_coord t)) (same_coord-refl (start_coord t)) in
    let is : get_or log.entries i t ≡ t = get_or_from_slice_get log.entries i t t h in
    or_right (is_file_start log (start_coord t)) (list_any (touches (start_coord t)) log.entries)
    (list_any_at (touches (start_coord t)) log.entries i t (slice_get_within log.entries i t h) (ap (touches (start_coord t)) is ∙ touched))
  where
    or_right : (a b : Bool) → b ≡ true → (a || b) ≡ true
    or_right true b e = refl
    or_right false b e = e

-- a transaction begins at its number's place, and ends at the next
pub entry-places : (log : Log) → Laid log → (i : ℕ) (t : Entry) → slice_get log.entries i ≡ Some t → (place log (start_coord t) ≡ Some i) × (place log (end_coord t) ≡ Some (i + 1))
entry-places log g i t h =
    let k = count_by (ends_by (start_coord t)) log.entries in
    let at : place log (start_coord t) ≡ Some k = place-from log (start_coord t) k (has_place-start log i t h) refl in
    let spans : IsSomeAnd (slice_get log.entries i) (λ x. (start_coord x ≡ start_coord t) × (end_coord x ≡ end_coord t)) =
    subst (λ (o : Option Entry). IsSomeAnd o (λ x. (start_coord x ≡ start_coord t) × (end_coord x ≡ end_coord t))) (sym h) (refl, refl) in
    let follows = (next_after-entry log g (start_coord t) i (end_coord t)).1 spans in
    let step : StepFrom log (start_coord t) k (next.Entry i (end_coord t)) =
    subst (λ (x : Next). StepFrom log (start_coord t) k x) follows (next_after-step log g (start_coord t) k at) in
    (at ∙ ap Some (sym step.0), step.1 ∙ ap (λ j. Some (j + 1)) (sym step.0))

module _ (s : Server) (g : Laid s.log.log) (low : 1 ≤ s.first) (high : s.first ≤ s.log.log.files) (k : ℕ) (e : Entry) (at : slice_get s.log.log.entries k ≡ Some e) where
  -- one of an earlier file is purged
  pub purged-earlier : e.file < s.first → k < purged_len s
  purged-earlier less =
      let ends = (entry-places s.log.log g k e at).1 in
      let file : nat_lt e.file s.first ≡ true = grind (arith, nat_tests) in
      let before : is_at_or_before (end_coord e) (file_start s.first) ≡ true = ap (λ b. b || (e.file == s.first && nat_le e.end 4)) file in
      let few = place-monotone s.log.log (end_coord e) (file_start s.first) (k + 1) (purged_len s) before ends (purged-place s low high) in
      omega (arith, few)

  -- and one of a later file isn't
  pub kept-later : s.first ≤ e.file → purged_len s ≤ k
  kept-later more =
      let begins = (entry-places s.log.log g k e at).0 in
      let past = starts-past s.log.log g k e at in
      let before : is_at_or_before (file_start s.first) (start_coord e) ≡ true = grind (arith, nat_tests) in
      place-monotone s.log.log (file_start s.first) (start_coord e) (purged_len s) k before (purged-place s low high) begins

-- what is read of a log

module _ (w : World) (n : ℕ) (s : Server) (placed : Placed w) (at : server_at w n ≡ Some s) where
  laid-log : s.settings.logs ≡ true → Laid s.log.log
  laid-log logs = Laid-Grown s.log.log (LaysOut-Grown s.history.txns s.log.log (placed.laid n s at logs))

  kept-entry : (k : ℕ) (t : Txn) → s.settings.logs ≡ true → purged_len s ≤ k → slice_get s.history.txns k ≡ Some t → IsLogged w n k t
  kept-entry k t logs past is =
      let count = LaysOut-length s.history.txns s.log.log (placed.laid n s at logs) in
      let within = slice_get_within s.history.txns k t is in
      let e = entry-there s.log.log.entries k (omega (arith, count, within)) in
      record { server = s; there = at; logs = logs; is = is; entry = e.0; at = e.1; kept = go e.0 e.1 (nat_lt e.0.file s.first) refl }
    where
      go : (e : Entry) → slice_get s.log.log.entries k ≡ Some e → (b : Bool) → nat_lt e.file s.first ≡ b → s.first ≤ e.file
      go e there true is =
          let kept = placed.kept n s at in
          let less : e.file < s.first = grind (arith, nat_tests) in
          let purged = purged-earlier s (laid-log logs) kept.low kept.high k e there less in
          absurd (omega (arith, purged, past))
      go e there false is = grind (arith, nat_tests)

  read-entry : (k : ℕ) (t : Txn) → logged_by s k ≡ Some t → IsLogged w n k t
  read-entry k t h = go s.settings.logs (nat_lt k (purged_len s)) refl refl h
    where
      go : (a b : Bool) → s.settings.logs ≡ a → nat_lt k (purged_len s) ≡ b → cond (not a) None (cond b None (slice_get s.history.txns k)) ≡ Some t → IsLogged w n k t
      go false b logs past e = cc
      go true true logs past e = cc
      go true false logs past e = kept-entry k t logs (grind (arith, nat_tests)) e

-- what is answered of a server within reach, or out of it
abbrev read_by : Bool → Option Txn → Result (Option Txn) Unreachable
read_by reached read = cond reached (Ok read) (Err (record {}))

pub logged-kept : (w : World) (n k : ℕ) (t : Txn) → Placed w → logged_in (server_at w n) k ≡ Ok (Some t) → IsLogged w n k t
logged-kept w n k t placed h = at_server (server_at w n) refl h
  where
    reached : (s : Server) → server_at w n ≡ Some s → (b : Bool) → read_by b (logged_by s k) ≡ Ok (Some t) → IsLogged w n k t
    reached s at true e = let read : logged_by s k ≡ Some t = cc in read-entry w n s placed at k t read
    reached s at false e = cc

    at_server : (o : Option Server) → server_at w n ≡ o → logged_in o k ≡ Ok (Some t) → IsLogged w n k t
    at_server None at e = cc
    at_server (Some s) at e = reached s at (s.up && s.desk) e

pub logged-read : (w : World) (n k : ℕ) (t : Txn) (s : Server) → Placed w → server_at w n ≡ Some s → s.up ≡ true → s.desk ≡ true → IsLogged w n k t → logged_in (server_at w n) k ≡ Ok (Some t)
logged-read w n k t s placed at up desk entry =
    ap (λ o. logged_in o k) at
    ∙ ap (λ b. read_by (b && s.desk) (logged_by s k)) up
    ∙ ap (λ b. read_by b (logged_by s k)) desk
    ∙ ap Ok read
  where
    same : entry.server ≡ s
    same = same_Some entry.server s (sym entry.there ∙ at)

    logs : s.settings.logs ≡ true
    logs = ap (λ (x : Server). x.settings.logs) (sym same) ∙ entry.logs

    past : nat_lt k (purged_len s) ≡ false
    past =
        let kept = placed.kept n s at in
        let later : s.first ≤ entry.entry.file = subst (λ (x : Server). x.first ≤ entry.entry.file) same entry.kept in
        let few = kept-later s (laid-log w n s placed at logs) kept.low kept.high k entry.entry (ap (λ (x : Server). slice_get x.log.log.entries k) (sym same) ∙ entry.at) later in
        grind (arith, nat_tests)

    read : logged_by s k ≡ Some t
    read =
        ap (λ b. cond (not b) None (cond (nat_lt k (purged_len s)) None (slice_get s.history.txns k))) logs
        ∙ ap (λ b. cond b None (slice_get s.history.txns k)) past
        ∙ ap (λ (x : Server). slice_get x.history.txns k) (sym same) ∙ entry.is

-- nothing is read exactly if there is nothing to read

module _ (w : World) (n : ℕ) (s : Server) (placed : Placed w) (at : server_at w n ≡ Some s) (k : ℕ) where
  in-purged : s.settings.logs ≡ true → k < purged_len s → IsGone s k
  in-purged logs less =
      let kept = placed.kept n s at in
      let few = purged_len-few s kept.low kept.high in
      let e = entry-there s.log.log.entries k (omega (arith, few, less)) in
      go e.0 e.1 (nat_lt e.0.file s.first) refl
    where
      go : (e : Entry) → slice_get s.log.log.entries k ≡ Some e → (b : Bool) → nat_lt e.file s.first ≡ b → IsGone s k
      go e there true is = InPurged e there (grind (arith, nat_tests))
      go e there false is =
          let kept = placed.kept n s at in
          let later : s.first ≤ e.file = grind (arith, nat_tests) in
          let past = kept-later s (laid-log w n s placed at logs) kept.low kept.high k e there later in
          absurd (omega (arith, less, past))

  beyond : slice_get s.history.txns k ≡ None → IsGone s k
  beyond h = go (nat_le (length s.history.txns) k) refl
    where
      go : (b : Bool) → nat_le (length s.history.txns) k ≡ b → IsGone s k
      go true is = Beyond (grind (arith, nat_tests))
      go false is =
          let less : k < length s.history.txns = grind (arith, nat_tests) in
          let t = entry-there s.history.txns k less in
          let both : None ≡ Some t.0 = sym h ∙ t.1 in cc

  none-gone : logged_by s k ≡ None → IsGone s k
  none-gone h = go s.settings.logs (nat_lt k (purged_len s)) refl refl h
    where
      go : (a b : Bool) → s.settings.logs ≡ a → nat_lt k (purged_len s) ≡ b → cond (not a) None (cond b None (slice_get s.history.txns k)) ≡ None → IsGone s k
      go false b logs past e = Unlogged logs
      go true true logs past e = in-purged logs (grind (arith, nat_tests))
      go true false logs past e = beyond e

  gone-none : IsGone s k → logged_by s k ≡ None
  gone-none gone = go s.settings.logs refl (nat_lt k (purged_len s)) refl
    where
      by : IsGone s k → s.settings.logs ≡ true → nat_lt k (purged_len s) ≡ false → slice_get s.history.txns k ≡ None
      by (Unlogged off) logs past = absurd (false≢true (sym off ∙ logs))
      by (Beyond few) logs past = none-beyond s.history.txns k few
      by (InPurged e there less) logs past =
          let kept = placed.kept n s at in
          let purged = purged-earlier s (laid-log w n s placed at logs) kept.low kept.high k e there less in
          absurd (grind (arith, nat_tests))

      go : (a : Bool) → s.settings.logs ≡ a → (b : Bool) → nat_lt k (purged_len s) ≡ b → cond (not a) None (cond b None (slice_get s.history.txns k)) ≡ None
      go false logs b past = refl
      go true logs true past = refl
      go true logs false past = by gone logs past

pub logged-none : (w : World) (n k : ℕ) (s : Server) → Placed w → server_at w n ≡ Some s → logged_in (server_at w n) k ≡ Ok None → IsGone s k
logged-none w n k s placed at h = go (s.up && s.desk) (sym (ap (λ o. logged_in o k) at) ∙ h)
  where
    go : (b : Bool) → read_by b (logged_by s k) ≡ Ok None → IsGone s k
    go true e = let read : logged_by s k ≡ None = cc in none-gone w n s placed at k read
    go false e = cc

pub logged-gone : (w : World) (n k : ℕ) (s : Server) → Placed w → server_at w n ≡ Some s → s.up ≡ true → s.desk ≡ true → IsGone s k → logged_in (server_at w n) k ≡ Ok None
logged-gone w n k s placed at up desk gone =
    ap (λ o. logged_in o k) at
    ∙ ap (λ b. read_by (b && s.desk) (logged_by s k)) up
    ∙ ap (λ b. read_by b (logged_by s k)) desk
    ∙ ap Ok (gone-none w n s placed at k gone)

pub logged-reached : (w : World) (n k : ℕ) (o : Option Txn) → logged_in (server_at w n) k ≡ Ok o → can_reach (server_at w n) ≡ true
logged-reached w n k o h = go (server_at w n) h
  where
    by : (b : Bool) (read : Option Txn) → read_by b read ≡ Ok o → b ≡ true
    by true read e = refl
    by false read e = cc

    go : (x : Option Server) → logged_in x k ≡ Ok o → can_reach x ≡ true
    go None e = cc
    go (Some s) e = by (s.up && s.desk) (logged_by s k) e

-- what a status shows of purged files

module _ (w : World) (n : ℕ) (seen : Status) (s : Server) (shows : shown w n ≡ Some seen) (at : server_at w n ≡ Some s) where
  seen-is : seen ≡ shown_of w s
  seen-is = same_Some seen (shown_of w s) (sym shows ∙ ap (option_map (shown_of w)) at)

  pub shown-first : seen.first ≡ s.first
  shown-first = ap (λ (x : Status). x.first) seen-is

  none-purged : (uuid : ℕ → ℕ) → purged_len s ≡ 0 → purged_of uuid s ≡ []
  none-purged uuid none = ap (λ k. set_of uuid (take k s.history.txns)) none ∙ ap (set_of uuid) (take-none s.history.txns)
    where
      take-none : (xs : List Txn) → take 0 xs ≡ []
      take-none [] = refl
      take-none (x ∷ xs) = refl

  seen-none : purged_len s ≡ 0 → seen.purged ≡ []
  seen-none none = ap (λ (x : Status). x.purged) seen-is ∙ go w.gtid
    where
      go : (b : Bool) → cond b (purged_of (uuids w) s) [] ≡ []
      go true = none-purged (uuids w) none
      go false = refl

  -- without a log they are 1 and empty
  pub shown-unlogged : Placed w → s.settings.logs ≡ false → (seen.first ≡ 1) × (seen.purged ≡ [])
  shown-unlogged placed off =
      let kept = placed.kept n s at in
      let none = kept.unlogged off in (
        ap (λ (x : Status). x.first) seen-is ∙ none.0,
        seen-none (purged_len-is s 0 (place-from s.log.log (file_start s.first) 0 (has_place-file_start s.log.log s.first kept.low kept.high) (ap (count_by (ends_by (file_start s.first))) none.1))),
      )

  -- if GTIDs are used a transaction of a purged file is in it
  pub shown-purged : Placed w → w.gtid ≡ true → s.settings.logs ≡ true → (k : ℕ) (t : Txn) (e : Entry) → slice_get s.history.txns k ≡ Some t → slice_get s.log.log.entries k ≡ Some e
      → e.file < s.first → has_gtid (uuids w) seen.purged t ≡ true
  shown-purged placed on logs k t e there lies less =
      let kept = placed.kept n s at in
      let purged = purged-earlier s (laid-log w n s placed at logs) kept.low kept.high k e lies less in
      let set : seen.purged ≡ purged_of (uuids w) s = ap (λ (x : Status). x.purged) seen-is ∙ ap (λ b. cond b (purged_of (uuids w) s) []) on in
      let front = slice_get-front s.history.txns (purged_len s) k t purged there in
      let is : get_or (purged_txns s) k t ≡ t = get_or_from_slice_get (purged_txns s) k t t front in
      ap (λ xs. has_gtid (uuids w) xs t) set
      ∙ holds-set_of (uuids w) (purged_txns s) (uuids w t.origin.0) t.seq
      ∙ list_any_at (is_gtid (uuids w) (uuids w t.origin.0) t.seq) (purged_txns s) k t (slice_get_within (purged_txns s) k t front)
      (ap (is_gtid (uuids w) (uuids w t.origin.0) t.seq) is ∙ self_gtid (uuids w) t)
    where
      self_gtid : (uuid : ℕ → ℕ) (x : Txn) → is_gtid uuid (uuid x.origin.0) x.seq x ≡ true
      self_gtid uuid x = grind (arith, nat_tests)

  -- and each of its GTIDs is of such a transaction
  pub shown-only : Placed w → s.settings.logs ≡ true → (u m : ℕ) → holds seen.purged u m ≡ true
      → (k : ℕ) × (t : Txn) × (e : Entry) × (slice_get s.history.txns k ≡ Some t) × (slice_get s.log.log.entries k ≡ Some e) × (e.file < s.first) × (u ≡ uuids w t.origin.0) × (m ≡ t.seq)
  shown-only placed logs u m h =
      let in_set : holds (purged_of (uuids w) s) u m ≡ true = go w.gtid (ap (λ (x : Status). holds x.purged u m) (sym seen-is) ∙ h) in
      let any = any-of (purged_txns s) (sym (holds-set_of (uuids w) (purged_txns s) u m) ∙ in_set) in
      let there = slice_get-take s.history.txns (purged_len s) any.0 any.1 any.2 in
      let count = LaysOut-length s.history.txns s.log.log (placed.laid n s at logs) in
      let within = slice_get_within s.history.txns any.0 any.1 there in
      let few = slice_get_within (purged_txns s) any.0 any.1 any.2 in
      let front = length-take (purged_len s) s.history.txns in
      let e = entry-there s.log.log.entries any.0 (omega (arith, count, within)) in
      let parts = and_parts (u == uuids w any.1.origin.0) (m == any.1.seq) any.3 in
      (any.0, any.1, e.0, there, e.1, earlier any.0 e.0 e.1 (omega (arith, few, front)) (nat_lt e.0.file s.first) (refl {a = nat_lt e.0.file s.first}), eqb-true u (uuids w any.1.origin.0) parts.0, eqb-true m any.1.seq parts.1)
    where
      go : (b : Bool) → holds (cond b (purged_of (uuids w) s) []) u m ≡ true → holds (purged_of (uuids w) s) u m ≡ true
      go true e = e
      go false e = absurd (false≢true e)

      earlier : (k : ℕ) (e : Entry) → slice_get s.log.log.entries k ≡ Some e → k < purged_len s → (b : Bool) → nat_lt e.file s.first ≡ b → e.file < s.first
      earlier k e lies less true is = grind (arith, nat_tests)
      earlier k e lies less false is =
          let kept = placed.kept n s at in
          let later : s.first ≤ e.file = grind (arith, nat_tests) in
          let past = kept-later s (laid-log w n s placed at logs) kept.low kept.high k e lies later in
          absurd (omega (arith, less, past))

      any-of : (xs : List Txn) → list_any (is_gtid (uuids w) u m) xs ≡ true → (k : ℕ) × (t : Txn) × (slice_get xs k ≡ Some t) × (is_gtid (uuids w) u m t ≡ true)
      any-of [] e = absurd (false≢true e)
      any-of (x ∷ xs) e = by (is_gtid (uuids w) u m x) refl e (λ f. any-of xs f)
        where
          by : (b : Bool) → is_gtid (uuids w) u m x ≡ b → (b || list_any (is_gtid (uuids w) u m) xs) ≡ true
              → (list_any (is_gtid (uuids w) u m) xs ≡ true → (k : ℕ) × (t : Txn) × (slice_get xs k ≡ Some t) × (is_gtid (uuids w) u m t ≡ true))
              → (k : ℕ) × (t : Txn) × (slice_get (x ∷ xs) k ≡ Some t) × (is_gtid (uuids w) u m t ≡ true)
          by true is f more = (0, x, refl, is)
          by false is f more = let rest = more f in (suc rest.0, rest.1, rest.2, rest.3)

-- without GTIDs the set is empty
pub shown-without : (w : World) (n : ℕ) (seen : Status) → shown w n ≡ Some seen → w.gtid ≡ false → seen.purged ≡ []
shown-without w n seen shows off = go (server_at w n) shows
  where
    go : (o : Option Server) → option_map (shown_of w) o ≡ Some seen → seen.purged ≡ []
    go None e = cc
    go (Some s) e = ap (λ (x : Status). x.purged) (sym (same_Some (shown_of w s) seen e)) ∙ ap (λ b. cond b (purged_of (uuids w) s) []) off
