-- How much the servers of an opening have executed, and how many files their logs have.
use Rattle.std.proofs.Common.{◌≡◌, ◌≤◌, ℕ, length, All, Some, ap, arith, slice_get}
use Rattle.read_back_laws.proofs.Prelude.{IsChecked, IsLaid, IsLaid-log_by, Opened, PartsInRange, ServerInit, count_of, good-points, history_at}
use Rattle.read_back_laws.proofs.Prelude.{history_at-sized, in_range, length-history_at, log_at, log_by, log_in, parts_at-few, root_of, sound_checked}

module _ (o : Opened) (checked : IsChecked o) where
  ranges : PartsInRange o.servers
  ranges = (in_range o.servers o.gtid checked.listed).parts

  few-at : (n : ℕ) → length (history_at o.servers n) ≤ 4000000
  few-at n =
      let most = length-history_at o.servers n in
      let few = parts_at-few o.servers (root_of o.servers n) ranges in
      omega arith

  pub few-executed : (n : ℕ) (i : ServerInit) → slice_get o.servers n ≡ Some i → count_of i ≤ 4000000
  few-executed n i at =
      let count = (sound_checked o checked).counts n i at in
      let few = few-at n in
      omega arith

  -- no flush point is after what was executed
  pub points-within : (n : ℕ) (i : ServerInit) → slice_get o.servers n ≡ Some i → All (λ k. k ≤ count_of i) i.flushes
  points-within n i at = (good-points i ((sound_checked o checked).flushes n i at)).1

  pub purged-low : (n : ℕ) (i : ServerInit) → slice_get o.servers n ≡ Some i → i.purged ≤ 4294967295
  purged-low n i at =
      let history = history_at o.servers n in
      let kept : i.purged ≤ (log_at o.servers n).files = ((sound_checked o checked).kept n i at).1 in
      let log : log_at o.servers n ≡ log_by i history = ap (log_in o.servers n) at in
      let files : (log_at o.servers n).files ≡ (log_by i history).files = ap (λ l. l.files) log in
      let sized = history_at-sized o.servers n ranges in
      let laid : IsLaid (log_by i history) history (length i.flushes) = IsLaid-log_by i history (λ k d h. let s = sized k d h in (omega (arith, s.some), s.few)) in
      let entries = laid.entries in
      let most = laid.files in
      let few = few-at n in
      let flushes = (checked.listed.each n i at).flushes in
      omega arith
