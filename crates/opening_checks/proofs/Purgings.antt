-- The first kept file of a server, and the files of its log.
use Rattle.std.proofs.Common.{◌≡◌, ℕ, ◌≤◌, Bool, true, false, cond, List, Some, ap, sym, ◌∙◌, arith, nat_lt, slice_get}
use Rattle.opening_checks.proofs.Prelude.{BadPlace, FilesGood, ServerInit, bad_flushes, bad_purged, coord_value, flush_value, log_at, log_at-files}
use Rattle.opening_checks.proofs.Prelude.{nat_tests, or_parts, place_value, value_at, value_in}
use Rattle.opening_checks.proofs.Prelude.value

not-below : (m n : ℕ) → n ≤ m → nat_lt m n ≡ false
not-below m n h = grind (arith, nat_tests)

-- every log has its first file
pub bad_purged-first : (servers : List ServerInit) (n : ℕ) (i : ServerInit) → i.purged ≤ 1 → bad_purged servers n i ≡ false
bad_purged-first servers n i low = go i.settings.logs
  where
    go : (logs : Bool) → cond logs (nat_lt (log_at servers n).files i.purged) (nat_lt 1 i.purged) ≡ false
    go true = let some = log_at-files servers n in not-below (log_at servers n).files i.purged (omega arith)
    go false = not-below 1 i.purged low

-- which of a server's places is to blame
coords-blamed : (servers : List ServerInit) (n : ℕ) (i : ServerInit) → bad_flushes i ≡ false → bad_purged servers n i ≡ false → place_value servers n i ≡ coord_value servers i
coords-blamed servers n i good kept =
    ap (λ b. cond b (flush_value i) (cond (bad_purged servers n i) value.Purged (coord_value servers i))) good ∙ ap (λ b. cond b value.Purged (coord_value servers i)) kept

-- if all files are good, a coordinate is to blame
pub coords-blamed_at : (servers : List ServerInit) (n : ℕ) (i : ServerInit) → FilesGood servers → slice_get servers n ≡ Some i → coord_value servers i ≡ value_at servers BadPlace n
coords-blamed_at servers n i files there =
    let good = or_parts (bad_flushes i) (bad_purged servers n i) (files.each n i there) in
    sym (ap (value_in servers BadPlace n) there ∙ coords-blamed servers n i good.0 good.1)
