-- The first flaw of several, and what it means that there is none.
pub use Rattle.openings.proofs.Soundness.{never-met as first_met-none}
use Rattle.std.proofs.Common.{◌≡◌, ℕ, ◌+◌, ◌*◌, ◌<◌, ◌≤◌, Bool, false, List, length, ap, subst, None, arith, get_or, sum_by}
use Rattle.opening_checks.proofs.Prelude.{FilesGood, InRange, IsListed, ServerInit, bad_files, first_met, get_or-le-sum_by, get_or_from_slice_get}
use Rattle.opening_checks.proofs.Prelude.{opening, parts_of, slice_get_within, transactions}

pub files-good : (servers : List ServerInit) → first_met (bad_files servers) 0 servers ≡ None → FilesGood servers
files-good servers none = record {
  each = λ n i at.
      let same : 0 + n ≡ n = omega arith in
      subst (λ (m : ℕ). bad_files servers m i ≡ false) same (first_met-none (bad_files servers) 0 servers none n i at);
}

-- a number is at most its product with a number above zero
pub within_product : (n m : ℕ) → 0 < n → m ≤ n * m
within_product n m h = grind arith

pub in_range : (servers : List ServerInit) (gtid : Bool) → IsListed (opening servers gtid) → InRange servers
in_range servers gtid listed = record {
  few = listed.few;
  parts = record {
    each = λ n i at. (listed.each n i at).parts;
    few = λ n i at.
        let one = get_or-le-sum_by (λ (j : ServerInit). transactions (parts_of j)) servers n i (slice_get_within servers n i at) in
        let own : transactions (parts_of (get_or servers n i)) ≡ transactions (parts_of i) = ap (λ (j : ServerInit). transactions (parts_of j)) (get_or_from_slice_get servers n i i at) in
        let all = within_product (length servers) (sum_by (λ (j : ServerInit). transactions (parts_of j)) servers) listed.some in
        let most = listed.listed in
        omega arith;
  };
  limits = record {
    low = λ n i at. (listed.each n i at).limit_low;
    high = λ n i at. (listed.each n i at).limit_high;
    flushes = λ n i at. (listed.each n i at).flushes;
  };
}
