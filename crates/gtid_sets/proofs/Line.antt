-- The order of pairs.
use Rattle.std.proofs.Common.{◌≡◌, ℕ, ◌+◌, ◌^◌, ◌<◌, ◌≤◌, false, eqb, ltb, leb, max, arith, ◌&&◌, ◌||◌}
use Rattle.gtid_sets.proofs.Prelude.{Interval, IsInterval, between, high, low, nat_tests, point, spans}

pub point_lt : (u n v m : ℕ) → n < 2 ^ 64 → m < 2 ^ 64 → ltb (point u n) (point v m) ≡ (ltb u v || (eqb u v && ltb n m))
unfolding point
point_lt u n v m a b = grind (arith, nat_tests)

pub point_behind : (u n : ℕ) → point u (n + 1) ≡ point u n + 1
unfolding point
point_behind u n = omega arith

-- a point between two of one server is of that server
pub point_within : (u a v b c : ℕ) → a < 2 ^ 64 → b < 2 ^ 64 → c < 2 ^ 64 → point u a ≤ point v b → point v b ≤ point u c → (u ≡ v) × (a ≤ b) × (b ≤ c)
unfolding point
point_within u a v b c fa fb fc l h = (omega arith, omega arith, omega arith)

pub point_rises : (u a b : ℕ) → a ≤ b → point u a ≤ point u b
unfolding point
point_rises u a b l = omega arith

pub spans_line : (u n : ℕ) (s : Interval) → IsInterval s → n < 2 ^ 64 → spans u n s ≡ between (point u n) s
unfolding point
spans_line u n s is fits = let a = is.in_range in let b = is.rises in grind (arith, nat_tests)

one_or_both : (a hs b ht h x : ℕ) → a ≤ b → b ≤ hs + 1 → b ≤ ht → a ≤ hs → h ≡ max hs ht → (leb a x && leb x h) ≡ ((leb a x && leb x hs) || (leb b x && leb x ht))
one_or_both a hs b ht h x l r o p e = grind (arith, nat_tests)

pub same_server : (s t : Interval) → IsInterval s → IsInterval t → low s ≤ low t → low t ≤ high s + 1 → s.uuid ≡ t.uuid
unfolding point
same_server s t is it l h = let a = is.in_range in let b = is.rises in let c = it.in_range in let d = it.rises in let e = it.above_zero in omega arith

high_of_max : (s t : Interval) (last : ℕ) → s.uuid ≡ t.uuid → last ≡ max s.last t.last → point s.uuid last ≡ max (high s) (high t)
unfolding point
high_of_max s t last u m = omega arith

pub low_high : (s : Interval) → IsInterval s → low s ≤ high s
low_high s is = point_rises s.uuid s.first s.last is.rises

pub joined_has : (s t : Interval) (last x : ℕ) → IsInterval s → IsInterval t → low s ≤ low t → low t ≤ high s + 1 → last ≡ max s.last t.last
    → between x (record { uuid = s.uuid; first = s.first; last = last }) ≡ (between x s || between x t)
joined_has s t last x is it l h m =
    one_or_both (low s) (high s) (low t) (high t) (point s.uuid last) x l h (low_high t it) (low_high s is) (high_of_max s t last (same_server s t is it l h) m)

pub spans_past : (u n : ℕ) (s : Interval) → IsInterval s → 2 ^ 64 ≤ n → spans u n s ≡ false
spans_past u n s is past = let a = is.in_range in grind (arith, nat_tests)
