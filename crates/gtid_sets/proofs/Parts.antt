-- The part of a set that is of one UUID.
use Rattle.std.proofs.Common.{◌≡◌, ℕ, ◌+◌, ◌<◌, ◌==◌, ◌&&◌, true, List, filter, arith}
use Rattle.gtid_sets.proofs.Prelude.{All-filter, AllPairs-filter, Interval, IsInterval, IsSet, any-filter_same, common_steps, high, holds, low, spans}

pub part_is_set : (uuid : ℕ) (xs : List Interval) → IsSet xs → IsSet (filter (λ s. s.uuid == uuid) xs)
part_is_set uuid xs set = record {
  each = All-filter (λ s. s.uuid == uuid) IsInterval xs set.each;
  apart = AllPairs-filter (λ s t. high s + 1 < low t) (λ s. s.uuid == uuid) xs set.apart;
}

-- an interval that has a pair is of the pair's UUID
spans_uuid : (uuid u n : ℕ) (s : Interval) → spans u n s ≡ true → (s.uuid == uuid) ≡ (u == uuid)
spans_uuid uuid u n s spans = grind (arith, common_steps)

pub part_holds : (uuid : ℕ) (xs : List Interval) (u n : ℕ) → holds (filter (λ s. s.uuid == uuid) xs) u n ≡ ((u == uuid) && holds xs u n)
part_holds uuid xs u n = any-filter_same (spans u n) (λ s. s.uuid == uuid) (u == uuid) (spans_uuid uuid u n) xs
