-- A row store in memory that is to fail at no call.
use Rattle.std.proofs.Common.{◌≡◌, List, [], Bool, false, cond, ℕ, ap}
use Rattle.live_desk.proofs.Prelude.{Kept, after_call, fails_next, next_count}

pub never_fails : (k : Kept) → k.fail_at ≡ [] → fails_next k.fail_at k.calls ≡ false
never_fails k none = ap (λ (ns : List ℕ). fails_next ns k.calls) none

pub after_unfailing : (k : Kept) → k.fail_at ≡ [] → after_call k ≡ record k { calls = next_count k.calls }
after_unfailing k none = ap (λ (b : Bool). cond b (record k { calls = next_count k.calls; faults = next_count k.faults }) (record k { calls = next_count k.calls })) (never_fails k none)
