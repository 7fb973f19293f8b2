-- What the code of the exchanges answers and leaves is what the definitions say.
use Rattle.std.proofs.Common.{◌≡◌, ℕ, ◌+◌, ◌<◌, Bool, true, false, cond, List, length, refl, subst, Some, arith, slice_get, slice_set, nat_le}
use Rattle.server_model.proofs.Prelude.{Server, World, after_write, count_own, has_source, nat_tests, own_txn, server_at, took, write_answer}
use Rattle.server_model.proofs.Prelude.wrote

pub write-answered : (w : World) (n own : ℕ) (s : Server) → server_at w n ≡ Some s → s.up ≡ true → s.read_only ≡ false → length s.history.txns < s.history.room
    → own ≡ count_own n s.history.txns → wrote.Done (own + 1) ≡ write_answer n (server_at w n)
write-answered w n own s at up free room count =
    let full : nat_le s.history.room (length s.history.txns) ≡ false = grind (arith, nat_tests) in
    rw (at, up, free, full, count)

errant-rise : (has : Bool) (errant : ℕ) → errant + cond has 1 0 ≡ cond has (errant + 1) errant
errant-rise true errant = refl
errant-rise false errant = omega arith

pub write-left : (w : World) (servers : List Server) (gtid : Bool) (errant more n size own : ℕ) (s s' : Server) → record { servers = servers; gtid = gtid; errant = errant } ≡ w
    → slice_get servers n ≡ Some s → s' ≡ took s (own_txn n (own + 1) size) → more ≡ cond (has_source s.source) 1 0
    → record { servers = slice_set servers n s'; gtid = gtid; errant = errant + more } ≡ after_write w n size (server_at w n) (wrote.Done (own + 1))
write-left w servers gtid errant more n size own s s' view here is rise =
    subst (λ (v : World). record { servers = slice_set servers n s'; gtid = gtid; errant = errant + more } ≡ after_write v n size (server_at v n) (wrote.Done (own + 1))) view
    (rw (here, is, rise, errant-rise (has_source s.source) errant))
