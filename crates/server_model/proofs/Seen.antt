-- What is seen of a server.
use Rattle.std.proofs.Common.{◌≡◌, ℕ, Bool, List, sym, ◌∙◌, ap, subst, Option, Some, option_map}
use Rattle.server_model.proofs.Prelude.{Interval, IsSetOf, Reserved, Server, Status, World, purged_txns, seen_purged, seen_set, server_at, shown}
use Rattle.server_model.proofs.Prelude.{shown_of, source_at, status_of, uuids_in}

pub shown-is : (w : World) (n : ℕ) (s : Server) (o : Option Server) (set purged : List Interval) (x : Status) → server_at w n ≡ Some s
    → o ≡ source_at w s → set ≡ seen_set w s → purged ≡ seen_purged w s → x ≡ status_of s o set purged → shown w n ≡ Some x
shown-is w n s o set purged x at source seen gone is =
    ap (option_map (shown_of w)) at
    ∙ ap (λ y. Some (status_of s y (seen_set w s) (seen_purged w s))) (sym source) ∙ ap (λ y. Some (status_of s o y (seen_purged w s))) (sym seen)
    ∙ ap (λ y. Some (status_of s o set y)) (sym gone) ∙ ap Some (sym is)

-- the sets that are kept are those that are seen
pub purged-kept : (w : World) (servers : List Server) (gtid : Bool) (errant : ℕ) (s : Server) (p : Reserved) → record { servers = servers; gtid = gtid; errant = errant } ≡ w
    → IsSetOf gtid (uuids_in servers) s (purged_txns s) p → p.intervals ≡ seen_purged w s
purged-kept w servers gtid errant s p view kept = subst (λ (v : World). p.intervals ≡ seen_purged v s) view kept.set

pub seen-kept : (w : World) (servers : List Server) (gtid : Bool) (errant : ℕ) (s : Server) (e : Reserved) → record { servers = servers; gtid = gtid; errant = errant } ≡ w
    → IsSetOf gtid (uuids_in servers) s s.history.txns e → e.intervals ≡ seen_set w s
seen-kept w servers gtid errant s e view kept = subst (λ (v : World). e.intervals ≡ seen_set v s) view kept.set
