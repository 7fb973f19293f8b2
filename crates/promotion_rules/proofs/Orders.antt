-- The orders among drained replicas.
use Rattle.std.proofs.Common.{List}
use Rattle.promotion_rules.proofs.Prelude.{Coord, Drained, HostPort, IsTotalOrder, advance_order, back_total, coord_order, named, nat_cmp_total}
use Rattle.promotion_rules.proofs.Prelude.{nearer_order, on_total, order_total, rank, rank_order, server_order, then_total}

coord_total : IsTotalOrder coord_order
coord_total = then_total (on_total (λ (c : Coord). c.file) nat_cmp_total) (on_total (λ (c : Coord). c.pos) nat_cmp_total)

rank_total : IsTotalOrder rank_order
rank_total = on_total rank nat_cmp_total

name_total : (names : List HostPort) → IsTotalOrder (server_order names)
name_total names = on_total (named names) order_total

pub nearer_total : (names : List HostPort) → IsTotalOrder (nearer_order names)
nearer_total names = then_total rank_total (on_total (λ (d : Drained). d.no) (name_total names))

pub advance_total : (names : List HostPort) → IsTotalOrder (advance_order names)
advance_total names = then_total (on_total (λ (d : Drained). d.exec) (back_total coord_total)) (nearer_total names)
