use Rattle.std.proofs.Common.{◌∙◌, length, map, arith, ap, sym}
use Rattle.instance_keeper.proofs.Prelude.{length-map}
use Rattle.instance_keeper.proofs.Books.{empty_from_is}
use Rattle.instance_keeper.proofs.book.Book.of_servers.Goals as goal

pub invariant_of-result : goal.invariant_of-result
invariant_of-result c =
    let is = c.in_ok-servers.ensures ∙ c.in_ok-copies.ensures in
    let count = length-map c.args.settings.now (λ s. s.now) in (
      c.in_ok-empty_instances.ensures.keys,
      empty_from_is c.count-count.result _ (map (λ s. s.now) c.args.settings.now) _ _ _ _ _ is (ap length (sym is) ∙ sym c.count-count.ensures)
          (omega (arith, c.requires, c.count-count.ensures, ap length is, count)) c.in_ok-empty_instances.ensures.values c.in_ok-empty_places.ensures c.in_ok-empty_places-2.ensures
          c.in_ok-empty_rings.ensures c.in_ok-empty_places-3.ensures,
    )
