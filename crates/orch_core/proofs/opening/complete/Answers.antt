use Rattle.std.proofs.Common.{◌≡◌, length, rules, subst, sym, All, IsTrue}
use Rattle.orch_core.proofs.Prelude.{is_opening_change}
use Rattle.orch_core.proofs.Starts.{fits-opening}
use Rattle.orch_core.proofs.opening.complete.Goals as goal

pub open_book-requires : goal.open_book-requires
open_book-requires g c =
    let rules_there : length c.as_slice-rules.result.now ≡ length c.args.world.now.servers = search rules in
    subst (All (λ x. IsTrue (is_opening_change (length c.args.book.names) x))) (sym c.in_ok-changes.ensures)
    (fits-opening c.args.world.now c.args.moment c.args.book c.as_slice-known.result.now c.as_slice-rules.result.now c.args.recoveries.items c.requires.sources c.requires.names rules_there c.requires.recoveries)
