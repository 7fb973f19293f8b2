use Rattle.std.proofs.Common.{◌∙◌, ap, sym, subst, length, arith, All}
use Rattle.openings.proofs.Prelude.{HasSize, IfOk-weaker, IsPart, root_of}
use Rattle.openings.proofs.Sizes.{root-parts, history_at-joined, history_at-sized, parts_at-in_range}
use Rattle.openings.proofs.histories.history_at.Goals as goal

pub history_of-requires : goal.history_of-requires
history_of-requires c =
    let servers = c.args.servers.now in
    let parts = root-parts servers c.args.n.0 c.root_of.result c.parts_at-parts.result.now c.root_of.ensures c.parts_at-parts.ensures in
    let same = history_at-joined servers c.args.n.0 c.count_at-count.result c.parts_at-parts.result.now c.count_at-count.ensures parts in
    record {
      parts = subst (All (IsPart (length servers))) (sym parts) (parts_at-in_range servers (root_of servers c.args.n.0) c.requires.parts);
      fits = let size = ap length same in omega (arith, c.requires.fits);
      room = c.requires.room;
    }

pub returns-clause-history : goal.returns-clause-history
returns-clause-history c =
    let servers = c.args.servers.now in
    let parts = root-parts servers c.args.n.0 c.root_of.result c.parts_at-parts.result.now c.root_of.ensures c.parts_at-parts.ensures in
    let same = history_at-joined servers c.args.n.0 c.count_at-count.result c.parts_at-parts.result.now c.count_at-count.ensures parts in
    IfOk-weaker c.history_of.result _ _ (λ v e. e ∙ same) c.history_of.ensures.history

pub returns-clause-sizes : goal.returns-clause-sizes
returns-clause-sizes c =
    let servers = c.args.servers.now in
    let parts = root-parts servers c.args.n.0 c.root_of.result c.parts_at-parts.result.now c.root_of.ensures c.parts_at-parts.ensures in
    let same = history_at-joined servers c.args.n.0 c.count_at-count.result c.parts_at-parts.result.now c.count_at-count.ensures parts in
    IfOk-weaker c.history_of.result _ _ (λ v e. subst (All HasSize) (sym (e ∙ same)) (history_at-sized servers c.args.n.0 c.requires.parts)) c.history_of.ensures.history
