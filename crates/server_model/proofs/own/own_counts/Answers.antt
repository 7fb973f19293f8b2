use Rattle.std.proofs.Common.{◌≡◌, ◌+◌, length, take, ap, sym, ◌∙◌, arith}
use Rattle.server_model.proofs.Prelude.{Server, count_own, length-take}
use Rattle.server_model.proofs.Lists.{slice_get-index, take-more}
use Rattle.server_model.proofs.OwnCounts.{own_from-snoc}
use Rattle.server_model.proofs.own.own_counts.Goals as goal

pub loop-n-preserved : goal.loop-n-preserved
loop-n-preserved c =
    let servers = c.args.servers.now in
    let s = c.index-servers-n.result in
    let front = take c.loop-n.n servers in
    let here = slice_get-index servers c.loop-n.n s c.loop-n-test.true c.index-servers-n.is in
    let count : 0 + length front ≡ c.loop-n.n = simp length-take (omega arith) in
    let own : c.count_own.result ≡ count_own (0 + length front) s.history.txns =
    c.count_own.ensures ∙ ap (λ (x : Server). count_own c.loop-n.n x.history.txns) c.s.view_is ∙ ap (λ k. count_own k s.history.txns) (sym count) in
    rw (c.in_ok-push.ensures.items, c.loop-n.invariant, own, take-more servers c.loop-n.n s here)
    (sym (own_from-snoc 0 front s))
