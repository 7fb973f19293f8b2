use Rattle.std.proofs.Common.{◌<◌, length, get_or, sym, ◌∙◌, ap, subst, arith, filter_map, ◌++◌, ◌∷◌, []}
use Rattle.failure_analysis.proofs.Prelude.{AreParts, analysis, entry_at, place-at, places-all, take_all}
use Rattle.failure_analysis.proofs.Counting.{tally-parts, tally-read}
use Rattle.failure_analysis.proofs.Entries.{entries-passed, entries-pushed}
use Rattle.failure_analysis.proofs.entry.analyse.Goals as goal
use Rattle.failure_analysis.proofs.entry.analyse.Goals.{in-Some+in_ok-push, in_default}

pub index-requires : goal.index-requires
index-requires c =
    let n = get_or c.order-order.result.now c.loop-no.no-index (record { 0 = 0 }) in
    let known : n.0 < length c.args.book.now.names = c.order-order.ensures.within c.loop-no.no-index (record { 0 = 0 }) c.loop-no-test.true in
    let all = places-all c.args.book.now c.in_ok-instances.instances.items c.in_ok-instances.ensures in
    let servers = c.servers.ensures.holds.instances in
    omega (arith, known, all, servers, c.in_ok-instances.instances.ok)

pub entry_of-requires : goal.entry_of-requires
entry_of-requires c =
    let b = c.args.book.now in
    let n = get_or c.order-order.result.now c.loop-no.no-index (record { 0 = 0 }) in
    let known : n.0 < length b.names = c.order-order.ensures.within c.loop-no.no-index (record { 0 = 0 }) c.loop-no-test.true in
    let room : n.0 < length c.in_ok-tallies.tallies.items = omega (arith, known, c.in_ok-tallies.ensures.count) in
    let tally = tally-read c.in_ok-tallies.tallies.items n.0 c.index-in-Some.result.now room c.index-in-Some.ensures ∙ c.in_ok-tallies.ensures.tallies n known in
    subst AreParts (sym tally) (tally-parts b.instances n)

pub loop-no-preserved : goal.loop-no-preserved
loop-no-preserved c =
    let b = c.args.book.now in
    let order = c.order-order.result.now in
    let n = get_or order c.loop-no.no-index (record { 0 = 0 }) in
    let known : n.0 < length b.names = c.order-order.ensures.within c.loop-no.no-index (record { 0 = 0 }) c.loop-no-test.true in
    let room : n.0 < length c.in_ok-tallies.tallies.items = omega (arith, known, c.in_ok-tallies.ensures.count) in
    let all = places-all b c.in_ok-instances.instances.items c.in_ok-instances.ensures in
    let servers = c.servers.ensures.holds.instances in
    let within : n.0 < length c.in_ok-instances.instances.items = omega (arith, known, all, servers) in
    let place = place-at b c.in_ok-instances.instances.items n.0 c.index.result.now c.in_ok-instances.ensures within c.index.ensures in
    elim c.match-index.branch [
      | in-Some+in_ok-push w ↦
          let tally = tally-read c.in_ok-tallies.tallies.items n.0 w.index-in-Some.result.now room w.index-in-Some.ensures ∙ c.in_ok-tallies.ensures.tallies n known in
          ap (λ v. v.items) w.entries-is ∙ w.in_ok-push.ensures.items ∙ ap (λ xs. xs ++ w.entry_of.result ∷ []) c.loop-no.invariant
          ∙ entries-pushed b order c.loop-no.no-index (record { 0 = 0 }) w.in-Some.instance w.index-in-Some.result.now w.entry_of.result c.loop-no-test.true
          (place ∙ w.in-Some.is) tally w.entry_of.ensures.no w.entry_of.ensures.counts w.entry_of.ensures.code
      | in_default w ↦
          ap (λ v. v.items) w.entries-is ∙ c.loop-no.invariant
          ∙ entries-passed b order c.loop-no.no-index (record { 0 = 0 }) c.loop-no-test.true (place ∙ w.in_default.is)
    ]

pub returns : goal.returns
unfolding analysis
returns c =
    c.loop-no.invariant
    ∙ ap (filter_map (entry_at c.args.book.now)) (take_all c.loop-no.no-index c.order-order.result.now c.loop-no-test.false ∙ c.order-order.ensures.order)
