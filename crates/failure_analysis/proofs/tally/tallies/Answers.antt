use Rattle.std.proofs.Common.{◌≡◌, ◌<◌, length, get_or, take, Option, Some, None, sym, ◌∙◌, ap, subst, arith}
use Rattle.failure_analysis.proofs.Prelude.{AreParts, Instance, ServerNo, Tally, is_attached_to, length-set, place-at, places-all, raised}
use Rattle.failure_analysis.proofs.Prelude.{seen_source}
use Rattle.failure_analysis.proofs.Counting.{not-attached, source-known, tallied-past, tallied-raised, tally-few, tally-parts, tally-read}
use Rattle.failure_analysis.proofs.tally.tallies.Goals as goal
use Rattle.failure_analysis.proofs.tally.tallies.Goals.{in-Some+in-Attached, in-Some+in_default-source, in_default}

pub index_mut-requires : goal.index_mut-requires
index_mut-requires c =
    let b = c.args.book.now in
    let place = place-at b c.args.instances.now c.loop-place.place-index c.place-item.result c.requires c.loop-place-test.true c.place-item.is in
    let known : c.in-Attached.source.0 < length b.names = source-known b c.loop-place.place-index c.in-Some.replica c.in-Attached.source c.servers-count.ensures.holds (place ∙ c.in-Some.is) c.in-Attached.is in
    omega (arith, known, c.loop-place.invariant.count, c.loop-place.tallies.ok)

pub raise-requires : goal.raise-requires
raise-requires c =
    let b = c.args.book.now in
    let ts = c.loop-place.tallies.items in
    let s = c.in-Attached.source in
    let place = place-at b c.args.instances.now c.loop-place.place-index c.place-item.result c.requires c.loop-place-test.true c.place-item.is in
    let known : s.0 < length b.names = source-known b c.loop-place.place-index c.in-Some.replica s c.servers-count.ensures.holds (place ∙ c.in-Some.is) c.in-Attached.is in
    let within : s.0 < length ts = omega (arith, known, c.loop-place.invariant.count) in
    record {
      parts =
          subst AreParts (sym (tally-read ts s.0 c.index_mut.result.now within c.index_mut.ensures.value ∙ c.loop-place.invariant.tallies s known))
          (tally-parts (take c.loop-place.place-index b.instances) s);
      room =
          let is = ap (λ (t : Tally). t.replicas) (tally-read ts s.0 c.index_mut.result.now within c.index_mut.ensures.value ∙ c.loop-place.invariant.tallies s known) in
          let few = tally-few b.instances c.loop-place.place-index s in
          let book = c.servers-count.ensures.holds in
          let small = book.small in
          let all = places-all b c.args.instances.now c.requires in
          let servers = book.instances in
          omega (arith, is, few, small, all, servers, c.loop-place-test.true);
    }

pub loop-place-preserved : goal.loop-place-preserved
loop-place-preserved c =
    let b = c.args.book.now in
    let ts = c.loop-place.tallies.items in
    let i = c.loop-place.place-index in
    let place = place-at b c.args.instances.now i c.place-item.result c.requires c.loop-place-test.true c.place-item.is in
    let all = places-all b c.args.instances.now c.requires in
    let within : i < length b.instances = omega (arith, all, c.loop-place-test.true) in
    elim c.match-place.branch [
      | in-Some+in-Attached w ↦
          let s = w.in-Attached.source in
          let at : get_or b.instances i None ≡ Some w.in-Some.replica = place ∙ w.in-Some.is in
          let known : s.0 < length b.names = source-known b i w.in-Some.replica s c.servers-count.ensures.holds at w.in-Attached.is in
          let room : s.0 < length ts = omega (arith, known, c.loop-place.invariant.count) in
          let now = w.raise.ensures ∙ ap (λ t. raised t w.in-Some.replica) (tally-read ts s.0 w.index_mut.result.now room w.index_mut.ensures.value) in
          record {
            count = rw w.tallies-is (length-set ts s.0 w.raise.new.self ∙ c.loop-place.invariant.count);
            tallies = rw (w.tallies-is, now) (tallied-raised ts b.instances (length b.names) i w.in-Some.replica s within at w.in-Attached.is room known c.loop-place.invariant.tallies);
          }
      | in-Some+in_default-source w ↦
          let at : get_or b.instances i None ≡ Some w.in-Some.replica = place ∙ w.in-Some.is in
          let past = λ (n : ServerNo). ap (λ (x : Option Instance). is_attached_to n (seen_source x)) at ∙ not-attached n w.in-Some.replica.seen.source w.in_default-source.not-Attached in
          record {
            count = rw w.tallies-is c.loop-place.invariant.count;
            tallies = rw w.tallies-is (tallied-past ts b.instances (length b.names) i within past c.loop-place.invariant.tallies);
          }
      | in_default w ↦
          let past = λ (n : ServerNo). ap (λ (x : Option Instance). is_attached_to n (seen_source x)) (place ∙ w.in_default.is) in
          record {
            count = rw w.tallies-is c.loop-place.invariant.count;
            tallies = rw w.tallies-is (tallied-past ts b.instances (length b.names) i within past c.loop-place.invariant.tallies);
          }
    ]
