use Rattle.std.proofs.Common.{refl}
use Rattle.unended_jobs.specs.Rounds.{replicates}
use Rattle.unended_jobs.proofs.Rounding.{two-more}
use Rattle.unended_jobs.proofs.rounds.add_replication.Goals as goal

pub loop-no-preserved : goal.loop-no-preserved
loop-no-preserved c =
    two-more replicates c.args.turns.now.items c.loop-no.turns.items c.push.new.self.items c.push-in-loop-no.new.self.items c.args.servers.now c.loop-no.no-index _ _ _ c.loop-no-test.true refl
    c.loop-no.invariant c.in_ok-push.ensures.items c.in_ok-push-2.ensures.items
