use Rattle.std.proofs.Common.{◌≡◌, Some, arith, ap, sym, ◌∙◌, slice_get}
use Rattle.server_model.proofs.Prelude.{has_gtid, holds, uuids_in}
use Rattle.server_model.proofs.ExecutedSets.{held_len-first}
use Rattle.server_model.proofs.gtids.held_len.Goals.{After-contains}
use Rattle.server_model.proofs.gtids.held_len.Goals as goal

record Held (c : After-contains) : Type 0 where
  at : slice_get c.args.log.now.txns c.loop-k.k ≡ Some c.unwrap-t.result
  is : has_gtid (uuids_in c.args.servers.now) c.args.executed.now.intervals c.unwrap-t.result ≡ c.contains.result

held : (c : After-contains) → Held c
held c = record {
  at = sym c.txn.ensures ∙ c.unwrap-t.ensures;
  is = ap (λ u. holds c.args.executed.now.intervals u c.unwrap-t.result.seq) (sym c.uuid_of.ensures) ∙ sym c.contains.ensures;
}

pub returns-then-not-contains : goal.returns-then-not-contains
returns-then-not-contains c =
    let known = held (goal.at.returns-then-not-contains c).After-contains in
    let first = held_len-first (uuids_in c.args.servers.now) c.args.executed.now.intervals c.args.log.now.txns c.loop-k.k c.unwrap-t.result _ known.at (known.is ∙ c.if-not-contains.true) in
    omega (arith, c.loop-k.invariant, first)

pub loop-k-preserved : goal.loop-k-preserved
loop-k-preserved c =
    let known = held (goal.at.loop-k-preserved c).After-contains in
    let first = held_len-first (uuids_in c.args.servers.now) c.args.executed.now.intervals c.args.log.now.txns c.loop-k.k c.unwrap-t.result _ known.at (known.is ∙ c.if-not-contains.false) in
    omega (arith, c.loop-k.invariant, first)
