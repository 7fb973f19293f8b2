use Rattle.gtid_sets.proofs.Prelude.{false≢true}
use Rattle.gtid_sets.proofs.Pieces.{uuid_none}
use Rattle.gtid_sets.proofs.grammar.read_uuid.Goals as goal

pub returns-in-Err : goal.returns-in-Err
returns-in-Err c = uuid_none c.args.text.now c.args.offset c.if-text-ne36.false (λ u e. false≢true (c.in-Err.ensures.ok.1 (u, e)))
