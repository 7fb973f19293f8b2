use Rattle.gtid_sets.proofs.Inserts.{IsSet-with_pair, holds-with_pair, Rises-set}
use Rattle.gtid_sets.proofs.reserved.added_is_had.Goals as goal

pub returns-clause-set : goal.returns-clause-set
returns-clause-set c = λ xs uuid n is fits some few. IsSet-with_pair xs uuid n is fits some few

pub returns-clause-had : goal.returns-clause-had
returns-clause-had c = λ xs uuid n u m is. holds-with_pair xs uuid n u m (Rises-set xs is)
