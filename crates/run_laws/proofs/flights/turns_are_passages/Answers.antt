use Rattle.run_laws.proofs.Flown.{flown}
use Rattle.run_laws.proofs.Passing.{may-pass}
use Rattle.run_laws.proofs.RunLaws.{Goes-comes}
use Rattle.std.proofs.Common.{length}
use Rattle.run_laws.proofs.flights.turns_are_passages.Goals as goal

pub returns-clause-passages : goal.returns-clause-passages
returns-clause-passages c = λ s xs now t before rows. flown (length s.opening.servers) rows now t (Goes-comes s xs now before.comes).ready before.next

pub returns-clause-may : goal.returns-clause-may
returns-clause-may c = λ s xs now t before. let goes = Goes-comes s xs now before.comes in may-pass (length s.opening.servers) now t goes.ready goes.held before.next
