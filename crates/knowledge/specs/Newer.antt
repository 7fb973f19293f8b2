-- Readings that are newer than what the book has.
use Rattle.std.specs.Prelude.{◌≡◌, ◌<◌, Option, Some, true, IsSomeAnd}
use Rattle.command_outcomes.specs.KeptRows.declared.observation.Observation.{Observation}
use Rattle.command_outcomes.specs.KeptRows.declared.observation.Instance.{Instance}
use Rattle.command_outcomes.specs.InstanceKeeper.Book.{BookState, instance_at}

-- the reading that makes an instance
abbrev pub reading_of : Instance → Observation
reading_of i = record { no = i.no; read = i.read; moment = i.moment; seen = Some i.seen }

-- the slot's reading reached its server and makes this instance, of which the book has an earlier reading
pub record IsNewer (b : BookState) (slot : Option Observation) (i : Instance) : Type 0 where
  pub made : slot ≡ Some (reading_of i)
  pub valid : i.valid ≡ true
  pub later : IsSomeAnd (instance_at b i.no) (λ kept. kept.read < i.read)
