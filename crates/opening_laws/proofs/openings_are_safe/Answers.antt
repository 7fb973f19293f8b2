use Rattle.std.proofs.Common.{refl}
use Rattle.opening_laws.proofs.Prelude.{Placed-safe, opened_world}
use Rattle.opening_laws.proofs.Openings.{Safe-opened}
use Rattle.opening_laws.proofs.openings_are_safe.Goals as goal

pub returns : goal.returns
returns c = record {
  safe = Safe-opened;
  placed = λ o room flushes checked. Placed-safe (opened_world o room flushes) (Safe-opened o room flushes checked);
  quiet = λ o room flushes. refl;
}
