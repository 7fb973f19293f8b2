use Rattle.std.proofs.Common.{◌≡◌, ℕ, true, take}
use Rattle.gtid_sets.proofs.Prelude.{on_line}
use Rattle.gtid_sets.proofs.set.are_in.Given as goal

abbrev pub invariant-parts : goal.invariant-parts
invariant-parts l = (x : ℕ) → on_line (take l.part-index l.parts) x ≡ true → on_line l.intervals x ≡ true
