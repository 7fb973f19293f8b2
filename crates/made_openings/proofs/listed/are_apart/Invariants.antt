use Rattle.std.proofs.Common.{◌≡◌, ℕ, ◌<◌, Some, slice_get}
use Rattle.openings.specs.Apart.{IsApart}
use Rattle.openings.specs.declared.init.ServerInit.{ServerInit}
use Rattle.made_openings.proofs.listed.are_apart.Given as goal

abbrev pub invariant-loop-n : goal.invariant-loop-n
invariant-loop-n l = (m k : ℕ) (i j : ServerInit) → m < k → k < l.n → slice_get l.servers m ≡ Some i → slice_get l.servers k ≡ Some j → IsApart i j
