use Rattle.std.proofs.Common.{◌≡◌, ℕ, ◌<◌, Some, slice_get}
use Rattle.openings.specs.Apart.{IsApart}
use Rattle.openings.specs.declared.init.ServerInit.{ServerInit}
use Rattle.made_openings.proofs.listed.is_apart_from.Given as goal

abbrev pub invariant-loop-m : goal.invariant-loop-m
invariant-loop-m l = (k : ℕ) (i : ServerInit) → k < l.m → slice_get l.servers k ≡ Some i → IsApart i l.init
