-- The answers about a flaw.
use Rattle.std.proofs.Common.{◌≡◌, refl, Option, Some, None, Ok}
use Rattle.opening_checks.proofs.Prelude.{Flaw, FlawedValue, ServerNo, server_of, without}

-- if nothing is answered, no server was found
pub without-none : (flaw : Flaw) (first : Option (ServerNo × FlawedValue)) (u : Unit {0}) → without flaw first ≡ Ok u → server_of first ≡ None
without-none flaw None u e = refl
without-none flaw (Some f) u e = cc
