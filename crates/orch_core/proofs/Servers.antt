-- How many servers a scenario's world has.
use Rattle.std.proofs.Common.{◌≡◌, length}
use Rattle.orch_core.proofs.Prelude.{Scenario, flushes_of, length-opened_from, room_of, start_world}

pub servers-start : (s : Scenario) → length (start_world s).servers ≡ length s.opening.servers
servers-start s = length-opened_from s.opening.servers (room_of s) (flushes_of s) 0 s.opening.servers
