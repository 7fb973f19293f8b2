-- What the check of servers answers.
use Rattle.std.specs.Prelude.{ℕ, List, Bool, Option, Some, None, Result, Ok, Err}
use Rattle.opening_checks.specs.Prelude.{Flaw, Opened, ServerInit, flaw_in, opening}
use Rattle.opening_checks.specs.declared.fault.FlawedValue.{FlawedValue}
use Rattle.opening_checks.specs.declared.fault.OpeningFault.{OpeningFault}
use Rattle.opening_checks.specs.declared.fault.OpeningFault.TheVariants.{Flawed, Memory}
use Rattle.opening_checks.specs.Values.{value_at}

-- a flaw, the number of the server that has it, and the value of that server that is to blame
pub record Found : Type 0 where
  pub flaw : Flaw
  pub server : ℕ
  pub value : FlawedValue

abbrev pub found_at : List ServerInit → Flaw × ℕ → Found
found_at servers f = record { flaw = f.0; server = f.1; value = value_at servers f.0 f.1 }

abbrev pub found_of : List ServerInit → Option (Flaw × ℕ) → Option Found
found_of servers None = None
found_of servers (Some f) = Some (found_at servers f)

abbrev pub opening_or : Opened → Option Found → Result Opened Found
opening_or o None = Ok o
opening_or o (Some f) = Err f

-- the opening of these servers, or the first flaw that they have, with the first server that has it and the value to
-- blame
abbrev pub checked : List ServerInit → Bool → Result Opened Found
checked servers gtid = opening_or (opening servers gtid) (found_of servers (flaw_in servers))

-- the flaw that a fault names, and nothing if memory runs out
abbrev pub flaw_of : OpeningFault → Option Found
flaw_of (Flawed flaw n value) = Some (record { flaw = flaw; server = n.0; value = value })
flaw_of Memory = None
