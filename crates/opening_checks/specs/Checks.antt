-- The flaws of servers, one after another.
use Rattle.std.specs.Prelude.{◌≡◌, ℕ, ◌≤◌, List, take, drop, length, Option, Some, None, Result, Ok, Err, MatchResult, MatchOption, IfSome, ⊤}
use Rattle.opening_checks.specs.Prelude.{Flaw, PartsInRange, ServerInit, ServerNo, first_flaw, flaws}
use Rattle.opening_checks.specs.declared.fault.FlawedValue.{FlawedValue}
use Rattle.opening_checks.specs.declared.fault.OpeningFault.{OpeningFault}
use Rattle.opening_checks.specs.declared.fault.OpeningFault.TheVariants.{Flawed}
use Rattle.opening_checks.specs.Checked.{Found, flaw_of}
use Rattle.opening_checks.specs.Places.{LimitsInRange}
use Rattle.opening_checks.specs.Values.{value_at}

-- nothing, or the flaw with the first server that has it and the value to blame
abbrev pub without : Flaw → Option (ServerNo × FlawedValue) → Result (Unit {0}) OpeningFault
without flaw None = Ok tt
without flaw (Some f) = Err (Flawed flaw f.0 f.1)

-- nothing, or the flaw with the server of this number and its value to blame
abbrev pub refused : List ServerInit → Flaw → Option ℕ → Result (Unit {0}) OpeningFault
refused servers flaw None = Ok tt
refused servers flaw (Some n) = Err (Flawed flaw (record { 0 = n }) (value_at servers flaw n))

-- the server of what was found
abbrev pub server_of : Option (ServerNo × FlawedValue) → Option ℕ
server_of None = None
server_of (Some f) = Some f.0.0

-- the value that was found is to blame for the server's flaw
abbrev pub IsToBlame : List ServerInit → Flaw → Option (ServerNo × FlawedValue) → Type 0
IsToBlame servers flaw first = IfSome first (λ f. f.1 ≡ value_at servers flaw f.0.0)

-- A success means that there is no flaw. A fault has the flaw, unless memory ran out.
abbrev pub Tells : Result (Unit {0}) OpeningFault → Option Found → Type 0
Tells result found = MatchResult result (λ _. found ≡ None) (λ e. MatchOption (flaw_of e) ⊤ (λ f. found ≡ Some f))

-- the first flaw of those that need no memory, which are before the others
abbrev pub plain_flaw_in : List ServerInit → Option (Flaw × ℕ)
plain_flaw_in servers = first_flaw servers (take 5 (flaws servers))

-- the first flaw of those that are looked for in logs, which are after them
abbrev pub place_flaw_in : List ServerInit → Option (Flaw × ℕ)
place_flaw_in servers = first_flaw servers (take 2 (drop 5 (flaws servers)))

-- what the checks need of the servers
pub record InRange (servers : List ServerInit) : Type 0 where
  pub few : length servers ≤ 1000
  pub parts : PartsInRange servers
  pub limits : LimitsInRange servers
