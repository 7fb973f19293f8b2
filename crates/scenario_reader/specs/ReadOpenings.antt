-- The opening that the servers of a text make, and the position of a flaw of them in the text.
use Rattle.std.specs.Prelude.{ℕ, ◌*◌, ◌∷◌, List, [], Bool, length, sum_by, nat_le, codes, decimal, Result, Ok, Err}
use Rattle.scenario_reader.specs.Prelude.{Fault, ServerInit, TooLarge, fails, holds, transactions, under}
use Rattle.scenarios.specs.Openings.declared.opening.Flaw.{Flaw}
use Rattle.scenarios.specs.Openings.declared.opening.Flaw.TheVariants as flaw
use Rattle.scenarios.specs.Openings.Opening.{Opened}
use Rattle.scenarios.specs.Openings.Servers.{parts_of}
use Rattle.opening_checks.specs.declared.fault.FlawedValue.{FlawedValue}
use Rattle.opening_checks.specs.declared.fault.FlawedValue.TheVariants as value
use Rattle.opening_checks.specs.Checked.{Found, checked}
use Rattle.scenario_values.specs.declared.fault.FaultCode.{FaultCode}
use Rattle.scenario_values.specs.declared.fault.FaultCode.TheVariants.{BothGiven, SourceNotLogging, Loop, OtherCluster, TooMany, BadPlace, NotKin}
use Rattle.scenarios.specs.OrchBase.Gives.{◌>>=◌}

-- ---- flaws

abbrev pub code_of : Flaw → FaultCode
code_of flaw.BothGiven = BothGiven
code_of flaw.SourceNotLogging = SourceNotLogging
code_of flaw.Loop = Loop
code_of flaw.OtherCluster = OtherCluster
code_of flaw.TooMany = TooMany
code_of flaw.BadPlace = BadPlace
code_of flaw.NotKin = NotKin

-- a fault at these parts, from the outermost one on
abbrev pub fails_at : {A : Type 0} → FaultCode → List (List ℕ) → Result A Fault
fails_at code [] = fails code
fails_at code (part ∷ parts) = under part (fails_at code parts)

-- the keys that lead to a value from its server
abbrev pub keys_of : FlawedValue → List (List ℕ)
keys_of value.Source = codes "source" ∷ []
keys_of value.Executed = codes "executed" ∷ []
keys_of value.At = codes "at" ∷ []
keys_of value.Read = codes "read" ∷ []
keys_of value.History = codes "history" ∷ []
keys_of (value.Origin k) = codes "history" ∷ decimal k ∷ codes "0" ∷ []
keys_of value.Flushes = codes "flushes" ∷ []
keys_of (value.Flush k) = codes "flushes" ∷ decimal k ∷ []
keys_of value.Purged = codes "purged" ∷ []

-- the fault that a server's flaw is, at the value to blame
abbrev pub flaw_fails : Found → Result Opened Fault
flaw_fails f = fails_at (code_of f.flaw) (codes "servers" ∷ decimal f.server ∷ keys_of f.value)

abbrev pub opening_or_fails : Result Opened Found → Result Opened Fault
opening_or_fails (Ok o) = Ok o
opening_or_fails (Err f) = flaw_fails f

-- the opening of these servers, or their first flaw at its place
abbrev pub opening_of : List ServerInit → Bool → Result Opened Fault
opening_of servers gtid = opening_or_fails (checked servers gtid)

-- ---- the sizes

abbrev pub listed_count : List ServerInit → ℕ
listed_count servers = sum_by (λ i. transactions (parts_of i)) servers

abbrev pub is_small : ℕ → ℕ → Bool
is_small servers count = nat_le (servers * count) 4000000

-- the opening of these servers, if they aren't too many for what they list
unfoldable pub opening_in : List ServerInit → Bool → Result Opened Fault
opening_in servers gtid = do
  few ← holds TooLarge (is_small (length servers) (listed_count servers))
  opening_of servers gtid
