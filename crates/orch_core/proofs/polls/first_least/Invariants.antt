use Rattle.std.proofs.Common.{◌<◌, ◌≤◌, ℕ, length, slice_index}
use Rattle.orch_core.proofs.polls.first_least.Given as goal

abbrev pub invariant-numbers : goal.invariant-numbers
invariant-numbers l = record {
  within : l.least < length l.numbers;
  least : (m : ℕ) → m < l.at → slice_index l.numbers l.least ≤ slice_index l.numbers m;
  first : (m : ℕ) → m < l.least → slice_index l.numbers l.least < slice_index l.numbers m;
  behind : l.least ≤ l.at;
}
