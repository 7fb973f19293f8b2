-- Jobs over servers that are there, with numbers in their ranges.
use Rattle.std.specs.Prelude.{◌≡◌, ℕ, ◌<◌, ◌≤◌, ◌^◌, Bool, true, nat_lt, List, All}
use Rattle.operations.specs.Prelude.{ServerNo, list_all}
use Rattle.operations.specs.declared.op.Op.{Op}
use Rattle.operations.specs.Deeds as deed
use Rattle.operations.specs.Deeds.{Deed, deed_of}
use Rattle.operations.specs.Jobs.{Job}

-- the server with which an operation has an exchange is one of so many; a match needs none: without the servers it is
-- answered Unreachable
abbrev pub is_named : ℕ → Deed → Bool
is_named count (deed.Look n from) = nat_lt n.0 count
is_named count (deed.Request n a) = nat_lt n.0 count
is_named count (deed.Until n to) = nat_lt n.0 count
is_named count (deed.Await n to) = nat_lt n.0 count
is_named count (deed.AwaitSet n m) = nat_lt n.0 count
is_named count (deed.Settle n) = nat_lt n.0 count
is_named count (deed.Cross c a b) = nat_lt a.0 count
is_named count (deed.Same n) = nat_lt n.0 count
is_named count (deed.Auto n m) = nat_lt n.0 count
is_named count (deed.Match n m every) = true
is_named count (deed.CrossMatch n m) = nat_lt n.0 count
is_named count (deed.Finish lines) = true

abbrev pub are_named : ℕ → List Op → Bool
are_named count ops = list_all (λ op. is_named count (deed_of op)) ops

abbrev pub IsOneOf : ℕ → ServerNo → Type 0
IsOneOf count n = n.0 < count

-- the operations that are left, and what is in the hands, are of so many servers
pub record IsNamed (count : ℕ) (j : Job) : Type 0 where
  pub ops : are_named count j.ops ≡ true
  pub hands : All (IsOneOf count) j.hands

-- its number and its bound fit their types, and it has waited within its bound
pub record IsInRange (count : ℕ) (j : Job) : Type 0 where
  pub id : j.id < 2 ^ 64
  pub wait : j.wait < 2 ^ 32
  pub waited : j.waited ≤ j.wait
  pub named : IsNamed count j
