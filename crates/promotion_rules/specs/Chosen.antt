-- What a choice is, without how it is found.
use Rattle.std.specs.Prelude.{◌≡◌, All, Any, Bool, true, false, List}
use Rattle.std.specs.Ordering.{is_lt}
use Rattle.std.specs.declared.cmp.Ordering.{Ordering}
use Rattle.instance_keeper.specs.BinlogCoords.Log.{is_before}
use Rattle.instance_keeper.specs.OrchBase.declared.server.ServerNo.{ServerNo}
use Rattle.promotion_rules.specs.declared.drained.Drained.{Drained}

-- the replica has this number and passes, and none of the list that passes is before it
pub record IsFirst (order : Drained → Drained → Ordering) (test : Drained → Bool) (list : List Drained) (n : ServerNo) (d : Drained) : Type 0 where
  pub named : d.no ≡ n
  pub passes : test d ≡ true
  pub first : All (λ other. test other ≡ true → is_lt (order other d) ≡ false) list

-- one of the list is the first that passes
abbrev pub IsChoice : (Drained → Drained → Ordering) → (Drained → Bool) → List Drained → ServerNo → Type 0
IsChoice order test list n = Any (IsFirst order test list n) list

-- the replica has this number and passes, and none of the list that passes has executed more
pub record IsFurthest (test : Drained → Bool) (list : List Drained) (n : ServerNo) (d : Drained) : Type 0 where
  pub named : d.no ≡ n
  pub passes : test d ≡ true
  pub most : All (λ other. test other ≡ true → is_before d.exec other.exec ≡ false) list

-- one of the list has executed most of those that pass
abbrev pub HasExecutedMost : (Drained → Bool) → List Drained → ServerNo → Type 0
HasExecutedMost test list n = Any (IsFurthest test list n) list
