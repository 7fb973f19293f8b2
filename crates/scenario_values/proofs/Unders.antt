-- What is read at a key.
use Rattle.std.proofs.Common.{ℕ, List, Result, Ok, Err, refl, ap}
use Rattle.scenario_values.proofs.Prelude.{Fault, Gives, IsUnder, ReadFault, fault_of, under}
use Rattle.scenario_values.proofs.Prelude.read_fault

pub gives_under : {X Y : Type 0} (view : X → Y) (key : List ℕ) (r s : Result X ReadFault) (read : Result Y Fault)
    → IsUnder key r s → Gives view fault_of r read → Gives view fault_of s (under key read)
gives_under view key (Ok x) (Ok y) read same gives = rw (gives, same) refl
gives_under view key (Ok x) (Err e) read same gives = absurd same
gives_under view key (Err e) (Ok y) read same gives = absurd same
gives_under view key (Err read_fault.Memory) (Err read_fault.Memory) read same gives = tt
gives_under view key (Err read_fault.Memory) (Err (read_fault.Fault g)) read same gives = absurd cc
gives_under view key (Err (read_fault.Fault f)) (Err read_fault.Memory) read same gives = tt
gives_under view key (Err (read_fault.Fault f)) (Err (read_fault.Fault g)) read same gives = rw gives (ap Err cc)
