-- The operations of a plan, and the leases, are of the book's servers, if the command's instances are.
use Rattle.std.proofs.Common.{◌≡◌, ◌<◌, true, List, [], ◌∷◌, length, refl, Option, Some, None}
use Rattle.std.specs.Prelude.{IsTrue}
use Rattle.moves_gtid.proofs.Prelude.{All-append, AllWithin, BookState, Command, Follows, GtidCommand, IsBook, Server, ServerNo, Within, about}
use Rattle.moves_gtid.proofs.Prelude.{about-is, again, again-named, again_auto, again_auto-named, are_named, auto, auto-named, autos, autos-named}
use Rattle.moves_gtid.proofs.Prelude.{but-within, cons-within, disabled, enabled, finished-named, following, given-within, is_within, list_of, moved}
use Rattle.moves_gtid.proofs.Prelude.{none-within, ops_of, option-within, option_to_list, replicas_but, replicas_moved, source-within, source_of}
use Rattle.moves_gtid.proofs.Prelude.command

module _ (b : BookState) (is : IsBook b) where
  moved-named : (i : ServerNo) (d : Option ServerNo) → i.0 < length b.names → Within b d → are_named (length b.names) (moved i d) ≡ true
  moved-named i None at_i at_d = refl
  moved-named i (Some d) at_i at_d = finished-named (length b.names) (auto i d) (Follows i d ∷ []) (auto-named (length b.names) i d at_i at_d)

  replicas-named : (rs : List ServerNo) (d : Option ServerNo) → AllWithin b rs → Within b d → are_named (length b.names) (replicas_moved rs d) ≡ true
  replicas-named rs None at_rs at_d = refl
  replicas-named rs (Some d) at_rs at_d = finished-named (length b.names) (autos rs d) (following rs d) (autos-named (length b.names) rs d at_rs at_d)

  enabled-named : (i : ServerNo) (x : Option ServerNo) → i.0 < length b.names → Within b x → are_named (length b.names) (enabled i x) ≡ true
  enabled-named i None at_i at_x = refl
  enabled-named i (Some x) at_i at_x = finished-named (length b.names) (again_auto i x) (Server i ∷ []) (again_auto-named (length b.names) i x at_i at_x)

  disabled-named : (i : ServerNo) (x : Option ServerNo) → i.0 < length b.names → are_named (length b.names) (disabled i x) ≡ true
  disabled-named i None at_i = refl
  disabled-named i (Some x) at_i = finished-named (length b.names) (again i x) (Server i ∷ []) (again-named (length b.names) i x at_i)

  ops-named : (c : GtidCommand) (i : ServerNo) (d : Option ServerNo) → i.0 < length b.names → Within b d → are_named (length b.names) (ops_of b c i d) ≡ true
  ops-named command.MoveGtid i d at_i at_d = moved-named i d at_i at_d
  ops-named command.MoveReplicasGtid i d at_i at_d = replicas-named (replicas_but b i d) d (but-within b i d) at_d
  ops-named command.EnableGtid i d at_i at_d = enabled-named i (source_of b i) at_i (source-within b i is at_i)
  ops-named command.DisableGtid i d at_i at_d = disabled-named i (source_of b i) at_i

pub plan-named : (b : BookState) (kind : Option GtidCommand) (command : Command) → IsBook b → IsTrue (is_within (length b.names) command.i) → IsTrue (is_within (length b.names) command.d)
    → are_named (length b.names) (about [] (ops_of b) kind command) ≡ true
plan-named b kind command is at_i at_d =
    about-is (λ ops. are_named (length b.names) ops ≡ true) [] (ops_of b) b command refl (given-within b command.i at_i)
    (λ c i at. ops-named b is c i command.d at (given-within b command.d at_d)) kind

-- ---- leases

pub list-within : (b : BookState) → IsBook b → (c : GtidCommand) (i : ServerNo) (d : Option ServerNo) → i.0 < length b.names → Within b d → AllWithin b (list_of b c i d)
list-within b is command.MoveGtid i d at_i at_d = cons-within b i (option_to_list d) at_i (option-within b d at_d)
list-within b is command.MoveReplicasGtid i d at_i at_d =
    All-append (λ (n : ServerNo). n.0 < length b.names) (replicas_but b i d) (option_to_list d) (but-within b i d) (option-within b d at_d)
list-within b is command.EnableGtid i d at_i at_d = cons-within b i (option_to_list (source_of b i)) at_i (option-within b (source_of b i) (source-within b i is at_i))
list-within b is command.DisableGtid i d at_i at_d = cons-within b i [] at_i (none-within b)
