-- The operations of a plan, and the leases, are of the book's servers, if the command's instances are.
use Rattle.std.proofs.Common.{◌≡◌, ◌<◌, Bool, true, false, List, [], ◌∷◌, length, refl, Option, Some, None}
use Rattle.std.specs.Prelude.{IsTrue}
use Rattle.moves_coords.proofs.Prelude.{AllWithin, BookState, Command, CoordsCommand, Follows, IsBook, ServerNo, Within, World, about, about-is}
use Rattle.moves_coords.proofs.Prelude.{again, again-named, are_named, auto, auto-named, below-test, by_gtids, cons-within, finished-named, following}
use Rattle.moves_coords.proofs.Prelude.{given-within, is_within, list_of, master_taken, moved_below, moved_up, none-within, ops_of, option-within}
use Rattle.moves_coords.proofs.Prelude.{option_or, option_to_list, or-within, replicas-within, replicas_moved_up, replicas_of, repointed}
use Rattle.moves_coords.proofs.Prelude.{repointed_auto, repointed_by, siblings-within, siblings_of, siblings_taken, source-within, source_above}
use Rattle.moves_coords.proofs.Prelude.{source_of, swap, swap-named, under, under-named, unders, unders-named, up, up-named, ups, ups-named}
use Rattle.moves_coords.proofs.Prelude.command

module _ (w : World) (b : BookState) (is : IsBook b) where
  moved-up : (i : ServerNo) (x g : Option ServerNo) → i.0 < length b.names → Within b x → are_named (length b.names) (moved_up i x g) ≡ true
  moved-up i None g at_i at_x = refl
  moved-up i (Some x) None at_i at_x = refl
  moved-up i (Some x) (Some g) at_i at_x = finished-named (length b.names) (up i x g) (Follows i g ∷ []) (up-named (length b.names) i x g at_i at_x)

  replicas-up : (rs : List ServerNo) (i : ServerNo) (x : Option ServerNo) → AllWithin b rs → i.0 < length b.names
      → are_named (length b.names) (replicas_moved_up rs i x) ≡ true
  replicas-up rs i None at_rs at_i = refl
  replicas-up rs i (Some x) at_rs at_i = finished-named (length b.names) (ups rs i x) (following rs x) (ups-named (length b.names) rs i x at_rs at_i)

  moved-below : (i : ServerNo) (d x : Option ServerNo) → i.0 < length b.names → Within b d → are_named (length b.names) (moved_below i d x) ≡ true
  moved-below i None x at_i at_d = refl
  moved-below i (Some d) None at_i at_d = refl
  moved-below i (Some d) (Some x) at_i at_d = finished-named (length b.names) (under i d x) (Follows i d ∷ []) (under-named (length b.names) i d x at_i at_d)

  repointed-named : (i : ServerNo) (x : Option ServerNo) → i.0 < length b.names → are_named (length b.names) (repointed i x) ≡ true
  repointed-named i None at_i = refl
  repointed-named i (Some x) at_i = finished-named (length b.names) (again i x) (Follows i x ∷ []) (again-named (length b.names) i x at_i)

  auto-by : (i : ServerNo) (d : Option ServerNo) → i.0 < length b.names → Within b d → are_named (length b.names) (repointed_auto i d) ≡ true
  auto-by i None at_i at_d = refl
  auto-by i (Some d) at_i at_d = finished-named (length b.names) (auto i d) (Follows i d ∷ []) (auto-named (length b.names) i d at_i at_d)

  repoint : (way : Bool) (i : ServerNo) (d x : Option ServerNo) → i.0 < length b.names → Within b d → Within b x
      → are_named (length b.names) (repointed_by way i d x) ≡ true
  repoint true i d x at_i at_d at_x = auto-by i (option_or d x) at_i (or-within b d x at_d at_x)
  repoint false i d x at_i at_d at_x = repointed-named i x at_i

  siblings-below : (rs : List ServerNo) (i : ServerNo) (x : Option ServerNo) → AllWithin b rs → i.0 < length b.names
      → are_named (length b.names) (siblings_taken rs i x) ≡ true
  siblings-below rs i None at_rs at_i = refl
  siblings-below rs i (Some x) at_rs at_i = finished-named (length b.names) (unders rs i x) (following rs i) (unders-named (length b.names) rs i x at_rs at_i)

  swapped : (i : ServerNo) (x g : Option ServerNo) → i.0 < length b.names → Within b x → are_named (length b.names) (master_taken i x g) ≡ true
  swapped i None g at_i at_x = refl
  swapped i (Some x) None at_i at_x = refl
  swapped i (Some x) (Some g) at_i at_x =
      finished-named (length b.names) (swap i x g) (Follows i g ∷ Follows x i ∷ []) (swap-named (length b.names) i x g at_i at_x)

  ops-named : (c : CoordsCommand) (i : ServerNo) (d : Option ServerNo) → i.0 < length b.names → Within b d → are_named (length b.names) (ops_of w b c i d) ≡ true
  ops-named command.MoveUp i d at_i at_d = moved-up i (source_of b i) (source_above b i) at_i (source-within b i is at_i)
  ops-named command.MoveUpReplicas i d at_i at_d = replicas-up (replicas_of b i) i (source_of b i) (replicas-within b i) at_i
  ops-named command.MoveBelow i d at_i at_d = moved-below i d (source_of b i) at_i at_d
  ops-named command.Repoint i d at_i at_d = repoint (by_gtids w b i) i d (source_of b i) at_i at_d (source-within b i is at_i)
  ops-named command.TakeSiblings i d at_i at_d = siblings-below (siblings_of b i) i (source_of b i) (siblings-within b i) at_i
  ops-named command.TakeMaster i d at_i at_d = swapped i (source_of b i) (source_above b i) at_i (source-within b i is at_i)
  ops-named _ i d at_i at_d = let hi = below-test i.0 (length b.names) at_i in simp (hi) refl

pub plan-named : (w : World) (b : BookState) (kind : Option CoordsCommand) (command : Command) → IsBook b → IsTrue (is_within (length b.names) command.i) → IsTrue (is_within (length b.names) command.d)
    → are_named (length b.names) (about [] (ops_of w b) kind command) ≡ true
plan-named w b kind command is at_i at_d =
    about-is (λ ops. are_named (length b.names) ops ≡ true) [] (ops_of w b) b command refl (given-within b command.i at_i)
    (λ c i at. ops-named w b is c i command.d at (given-within b command.d at_d)) kind

-- ---- leases

pub list-within : (b : BookState) → IsBook b → (c : CoordsCommand) (i : ServerNo) (d : Option ServerNo) → i.0 < length b.names → Within b d → AllWithin b (list_of b c i d)
list-within b is command.MoveUp i d at_i at_d = cons-within b i (option_to_list (source_of b i)) at_i (option-within b (source_of b i) (source-within b i is at_i))
list-within b is command.MoveUpReplicas i d at_i at_d = cons-within b i (replicas_of b i) at_i (replicas-within b i)
list-within b is command.MoveBelow i d at_i at_d = cons-within b i (option_to_list d) at_i (option-within b d at_d)
list-within b is command.TakeSiblings i d at_i at_d = cons-within b i (siblings_of b i) at_i (siblings-within b i)
list-within b is command.TakeMaster i d at_i at_d = cons-within b i (option_to_list (source_of b i)) at_i (option-within b (source_of b i) (source-within b i is at_i))
list-within b is _ i d at_i at_d = cons-within b i [] at_i (none-within b)
