-- The operations of a plan, and the leases, are of the book's servers, if the command's instances are.
use Rattle.std.proofs.Common.{◌≡◌, ℕ, ◌<◌, Bool, true, false, List, [], ◌∷◌, ◌++◌, length, refl, subst, Option, Some, None, zero, suc}
use Rattle.std.specs.Prelude.{All, IfSome, IsTrue, if◌then◌else◌, nat_lt, option_and_then, option_map, slice_get, ◌==◌}
use Rattle.regroup.proofs.Prelude.{All-append, All-head, All-tail, AllWithin, BookState, Command, Path, PathCommand, ServerNo, Within, World, about}
use Rattle.regroup.proofs.Prelude.{about-is, above, again-named, are_named, arrived, ascended, autos-named, book_forest, but-within, by_name, climbed}
use Rattle.regroup.proofs.Prelude.{cons-within, finished-named, flat_map, following, given-within, is_given, is_within, joined-named, list_of}
use Rattle.regroup.proofs.Prelude.{moved_by, moving_list, next_of, node_at, none-within, ops_of, option-within, option_to_list, parent_at, parent_of}
use Rattle.regroup.proofs.Prelude.{passed_by, passed_in, path_of, path_to, placed-within, relocated, replicas-within, replicas_but, replicas_of}
use Rattle.regroup.proofs.Prelude.{same_Some, server_at, source_of, travelled, under, under-named, up, up-named, way_above, way_in, way_on, way_up}
use Rattle.regroup.proofs.Prelude.command
use Rattle.regroup.proofs.Climbing.{passed-to}

-- ---- what is passed

placed : (b : BookState) (o : Option ℕ) → Within b (option_and_then (server_at b) o)
placed b None = tt
placed b (Some k) = go (slice_get (by_name b.names) k) refl
  where
    go : (s : Option ServerNo) → slice_get (by_name b.names) k ≡ s → Within b s
    go None e = tt
    go (Some s) e = placed-within b.names (by_name b.names) k s refl e

parent-within : (b : BookState) (at : ServerNo) → Within b (parent_at b at)
parent-within b at = go (nat_lt at.0 (length b.names))
  where
    go : (t : Bool) → Within b (if t then parent_of b at else None)
    go true = placed b (above (book_forest b) (node_at b at))
    go false = tt

abbrev WayWithin : BookState → Option (List ServerNo) → Type 0
WayWithin b o = IfSome o (AllWithin b)

further : (b : BookState) (p : ServerNo) → p.0 < length b.names → (t : Bool) (o : Option (List ServerNo)) → WayWithin b o
    → WayWithin b (if t then Some [] else option_map (λ passed. p ∷ passed) o)
further b p at_p true o h = none-within b
further b p at_p false None h = tt
further b p at_p false (Some xs) h = cons-within b p xs at_p h

way-within : (b : BookState) (to : ServerNo) (n : ℕ) (at : ServerNo) → WayWithin b (way_in (parent_at b) to n at)
way-within b to zero at = tt
way-within b to (suc n) at = go (parent_at b at) (parent-within b at) (λ p. way-within b to n p)
  where
    go : (o : Option ServerNo) → Within b o → ((p : ServerNo) → WayWithin b (way_in (parent_at b) to n p)) → WayWithin b (way_on (way_in (parent_at b) to n) to o)
    go None at_o rest = tt
    go (Some p) at_o rest = further b p at_o (p.0 == to.0) (way_in (parent_at b) to n p) (rest p)

known-way : (b : BookState) (n to : ServerNo) (xs : List ServerNo) → way_up b n to ≡ Some xs → AllWithin b xs
known-way b n to xs e = by_source (is_given to (source_of b n)) e
  where
    go : (o : Option (List ServerNo)) → WayWithin b o → o ≡ Some xs → AllWithin b xs
    go None at e = cc
    go (Some ys) at e = subst (AllWithin b) (same_Some ys xs e) at

    by_source : (t : Bool) → (if t then Some [] else way_above b n to) ≡ Some xs → AllWithin b xs
    by_source true e = subst (AllWithin b) (same_Some [] xs e) (none-within b)
    by_source false e = go (way_above b n to) (way-within b to (length b.names) n) e

passed-within : (b : BookState) (d : Option ServerNo) (n : ServerNo) → AllWithin b (passed_in (path_to b d n))
passed-within b d n = passed-to (AllWithin b) b n (none-within b) (known-way b n) d

all-passed-within : (b : BookState) (d : Option ServerNo) (movers : List ServerNo) → AllWithin b (flat_map (λ n. passed_in (path_to b d n)) movers)
all-passed-within b d [] = none-within b
all-passed-within b d (n ∷ ns) =
    All-append (λ (m : ServerNo). m.0 < length b.names) (passed_in (path_to b d n)) (flat_map (λ m. passed_in (path_to b d m)) ns)
    (passed-within b d n) (all-passed-within b d ns)

-- ---- operations

module _ (count : ℕ) where
  abbrev Below : ServerNo → Type 0
  Below n = n.0 < count

  climbed-named : (n : ServerNo) (xs : List ServerNo) (to : ServerNo) → Below n → All Below xs → are_named count (climbed n xs to) ≡ true
  climbed-named n [] to at_n below = refl
  climbed-named n (x ∷ xs) to at_n below =
      joined-named count (up n x (next_of xs to)) (climbed n xs to) (up-named count n x (next_of xs to) at_n (All-head Below x xs below))
      (climbed-named n xs to at_n (All-tail Below x xs below))

  ascended-named : (n d : ServerNo) (xs : List ServerNo) → Below n → All Below xs → are_named count (ascended n d xs) ≡ true
  ascended-named n d [] at_n below = again-named count n d at_n
  ascended-named n d (x ∷ xs) at_n below = climbed-named n (x ∷ xs) d at_n below

  arrived-named : (n d : ServerNo) (xs : List ServerNo) (o : Option ServerNo) → Below n → Below d → All Below xs → are_named count (arrived n d xs o) ≡ true
  arrived-named n d xs None at_n at_d below = ascended-named n d xs at_n below
  arrived-named n d xs (Some s) at_n at_d below =
      joined-named count (climbed n xs s) (under n d s) (climbed-named n xs s at_n below) (under-named count n d s at_n at_d)

  travelled-named : (n d : ServerNo) (o : Option Path) → Below n → Below d → All Below (passed_in o) → are_named count (travelled n d o) ≡ true
  travelled-named n d None at_n at_d below = refl
  travelled-named n d (Some p) at_n at_d below = arrived-named n d p.passed p.under at_n at_d below

module _ (b : BookState) where
  each-named : (movers : List ServerNo) (d : ServerNo) → AllWithin b movers → d.0 < length b.names
      → are_named (length b.names) (flat_map (λ n. travelled n d (path_of b n d)) movers) ≡ true
  each-named [] d at_movers at_d = refl
  each-named (n ∷ ns) d at_movers at_d =
      joined-named (length b.names) (travelled n d (path_of b n d)) (flat_map (λ m. travelled m d (path_of b m d)) ns)
      (travelled-named (length b.names) n d (path_of b n d) (All-head (λ (m : ServerNo). m.0 < length b.names) n ns at_movers) at_d (passed-within b (Some d) n))
      (each-named ns d (All-tail (λ (m : ServerNo). m.0 < length b.names) n ns at_movers) at_d)

  moved-named : (gtid : Bool) (movers : List ServerNo) (d : ServerNo) → AllWithin b movers → d.0 < length b.names
      → are_named (length b.names) (moved_by gtid b movers d) ≡ true
  moved-named true movers d at_movers at_d = autos-named (length b.names) movers d at_movers at_d
  moved-named false movers d at_movers at_d = each-named movers d at_movers at_d

  relocated-named : (gtid : Bool) (movers : List ServerNo) (d : Option ServerNo) → AllWithin b movers → Within b d
      → are_named (length b.names) (relocated gtid b movers d) ≡ true
  relocated-named gtid movers None at_movers at_d = refl
  relocated-named gtid movers (Some d) at_movers at_d =
      finished-named (length b.names) (moved_by gtid b movers d) (following movers d) (moved-named gtid movers d at_movers at_d)

  ops-named : (w : World) (c : PathCommand) (i : ServerNo) (d : Option ServerNo) → i.0 < length b.names → Within b d
      → are_named (length b.names) (ops_of w b c i d) ≡ true
  ops-named w command.Relocate i d at_i at_d = relocated-named w.gtid (i ∷ []) d (cons-within b i [] at_i (none-within b)) at_d
  ops-named w command.RelocateReplicas i d at_i at_d = relocated-named w.gtid (replicas_but b i d) d (but-within b i d) at_d
  ops-named w command.RegroupReplicas i d at_i at_d = refl

pub plan-named : (w : World) (b : BookState) (kind : Option PathCommand) (command : Command) → IsTrue (is_within (length b.names) command.i) → IsTrue (is_within (length b.names) command.d)
    → are_named (length b.names) (about [] (ops_of w b) kind command) ≡ true
plan-named w b kind command at_i at_d =
    about-is (λ ops. are_named (length b.names) ops ≡ true) [] (ops_of w b) b command refl (given-within b command.i at_i)
    (λ c i at. ops-named b w c i command.d at (given-within b command.d at_d)) kind

-- ---- leases

passed-by-within : (b : BookState) (gtid : Bool) (movers : List ServerNo) (d : Option ServerNo) → AllWithin b (passed_by gtid b movers d)
passed-by-within b true movers d = none-within b
passed-by-within b false movers d = all-passed-within b d movers

moving-within : (w : World) (b : BookState) (movers : List ServerNo) (d : Option ServerNo) → AllWithin b movers → Within b d → AllWithin b (moving_list w b movers d)
moving-within w b movers d at_movers at_d =
    All-append (λ (m : ServerNo). m.0 < length b.names) movers (option_to_list d ++ passed_by w.gtid b movers d) at_movers
    (All-append (λ (m : ServerNo). m.0 < length b.names) (option_to_list d) (passed_by w.gtid b movers d) (option-within b d at_d) (passed-by-within b w.gtid movers d))

pub list-within : (w : World) (b : BookState) (c : PathCommand) (i : ServerNo) (d : Option ServerNo) → i.0 < length b.names → Within b d → AllWithin b (list_of w b c i d)
list-within w b command.Relocate i d at_i at_d = moving-within w b (i ∷ []) d (cons-within b i [] at_i (none-within b)) at_d
list-within w b command.RelocateReplicas i d at_i at_d = moving-within w b (replicas_but b i d) d (but-within b i d) at_d
list-within w b command.RegroupReplicas i d at_i at_d = cons-within b i (replicas_of b i) at_i (replicas-within b i)
