-- A run begins neat: the bridges of an opening are those that its servers show.
use Rattle.std.proofs.Common.{◌≡◌, ℕ, List, [], length, sym, subst, Some, None, All, IfSome}
use Rattle.tidy_laws.proofs.Prelude.{All-nil, All-replicate, Bridge, Clusters, Fits-start, IsNeat, IsReadWithin, IsScenario, IsTrim, IsWithinCluster}
use Rattle.tidy_laws.proofs.Prelude.{Opens-start, Placed, Placed-safe, Row, Safe-opened, Scenario, ServerNo, UntilsCanBePrinted, bridge_in}
use Rattle.tidy_laws.proofs.Prelude.{cluster_at, flight_of, flushes_of, flushes_of-few, greatest_id, loaded_book, opened-rings, pollers, rings-loaded}
use Rattle.tidy_laws.proofs.Prelude.{room_of, room_of-few, seen_in, settings_of, start, start_changes, start_moment, start_world, status}
use Rattle.tidy_laws.proofs.Opened.{trim-opened}
use Rattle.tidy_laws.proofs.Passing.{bridge-read}
use Rattle.tidy_laws.proofs.Turns.{stood-within}

module _ (s : Scenario) (wait : ℕ) (rows : List Row) (is : IsScenario s) (untils : UntilsCanBePrinted s) where
  abbrev pub clusters : Clusters
  clusters = cluster_at (start_world s)

  placed : Placed (start_world s)
  placed = Placed-safe (start_world s) (Safe-opened s.opening (room_of s) (flushes_of s) is.checked)

  trim : IsTrim clusters (start_world s)
  trim = trim-opened s.opening (room_of s) (flushes_of s) is.checked untils (Fits-start s) (room_of-few s is) (flushes_of-few s is)

  shown-within : (n : ServerNo) (b : Bridge) → bridge_in n (seen_in (status (start_world s) n.0)) ≡ Some b → IsWithinCluster clusters b
  shown-within n b h = bridge-read clusters n (seen_in (status (start_world s) n.0)) b (λ seen at. stood-within clusters (start_world s) placed trim n.0 seen at) h

  pub neat-start : IsNeat clusters (flight_of (start s wait rows))
  neat-start = record {
    placed = placed;
    trim = trim;
    rings =
        opened-rings (start_world s) (start_moment s rows) (IsWithinCluster clusters) shown-within (loaded_book s rows) (start_changes s rows) (Opens-start s rows)
        (subst (All (All (IsWithinCluster clusters))) (sym (rings-loaded (settings_of s) greatest_id rows))
        (All-replicate (All (IsWithinCluster clusters)) (length (settings_of s)) [] (All-nil (IsWithinCluster clusters))));
    slots = All-replicate (λ slot. IfSome slot (IsReadWithin clusters)) pollers None tt;
  }
