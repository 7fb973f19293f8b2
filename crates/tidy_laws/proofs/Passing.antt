-- Each `Passage` with `IsNeatPassage` leaves a `Flight` with `IsNeat`.
use Rattle.std.proofs.Common.{◌≡◌, ℕ, Bool, true, false, List, [], ◌∷◌, length, refl, ◌∙◌, ap, subst, Option, Some, None, All, IfSome, slice_set}
use Rattle.tidy_laws.proofs.Prelude.{All-at, All-nil, All-replicate, All-ring, All-set, AreNeatPassages, Bridge, Clusters, Flight, IsNeat}
use Rattle.tidy_laws.proofs.Prelude.{IsNeatPassage, IsNeatTurn, IsReadWithin, IsWithinCluster, Job, Moment, Observation, Passage, Placed-after}
use Rattle.tidy_laws.proofs.Prelude.{Placed-run, Position, ServerNo, Status, StoodWithin, Turned, after_turn, bridge-parts, bridge_in, job_at, label}
use Rattle.tidy_laws.proofs.Prelude.{observed, passed, passing, position_of, ring_at, ringed, same_Some, slot_of, stored_if, turned, turned_by}
use Rattle.tidy_laws.proofs.Prelude.Bridges.{with_bridge}
use Rattle.tidy_laws.proofs.Prelude.pass
use Rattle.tidy_laws.proofs.Exchanged.{trim-after, trim-run}
use Rattle.tidy_laws.proofs.Turns.{read-within}

module _ (c : Clusters) where
  -- ---- a reading that is stored

  pub bridge-read : (n : ServerNo) (o : Option Status) (b : Bridge) → ((s : Status) → o ≡ Some s → StoodWithin c n.0 (position_of s)) → bridge_in n o ≡ Some b → IsWithinCluster c b
  bridge-read n None b stood h = cc
  bridge-read n (Some s) b stood h =
      let p = bridge-parts n (Some (position_of s)) b h in
      let at : StoodWithin c n.0 p.seen = subst (λ (q : Position). StoodWithin c n.0 q) (same_Some (position_of s) p.seen p.is) (stood s refl) in
      at.source b.source.0 p.from ∙ ap (λ (k : ℕ). label (c k)) p.no

  rings-stored : (rings : List (List Bridge)) (n : ServerNo) (o : Option Bridge) → ((b : Bridge) → o ≡ Some b → IsWithinCluster c b) → All (All (IsWithinCluster c)) rings
      → All (All (IsWithinCluster c)) (ringed rings n o)
  rings-stored rings n None one all = all
  rings-stored rings n (Some b) one all =
      All-set (All (IsWithinCluster c)) rings n.0 (with_bridge (ring_at rings n) b)
      (All-ring (IsWithinCluster c) (ring_at rings n) b (one b refl) (All-at (All (IsWithinCluster c)) rings n.0 [] (All-nil (IsWithinCluster c)) all)) all

  neat-stored : (keeps : Bool) (f : Flight) (o : Option Observation) → IfSome o (IsReadWithin c) → IsNeat c f → IsNeat c (stored_if keeps f o)
  neat-stored keeps f None read neat = neat
  neat-stored false f (Some o) read neat = neat
  neat-stored true f (Some o) read neat = record {
    placed = neat.placed;
    trim = neat.trim;
    rings = rings-stored f.rings o.no (bridge_in o.no o.seen) (λ b h. bridge-read o.no o.seen b read h) neat.rings;
    slots = neat.slots;
  }

  neat-slotted : (f : Flight) (p : ℕ) (o : Option Observation) → IfSome o (IsReadWithin c) → IsNeat c f → IsNeat c (record f { slots = slice_set f.slots p o })
  neat-slotted f p o read neat = record {
    placed = neat.placed;
    trim = neat.trim;
    rings = neat.rings;
    slots = All-set (λ (slot : Option Observation). IfSome slot (IsReadWithin c)) f.slots p o read neat.slots;
  }

  -- ---- a job's turn

  neat-turn : (f : Flight) (id : ℕ) (t : Turned) (keeps : Bool) → IsNeat c f → IsNeatTurn c f.world t → IsNeat c (stored_if keeps (after_turn f id t) t.observation)
  neat-turn f id t keeps neat turn =
      neat-stored keeps (after_turn f id t) t.observation turn.read
      (record {
        placed = Placed-run f.world t.exchanges neat.placed turn.allowed;
        trim = trim-run c f.world t.exchanges neat.trim turn.allowed turn.orderly;
        rings = neat.rings;
        slots = neat.slots;
      })

  neat-by : (f : Flight) (id read : ℕ) (now : Moment) (keeps : Bool) (o : Option Job) → IsNeat c f → ((j : Job) → o ≡ Some j → IsNeatTurn c f.world (turned f.world read now j))
      → IsNeat c (turned_by f id read now keeps o)
  neat-by f id read now keeps None neat turn = neat
  neat-by f id read now keeps (Some j) neat turn = neat-turn f id (turned f.world read now j) keeps neat (turn j refl)

  -- ---- every `Passage`

  pub neat-passed : (f : Flight) (p : Passage) → IsNeat c f → IsNeatPassage c f p → IsNeat c (passed f p)
  neat-passed f (pass.Exchanging e) neat fine = record {
    placed = Placed-after f.world e neat.placed fine.0;
    trim = trim-after c f.world e neat.trim fine.0 fine.1;
    rings = neat.rings;
    slots = neat.slots;
  }
  neat-passed f (pass.Polling p n read now) neat fine = neat-slotted f p (Some (observed f.world read now n)) (read-within c f.world neat.placed neat.trim read now n) neat
  neat-passed f (pass.Storing p keeps) neat fine =
      neat-slotted (stored_if keeps f (slot_of f p)) p None tt
      (neat-stored keeps f (slot_of f p) (All-at (λ (slot : Option Observation). IfSome slot (IsReadWithin c)) f.slots p None tt neat.slots) neat)
  neat-passed f (pass.Discovering n read now) neat fine = neat-stored true f (Some (observed f.world read now n)) (read-within c f.world neat.placed neat.trim read now n) neat
  neat-passed f (pass.Forgetting n) neat fine = record {
    placed = neat.placed;
    trim = neat.trim;
    rings = All-set (All (IsWithinCluster c)) f.rings n.0 [] (All-nil (IsWithinCluster c)) neat.rings;
    slots = neat.slots;
  }
  neat-passed f pass.Restarting neat fine = record {
    placed = neat.placed;
    trim = neat.trim;
    rings = All-replicate (All (IsWithinCluster c)) (length f.rings) [] (All-nil (IsWithinCluster c));
    slots = All-replicate (λ (slot : Option Observation). IfSome slot (IsReadWithin c)) (length f.slots) None tt;
  }
  neat-passed f (pass.Beginning list j) neat fine = record { placed = neat.placed; trim = neat.trim; rings = neat.rings; slots = neat.slots }
  neat-passed f (pass.Turning id read now keeps) neat fine = neat-by f id read now keeps (job_at f.jobs id) neat fine
  neat-passed f (pass.Taking id t keeps) neat fine = neat-turn f id t keeps neat fine

  pub neat-passing : (f : Flight) (ps : List Passage) → IsNeat c f → AreNeatPassages c f ps → IsNeat c (passing f ps)
  neat-passing f [] neat fine = neat
  neat-passing f (p ∷ ps) neat fine = neat-passing (passed f p) ps (neat-passed f p neat fine.0) fine.1
