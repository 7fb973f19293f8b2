-- A recovery's turns, with others' between them.
use Rattle.std.specs.Prelude.{◌≡◌, ℕ, true, List, [], ◌∷◌, All}
use Rattle.recovery_covers.specs.Prelude.{AllAllowed, Allowed, BookState, Exchange, HeldRecovery, HeldRings, IsLeased, LeasedRecovery, Leases, Moment, Placed}
use Rattle.recovery_covers.specs.Prelude.{Recovery, World, after, is_going, is_outside, run, server_of, taken}
use Rattle.recovery_covers.specs.SoFar.{CoversSoFar}

-- an exchange that is no orchestrator's; a turn of another job, with its exchanges; a turn of this recovery
pub data Between : Type 0 where
  Outside : (e : Exchange) → Between
  Others : (id : ℕ) (es : List Exchange) → Between
  Own : (b : BookState) (read : ℕ) (now : Moment) → Between

abbrev pub world_by : World → Recovery → Between → World
world_by w r (Outside e) = after w e
world_by w r (Others id es) = run w es
world_by w r (Own b read now) = run w (taken w b read now r).exchanges

abbrev pub recovery_by : World → Recovery → Between → Recovery
recovery_by w r (Outside e) = r
recovery_by w r (Others id es) = r
recovery_by w r (Own b read now) = (taken w b read now r).recovery

-- others keep to their own leases, and a turn of this one goes by a book with `Held`, and goes on
abbrev pub MayCome : Leases → ℕ → World → Recovery → Between → Type 0
MayCome l id w r (Outside e) = (is_outside e ≡ true) × Allowed w e
MayCome l id w r (Others other es) = All (λ e. IsLeased l other (server_of e)) es × (other ≡ id → ⊥) × AllAllowed w es
MayCome l id w r (Own b read now) = HeldRings w b.rings × (is_going (taken w b read now r).step ≡ true)

abbrev pub AllMayCome : Leases → ℕ → World → Recovery → List Between → Type 0
AllMayCome l id w r [] = Unit {0}
AllMayCome l id w r (x ∷ xs) = MayCome l id w r x × AllMayCome l id (world_by w r x) (recovery_by w r x) xs

abbrev pub world_after : World → Recovery → List Between → World
world_after w r [] = w
world_after w r (x ∷ xs) = world_after (world_by w r x) (recovery_by w r x) xs

abbrev pub recovery_after : World → Recovery → List Between → Recovery
recovery_after w r [] = r
recovery_after w r (x ∷ xs) = recovery_after (world_by w r x) (recovery_by w r x) xs

-- what holds for an unended recovery, with errant writes or without
pub record UnderWay (l : Leases) (id : ℕ) (w : World) (r : Recovery) : Type 0 where
  pub placed : Placed w
  pub held : HeldRecovery w r
  pub covers : CoversSoFar w r
  pub leased : LeasedRecovery l id r
