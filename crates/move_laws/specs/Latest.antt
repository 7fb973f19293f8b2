-- The latest of what is kept in order.
use Rattle.std.specs.Prelude.{◌≡◌, ℕ, Bool, true, false, List, ◌∷◌, ◌++◌, All}
use Rattle.move_laws.specs.Prelude.{Bridge, IsFree, IsHeldBack, Moment, Recovery, is_unended}
use Rattle.move_laws.specs.Prelude.held

-- the bridge is of the ring and passes, and none after it does
pub record IsLatest (passes : Bridge → Bool) (ring : List Bridge) (b : Bridge) : Type 0 where
  pub before : List Bridge
  pub behind : List Bridge
  pub split : ring ≡ before ++ b ∷ behind
  pub passed : passes b ≡ true
  pub none : All (λ x. passes x ≡ false) behind

-- a recovery of the cluster is ended
abbrev pub IsClosed : List ℕ → Recovery → Type 0
IsClosed cluster r = r.cluster ≡ cluster → is_unended r ≡ false

-- the recovery with this id blocks others of its cluster until then, and none after it does; none of the cluster is
-- unended
pub record IsLastBlock (cluster : List ℕ) (now id : ℕ) (until : Moment) (recoveries : List Recovery) : Type 0 where
  pub before : List Recovery
  pub behind : List Recovery
  pub recovery : Recovery
  pub split : recoveries ≡ before ++ recovery ∷ behind
  pub blocks : IsHeldBack cluster now (held.Blocked id until) recovery
  pub free : All (IsFree cluster now) behind
  pub ended : All (IsClosed cluster) recoveries
