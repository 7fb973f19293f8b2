-- That jobs, readings and bridges go by servers of one cluster.
use Rattle.std.specs.Prelude.{◌≡◌, ℕ, List, [], ◌∷◌, IfSome, Option, Some, None}
use Rattle.tidy_laws.specs.Prelude.{Attempt, Bridge, Deed, Ends, Exchange, Goes, IsWritten, Job, Observation, Op, Position, Sight, Status, Stops}
use Rattle.tidy_laws.specs.Prelude.{Turned, Without, World, deed_of, position_of, seen_of, source_no}
use Rattle.tidy_laws.specs.Prelude.deed
use Rattle.tidy_laws.specs.Clusters.{AreAlike, Clusters}
use Rattle.tidy_laws.specs.Trim.{AllOrderly, IsOrderlyAsk}

-- ---- what was seen

-- server n's position: the source is of its cluster, and without one the coordinate can be printed
pub record StoodWithin (c : Clusters) (n : ℕ) (p : Position) : Type 0 where
  pub source : (m : ℕ) → source_no p.source ≡ Some m → AreAlike c m n
  pub bare : p.source ≡ Without → IsWritten p.exec

abbrev pub AllWithin : Clusters → List Sight → Type 0
AllWithin c xs = (n : ℕ) (p : Position) → seen_of xs n ≡ Some p → StoodWithin c n p

abbrev pub IsReadWithin : Clusters → Observation → Type 0
IsReadWithin c o = (seen : Status) → o.seen ≡ Some seen → StoodWithin c o.no.0 (position_of seen)

abbrev pub IsWithinCluster : Clusters → Bridge → Type 0
IsWithinCluster c b = AreAlike c b.source.0 b.no.0

-- ---- what is to be done

-- An operation is due before others. An attachment by a set and one by a match stay within the cluster. A status that
-- names a source, and a match that is found, mean that the two are of one cluster.
abbrev pub IsDueWithin : Clusters → Deed → Type 0 → Type 0
IsDueWithin c (deed.Look n None) rest = rest
IsDueWithin c (deed.Look n (Some m)) rest = AreAlike c m.0 n.0 → rest
IsDueWithin c (deed.Request n a) rest = IsOrderlyAsk a × rest
IsDueWithin c (deed.Until n to) rest = rest
IsDueWithin c (deed.Await n to) rest = rest
IsDueWithin c (deed.AwaitSet n m) rest = rest
IsDueWithin c (deed.Settle n) rest = rest
IsDueWithin c (deed.Cross d a b) rest = rest
IsDueWithin c (deed.Same n) rest = rest
IsDueWithin c (deed.Auto n m) rest = AreAlike c m.0 n.0 × rest
IsDueWithin c (deed.Match n m every) rest = AreAlike c m.0 n.0 → rest
IsDueWithin c (deed.CrossMatch n m) rest = AreAlike c m.0 n.0 × rest
IsDueWithin c (deed.Finish lines) rest = rest

abbrev pub AreDueWithin : Clusters → List Op → Type 0
AreDueWithin c [] = Unit {0}
AreDueWithin c (op ∷ ops) = IsDueWithin c (deed_of op) (AreDueWithin c ops)

-- an unended job
pub record IsJobWithin (c : Clusters) (j : Job) : Type 0 where
  pub seen : AllWithin c j.seen
  pub left : AreDueWithin c j.ops

-- ---- what a turn does

pub record GoesWithin (c : Clusters) (w : World) (o : Option Observation) (es : List Exchange) (j : Job) : Type 0 where
  pub orderly : AllOrderly c w es
  pub job : IsJobWithin c j
  pub read : IfSome o (IsReadWithin c)

abbrev pub IsTriedWithin : Clusters → World → Attempt → Type 0
IsTriedWithin c w (Goes o es j) = GoesWithin c w o es j
IsTriedWithin c w (Stops cause o) = IfSome o (IsReadWithin c)
IsTriedWithin c w (Ends lines) = Unit {0}

abbrev pub IsTurnWithin : Clusters → World → Turned → Type 0
IsTurnWithin c w t = GoesWithin c w t.observation t.exchanges t.job
