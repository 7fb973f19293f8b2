-- What the operations that are left may count on, one after another.
use Rattle.std.specs.Prelude.{◌≡◌, ℕ, Bool, true, false, ◌==◌, ◌&&◌, ◌||◌, if◌then◌else◌, List, [], ◌∷◌, Option, Some, None, is_some}
use Rattle.job_laws.specs.Prelude.{Aim, Crossing, Deed, Op, Position, ServerNo, Sight, World, deed_of, logs_by, seen_of, server_at, source_no}
use Rattle.job_laws.specs.Prelude.aim
use Rattle.job_laws.specs.Prelude.cross
use Rattle.job_laws.specs.Prelude.deed

-- Whether the servers use GTIDs, which servers log for sure, and which were read. Then the source that the last reading
-- of each has for sure.
pub record Footing : Type 0 where
  pub gtid : Bool
  pub logs : ℕ → Bool
  pub read : ℕ → Bool
  pub under : ℕ → Option ℕ

-- one may count on all of the first if one may count on the second
pub record Within (f g : Footing) : Type 0 where
  pub gtid : f.gtid ≡ true → g.gtid ≡ true
  pub logs : (n : ℕ) → f.logs n ≡ true → g.logs n ≡ true
  pub read : (n : ℕ) → f.read n ≡ true → g.read n ≡ true
  pub under : (n m : ℕ) → f.under n ≡ Some m → g.under n ≡ Some m

abbrev pub is_under : Option ℕ → ℕ → Bool
is_under None m = false
is_under (Some k) m = k == m

-- the server was read; of one whose own end is the aim it is sure that it logs
abbrev pub finds_aim : Footing → Aim → Bool
finds_aim f (aim.EndOf n) = f.read n.0 && f.logs n.0
finds_aim f (aim.ExecOf n) = f.read n.0

-- The server by which it goes logs, and its last reading has a source. That is the one that is named, if the
-- reattachment attaches that server, or goes by its own end.
abbrev pub finds_crossing : Footing → Crossing → ServerNo → ServerNo → Bool
finds_crossing f cross.Up a b = is_some (f.under b.0) && f.logs b.0
finds_crossing f cross.Down a b = is_some (f.under b.0) && f.logs b.0
finds_crossing f cross.About a b = is_under (f.under b.0) a.0 && f.logs b.0
finds_crossing f cross.Back a b = is_under (f.under a.0) b.0 && f.logs a.0

-- an operation finds what it uses
abbrev pub finds : Footing → Deed → Bool
finds f (deed.Look n from) = true
finds f (deed.Request n a) = true
finds f (deed.Until n to) = f.read n.0 && finds_aim f to
finds f (deed.Await n to) = finds_aim f to
finds f (deed.AwaitSet n m) = f.read m.0
finds f (deed.Settle n) = true
finds f (deed.Cross c a b) = finds_crossing f c a b
finds f (deed.Same n) = is_some (f.under n.0)
finds f (deed.Auto n m) = f.gtid && (f.read m.0 && f.logs m.0)
finds f (deed.Match n m every) = true
finds f (deed.CrossMatch n m) = f.logs m.0
finds f (deed.Finish lines) = true

-- a server was read, and the reading is sure to show this source
abbrev pub reading : Footing → ServerNo → Option ℕ → Footing
reading f n source = record f { read = λ k. (n.0 == k) || f.read k; under = λ k. if n.0 == k then source else f.under k }

abbrev pub logging : Footing → ℕ → Footing
logging f m = record f { logs = λ k. (m == k) || f.logs k }

abbrev pub looking : Footing → ServerNo → Option ServerNo → Footing
looking f n None = reading f n None
looking f n (Some m) = logging (reading f n (Some m.0)) m.0

-- what one may count on once it is done: a status that names a source shows that source, which logs; what is read while
-- waiting may show any
abbrev pub learn : Footing → Deed → Footing
learn f (deed.Look n from) = looking f n from
learn f (deed.Request n a) = f
learn f (deed.Until n to) = f
learn f (deed.Await n to) = reading f n None
learn f (deed.AwaitSet n m) = reading f n None
learn f (deed.Settle n) = reading f n None
learn f (deed.Cross c a b) = f
learn f (deed.Same n) = f
learn f (deed.Auto n m) = f
learn f (deed.Match n m every) = f
learn f (deed.CrossMatch n m) = f
learn f (deed.Finish lines) = f

-- each operation that is left finds what it uses once those before it are done
abbrev pub are_held : Footing → List Op → Bool
are_held f [] = true
are_held f (op ∷ ops) = finds f (deed_of op) && are_held (learn f (deed_of op)) ops

-- a server of the world that logs
abbrev pub logs_at : World → ℕ → Bool
logs_at w n = logs_by (server_at w n)

abbrev pub source_shown : Option Position → Option ℕ
source_shown None = None
source_shown (Some s) = source_no s.source

-- what a job may count on now
abbrev pub footing : World → List Sight → Footing
footing w seen = record {
  gtid = w.gtid;
  logs = logs_at w;
  read = λ n. is_some (seen_of seen n);
  under = λ n. source_shown (seen_of seen n);
}

-- what no operation takes away: whether GTIDs are used, and who logs
pub record SameBase (f g : Footing) : Type 0 where
  pub gtid : f.gtid ≡ true → g.gtid ≡ true
  pub logs : (n : ℕ) → f.logs n ≡ true → g.logs n ≡ true
