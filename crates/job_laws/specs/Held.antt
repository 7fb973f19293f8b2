-- What holds for jobs and readings in every world, with errant writes or without.
use Rattle.std.specs.Prelude.{◌≡◌, ℕ, true, List, Option, Some, None, Err}
use Rattle.job_laws.specs.Prelude.{AllAllowed, Attempt, Bridge, Deed, Exchange, IsPosition, IsTarget, Job, Op, Placed, Position, ServerNo, Sight}
use Rattle.job_laws.specs.Prelude.{Turned, World, after_answer, attach_answer_of, by_match, by_set, can_attach, crossing_of, match_found, run}
use Rattle.job_laws.specs.Prelude.{same_again, seen_of}
use Rattle.job_laws.specs.Prelude.attaching
use Rattle.job_laws.specs.Prelude.deed
use Rattle.job_laws.specs.Footing.{Footing, footing, finds, learn, are_held}
use Rattle.job_laws.specs.Matched.{ArePlaced, are_matched, finds_match, matched_by, matched_in}

-- a server's observed position was a true one
abbrev pub ShowsAt : World → ℕ → Position → Type 0
ShowsAt w n seen = IsPosition w n seen.own_end seen.source seen.exec seen.set

-- what was seen of each server was true
abbrev pub AllShow : World → List Sight → Type 0
AllShow w xs = (n : ℕ) (seen : Position) → seen_of xs n ≡ Some seen → ShowsAt w n seen

-- A job's invariant: each operation that is left finds what it uses, and the match by which it goes. What the job saw
-- was true, and the matches that it found have their places.
pub record HeldJob (w : World) (j : Job) : Type 0 where
  pub left : are_held (footing w j.seen) j.ops ≡ true
  pub shown : AllShow w j.seen
  pub matched : are_matched (matched_in j.matches) j.ops ≡ true
  pub ends : ArePlaced w j.matches

-- both ends of a bridge have places in the logs of servers that log
pub record Spans (w : World) (b : Bridge) : Type 0 where
  pub own : IsTarget w b.no.0 b.own
  pub exec : IsTarget w b.source.0 b.exec

-- a turn of a job makes exchanges that are allowed, each in the world to which those before it led, and the job has
-- `Held` after it
pub record KeepsHeld (w : World) (t : Turned) : Type 0 where
  pub allowed : AllAllowed w t.exchanges
  pub held : HeldJob (run w t.exchanges) t.job

-- What is due: the operation finds what it uses, and the match by which it goes, and those after it once it is done. If
-- it is due again, and finds what it uses, so it is with all that is left.
pub record IsDue (w : World) (j : Job) (rest : List Op) (d : Deed) : Type 0 where
  pub found : finds (footing w j.seen) d ≡ true
  pub left : are_held (learn (footing w j.seen) d) rest ≡ true
  pub again : (g : Footing) → finds g d ≡ true → are_held (learn g d) rest ≡ true → are_held g j.ops ≡ true
  pub match : finds_match (matched_in j.matches) d ≡ true
  pub matched : are_matched (matched_by (matched_in j.matches) d) rest ≡ true
  pub still : are_matched (matched_in j.matches) j.ops ≡ true

-- A job may take a turn by this operation, before those. Its world has `Placed`, what it saw was true, and the matches
-- that it found have their places.
pub record IsNext (w : World) (j : Job) (rest : List Op) (d : Deed) : Type 0 where
  pub placed : Placed w
  pub shown : AllShow w j.seen
  pub ends : ArePlaced w j.matches
  pub due : IsDue w j rest d

-- a change of source was found by what was seen; it's made, or stops its job by what it is answered: it isn't passed
-- over
pub record IsTried (w : World) (j : Job) (rest : List Op) (n : ServerNo) (o : Option Exchange) (a : Attempt) : Type 0 where
  pub exchange : Exchange
  pub found : o ≡ Some exchange
  pub can : can_attach w exchange ≡ true
  pub attempt : a ≡ after_answer j rest n exchange (attach_answer_of w exchange)

-- the change of source that an operation makes of what its job saw and found
abbrev pub attachment_of : Job → Deed → Option Exchange
attachment_of j (deed.Look n from) = None
attachment_of j (deed.Request n a) = None
attachment_of j (deed.Until n to) = None
attachment_of j (deed.Await n to) = None
attachment_of j (deed.AwaitSet n m) = None
attachment_of j (deed.Settle n) = None
attachment_of j (deed.Cross c a b) = crossing_of j.seen c a b
attachment_of j (deed.Same n) = same_again n (seen_of j.seen n.0)
attachment_of j (deed.Auto n m) = by_set n m (seen_of j.seen m.0)
attachment_of j (deed.Match n m every) = None
attachment_of j (deed.CrossMatch n m) = by_match n m (match_found j.matches n m)
attachment_of j (deed.Finish lines) = None

-- it is there and can be made, and is answered that it would go on in a purged file: the new source keeps its log from
-- this one on
pub record IsPurged (w : World) (first : ℕ) (o : Option Exchange) : Type 0 where
  pub exchange : Exchange
  pub found : o ≡ Some exchange
  pub can : can_attach w exchange ≡ true
  pub answer : attach_answer_of w exchange ≡ Err (attaching.Purged first)
