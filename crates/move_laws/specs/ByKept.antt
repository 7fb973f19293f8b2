-- Operations that go by what their new sources were seen to keep.
use Rattle.std.specs.Prelude.{◌≡◌, ℕ, ◌≤◌, true, List, [], ◌∷◌, Some}
use Rattle.move_laws.specs.Prelude.{BookState, Deed, Op, ServerNo, deed_of, exec_seen, first_seen, holds, purged_seen, set_seen, source_of}
use Rattle.move_laws.specs.Prelude.cross
use Rattle.move_laws.specs.Prelude.deed

-- the server's source was seen to keep the file of the coordinate that was seen of the server
abbrev pub IsPlaceKept : BookState → ServerNo → Type 0
IsPlaceKept b n = (s : ServerNo) → source_of b n ≡ Some s → first_seen b s ≤ (exec_seen b n).file

-- the server was seen to have executed each GTID that another was seen to have purged
abbrev pub IsSetKept : BookState → ServerNo → ServerNo → Type 0
IsSetKept b n m = (uuid k : ℕ) → holds (purged_seen b m) uuid k ≡ true → holds (set_seen b n) uuid k ≡ true

-- an operation before others: one that goes up by a server's coordinate, or on by its own, and one that goes by GTIDs
abbrev pub GoesByKept : BookState → Deed → Type 0 → Type 0
GoesByKept b (deed.Look n from) rest = rest
GoesByKept b (deed.Request n a) rest = rest
GoesByKept b (deed.Until n to) rest = rest
GoesByKept b (deed.Await n to) rest = rest
GoesByKept b (deed.AwaitSet n m) rest = rest
GoesByKept b (deed.Settle n) rest = rest
GoesByKept b (deed.Cross cross.Up n x) rest = IsPlaceKept b x × rest
GoesByKept b (deed.Cross cross.Down n x) rest = rest
GoesByKept b (deed.Cross cross.About n x) rest = rest
GoesByKept b (deed.Cross cross.Back n x) rest = rest
GoesByKept b (deed.Same n) rest = IsPlaceKept b n × rest
GoesByKept b (deed.Auto n m) rest = IsSetKept b n m × rest
GoesByKept b (deed.Match n m every) rest = rest
GoesByKept b (deed.CrossMatch n m) rest = rest
GoesByKept b (deed.Finish lines) rest = rest

abbrev pub AllGoByKept : BookState → List Op → Type 0
AllGoByKept b [] = Unit {0}
AllGoByKept b (op ∷ ops) = GoesByKept b (deed_of op) (AllGoByKept b ops)
