-- What is taken after a scenario's turns, stage by stage. If several orchestrators share the kept rows, a single
-- command's claim comes first. Then come its own turn, and the rounds of the job that it began.
use Rattle.std.specs.Prelude.{◌≡◌, ℕ, ◌==◌, ◌≤◌, ◌⊎◌, ◌++◌, Bool, List, [], ◌∷◌, length, take, Option, Some, None, if◌then◌else◌}
use Rattle.tasks.specs.Prelude.{CommandTurn, Ran, Recorded, Row, State, Turn, active, is_of, nodes_of, option_to_list, recorder}
use Rattle.tasks.specs.Prelude.act
use Rattle.tasks.specs.Prelude.turn
use Rattle.tasks.specs.declared.asked.Asked.{Asked}
use Rattle.tasks.specs.declared.asked.Asked.TheVariants as asked
use Rattle.tasks.specs.Closing.{closing}
use Rattle.tasks.specs.Works.{IsCut}

-- ---- by which orchestrator a single command is taken

-- there is only one
abbrev pub is_alone : State → Bool
is_alone s = nodes_of s == 1

abbrev pub active_in : State → Option ℕ
active_in s = active s.claims s.moment

-- the active one; if none is, the first, if the kept claim is its own
abbrev pub taker_by : Option ℕ → Bool → Option ℕ
taker_by (Some node) first = Some node
taker_by None first = if first then Some 1 else None

abbrev pub taker : State → Option ℕ
taker s = taker_by (active_in s) (is_of 1 s.claims.kept)

-- ---- its claim and its turn

-- if none is active the first one claims
abbrev pub claim_without : Option ℕ → Option Turn
claim_without (Some node) = None
claim_without None = Some (turn.Claim 1)

-- the claim ahead of a command, if there are several
abbrev pub claim_ahead : State → Option Turn
claim_ahead s = if is_alone s then None else claim_without (active_in s)

-- the command's turn as this one's; none if another's claim lasts
abbrev pub command_as : CommandTurn → Option ℕ → Option Turn
command_as c None = None
command_as c (Some node) = Some (turn.As node (act.Command c))

abbrev pub own_turn : CommandTurn → State → Option Turn
own_turn c s = if is_alone s then Some (turn.Act (act.Command c)) else command_as c (taker s)

-- ---- stages

-- what is taken after a run, by what it has come to
abbrev pub Stage : Type 0
Stage = Recorded → List Turn

-- a command's claim and its own turn
abbrev pub own_stages : CommandTurn → List Stage
own_stages c = (λ run. option_to_list (claim_ahead run.state)) ∷ (λ run. option_to_list (own_turn c run.state)) ∷ []

-- and after it the rounds of the job that it began; if its plan is asked for it takes no turn
abbrev pub stages : Asked → List Stage
stages asked.Run = []
stages asked.Summary = []
stages asked.Dump = []
stages (asked.Turn c) = own_stages c ++ closing ∷ []
stages (asked.Plan c) = []
stages asked.Unknown = []
stages asked.Nothing = []

-- ---- stages that were taken

-- nothing is left to be taken
pub record IsEnd (kept : Option (List Row)) (run : Recorded) (rows : Option (List Row)) (mid : Recorded) (ts : List Turn) : Type 0 where
  pub none : ts ≡ []
  pub rows_are : rows ≡ kept
  pub run_is : mid ≡ run

-- all turns of a stage were taken after a run, and after those these
pub record TakenBefore (next : Option (List Row) → Recorded → List Turn → Type 0) (x : Stage) (rows : Option (List Row)) (mid : Recorded) (ts : List Turn) : Type 0 where
  pub at_rows : Option (List Row)
  pub at : Recorded
  pub taken : Ran recorder rows mid (x mid) at_rows at
  pub rest : List Turn
  pub on : next at_rows at rest
  pub are : ts ≡ x mid ++ rest

-- so many turns of a stage were taken
pub record IsInStage (kept : Option (List Row)) (run : Recorded) (x : Stage) (rows : Option (List Row)) (mid : Recorded) (ts : List Turn) : Type 0 where
  pub k : ℕ
  pub within : k ≤ length (x mid)
  pub ran : Ran recorder rows mid (take k (x mid)) kept run
  pub are : ts ≡ take k (x mid)

-- a turn of a stage met a row store's fault
pub record IsCutInStage (kept : Option (List Row)) (run : Recorded) (x : Stage) (rows : Option (List Row)) (mid : Recorded) (ts : List Turn) : Type 0 where
  pub cut : IsCut (λ us at. Ran recorder rows mid us kept at) (x mid) run
  pub are : ts ≡ take cut.k (x mid)

-- After a run these are all turns of the stages, one stage after another, each by the run that those before it led to.
-- They lead to these kept rows and to this run.
abbrev pub AllTaken : Option (List Row) → Recorded → List Stage → Option (List Row) → Recorded → List Turn → Type 0
AllTaken kept run [] rows mid ts = IsEnd kept run rows mid ts
AllTaken kept run (x ∷ xs) rows mid ts = TakenBefore (AllTaken kept run xs) x rows mid ts

-- some of them
abbrev pub SomeTaken : Option (List Row) → Recorded → List Stage → Option (List Row) → Recorded → List Turn → Type 0
SomeTaken kept run [] rows mid ts = IsEnd kept run rows mid ts
SomeTaken kept run (x ∷ xs) rows mid ts = IsInStage kept run x rows mid ts ⊎ TakenBefore (SomeTaken kept run xs) x rows mid ts

-- those before one that met a row store's fault
abbrev pub CutTaken : Option (List Row) → Recorded → List Stage → Option (List Row) → Recorded → List Turn → Type 0
CutTaken kept run [] rows mid ts = ⊥
CutTaken kept run (x ∷ xs) rows mid ts = IsCutInStage kept run x rows mid ts ⊎ TakenBefore (CutTaken kept run xs) x rows mid ts
