-- What a worker has to do next.
use Rattle.std.specs.Prelude.{◌≡◌, ℕ, ⊤, List, []}
use Rattle.orch_core.specs.Turns.declared.turn.Turn.{Turn}
use Rattle.live_desk.specs.declared.roles.Work.{Work}
use Rattle.live_desk.specs.declared.roles.Work.TheVariants as work

-- 0 if it is over
abbrev pub more_work : Work → ℕ
more_work work.Over = 0
more_work work.Free = 1
more_work (work.Busy id) = 1

-- if it is over, none of these is left
abbrev pub IsOver : Work → List Turn → Type 0
IsOver work.Over ts = ts ≡ []
IsOver work.Free ts = ⊤
IsOver (work.Busy id) ts = ⊤
