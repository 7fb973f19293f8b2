-- What a live run writes and keeps.
use Rattle.std.proofs.Common.{◌≡◌, ◌∙◌, ℕ, List, Option, ap, subst, inr}
use Rattle.live_calls.proofs.Prelude.{Delivers, End, Ending, Entry, HostPort, IsLive, JournalStands, LiveReport, Ran, Recorded, Reply, Row, Scenario}
use Rattle.live_calls.proofs.Prelude.{State, Turn, live_report, names_of, rows_after, run_of, run_report, schedule_line, state_after, told_run}
use Rattle.live_calls.proofs.Prelude.{turns_in}
use Rattle.live_calls.proofs.Prelude.ends

-- the rows are kept, and after that it is written
pub delivered : (names : List HostPort) (ts : List Turn) (run : Recorded) (rows : List Row) (head : List ℕ) (old new : Option (List Row)) (out : End) (ending : Ending) → head ≡ schedule_line names ts → new ≡ (run_report names ts run rows old).kept
    → JournalStands head names run out ending → Delivers (run_report names ts run rows old) old new out ending
delivered names ts run rows head old new out ending line kept stands = go ending (subst (λ (h : List ℕ). JournalStands h names run out ending) line stands)
  where
    go : (e : Ending) → JournalStands (schedule_line names ts) names run out e → Delivers (run_report names ts run rows old) old new out e
    go (ends.Written refused) at = (kept, at.0, at.1)
    go ends.Unwritten at = (kept, at)
    go ends.Keeper at = absurd at
    go ends.Memory at = (inr kept, at)

-- the run of a journal is that of its turns
told_is : (s : Scenario) (wait : ℕ) (es : List Entry) (state : State) → IsLive s wait es → state ≡ state_after s wait es → told_run state es ≡ (run_of s wait (turns_in es)).state
told_is s wait es state is same =
    ap (λ (t : State). told_run t es) same
    ∙ ap (λ (j : List (Turn × Reply)). record { state = state_after s wait es; journal = j }) is.run

pub tells : (s : Scenario) (wait : ℕ) (names : List HostPort) (es : List Entry) (state : State) (rows : List Row) (old new : Option (List Row)) (out : End) (ending : Ending) → names ≡ names_of s → IsLive s wait es → state ≡ state_after s wait es → rows ≡ rows_after s wait es
    → Delivers (run_report names (turns_in es) (told_run state es) rows old) old new out ending → Ran s wait old new out ending
tells s wait names es state rows old new out ending named is at kept delivers =
    let same : run_report names (turns_in es) (told_run state es) rows old ≡ live_report s wait old es =
    ap (λ (ns : List HostPort). run_report ns (turns_in es) (told_run state es) rows old) named
    ∙ (ap (λ (run : Recorded). run_report (names_of s) (turns_in es) run rows old) (told_is s wait es state is at)
    ∙ ap (λ (rs : List Row). run_report (names_of s) (turns_in es) (run_of s wait (turns_in es)).state rs old) kept) in
    record { entries = es; is = is; delivers = subst (λ (r : LiveReport). Delivers r old new out ending) same delivers }
