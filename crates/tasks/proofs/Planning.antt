-- The ending if a command's plan is asked for.
use Rattle.std.proofs.Common.{◌≡◌, ◌∙◌, ◌<◌, ℕ, Bool, false, cond, List, [], length, get_or, Option, Some, None, refl, sym, ap, slice_get}
use Rattle.tasks.proofs.Prelude.{Answer, Asked, ClaimAnswer, ClaimState, Command, CommandTurn, End, Ending, HostPort, Point, Reply, Row, Scenario}
use Rattle.tasks.proofs.Prelude.{Stands, State, Taken, Task, Turn, TurnFault, Unended, WasCutOff, Writes, act_reply, active_in, asked_answer}
use Rattle.tasks.proofs.Prelude.{begun_state, between, claim_ahead, claim_answer, claimed, course_from, engine, job_at, lasting, lasting_by}
use Rattle.tasks.proofs.Prelude.{plan_answer, plan_answer_by, planned_by, planned_in, planned_reply, planned_text, slice_get_read, stages, straight}
use Rattle.tasks.proofs.Prelude.{taken_by, told_answer, unwrap_or, without_turns}
use Rattle.tasks.proofs.Prelude.Begun.{begun_by}
use Rattle.tasks.proofs.Prelude.act
use Rattle.tasks.proofs.Prelude.asked
use Rattle.tasks.proofs.Prelude.ends
use Rattle.tasks.proofs.Prelude.fault
use Rattle.tasks.proofs.Claimed.{inactive, several}
use Rattle.tasks.proofs.Courses.{Recording}
use Rattle.tasks.proofs.Stages.{all_of_none}
use Rattle.tasks.proofs.Stands.{keeper_stands, memory_stands, whole_gave_up, writes_stand}

-- ---- whose claim lasts

-- that of the first one, if it would be made ahead
pub some_ahead : (s : State) (t : Turn) → claim_ahead s ≡ Some t → lasting s ≡ taken_by (claimed s 1)
some_ahead s t is = ap (λ (b : Bool). cond b None (lasting_by s (active_in s))) (several s t is) ∙ ap (lasting_by s) (inactive s t is)

-- and is answered so
pub answered_ahead : (s : State) (k : ClaimState) (now : ℕ) (t : Turn) (a : ClaimAnswer) → claim_ahead s ≡ Some t → k ≡ s.claims → now ≡ s.moment → a ≡ claim_answer k 1 now → taken_by a ≡ lasting s
answered_ahead s k now t a ahead claims moment answer =
    ap taken_by (answer ∙ (ap (λ (x : ClaimState). claim_answer x 1 now) claims ∙ ap (λ (n : ℕ). claim_answer s.claims 1 n) moment)) ∙ sym (some_ahead s t ahead)

-- ---- what is planned

module _ (s : State) (c : Command) (id : ℕ) (jobs : List Unended) (same : jobs ≡ s.jobs) where
  -- of no job
  pub none_planned : job_at jobs id ≡ None → straight [] ≡ planned_in s c id
  none_planned none = ap (planned_by s c) (sym (ap (λ (js : List Unended). job_at js id) (sym same) ∙ none))

  -- of the job that was found
  pub found_planned : (at : ℕ) (j : Unended) → at < length jobs → job_at jobs id ≡ slice_get jobs at → j ≡ get_or jobs at j → planned_by s c (Some j) ≡ planned_in s c id
  found_planned at j within found item =
      ap (planned_by s c) (sym (ap (λ (js : List Unended). job_at js id) (sym same) ∙ (found ∙ slice_get_read jobs (length jobs) at j refl within item)))

-- ---- what is answered in place of the command

abbrev told_by : List ℕ → List ℕ → Answer
told_by out err = record { out = out; err = err; is_refused = false }

module _ (names : List HostPort) (own : CommandTurn) (s now : State) (reply : Reply) (begun : now ≡ begun_state own s) (replied : reply ≡ planned_reply own s) where
  whole : plan_answer_by names own now reply (begun_by reply) ≡ plan_answer own names s
  unfolding plan_answer
  whole =
      ap (λ (t : State). plan_answer_by names own t reply (begun_by reply)) begun
      ∙ ap (λ (r : Reply). plan_answer_by names own (begun_state own s) r (begun_by r)) replied

  pub told_in_place : begun_by reply ≡ None → told_answer false names now reply ≡ plan_answer own names s
  told_in_place none = ap (plan_answer_by names own now reply) (sym none) ∙ whole

  pub planned_in_place : (job : ℕ) (out err : List ℕ) → begun_by reply ≡ Some job → out ≡ planned_text names (planned_in now own.command job) → err ≡ [] → told_by out err ≡ plan_answer own names s
  planned_in_place job out err some out_is err_is =
      ap (λ (text : List ℕ). told_by text err) out_is
      ∙ (ap (told_by (planned_text names (planned_in now own.command job))) err_is ∙ (ap (plan_answer_by names own now reply) (sym some) ∙ whole))

-- the claim that lasts comes before what the command would be answered
pub replied_by : (own : CommandTurn) (s : State) (lasts : Option Reply) (begun reply : Reply) → reply ≡ unwrap_or lasts begun → lasts ≡ lasting s → begun ≡ act_reply s (act.Command own) → reply ≡ planned_reply own s
replied_by own s lasts begun reply is lasts_is begun_is =
    is ∙ (ap (λ (o : Option Reply). unwrap_or o begun) lasts_is ∙ ap (unwrap_or (lasting s)) begun_is)

-- ---- the report

module _ (c : Task) (names : List HostPort) (scenario : Scenario) (ts : List Turn) (from : Point) (own : CommandTurn) (is : c.asked ≡ asked.Plan own) where
  not_run : c.asked ≡ asked.Run → ⊥
  not_run run = apart (sym is ∙ run)
    where
      apart : asked.Plan own ≡ asked.Run → ⊥
      apart e = cc

  pub plan_stands : (kept : Option (List Row)) (now : State) (out err : End) (ending : Ending) → Recording from.kept (without_turns from.state) ts kept now → Writes (plan_answer own names now) out err ending → Stands (course_from c names scenario ts from kept) out err ending
  plan_stands kept now out err ending recording wrote =
      writes_stand (course_from c names scenario ts from kept) recording.run (plan_answer own names now) out err ending
      (record {
        mid = recording.run;
        rows = kept;
        came = recording.ran;
        ts = [];
        own = all_of_none c.asked kept recording.run (ap stages is);
      })
      (ap (λ (a : Asked). asked_answer a c.extra names scenario recording.run) is ∙ ap (plan_answer own names) recording.state)
      wrote

  pub plan_keeper : (kept : Option (List Row)) (now : State) (out err : Taken) (why : TurnFault) → why ≡ fault.Keeper → WasCutOff engine from.kept from.state ts kept now why → Stands (course_from c names scenario ts from kept) (between out out) (between err err) ends.Keeper
  plan_keeper kept now out err why failed cut = keeper_stands c names scenario ts from kept out err why not_run failed (whole_gave_up from kept now ts why cut)

  pub plan_memory : (kept : Option (List Row)) (now : State) (out err : Taken) (why : TurnFault) → why ≡ fault.Memory → WasCutOff engine from.kept from.state ts kept now why → Stands (course_from c names scenario ts from kept) (between out out) (between err err) ends.Memory
  plan_memory kept now out err why failed cut = memory_stands c names scenario ts from kept out err why failed (whole_gave_up from kept now ts why cut)
